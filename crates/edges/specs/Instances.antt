-- What is promised of numbers, of the base's rule and of drafts with paths, at the examples and at numbers that are never given.
use Rattle.std.specs.Prelude.{ℕ, ◌<◌, ◌≡◌, refl, ◌≢◌, List, false, Option}
use Rattle.std.proofs.Common.{sym, ap, ◌∙◌, inl, true≢false, arith}
use Rattle.laws.specs.Lists.{has}
use Rattle.words.specs.Words.{NONE}
use Rattle.texts.specs.Text.{ascii}
use Rattle.image.specs.Header.{header_rule, sections_of}
use Rattle.image.specs.Refusals.{bad_checksum, not_found, bad_draft, draft_paths, no_target}
use Rattle.image.specs.Sections.{Sections, index_count, tag_of}
use Rattle.image.specs.Tags.{divert_tag}
use Rattle.image.specs.Encoding.{image_of, encodings}
use Rattle.load.specs.Load.{load_rule}
use Rattle.draft.specs.PathList.{path_lists}
use Rattle.draft_image.specs.Encode.{encode_rule}
use Rattle.pages.specs.Page.{page_rule}
use Rattle.promises.specs.Answers.{of_node}
use Rattle.target_finding.specs.Targets.{PathList, resolve_rule}
use Rattle.target_counts.specs.Summary.{summary_rule, draft_count_rule}
use Rattle.target_changes.specs.Change.{set_target_rule}
use Rattle.refusal_numbers.specs.Numbers.{OneOf, header_numbers, load_numbers, query_numbers, encode_numbers, resolve_numbers, page_numbers, count_numbers, draft_count_numbers, set_target_numbers}
use Rattle.refusal_numbers.proofs.Loads.{header-numbers, load-numbers}
use Rattle.refusal_numbers.proofs.Drafts.{encode-numbers, resolve-numbers}
use Rattle.refusal_numbers.proofs.Numbers.{page-numbers, query-numbers}
use Rattle.refusal_numbers.proofs.Counts.{count-numbers, draft-count-numbers, set-target-numbers}
use Rattle.base_rule.specs.Added.{base_rule, OneSpelt, base_loads}
use Rattle.base_rule.proofs.Added.{rule_added}
use Rattle.resolver_rules.specs.ResolverRules.{Follows, TargetThere, ResolveRight, NoNodeThere, NoContainerThere, Decides}
use Rattle.resolver_rules.proofs.ResolverRules.{resolve-exactly, deciding_node}
use Rattle.resolver_rules.proofs.DivertEnds.{never_of_divert}
use Rattle.edges.specs.Examples.{smallest_image, with_place3, with_a, alone_without_place, examples}
use Rattle.edges.specs.Table.{edges}
use Rattle.edges.specs.Targets.{guide, one, whole, path_examples, target_lines}
use Rattle.views.specs.declared.NodeView.{NodeView}

-- ---- numbers that a call never gives

never : (xs : List ℕ) (r k : ℕ) → has k xs ≡ false → OneOf xs r → r ≢ k
never xs r k h o e = true≢false (sym o ∙ ap (λ (n : ℕ). has n xs) e ∙ h)

pub record NeverLines : Type 0 where
  pub header : (bs : List ℕ) → header_rule bs ≢ bad_checksum
  pub load : (bs : List ℕ) (work : ℕ) → load_rule bs work ≢ not_found
  pub encode : (ink : ℕ) (s : Sections) (work room : ℕ) → encode_rule ink s work room ≢ no_target
  pub resolve : (ink : ℕ) (s : Sections) (p : PathList) (work : ℕ) → resolve_rule ink s p work ≢ draft_paths
  pub page : (numbers room : ℕ) → page_rule numbers room ≢ not_found
  pub node : (a : Option NodeView) → (of_node a).number ≢ bad_draft
  pub count : (s : Sections) (words : ℕ) → summary_rule s words ≢ bad_draft
  pub draft-count : (s : Sections) (words : ℕ) → draft_count_rule s words ≢ not_found
  pub set-target : (s : Sections) (summary : List ℕ) (node target : ℕ) → set_target_rule s summary node target ≢ draft_paths

pub never_lines : NeverLines
unfolding has
never_lines =
    record {
      header = λ bs. never header_numbers _ 6 refl (header-numbers bs);
      load = λ bs work. never load_numbers _ 18 refl (load-numbers bs work);
      encode = λ ink s work room. never encode_numbers _ 25 refl (encode-numbers ink s work room);
      resolve = λ ink s p work. never resolve_numbers _ 22 refl (resolve-numbers ink s p work);
      page = λ numbers room. never page_numbers _ 18 refl (page-numbers numbers room);
      node = λ a. never query_numbers _ 19 refl (query-numbers.node a);
      count = λ s words. never count_numbers _ 19 refl (count-numbers s words);
      draft-count = λ s words. never draft_count_numbers _ 18 refl (draft-count-numbers s words);
      set-target = λ s summary node target. never set_target_numbers _ 22 refl (set-target-numbers s summary node target);
    }

-- ---- the base's rule

-- place 3 filed as `.3`, which is 16 now
abbrev pub dot3 : List ℕ
dot3 = image_of 21 (with_place3 (ascii ".3") 2)

pub record BaseLines : Type 0 where
  pub dot_3 : base_rule dot3 10 ≡ 0
  pub zero_3 : base_rule (image_of 21 (with_place3 (ascii "03") 2)) 10 ≡ 16
  pub dot_a : base_rule (image_of 21 (with_a (ascii "a.a") 1 2)) 4 ≡ 16
  pub no_place_lem : base_rule (image_of 21 (alone_without_place NONE NONE (ascii "4294967295"))) 4 ≡ 0

base_lines : BaseLines
unfolding examples encodings base_loads
base_lines =
    record {
      dot_3 = refl;
      zero_3 = refl;
      dot_a = refl;
      no_place_lem = refl;
    }

-- what the rule that is added says of them
pub record AddedLines : Type 0 where
  pub computed : BaseLines
  -- some entry of the image with `.3` is not of the one spelling
  pub not-spelt : ((j : ℕ) → j < index_count (sections_of dot3) → OneSpelt (sections_of dot3) j) → ⊥
  pub smallest : base_rule smallest_image 2 ≡ 0

pub added_lines : AddedLines
added_lines =
    record {
      computed = base_lines;
      not-spelt = λ o. apart (sym edges.places.place_dot_3_image ∙ (rule_added dot3 10).accepts.1 (base_lines.dot_3, o));
      smallest = ((rule_added smallest_image 2).accepts.0 edges.smallest.smallest-accepted).0;
    }
  where
    apart : ◌≡◌ {A = ℕ} 16 0 → ⊥
    apart e = omega arith

-- ---- drafts with paths

-- the choice follows the second path of the list
first-follows : Follows (guide NONE) whole 1 1
unfolding path_examples path_lists
first-follows = record { listed = omega arith; origin = refl; may = inl refl }

pub record ResolverLines : Type 0 where
  pub target : TargetThere (guide NONE) whole 1 1
  pub words_few : ResolveRight 21 (guide NONE) whole 139 → ⊥
  pub no_node : Decides 21 (guide 3) (one 1 0 2 1) 1000 (NoNodeThere (guide 3) (one 1 0 2 1))
  pub no_container_lem : Decides 21 (guide 3) (one 1 0 0 2) 1000 (NoContainerThere (guide 3) (one 1 0 0 2))
  pub no_divert : tag_of (guide 3) no_container_lem.node ≢ divert_tag

pub resolver_lines : ResolverLines
resolver_lines =
    let d = (deciding_node 21 (guide 3) (one 1 0 0 2) 1000).no_container_lem.0 target_lines.paths.row_26 in
    record {
      target = ((resolve-exactly 21 (guide NONE) whole 1000).0 target_lines.lists.passed).targets 1 1 first-follows;
      words_few = λ r. apart (sym target_lines.lists.words_few ∙ (resolve-exactly 21 (guide NONE) whole 139).1 r);
      no_node = (deciding_node 21 (guide 3) (one 1 0 2 1) 1000).no_target_lem.0 target_lines.paths.row_25;
      no_container_lem = d;
      no_divert = never_of_divert 21 (guide 3) (one 1 0 0 2) 1000 d;
    }
  where
    apart : ◌≡◌ {A = ℕ} 7 0 → ⊥
    apart e = omega arith
