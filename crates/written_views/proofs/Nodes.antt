-- Each node of a written image is shown as the draft's node, with the draft's children.
use Rattle.std.specs.Prelude.{None, Option, Some}
use Prim.Native.Nat.{ℕ, ◌+◌, ◌≤◌, ◌<◌}
use mathlib.Core.Path.{◌≡◌, refl, sym, ap, ◌∙◌, subst}
use mathlib.Core.List.{List}
use mathlib.Core.Bool.{Bool, true, false, cond}
use native.Mathlib.Omega.{arith}
use lib.ListN.{length}
use borrow.Author.Tests.{lt-ltb}
use Rattle.laws.proofs.Flags.{both_true}
use Rattle.image.specs.Sections.{Sections, node_count, child_count, named_count, parent_of, place_of, tag_of, f, inside, is_container, inside_container}
use Rattle.image.specs.Entries.{node_in}
use Rattle.records.specs.Fields.{Kind, fields, kind_of}
use Rattle.records.specs.Records.{number_of_named}
use Rattle.records.proofs.PassedRules.{ranges}
use Rattle.tree.specs.Tree.{child_at, named_at}
use Rattle.tree.proofs.Entries.{named-pass}
use Rattle.draft.specs.Numbering.{old_of}
use Rattle.draft_image.specs.Written.{field_words}
use Rattle.views.specs.declared.NamedChildView.{NamedChildView}
use Rattle.views.specs.View.{span, shown, optional_word, kind_view}
use Rattle.views.specs.Children.{child_count_of, named_count_of, child_query, named_entry, named_query}
use Rattle.promises.specs.Rules.{NodeRight}
use Rattle.promises.proofs.Fields.{fields-right, right-node}
use Rattle.promises.proofs.Views.{Seen, seen}
use Rattle.draft_image.proofs.Blocks.{w}
use Rattle.written.proofs.Fields.{Given, counted, few, old_in, parent-word, place-word, tag_word, container-same, container-reads}
use Rattle.written.proofs.Rules.{children_are, named_are, node-fields}
use Rattle.written.proofs.Tree.{child_at_lem, named_at_lem}
use Rattle.written_views.specs.Views.{SameText, SameKind, SameChild, SameNamed, SameNode}
use Rattle.written_views.proofs.Texts.{text_same, word_same}
use Rattle.written_views.proofs.ByKind.{SameAnswer, kind-same}
use Rattle.written_views.proofs.Fields.{fields-same, each_field_same}
use Rattle.written_views.proofs.Depths.{depth_same}
use Rattle.views.specs.declared.NodeKindView.{NodeKindView}

-- a count that is answered
counted_as : (b : Bool) (m n : ℕ) → cond b (Some m) None ≡ Some n → (b ≡ true) × (m ≡ n)
counted_as true m n e = (refl, cc)
counted_as false m n e = absurd (let z : ◌≡◌ {A = ℕ} 0 1 = cc in omega arith)

-- counts are the same where those of containers are
count_same : (b c : Bool) (m n : ℕ) → c ≡ b → (b ≡ true → n ≡ m) → cond c (Some n) None ≡ cond b (Some m) None
count_same true c m n e h = rw e (ap Some (h refl))
count_same false c m n e h = rw e refl

-- ---- children, as the queries find them

module _ (s : Sections) (i : ℕ) (c : inside_container s i ≡ true) where
  child-found : (k : ℕ) → k < f s i 4 → f s i 3 + f s i 4 ≤ child_count s → child_query s i k ≡ Some (child_at s i k)
  unfolding child_query
  child-found k h r = rw (c, lt-ltb k (f s i 4) h, lt-ltb (f s i 3 + k) (child_count s) (omega arith))

  abbrev named_child : ℕ → NamedChildView
  named_child k = record { name = span (named_at s i k 0) (named_at s i k 1); node = named_at s i k 2 }

  named-found : (k : ℕ) → k < f s i 6 → f s i 5 + f s i 6 ≤ named_count s → shown (length s.strings) (named_at s i k 0) (named_at s i k 1) ≡ true
      → named_query s i k ≡ Some (named_child k)
  unfolding named_query named_entry
  named-found k h r e = rw (c, lt-ltb k (f s i 6) h, lt-ltb (f s i 5 + k) (named_count s) (omega arith), e)

module _ {s : Sections} {order : List ℕ} {kept : List (List ℕ)} (g : Given s order kept) (j : ℕ) (h : j < node_count s) where
  abbrev t : Sections
  t = w s order kept

  abbrev i : ℕ
  i = old_of order j

  -- ---- the view

  draft-node : NodeRight s i
  draft-node = record { below = old_in g j h; given = λ e. omega (arith, old_in g j h, few g) }

  image-node : NodeRight t j
  image-node = record { below = omega (arith, counted g); given = λ e. omega (arith, few g) }

  draft-seen : Seen s i
  draft-seen = seen s i draft-node (fields-right s i (g.taken.tables.fields i (old_in g j h)))

  image-seen : Seen t j
  image-seen = seen t j image-node (fields-right t j (node-fields g j h))

  abbrev kind_in : (v : Sections) (n : ℕ) → Kind → Option NodeKindView
  kind_in v n k = kind_view v.strings (length v.payload) (node_in v n) k

  kinds-same : SameKind s t order draft-seen.kind image-seen.kind
  kinds-same =
      subst (λ (y : Option NodeKindView). SameAnswer s t order (Some draft-seen.kind) y) image-seen.kind_is
      (subst (λ (tag : ℕ). SameAnswer s t order (Some draft-seen.kind) (kind_in t j (kind_of tag))) (sym (tag_word g j h))
      (subst (λ (x : Option NodeKindView). SameAnswer s t order x (kind_in t j (kind_of (tag_of s i)))) draft-seen.kind_is
      (kind-same s t order i j (word_same g) (kind_of (tag_of s i)) (fields-same g j h))))

  -- ---- children

  pub inside-same : inside_container t j ≡ inside_container s i
  inside-same = rw (right-node s i draft-node, right-node t j image-node) (container-same g j h)

  is_container_lem : inside_container s i ≡ true → is_container s i ≡ true
  is_container_lem c = (both_true (inside s i) (is_container s i) c).1

  pub children-same : inside_container s i ≡ true → f t j 4 ≡ f s i 4
  unfolding fields field_words
  children-same c = (container-reads g j h (is_container_lem c)).1.1.0.1.0

  pub entries-same : inside_container s i ≡ true → f t j 6 ≡ f s i 6
  unfolding fields field_words
  entries-same c = (container-reads g j h (is_container_lem c)).1.1.1.0.1.0

  child-count : child_count_of t j ≡ child_count_of s i
  unfolding child_count_of
  child-count = count_same (inside_container s i) (inside_container t j) (f s i 4) (f t j 4) inside-same children-same

  named_count_lem : named_count_of t j ≡ named_count_of s i
  unfolding named_count_of
  named_count_lem = count_same (inside_container s i) (inside_container t j) (f s i 6) (f t j 6) inside-same entries-same

  module _ (c : inside_container s i ≡ true) (k : ℕ) where
    there : inside_container t j ≡ true
    there = inside-same ∙ c

    pub child-same : k < f s i 4 → SameChild s t order i j k
    child-same q =
        let from = ranges s i (is_container_lem c) (g.taken.tables.fields i (old_in g j h)) in
        let to = ranges t j (both_true (inside t j) (is_container t j) there).1 (node-fields g j h) in
        record {
          child = child_at s i k;
          drafted = child-found s i c k q from.children_end;
          written =
              child-found t j there k (omega (arith, children-same c)) to.children_end
              ∙ ap Some (child_at_lem g j h k (omega (arith, children_are g j h (is_container_lem c))));
        }

    named-same : k < f s i 6 → SameNamed s t order i j k
    named-same q =
        let from = ranges s i (is_container_lem c) (g.taken.tables.fields i (old_in g j h)) in
        let to = ranges t j (both_true (inside t j) (is_container t j) there).1 (node-fields g j h) in
        let z : k < number_of_named s i = omega (arith, named_are g j h (is_container_lem c)) in
        let name : SameText s t (span (named_at s i k 0) (named_at s i k 1)) (span (named_at t j k 0) (named_at t j k 1))
        = text_same g (named_at s i k 0) (named_at s i k 1) (named_at t j k 0) (named_at t j k 1) (named-pass s i (g.taken.shape.entries i (old_in g j h)) k z).text
        (g.stored.named j h k z) (named_at_lem g j h k 0 z (omega arith)) (named_at_lem g j h k 1 z (omega arith)) in
        record {
          draft = named_child s i c k;
          image = named_child t j there k;
          drafted = named-found s i c k q from.named_end name.drafted;
          written = named-found t j there k (omega (arith, entries-same c)) to.named_end name.written;
          name = name;
          node = named_at_lem g j h k 2 z (omega arith);
        }

  -- ---- all of it

  pub node-same : SameNode s t order j
  unfolding child_count_of named_count_of
  node-same =
      record {
        draft = record { parent = optional_word (parent_of s i); child_index = optional_word (place_of s i); kind = draft-seen.kind };
        image = record { parent = optional_word (parent_of t j); child_index = optional_word (place_of t j); kind = image-seen.kind };
        drafted = draft-seen.view_is;
        written = image-seen.view_is;
        parent = ap optional_word (parent-word g j h) ∙ word_same g (parent_of s i);
        place = ap optional_word (place-word g j h);
        depth = depth_same g j h;
        kind = kinds-same;
        tag = tag_word g j h;
        fields = each_field_same g j h;
        child-count = child-count;
        named_count_lem = named_count_lem;
        child = λ n e k q. let z = counted_as (inside_container s i) (f s i 4) n e in child-same z.0 k (omega (arith, z.1));
        named = λ n e k q. let z = counted_as (inside_container s i) (f s i 6) n e in named-same z.0 k (omega (arith, z.1));
      }
