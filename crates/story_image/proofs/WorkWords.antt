-- How many work words suffice.
use Rattle.std.specs.Prelude.{None, Option, Some, ℕ}
use Prim.Native.Nat.{ℕ, ◌≤◌}
use mathlib.Core.Path.{◌≡◌, refl, sym, ap, ◌∙◌}
use mathlib.Core.Bool.{Bool, true, false, cond, true≢false}
use native.Mathlib.Omega.{arith}
use native.Mathlib.Decide.{ℕ_discrete}
use lib.Dec.{leb}
use borrow.Author.Tests.{le-leb}
use Rattle.laws.specs.Refusal.{unless}
use Rattle.image.specs.Header.{ink_right}
use Rattle.load.specs.Load.{load_rule}
use Rattle.load.proofs.WorkWords.{Other, other_test, other-count, other-both, other-first, words_suffice}
use Rattle.draft.specs.Needs.{needed_of}
use Rattle.draft.specs.Draft.{draft_node_rule, draft_child_rule, draft_named_rule, draft_definition_rule, draft_item_rule, tables_rule, write_words}
use Rattle.draft_image.specs.Encode.{encode_rule, untouched}
use Rattle.writer.proofs.Answers.{ink_wrong, tables-wrong, cleared}
use Rattle.image.specs.Sections.{Sections, node_count, child_count, named_count, definition_count, item_count}
use Rattle.story_image.specs.Exported.{view_length, lent_words}
use Rattle.story_image.specs.Writing.{words_with_length}
use Rattle.story_image.specs.Needed.{words_to_write, largest_size, longest_slice, LoadWordsSuffice, WriteWordsSuffice}

-- ---- a writer's

module _ (s : Sections) (a : Option ℕ) (e : a ≡ needed_of (write_words s) largest_size) where
  many_by : (b : Bool) → leb (write_words s) largest_size ≡ b → cond b (Some (write_words s)) None ≡ None → b ≡ false
  many_by true q h = let z : ◌≡◌ {A = ℕ} 0 1 = cc in absurd (omega arith)
  many_by false q h = refl

  pub most_to_write : a ≡ None → largest_size ≡ words_to_write s
  unfolding words_to_write needed_of
  most_to_write h = rw (many_by (leb (write_words s) largest_size) refl (sym e ∙ h))

  some_by : (b : Bool) (n : ℕ) → cond b (Some (write_words s)) None ≡ Some n → (b ≡ true) × (n ≡ write_words s)
  some_by true n h = (refl, cc)
  some_by false n h = let z : ◌≡◌ {A = ℕ} 0 1 = cc in absurd (omega arith)

  pub some_to_write : (n : ℕ) → a ≡ Some n → n ≡ words_to_write s
  unfolding words_to_write needed_of
  some_to_write n h =
      let known = some_by (leb (write_words s) largest_size) n (sym e ∙ h) in
      rw known.0 known.1

-- ---- 7 is no other rule's number

tables-other : (s : Sections) → Other (tables_rule s)
unfolding tables_rule draft_node_rule draft_child_rule draft_named_rule draft_definition_rule draft_item_rule
tables-other s =
    other-both _ _ (test _)
    (other-both _ _ (other-first (node_count s) (draft_node_rule s) (λ i. other-both _ _ (other-count 19 no _) (test _)))
    (other-both _ _ (test _)
    (other-both _ _ (other-first (child_count s) (draft_child_rule s) (λ i. test _))
    (other-both _ _ (other-first (named_count s) (draft_named_rule s) (λ i. other-both _ _ (test _) (test _)))
    (other-both _ _ (other-first (definition_count s) (draft_definition_rule s) (λ i. other-both _ _ (test _) (test _)))
    (other-both _ _ (test _) (other-first (item_count s) (draft_item_rule s) (λ i. test _))))))))
  where
    no : ◌≡◌ {A = ℕ} 19 7 → ⊥
    no e = omega arith

    test : (t : Bool) → Other (unless t 19)
    test t = other_test 19 no t

-- ---- a load's words suffice

lent_all : (view work : ℕ) → view_length ≤ view → lent_words view work ≡ work
lent_all view work h = ap (λ (b : Bool). cond b work 0) (le-leb view_length view h)

pub load-words_suffice : LoadWordsSuffice
load-words_suffice bs =
    let suffice = words_suffice bs in
    (suffice.0, λ work view l k e. suffice.1 work l (ap (load_rule bs) (sym (lent_all view work k)) ∙ e))

-- ---- a writer's words suffice

enough_to_write : (s : Sections) (work : ℕ) → work ≤ longest_slice → words_to_write s ≤ work → write_words s ≤ work
unfolding words_to_write
enough_to_write s work m l = by (leb (write_words s) largest_size) refl l
  where
    by : (b : Bool) → leb (write_words s) largest_size ≡ b → cond b (write_words s) largest_size ≤ work → write_words s ≤ work
    by true e h = h
    by false e h = absurd (omega arith)

other_seven : (s : Sections) → tables_rule s ≡ 7 → ⊥
unfolding Other
other_seven s = tables-other s

written-other : (ink : ℕ) (s : Sections) (work room : ℕ) → write_words s ≤ work → encode_rule ink s work room ≡ 7 → ⊥
written-other ink s work room l e = by (ink_right ink) refl
  where
    by : (b : Bool) → ink_right ink ≡ b → ⊥
    by false q = let z = sym (ink_wrong ink s work room q) ∙ e in omega arith
    by true q =
        elim (ℕ_discrete (tables_rule s) 0) [
          | yes p ↦ true≢false (sym (ap untouched e) ∙ cleared ink s work room q p (le-leb (write_words s) work l))
          | no d ↦ other_seven s (sym (tables-wrong ink s work room q d) ∙ e)
        ]

pub write-words_suffice : WriteWordsSuffice
write-words_suffice ink s work written room m l k h =
    let all : words_with_length written work ≡ work = ap (λ (b : Bool). cond b work 0) (le-leb 1 written k) in
    written-other ink s work room (enough_to_write s work m l) (ap (λ (w : ℕ). encode_rule ink s w room) (sym all) ∙ h)
