-- The writer's number, test by test in the order of the code.
use Prim.Native.Nat.{ℕ, zero, suc, ◌<◌}
use mathlib.Core.Path.{◌≡◌, refl, sym, ap, ◌∙◌}
use mathlib.Core.Bool.{Bool, true, false, ◌&&◌}
use native.Mathlib.Omega.{arith}
use lib.ListN.{length}
use lib.Dec.{leb}
use borrow.Author.Tests.{lt-leb, leb-false}
use Rattle.laws.specs.Refusal.{unless, ◌▸◌}
use Rattle.laws.proofs.First.{both, first, second, pass, fail}
use Rattle.words.specs.Words.{NONE}
use Rattle.image.specs.Header.{ink_right}
use Rattle.image.specs.Sections.{Sections}
use Rattle.draft.specs.Draft.{tables_rule, write_words, reach_rule, shape_rule, paths_rule}
use Rattle.draft.specs.Numbering.{numbering}
use Rattle.draft_image.specs.Strings.{uses}
use Rattle.draft_image.specs.Encode.{image_for, draft_rule, encode_rule, untouched}
use Rattle.write_text_uses.specs.Uses.{stored_bytes}
use Rattle.write_image.proofs.SectionLengths.{length_is}
use Rattle.write_image.proofs.Premises.{uses-fewer}
use Rattle.writer.specs.Answer.{fits_output}
use Rattle.draft_image.proofs.Numbers.{reach_clears, shape_clears, paths-clear, room_clears, both-clear, reach-below, shape-below, paths-below, room-left}

-- the tests of 23 while the image is planned: a word can count the texts in use, and say how long the stored ones are
abbrev lengths_rule : Sections → ℕ
lengths_rule s = unless (leb (length (uses s (numbering s))) NONE) 23 ▸ unless (leb (length (stored_bytes s)) NONE) 23

-- the rules that are tested while it is planned
abbrev planned : Sections → ℕ
planned s = reach_rule s ▸ shape_rule s ▸ paths_rule s ▸ lengths_rule s

onward : (a b c : ℕ) → ((a ▸ b) ▸ c) ≡ (a ▸ (b ▸ c))
unfolding ◌▸◌
onward zero b c = refl
onward (suc a) b c = refl

-- a refusal stands
stops : (a b : ℕ) → (a ≡ 0 → ⊥) → (a ▸ b) ≡ a
unfolding ◌▸◌
stops zero b d = absurd (d refl)
stops (suc a) b d = refl

-- two last tests, of which the first that refuses decides
alike : (a x y : ℕ) → ((a ▸ x) ≡ 0 → ⊥) → (a ≡ 0 → (x ≡ 0 → ⊥) → y ≡ x) → (a ▸ y) ≡ (a ▸ x)
unfolding ◌▸◌
alike zero x y d e = e refl d
alike (suc a) x y d e = refl

two_tests : (b c : Bool) → ((unless b 23 ▸ unless c 23) ≡ 0 → ⊥) → (unless b 23 ▸ unless c 23) ≡ 23
unfolding unless ◌▸◌
two_tests true true d = absurd (d refl)
two_tests true false d = refl
two_tests false c d = refl

module _ (ink : ℕ) (s : Sections) (work room : ℕ) where
  rows : (x : ℕ) → ((reach_rule s ▸ shape_rule s ▸ paths_rule s) ▸ x) ≡ (reach_rule s ▸ shape_rule s ▸ paths_rule s ▸ x)
  rows x = onward _ _ _ ∙ ap (λ (r : ℕ). reach_rule s ▸ r) (onward _ _ _)

  pub no_room : NONE < length (image_for ink s) → unless (fits_output ink s room) 23 ≡ 23
  no_room h = fail (fits_output ink s room) 23 (go (leb (length (image_for ink s)) room) (lt-leb (length (image_for ink s)) NONE h))
    where
      go : (a : Bool) {b : Bool} → b ≡ false → (a && b) ≡ false
      go true f = f
      go false f = refl

  -- all tests in one row
  in_row : encode_rule ink s work room
      ≡ (unless (ink_right ink) 3 ▸ tables_rule s ▸ unless (leb (write_words s) work) 7 ▸ reach_rule s ▸ shape_rule s ▸ paths_rule s ▸ unless (fits_output ink s room) 23)
  unfolding encode_rule draft_rule
  in_row =
      onward _ _ _
      ∙ ap (λ (r : ℕ). unless (ink_right ink) 3 ▸ r)
      (onward _ _ _
      ∙ ap (λ (r : ℕ). tables_rule s ▸ r)
      (onward _ _ _ ∙ ap (λ (r : ℕ). unless (leb (write_words s) work) 7 ▸ r) (onward _ _ _ ∙ ap (λ (r : ℕ). reach_rule s ▸ r) (onward _ _ _))))

  pub ink_wrong : ink_right ink ≡ false → encode_rule ink s work room ≡ 3
  ink_wrong h = in_row ∙ first (unless (ink_right ink) 3) _ 2 (fail (ink_right ink) 3 h)

  module _ (h : ink_right ink ≡ true) where
    after_ink : encode_rule ink s work room ≡ (tables_rule s ▸ unless (leb (write_words s) work) 7 ▸ reach_rule s ▸ shape_rule s ▸ paths_rule s ▸ unless (fits_output ink s room) 23)
    after_ink = in_row ∙ second (unless (ink_right ink) 3) _ (pass (ink_right ink) 3 h)

    pub tables-wrong : (tables_rule s ≡ 0 → ⊥) → encode_rule ink s work room ≡ tables_rule s
    tables-wrong d = after_ink ∙ stops (tables_rule s) _ d

    module _ (p : tables_rule s ≡ 0) where
      after-tables : encode_rule ink s work room ≡ (unless (leb (write_words s) work) 7 ▸ reach_rule s ▸ shape_rule s ▸ paths_rule s ▸ unless (fits_output ink s room) 23)
      after-tables = after_ink ∙ second (tables_rule s) _ p

      pub words_few : leb (write_words s) work ≡ false → encode_rule ink s work room ≡ 7
      words_few q = after-tables ∙ first (unless (leb (write_words s) work) 7) _ 6 (fail _ 7 q)

      module _ (q : leb (write_words s) work ≡ true) where
        after-words : encode_rule ink s work room ≡ (reach_rule s ▸ shape_rule s ▸ paths_rule s ▸ unless (fits_output ink s room) 23)
        after-words = after-tables ∙ second (unless (leb (write_words s) work) 7) _ (pass _ 7 q)

        -- the work words are cleared, whatever is answered from here on
        pub cleared : untouched (encode_rule ink s work room) ≡ false
        cleared =
            ap untouched after-words
            ∙ both-clear _ _ (reach_clears s) (both-clear _ _ (shape_clears s) (both-clear _ _ (paths-clear s) (room_clears (fits_output ink s room))))

        -- an image has more bytes than it uses texts, and is longer than its strings
        lengths-long : reach_rule s ≡ 0 → (b c : Bool) → leb (length (uses s (numbering s))) NONE ≡ b → leb (length (stored_bytes s)) NONE ≡ c
            → ((unless b 23 ▸ unless c 23) ≡ 0 → ⊥) → NONE < length (image_for ink s)
        unfolding unless ◌▸◌
        lengths-long r true true e f d = absurd (d refl)
        lengths-long r false c e f d = omega (arith, leb-false (length (uses s (numbering s))) NONE e, uses-fewer s p r, length_is ink s p r)
        lengths-long r true false e f d = omega (arith, leb-false (length (stored_bytes s)) NONE f, length_is ink s p r)

        too_long : reach_rule s ≡ 0 → (lengths_rule s ≡ 0 → ⊥) → unless (fits_output ink s room) 23 ≡ lengths_rule s
        too_long r d =
            no_room (lengths-long r (leb (length (uses s (numbering s))) NONE) (leb (length (stored_bytes s)) NONE) refl refl d)
            ∙ sym (two_tests (leb (length (uses s (numbering s))) NONE) (leb (length (stored_bytes s)) NONE) d)

        -- the plan gives 23 only where no word can say how long the image is
        pub plan_long : planned s ≡ 23 → NONE < length (image_for ink s)
        plan_long e =
            let after-reach = room-left (reach_rule s) _ (reach-below s) e in
            let after-shape = room-left (shape_rule s) _ (shape-below s) after-reach.1 in
            let after-paths = room-left (paths_rule s) _ (paths-below s) after-shape.1 in
            lengths-long after-reach.0 (leb (length (uses s (numbering s))) NONE) (leb (length (stored_bytes s)) NONE) refl refl
            (λ z. let r : ◌≡◌ {A = ℕ} 23 0 = sym after-paths.1 ∙ z in omega arith)

        -- the plan's refusal
        pub plan_wrong : (planned s ≡ 0 → ⊥) → encode_rule ink s work room ≡ planned s
        plan_wrong d =
            after-words ∙ sym (rows (unless (fits_output ink s room) 23))
            ∙ alike (reach_rule s ▸ shape_rule s ▸ paths_rule s) (lengths_rule s) (unless (fits_output ink s room) 23) (λ e. d (sym (rows _) ∙ e))
            (λ e. too_long (both _ _ e).0)
            ∙ rows (lengths_rule s)

        -- the plan is made: what is left is the room
        pub room-decides : planned s ≡ 0 → encode_rule ink s work room ≡ unless (fits_output ink s room) 23
        room-decides e =
            after-words ∙ sym (rows (unless (fits_output ink s room) 23))
            ∙ second (reach_rule s ▸ shape_rule s ▸ paths_rule s) _ (both _ _ (rows (lengths_rule s) ∙ e)).0
