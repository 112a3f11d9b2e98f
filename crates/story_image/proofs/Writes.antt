-- A written image handed over: number, length, output and work words.
use Prim.Native.Nat.{ℕ, ◌≤◌, ◌<◌}
use mathlib.Core.Path.{◌≡◌, refl, sym, ap, ◌∙◌}
use mathlib.Core.List.{List, ◌∷◌}
use mathlib.Core.Bool.{Bool, true, false, cond, ◌&&◌, ◌||◌, true≢false}
use native.Mathlib.Omega.{arith}
use native.Mathlib.Decide.{ℕ_discrete}
use lib.ListN.{length, set, drop}
use lib.Dec.{leb, eqb}
use borrow.Author.Tests.{le-leb, lt-leb, ne_eqb, eqb-true}
use Rattle.words.specs.Words.{NONE}
use Rattle.image.specs.Header.{ink_right}
use Rattle.image.specs.Sections.{Sections}
use Rattle.draft.specs.Draft.{tables_rule, write_words}
use Rattle.draft.proofs.Rules.{tables}
use Rattle.draft_image.specs.Encode.{image_for, encode_rule, out_after, untouched, encode_work_after}
use Rattle.writer.specs.Encoded.{Encoded, Written, Short, Refused}
use Rattle.writer.specs.Answer.{encoded_of, of_encoded}
use Rattle.draft_image.proofs.Numbers.{tables_leave}
use Rattle.writer.proofs.AnswerByRule.{number_by, written_by, short_by, refused_by}
use Rattle.writer.proofs.Answers.{ink_wrong, tables-wrong, words_few}
use Rattle.answers.proofs.LentSlices.{first-set}
use Rattle.story_image.specs.Writing.{words_with_length, length_after}

-- ---- what the writer answers

pub number : (ink : ℕ) (s : Sections) (work room : ℕ) (a : Encoded) (r : ℕ) → a ≡ encoded_of ink s work room → r ≡ (of_encoded a).number
    → r ≡ encode_rule ink s work room
unfolding encoded_of
number ink s work room a r e q = q ∙ ap (λ (x : Encoded). (of_encoded x).number) e ∙ number_by (encode_rule ink s work room) (length (image_for ink s))

pub output_by : (r k : ℕ) (image out now : List ℕ) → r ≡ k → now ≡ out_after k image out → now ≡ out_after r image out
output_by r k image out now e p = p ∙ ap (λ (m : ℕ). out_after m image out) (sym e)

-- ---- no work words: 3, 19 or 7

left_by : (ink : ℕ) (s : Sections) (room : ℕ) (b : Bool) → ink_right ink ≡ b → untouched (encode_rule ink s 0 room) ≡ true
left_by ink s room false e = ap untouched (ink_wrong ink s 0 room e)
left_by ink s room true e =
    elim (ℕ_discrete (tables_rule s) 0) [
      | yes p ↦
          let few : leb (write_words s) 0 ≡ false = lt-leb (write_words s) 0 (omega (arith, (tables s p).some)) in
          ap untouched (words_few ink s 0 room e p few)
      | no d ↦ ap untouched (tables-wrong ink s 0 room e d) ∙ tables_leave s d
    ]

left-some : (r : ℕ) → untouched r ≡ true → (r ≡ 0 → ⊥) × (r ≡ 23 → ⊥)
left-some r e = (λ z. true≢false (sym e ∙ ap untouched z), λ z. true≢false (sym e ∙ ap untouched z))

length-left : (r long : ℕ) (written : List ℕ) → (r ≡ 0 → ⊥) → (r ≡ 23 → NONE < long) → written ≡ length_after r long written
unfolding length_after
length-left r long written d h = rw (ne_eqb r 0 d) (go (eqb r 23) refl)
  where
    go : (b : Bool) → eqb r 23 ≡ b → written ≡ cond (b && leb long NONE) (long ∷ drop 1 written) written
    go true e = rw (lt-leb long NONE (h (eqb-true r 23 e))) refl
    go false e = refl

work_left : (needed r : ℕ) (work : List ℕ) → untouched r ≡ true → work ≡ encode_work_after needed r work
unfolding encode_work_after
work_left needed r work e = rw e refl

pub no_length : (ink : ℕ) (s : Sections) (work written : List ℕ) (room needed long r : ℕ) → length written < 1 → r ≡ encode_rule ink s 0 room
    → (r ≡ encode_rule ink s (words_with_length (length written) (length work)) room) × (work ≡ encode_work_after needed r work) × (written ≡ length_after r long written)
no_length ink s work written room needed long r h e =
    let none : words_with_length (length written) (length work) ≡ 0 = ap (λ (b : Bool). cond b (length work) 0) (lt-leb 1 (length written) h) in
    let left : untouched r ≡ true = ap untouched e ∙ left_by ink s room (ink_right ink) refl in
    (e ∙ ap (λ (m : ℕ). encode_rule ink s m room) (sym none), work_left needed r work left, length-left r long written (left-some r left).0 (λ z. absurd ((left-some r left).1 z)))

-- ---- with a word for the length

length-set : (r long : ℕ) (written : List ℕ) (n : ℕ) → (eqb r 0 || (eqb r 23 && leb long NONE)) ≡ true → 1 ≤ length written → n ≡ long
    → set written 0 n ≡ length_after r long written
unfolding length_after
length-set r long written n t h e = rw t (first-set written n h ∙ ap (λ (m : ℕ). m ∷ drop 1 written) e)

module _ (ink : ℕ) (s : Sections) (work room : ℕ) (a : Encoded) (lent : ℕ) (h : 1 ≤ lent) (e : a ≡ encoded_of ink s work room) where
  all : work ≡ words_with_length lent work
  all = sym (ap (λ (b : Bool). cond b work 0) (le-leb 1 lent h))

  -- number, output and work words where the rule is k
  module _ (k : ℕ) (q : encode_rule ink s work room ≡ k) where
    numbered : k ≡ encode_rule ink s (words_with_length lent work) room
    numbered = sym q ∙ ap (λ (m : ℕ). encode_rule ink s m room) all

    outputs : (out now : List ℕ) → now ≡ out_after (encode_rule ink s work room) (image_for ink s) out → now ≡ out_after k (image_for ink s) out
    outputs out now p = p ∙ ap (λ (r : ℕ). out_after r (image_for ink s) out) q

    worked : (needed : ℕ) (w now : List ℕ) → now ≡ encode_work_after needed (encode_rule ink s work room) w → now ≡ encode_work_after needed k w
    worked needed w now p = p ∙ ap (λ (r : ℕ). encode_work_after needed r w) q

  module _ (n : ℕ) (q : a ≡ Written n) where
    written_is : (encode_rule ink s work room ≡ 0) × (n ≡ length (image_for ink s))
    unfolding encoded_of
    written_is = written_by (encode_rule ink s work room) (length (image_for ink s)) n (sym e ∙ q)

    pub written-number : 0 ≡ encode_rule ink s (words_with_length lent work) room
    written-number = numbered 0 written_is.0

    pub written-output : (out now : List ℕ) → now ≡ out_after (encode_rule ink s work room) (image_for ink s) out → now ≡ out_after 0 (image_for ink s) out
    written-output = outputs 0 written_is.0

    pub written-words : (needed : ℕ) (w now : List ℕ) → now ≡ encode_work_after needed (encode_rule ink s work room) w → now ≡ encode_work_after needed 0 w
    written-words = worked 0 written_is.0

    pub written-length : (written : List ℕ) → 1 ≤ length written → set written 0 n ≡ length_after 0 (length (image_for ink s)) written
    written-length written k = length-set 0 (length (image_for ink s)) written n refl k written_is.1

  module _ (n : ℕ) (q : a ≡ Short n) where
    short_is : (encode_rule ink s work room ≡ 23) × (n ≡ length (image_for ink s)) × (length (image_for ink s) ≤ NONE)
    unfolding encoded_of
    short_is = short_by (encode_rule ink s work room) (length (image_for ink s)) n (sym e ∙ q)

    pub short-number : 23 ≡ encode_rule ink s (words_with_length lent work) room
    short-number = numbered 23 short_is.0

    pub short-output : (out now : List ℕ) → now ≡ out_after (encode_rule ink s work room) (image_for ink s) out → now ≡ out_after 23 (image_for ink s) out
    short-output = outputs 23 short_is.0

    pub short-words : (needed : ℕ) (w now : List ℕ) → now ≡ encode_work_after needed (encode_rule ink s work room) w → now ≡ encode_work_after needed 23 w
    short-words = worked 23 short_is.0

    pub short-length : (written : List ℕ) → 1 ≤ length written → set written 0 n ≡ length_after 23 (length (image_for ink s)) written
    short-length written k =
        length-set 23 (length (image_for ink s)) written n (le-leb (length (image_for ink s)) NONE short_is.2) k short_is.1

  module _ (k : ℕ) (q : a ≡ Refused k) where
    refused_is : (encode_rule ink s work room ≡ k) × (k ≡ 0 → ⊥) × (k ≡ 23 → NONE < length (image_for ink s))
    unfolding encoded_of
    refused_is = refused_by (encode_rule ink s work room) (length (image_for ink s)) k (sym e ∙ q)

    pub refused-number : k ≡ encode_rule ink s (words_with_length lent work) room
    refused-number = numbered k refused_is.0

    pub refused-output : (out now : List ℕ) → now ≡ out_after (encode_rule ink s work room) (image_for ink s) out → now ≡ out_after k (image_for ink s) out
    refused-output = outputs k refused_is.0

    pub refused-words : (needed : ℕ) (w now : List ℕ) → now ≡ encode_work_after needed (encode_rule ink s work room) w → now ≡ encode_work_after needed k w
    refused-words = worked k refused_is.0

    pub refused-length : (written : List ℕ) → written ≡ length_after k (length (image_for ink s)) written
    refused-length written = length-left k (length (image_for ink s)) written refused_is.1 refused_is.2
