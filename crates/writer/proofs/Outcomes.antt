-- What each end of the writer comes to: the answer, the output and the work words.
use Rattle.std.specs.Prelude.{None, Option, Some, ℕ}
use Prim.Native.Nat.{ℕ, ◌≤◌, ◌<◌}
use mathlib.Core.Path.{◌≡◌, refl, sym, ap, ◌∙◌, subst}
use mathlib.Core.List.{List, ◌++◌}
use mathlib.Core.Bool.{Bool, true, false, cond, ◌&&◌, true≢false}
use native.Mathlib.Omega.{arith}
use lib.ListN.{length, drop, replicate}
use lib.Dec.{leb}
use borrow.Author.Tests.{le-leb, lt-leb, leb-true, leb-false, ne_eqb}
use Rattle.laws.specs.Refusal.{unless}
use Rattle.laws.proofs.First.{pass, fail}
use Rattle.words.specs.Words.{NONE}
use Rattle.image.specs.Header.{ink_right}
use Rattle.image.specs.Sections.{Sections}
use Rattle.draft.specs.Draft.{tables_rule, write_words, reach_rule}
use Rattle.draft_image.specs.Encode.{image_for, encode_rule, out_after, untouched, encode_work_after}
use Rattle.words.specs.Output.{over}
use Rattle.write_plan.specs.Planned.{plan_rule}
use Rattle.write_image.specs.Length.{size_of, image_length}
use Rattle.write_image.proofs.SectionLengths.{length_is}
use Rattle.writer.specs.Encoded.{Encoded, Written, Short, Refused}
use Rattle.writer.specs.Answer.{encoded_of, fits_output, EncodeAnswered, WrittenWith}
use Rattle.writer.proofs.Answers.{ink_wrong, tables-wrong, words_few, cleared, plan_wrong, plan_long, room-decides}
use Rattle.writer.proofs.AnswerByRule.{by_zero, by_room, by_refusal}
use Rattle.draft_image.proofs.Numbers.{tables_leave}

-- ---- the size of the image

tag : Option ℕ → ℕ
tag (Some n) = 0
tag None = 1

bytes : Option ℕ → ℕ
bytes (Some n) = n
bytes None = 0

bytes_by : (long m : ℕ) (b : Bool) → leb long NONE ≡ b → Some m ≡ cond b (Some long) None → (m ≡ long) × (long ≤ NONE)
unfolding tag bytes
bytes_by long m true e q = (ap {B = ℕ} bytes q, leb-true long NONE e)
bytes_by long m false e q = let z : ◌≡◌ {A = ℕ} 0 1 = ap {B = ℕ} tag q in absurd (omega arith)

long_by : (long : ℕ) (b : Bool) → leb long NONE ≡ b → None ≡ cond b (Some long) None → NONE < long
unfolding tag
long_by long true e q = let z : ◌≡◌ {A = ℕ} 1 0 = ap {B = ℕ} tag q in absurd (omega arith)
long_by long false e q = leb-false long NONE e

pub size-bytes : (long m : ℕ) (a : Option ℕ) → a ≡ size_of long → a ≡ Some m → (m ≡ long) × (long ≤ NONE)
unfolding size_of
size-bytes long m a e q = bytes_by long m (leb long NONE) refl (sym q ∙ e)

pub size-long : (long : ℕ) (a : Option ℕ) → a ≡ size_of long → a ≡ None → NONE < long
unfolding size_of
size-long long a e q = long_by long (leb long NONE) refl (sym q ∙ e)

-- ---- answers

-- the output stays, whatever the number
left : (r k : ℕ) (image out : List ℕ) → r ≡ k → (k ≡ 0 → ⊥) → out ≡ out_after r image out
unfolding out_after
left r k image out e d = rw (e, ne_eqb k 0 d) refl

-- a refusal that tells no length leaves the output
pub refused : (ink : ℕ) (s : Sections) (r k : ℕ) (out : List ℕ) → r ≡ k → (k ≡ 0 → ⊥) → (k ≡ 23 → NONE < length (image_for ink s))
    → EncodeAnswered ink s r out out (Refused k)
refused ink s r k out e d h =
    record { answer = rw e (sym (by_refusal k (length (image_for ink s)) d h)); output = left r k (image_for ink s) out e d }

module _ (ink : ℕ) (s : Sections) (p : tables_rule s ≡ 0) (q : reach_rule s ≡ 0) (out₀ : List ℕ) where
  abbrev image : List ℕ
  image = image_for ink s

  -- an image that does not fit
  no_room : (a b : Bool) → leb (length image) (length out₀) ≡ a → leb (length image) NONE ≡ b → (a && b) ≡ false → unless (fits_output ink s (length out₀)) 23 ≡ 23
  no_room a b e f n = fail (fits_output ink s (length out₀)) 23 (rw (e, f) n)

  pub image-long : NONE < image_length s → EncodeAnswered ink s (unless (fits_output ink s (length out₀)) 23) out₀ out₀ (Refused 23)
  image-long h = refused ink s (unless (fits_output ink s (length out₀)) 23) 23 out₀ (by (leb (length image) (length out₀)) refl) (λ k. omega arith) (λ k. above)
    where
      above : NONE < length image
      above = omega (arith, length_is ink s p q)

      long : leb (length image) NONE ≡ false
      long = lt-leb (length image) NONE above

      by : (a : Bool) → leb (length image) (length out₀) ≡ a → unless (fits_output ink s (length out₀)) 23 ≡ 23
      by true e = no_room true false e long refl
      by false e = no_room false false e long refl

  pub image-short : (m : ℕ) → image_length s ≤ NONE → length out₀ < image_length s → m ≡ image_length s
      → EncodeAnswered ink s (unless (fits_output ink s (length out₀)) 23) out₀ out₀ (Short m)
  image-short m g h e =
      let long : m ≡ length image = e ∙ sym (length_is ink s p q) in
      let word : length image ≤ NONE = omega (arith, length_is ink s p q) in
      let short : leb (length image) (length out₀) ≡ false = lt-leb (length image) (length out₀) (omega (arith, length_is ink s p q)) in
      let r = no_room false true short (le-leb (length image) NONE word) refl in
      record {
        answer = ap Short long ∙ sym (by_room (unless (fits_output ink s (length out₀)) 23) (length image) r word);
        output = left (unless (fits_output ink s (length out₀)) 23) 23 image out₀ r (λ k. omega arith);
      }

  pub image_put : (m : ℕ) (out : List ℕ) → image_length s ≤ NONE → image_length s ≤ length out₀ → m ≡ image_length s → out ≡ over image out₀
      → EncodeAnswered ink s (unless (fits_output ink s (length out₀)) 23) out₀ out (Written m)
  unfolding out_after
  image_put m out g h e o =
      let room : leb (length image) (length out₀) ≡ true = le-leb (length image) (length out₀) (omega (arith, length_is ink s p q)) in
      let word : leb (length image) NONE ≡ true = le-leb (length image) NONE (omega (arith, length_is ink s p q)) in
      let r : unless (fits_output ink s (length out₀)) 23 ≡ 0 = pass (fits_output ink s (length out₀)) 23 (rw (room, word) refl) in
      record {
        answer = ap Written (e ∙ sym (length_is ink s p q)) ∙ sym (by_zero (unless (fits_output ink s (length out₀)) 23) (length image) r);
        output = rw r o;
      }

-- ---- with the work words that a draft needs

module _ (ink : ℕ) (s : Sections) (p : tables_rule s ≡ 0) (i : ink_right ink ≡ true) (out₀ : List ℕ) where
  enough : (work : ℕ) → write_words s ≤ work → leb (write_words s) work ≡ true
  enough work h = le-leb (write_words s) work h

  -- the plan refuses
  pub plan_refused : (k : ℕ) → plan_rule s ≡ k → (k ≡ 0 → ⊥) → WrittenWith ink s out₀ out₀ (Refused k)
  unfolding plan_rule
  plan_refused k e d work h =
      refused ink s (encode_rule ink s work (length out₀)) k out₀ (plan_wrong ink s work (length out₀) i p (enough work h) (λ q. d (sym e ∙ q)) ∙ e) d
      (λ q. plan_long ink s work (length out₀) i p (enough work h) (e ∙ q))

  -- the room decides
  pub plan_made : plan_rule s ≡ 0 → (out : List ℕ) (a : Encoded) → EncodeAnswered ink s (unless (fits_output ink s (length out₀)) 23) out₀ out a → WrittenWith ink s out₀ out a
  unfolding plan_rule
  plan_made e out a x work h =
      subst (λ (r : ℕ). EncodeAnswered ink s r out₀ out a) (sym (room-decides ink s work (length out₀) i p (enough work h) e)) x

-- ---- the whole

-- the answer, the output and the work words
pub record Encodes (ink : ℕ) (s : Sections) (out₀ work₀ out work : List ℕ) (a : Encoded) : Type 0 where
  pub answer : a ≡ encoded_of ink s (length work₀) (length out₀)
  pub output : out ≡ out_after (encode_rule ink s (length work₀) (length out₀)) (image_for ink s) out₀
  pub words : work ≡ encode_work_after (write_words s) (encode_rule ink s (length work₀) (length out₀)) work₀

-- the three clauses
pub ended : (ink : ℕ) (s : Sections) (out₀ work₀ out work : List ℕ) (a : Encoded) → Encodes ink s out₀ work₀ out work a
    → (a ≡ encoded_of ink s (length work₀) (length out₀))
    × ((out ≡ out_after (encode_rule ink s (length work₀) (length out₀)) (image_for ink s) out₀)
    × (work ≡ encode_work_after (write_words s) (encode_rule ink s (length work₀) (length out₀)) work₀))
ended ink s out₀ work₀ out work a x = (x.answer, (x.output, x.words))

module _ (ink : ℕ) (s : Sections) (out₀ work₀ : List ℕ) where
  abbrev rule : ℕ
  rule = encode_rule ink s (length work₀) (length out₀)

  -- a refusal that leaves all
  early : (k : ℕ) → rule ≡ k → (k ≡ 0 → ⊥) → untouched k ≡ true → Encodes ink s out₀ work₀ out₀ work₀ (Refused k)
  unfolding encoded_of encode_work_after
  early k e d u =
      let x = refused ink s rule k out₀ e d (λ q. absurd (true≢false (sym u ∙ ap untouched q))) in
      record { answer = x.answer; output = x.output; words = rw (e, u) refl }

  pub encode_ink : ink_right ink ≡ false → Encodes ink s out₀ work₀ out₀ work₀ (Refused 3)
  encode_ink h = early 3 (ink_wrong ink s (length work₀) (length out₀) h) (λ q. omega arith) refl

  module _ (i : ink_right ink ≡ true) where
    pub encode-tables : (k : ℕ) → k ≡ tables_rule s → (k ≡ 0 → ⊥) → Encodes ink s out₀ work₀ out₀ work₀ (Refused k)
    encode-tables k e d =
        early k (tables-wrong ink s (length work₀) (length out₀) i (λ q. d (e ∙ q)) ∙ sym e) d (ap untouched e ∙ tables_leave s (λ q. d (e ∙ q)))

    module _ (p : tables_rule s ≡ 0) where
      pub encode-words : length work₀ < write_words s → Encodes ink s out₀ work₀ out₀ work₀ (Refused 7)
      encode-words h = early 7 (words_few ink s (length work₀) (length out₀) i p (lt-leb (write_words s) (length work₀) h)) (λ q. omega arith) refl

      pub encode-written : write_words s ≤ length work₀ → (out : List ℕ) (a : Encoded) → WrittenWith ink s out₀ out a
          → (work : List ℕ) → work ≡ replicate (write_words s) 0 ++ drop (write_words s) work₀ → Encodes ink s out₀ work₀ out work a
      unfolding encoded_of encode_work_after
      encode-written h out a x work e =
          let y = x (length work₀) h in
          record {
            answer = y.answer;
            output = y.output;
            words = rw (cleared ink s (length work₀) (length out₀) i p (le-leb (write_words s) (length work₀) h)) e;
          }
