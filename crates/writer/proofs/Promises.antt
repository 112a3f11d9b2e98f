-- The promises of every draft that `encode` has written, and of the length that an output too short is told.
use Rattle.std.specs.Prelude.{None, Some}
use Prim.Native.Nat.{ℕ, ◌≤◌, ◌<◌}
use mathlib.Core.Path.{◌≡◌, refl, sym, ap, ◌∙◌, subst}
use mathlib.Core.List.{List}
use mathlib.Core.Bool.{Bool, true, false, ◌&&◌, true≢false}
use native.Mathlib.Omega.{arith}
use lib.ListN.{length, take, drop}
use lib.Seq.{take_at}
use lib.Dec.{leb}
use borrow.Author.Tests.{le-leb, leb-false}
use Rattle.laws.specs.Refusal.{unless}
use Rattle.laws.proofs.First.{second, pass}
use Rattle.words.specs.Words.{NONE}
use Rattle.image.specs.Sections.{Sections}
use Rattle.image.specs.Header.{view_of, sections_of}
use Rattle.load.specs.Load.{load_rule, load_words, loaded_of}
use Rattle.draft_image.specs.Encode.{image_for, draft_rule, encode_rule, out_after}
use Rattle.promises.specs.Answers.{Answer, given, of_loaded}
use Rattle.promises.proofs.Answers.{given-equal, given-refused}
use Rattle.promises.proofs.Readers.{accepted-reads}
use Rattle.promises.proofs.Lookups.{accepted-lookups}
use Rattle.written.proofs.Bytes.{image-bytes}
use Rattle.written.proofs.DraftRules.{encodes-exactly}
use Rattle.written.proofs.Loads.{written-loads, same-paths}
use Rattle.written.proofs.Sound.{written-sound, written_one_spelling}
use Rattle.written_views.proofs.Written.{written-views}
use Rattle.writer.specs.Encoded.{Encoded, Written, Short, Refused}
use Rattle.writer.specs.Answer.{encoded_of, of_encoded, fits_output}
use Rattle.writer.specs.Promised.{Promised, EncodedKeeps, EncodedExactly, ShortTells}
use Rattle.draft_image.proofs.Numbers.{draft-below, room-left}
use Rattle.writer.proofs.Answers.{no_room}
use Rattle.writer.proofs.AnswerByRule.{by_zero, by_room, by_refusal, number_by, written_by, short_by, refused_by}

-- ---- answers

given-written : (a : Encoded) (n : ℕ) → of_encoded a ≡ given n → a ≡ Written n
given-written (Written m) n e = ap Written (given-equal m n e)
given-written (Short m) n e = absurd (given-refused 22 n e)
given-written (Refused r) n e = absurd (none-some (ap (λ (x : Answer ℕ). x.value) e))
  where
    none-some : None ≡ Some n → ⊥
    none-some q = let z : ◌≡◌ {A = ℕ} 0 1 = cc in omega arith

module _ (ink : ℕ) (s : Sections) (work room : ℕ) where
  number_is : (of_encoded (encoded_of ink s work room)).number ≡ encode_rule ink s work room
  unfolding encoded_of
  number_is = number_by (encode_rule ink s work room) (length (image_for ink s))

  written_is : (n : ℕ) → encoded_of ink s work room ≡ Written n → (encode_rule ink s work room ≡ 0) × (n ≡ length (image_for ink s))
  unfolding encoded_of
  written_is n e = written_by (encode_rule ink s work room) (length (image_for ink s)) n e

  answered : (n : ℕ) → of_encoded (encoded_of ink s work room) ≡ given n → (encode_rule ink s work room ≡ 0) × (n ≡ length (image_for ink s))
  answered n e = written_is n (given-written (encoded_of ink s work room) n e)

pub encoded-exactly : EncodedExactly
encoded-exactly ink s work room =
    let exactly = encodes-exactly ink s work room in
    record {
      taken = (λ e. exactly.0 (sym (number_is ink s work room) ∙ e), λ r. number_is ink s work room ∙ exactly.1 r);
      reported = λ n e. (answered ink s work room n e).1;
      number = number_is ink s work room;
    }

-- ---- 23

-- 23 where a word can say the length
shorter : (a b : Bool) → b ≡ true → unless (a && b) 23 ≡ 23 → a ≡ false
unfolding unless
shorter true true w e = absurd (omega arith)
shorter true false w e = absurd (true≢false (sym w))
shorter false b w e = refl

module _ (ink : ℕ) (s : Sections) (work room : ℕ) where
  -- the draft keeps its rules, so that the room decides
  room-alone : encode_rule ink s work room ≡ 23 → (more : ℕ) → encode_rule ink s work more ≡ unless (fits_output ink s more) 23
  unfolding encode_rule
  room-alone e more = second (draft_rule ink s work) _ (room-left (draft_rule ink s work) _ (draft-below ink s work) e).0

  told : (of_encoded (encoded_of ink s work room)).number ≡ 23 → length (image_for ink s) ≤ NONE → encoded_of ink s work room ≡ Short (length (image_for ink s))
  unfolding encoded_of
  told e h = by_room (encode_rule ink s work room) (length (image_for ink s)) (sym (number_is ink s work room) ∙ e) h

  module _ (n : ℕ) (e : encoded_of ink s work room ≡ Short n) where
    short_is : (encode_rule ink s work room ≡ 23) × (n ≡ length (image_for ink s)) × (length (image_for ink s) ≤ NONE)
    unfolding encoded_of
    short_is = short_by (encode_rule ink s work room) (length (image_for ink s)) n e

    word : leb (length (image_for ink s)) NONE ≡ true
    word = le-leb (length (image_for ink s)) NONE short_is.2

    longer : room < n
    longer =
        let few = shorter (leb (length (image_for ink s)) room) _ word (sym (room-alone short_is.0 room) ∙ short_is.0) in
        omega (arith, leb-false (length (image_for ink s)) room few, short_is.1)

    enough : (more : ℕ) → n ≤ more → encoded_of ink s work more ≡ Written n
    unfolding encoded_of
    enough more h =
        let fits : leb (length (image_for ink s)) more ≡ true = le-leb (length (image_for ink s)) more (omega (arith, short_is.1)) in
        let None = room-alone short_is.0 more ∙ pass (fits_output ink s more) 23 (rw (fits, word) refl) in
        by_zero (encode_rule ink s work more) (length (image_for ink s)) None ∙ ap Written (sym short_is.1)

  never : encoded_of ink s work room ≡ Refused 23 → (more : ℕ) → encoded_of ink s work more ≡ Refused 23
  unfolding encoded_of
  never e more =
      let x = refused_by (encode_rule ink s work room) (length (image_for ink s)) 23 e in
      let r : encode_rule ink s work more ≡ 23 = room-alone x.0 more ∙ no_room ink s work more (x.2 refl) in
      by_refusal (encode_rule ink s work more) (length (image_for ink s)) (λ z. omega (arith, r)) (λ z. x.2 refl) ∙ ap Refused r

pub short-tells : ShortTells
short-tells ink s work room =
    record {
      told = told ink s work room;
      right = λ n e. ((short_is ink s work room n e).1, longer ink s work room n e);
      enough = λ n more e. enough ink s work room n e more;
      never = never ink s work room;
    }

-- a load that refuses nothing answers the header's view
loaded : (image : List ℕ) (work : ℕ) → load_rule image work ≡ 0 → of_loaded (loaded_of image work) ≡ given (view_of image)
unfolding loaded_of
loaded image work e = rw e

-- ---- the output up to the length reported

image-front : (r n : ℕ) (image out : List ℕ) → r ≡ 0 → n ≡ length image → take n (out_after r image out) ≡ image
unfolding out_after
image-front r n image out e q = rw e (take_at image (drop (length image) out) n (sym q))

pub encoded_keeps : EncodedKeeps
encoded_keeps ink s work n out z w e =
    let x = answered ink s work (length out) n e in
    let front : take n (out_after (encode_rule ink s work (length out)) (image_for ink s) out) ≡ image_for ink s =
    image-front (encode_rule ink s work (length out)) n (image_for ink s) out x.0 x.1 in
    (front, subst (Promised s) (sym front) (promised x.0))
  where
    promised : encode_rule ink s work (length out) ≡ 0 → Promised s (image_for ink s)
    promised p =
        let image = image_for ink s in
        let needed = load_words (sections_of image) in
        let view = loaded image needed (written-loads ink s work (length out) z w p needed (omega arith)) in
        let bytes = image-bytes ink s w in
        record {
          loads = written-loads ink s work (length out) z w p;
          sound = written-sound ink s work (length out) z w p;
          reads = accepted-reads image needed (view_of image) bytes view;
          lookups = accepted-lookups image needed (view_of image) bytes view;
          spelling = written_one_spelling ink s work (length out) z w p;
          views = written-views ink s work (length out) z w p;
          paths = same-paths ink s work (length out) z w p;
        }
