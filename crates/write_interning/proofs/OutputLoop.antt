-- The pass that writes the stored texts, given their offsets.
use Prim.Native.Nat.{ℕ, ◌+◌, ◌≤◌, ◌<◌}
use mathlib.Core.Path.{◌≡◌, refl, sym, ap, ◌∙◌}
use mathlib.Core.List.{List, [], ◌∷◌, ◌++◌, append_assoc, append-nil}
use mathlib.Core.Bool.{true}
use native.Mathlib.Omega.{arith}
use native.Mathlib.Numerals.{add-one}
use lib.ListN.{length, take, drop, length-append, length-drop}
use lib.Seq.{take_at, drop_at, drop-drop}
use Rattle.laws.specs.Counted.{join_of}
use Rattle.laws.specs.Lists.{flat_map}
use Rattle.texts.specs.Text.{holds}
use Rattle.draft_image.specs.Strings.{distinct, offset_of}
use Rattle.write_sorting.proofs.Laws.{cases}
use Rattle.write_sorting.proofs.MergeInPlace.{lent, back, lent-part, lent_back}
use Rattle.write_interning.specs.Uses.{stored_of, texts_joined}
use Rattle.write_interning.proofs.StoredTexts.{joined_snoc, stored_old, stored_new, stored-holds, offset_end, offset_first, offset_before, length_new}

-- the texts of the first k uses are written, up to `end`; o is the output where the pass began
pub record Emitting (key : ℕ → List ℕ) (n : ℕ) (o x : List ℕ) (k end : ℕ) : Type 0 where
  pub bound : k ≤ n
  pub sum : end ≡ length (texts_joined (stored_of key k))
  pub room : length x ≡ length o
  pub written : x ≡ texts_joined (stored_of key k) ++ drop end o

-- what fits from `end` on fits the part that is lent
pub fits-lent : (x : List ℕ) (end l : ℕ) → end + l ≤ length x → l ≤ length (lent end x)
fits-lent x end l h = rw (lent-part x end (omega arith)) (omega (arith, length-drop end x))

pub emit_none : (key : ℕ → List ℕ) (n : ℕ) (o : List ℕ) → Emitting key n o o 0 0
unfolding stored_of join_of distinct flat_map
emit_none key n o = record { bound = omega arith; sum = refl; room = refl; written = refl }

module _ (key : ℕ → List ℕ) (n : ℕ) (o : List ℕ) (ho : length (texts_joined (stored_of key n)) ≤ length o) where
  -- what is about to be written fits
  pub emit_fits : (x : List ℕ) (k end : ℕ) → Emitting key n o x k end → k < n → offset_of (stored_of key n) (key k) ≡ end → end + length (key k) ≤ length o
  emit_fits x k end E h e = omega (arith, offset_end (stored_of key n) (key k) (stored-holds key n k h))

  pub emit_skip : (x : List ℕ) (k end : ℕ) → Emitting key n o x k end → k < n → (offset_of (stored_of key n) (key k) ≡ end → ⊥) → Emitting key n o x (k + 1) end
  emit_skip x k end E h e =
      let f : holds (stored_of key k) (key k) ≡ true = cases (holds (stored_of key k) (key k)) (λ g. g) (λ g. absurd (e (offset_first key n k h g ∙ sym E.sum))) in
      record {
        bound = omega arith;
        sum = rw (add-one, stored_old key k f) E.sum;
        room = E.room;
        written = rw (add-one, stored_old key k f) E.written;
      }

  -- y is what came back of the output from `end` on; a text that is stored already and still belongs here is empty
  pub emit_text : (x : List ℕ) (k end : ℕ) (y : List ℕ) → Emitting key n o x k end → k < n → offset_of (stored_of key n) (key k) ≡ end
      → y ≡ key k ++ drop (length (key k)) (lent end x) → Emitting key n o (back end x y) (k + 1) (end + length (key k))
  emit_text x k end y E h e q =
      let fit = emit_fits x k end E h e in
      let J : List ℕ = texts_joined (stored_of key k) in
      let t1 : take end x ≡ J = ap (take end) E.written ∙ take_at J (drop end o) end (sym E.sum) in
      let d1 : drop end x ≡ drop end o = ap (drop end) E.written ∙ drop_at J (drop end o) end (sym E.sum) in
      let y1 : y ≡ key k ++ drop (end + length (key k)) o = q
      ∙ ap (λ (l : List ℕ). key k ++ drop (length (key k)) l) (lent-part x end (omega arith) ∙ d1)
      ∙ ap (λ (l : List ℕ). key k ++ l) (drop-drop (length (key k)) end o) in
      let z : back end x y ≡ (J ++ key k) ++ drop (end + length (key k)) o = lent_back x y end (omega arith)
      ∙ rw (t1, y1) (sym (append_assoc J (key k) (drop (end + length (key k)) o))) in
      let lz : length (back end x y) ≡ length o = ap length z
      ∙ omega (arith, length-append (J ++ key k) (drop (end + length (key k)) o), length-append J (key k), length-drop (end + length (key k)) o) in
      cases (holds (stored_of key k) (key k))
      (λ f.
      let none : length (key k) ≡ 0 = omega (arith, offset_before key n k h f, E.sum) in
      let same : J ++ key k ≡ J = empty J (key k) none in
      record {
        bound = omega arith;
        sum = rw (add-one, stored_old key k f) (omega (arith, E.sum));
        room = lz;
        written = z ∙ rw (add-one, stored_old key k f, same);
      })
      (λ f.
      record {
        bound = omega arith;
        sum = rw (add-one, length_new key k f) (omega (arith, E.sum));
        room = lz;
        written = z ∙ rw (add-one, stored_new key k f, joined_snoc);
      })
    where
      empty : (a b : List ℕ) → length b ≡ 0 → a ++ b ≡ a
      empty a [] h = append-nil a
      empty a (c ∷ b) h = absurd (omega arith)

  pub emit_done : (x : List ℕ) (k end : ℕ) → Emitting key n o x k end → n ≤ k → x ≡ texts_joined (stored_of key n) ++ drop (length (texts_joined (stored_of key n))) o
  emit_done x k end E h = let q : n ≡ k = omega arith in E.written ∙ rw (q, E.sum)
