-- Laws of rows 1 to 5 in the order of the code: the loop over the eight sections, the rows, the constructor's answer.
use Prim.Native.Nat.{ℕ, zero, suc, ◌+◌, ◌*◌, ◌≤◌, ◌<◌}
use mathlib.Core.Path.{◌≡◌, refl, sym, ap, ◌∙◌, subst}
use mathlib.Core.Bool.{Bool, true, false, ◌&&◌}
use mathlib.Core.List.{List, [], ◌∷◌}
use native.Mathlib.Omega.{arith}
use native.Mathlib.Nat.{add_assoc, mul-le-mul_left}
use native.Mathlib.Numerals.{add-one}
use borrow.Author.Tests.{le-leb, lt-leb, eq-eqb, ne_eqb, leb-true}
use lib.Dec.{leb, eqb}
use lib.ListN.{length, get_or, take}
use Rattle.laws.specs.Refusal.{unless, ◌▸◌}
use Rattle.laws.specs.Counted.{sum_of, all_of}
use Rattle.laws.proofs.Flags.{both_true, and-false, all_next, all_fails}
use Rattle.words.specs.Words.{NONE, word_at}
use Rattle.texts.specs.Text.{same}
use Rattle.image.specs.declared.Section.{Section}
use Rattle.image.specs.declared.ImageView.{ImageView}
use Rattle.std.specs.Prelude.{ℕ, suc, pred, Result, Ok, Err, IsErrAnd}
use Rattle.image.specs.declared.refusal.Refusal.{Refusal}
use Rattle.image.specs.Refusals.{refusal_number, refusal_in, numbered}
use Rattle.image.proofs.Refused.{not-zero, handed-on, passed-zero}
use Rattle.image.specs.Header.{magic, header_length, version_at, ink_version_at, length_at, version_right, section_at, view_of, sizes, start_by, section_right, laid_out, ink_right, headed, header_rule, opened_by, opened_of}
use Rattle.image.specs.Sections.{node_words, most_node_size}
use Rattle.image.proofs.Widths.{width}

-- ---- where sections begin

pub start-next : (bs : List ℕ) (k : ℕ) → start_by bs (suc k) ≡ start_by bs k + (section_at bs k).count * get_or (sizes (word_at bs version_at)) k 0
unfolding start_by sum_of
start-next bs k = sym (add_assoc header_length (sum_of k (λ j. (section_at bs j).count * get_or (sizes (word_at bs version_at)) j 0)) ((section_at bs k).count * get_or (sizes (word_at bs version_at)) k 0))

at_most : ℕ → List ℕ → Bool
at_most n [] = true
at_most n (x ∷ xs) = leb x n && at_most n xs

at_most_at : (n : ℕ) (xs : List ℕ) → at_most n xs ≡ true → (k : ℕ) → get_or xs k 0 ≤ n
unfolding at_most
at_most_at n [] h k = omega arith
at_most_at n (x ∷ xs) h zero = leb-true x n (both_true (leb x n) (at_most n xs) h).0
at_most_at n (x ∷ xs) h (suc k) = at_most_at n xs (both_true (leb x n) (at_most n xs) h).1 k

-- no entry has more bytes than the widest node
pub size-bound : (version k : ℕ) → get_or (sizes version) k 0 ≤ most_node_size
unfolding sizes at_most
size-bound version k = at_most_at most_node_size (sizes version) (rw (le-leb (4 * node_words version) most_node_size (omega (arith, (width version).most)))) k

-- so the end of a section fits 64 bits
pub length-bound : (version count k : ℕ) → count ≤ NONE → count * get_or (sizes version) k 0 ≤ NONE * most_node_size
length-bound version count k h =
    let first : count * get_or (sizes version) k 0 ≤ count * most_node_size = mul-le-mul_left count (size-bound version k) in
    omega arith

pub table-size : (table : List ℕ) (version k : ℕ) → table ≡ sizes version → get_or table k 0 ≤ most_node_size
table-size table version k e = subst (λ (t : List ℕ). get_or t k 0 ≤ most_node_size) (sym e) (size-bound version k)

pub table-bound : (table : List ℕ) (version count k : ℕ) → table ≡ sizes version → count ≤ NONE → count * get_or table k 0 ≤ NONE * most_node_size
table-bound table version count k e h = subst (λ (t : List ℕ). count * get_or t k 0 ≤ NONE * most_node_size) (sym e) (length-bound version count k h)

-- one section that is not right spoils the layout
layout-fails : (bs : List ℕ) (k : ℕ) → k < 8 → section_right bs k ≡ false → laid_out bs ≡ false
unfolding laid_out
layout-fails bs k h w = rw (all_fails 8 (section_right bs) k h w)

-- ---- the loop: k sections are right, and the last of them ends at `end`

pub record Laid (bs : List ℕ) (end k : ℕ) : Type 0 where
  pub few : k ≤ 8
  pub starts : end ≡ start_by bs k
  pub right : all_of k (section_right bs) ≡ true

pub laid-start : (bs : List ℕ) → Laid bs header_length 0
unfolding all_of start_by sum_of
laid-start bs = record { few = omega arith; starts = refl; right = refl }

module _ (bs : List ℕ) (end k : ℕ) (l : Laid bs end k) (s : Section) (e : s ≡ section_at bs k) (h : k < 8) where
  ends : s.offset ≡ end → start_by bs (suc k) ≡ s.offset + s.count * get_or (sizes (word_at bs version_at)) k 0
  ends o =
      let begins : s.offset ≡ start_by bs k = o ∙ l.starts in
      let counted : s.count ≡ (section_at bs k).count = ap (λ (x : Section). x.count) e in
      start-next bs k ∙ sym (rw (begins, counted))

  -- the section begins elsewhere
  pub laid-elsewhere : (s.offset ≡ end → ⊥) → false ≡ laid_out bs
  unfolding laid_out section_right
  laid-elsewhere n =
      sym (layout-fails bs k h (rw (ne_eqb (section_at bs k).offset (start_by bs k) (λ q. n (ap (λ (x : Section). x.offset) e ∙ q ∙ sym l.starts)))))

  -- the section runs past the end
  pub laid-past : s.offset ≡ end → length bs < s.offset + s.count * get_or (sizes (word_at bs version_at)) k 0 → false ≡ laid_out bs
  unfolding laid_out section_right
  laid-past o p =
      sym (layout-fails bs k h (rw (ends, lt-leb (s.offset + s.count * get_or (sizes (word_at bs version_at)) k 0) (length bs) p) (and-false (eqb (section_at bs k).offset (start_by bs k)))))

  pub laid_next : s.offset ≡ end → s.offset + s.count * get_or (sizes (word_at bs version_at)) k 0 ≤ length bs → Laid bs (s.offset + s.count * get_or (sizes (word_at bs version_at)) k 0) (k + 1)
  unfolding section_right
  laid_next o p =
      record {
        few = omega arith;
        starts = rw add-one (sym (ends o));
        right = all_next k (section_right bs) l.right (rw (ends, eq-eqb (section_at bs k).offset (start_by bs k) (sym (ap (λ (x : Section). x.offset) e) ∙ o ∙ l.starts), le-leb (s.offset + s.count * get_or (sizes (word_at bs version_at)) k 0) (length bs) p));
      }

  -- the same by the code's table
  module _ (table : List ℕ) (same-sizes : table ≡ sizes (word_at bs version_at)) (o : s.offset ≡ end) where
    pub table-past : length bs < s.offset + s.count * get_or table k 0 → false ≡ laid_out bs
    table-past p = laid-past o (subst (λ (t : List ℕ). length bs < s.offset + s.count * get_or t k 0) same-sizes p)

    pub table-next : s.offset + s.count * get_or table k 0 ≤ length bs → Laid bs (s.offset + s.count * get_or table k 0) (k + 1)
    table-next p =
        subst (λ (t : List ℕ). Laid bs (s.offset + s.count * get_or t k 0) (k + 1)) (sym same-sizes)
        (laid_next o (subst (λ (t : List ℕ). s.offset + s.count * get_or t k 0 ≤ length bs) same-sizes p))

module _ (bs : List ℕ) (end k : ℕ) (l : Laid bs end k) (h : 8 ≤ k) where
  -- eight sections are right
  last : k ≡ 8
  last = omega (arith, l.few)

  -- bytes follow the last section
  pub laid_more : (end ≡ length bs → ⊥) → false ≡ laid_out bs
  unfolding laid_out
  laid_more n =
      sym (rw (rw last at l.right, ne_eqb (start_by bs 8) (length bs) (λ q. n (l.starts ∙ ap (start_by bs) last ∙ q))))

  pub laid-empty : (s : Section) → s ≡ section_at bs 0 → s.count ≡ 0 → false ≡ laid_out bs
  unfolding laid_out
  laid-empty s e n = sym (rw (eq-eqb (section_at bs 0).count 0 (rw e at n)) (and-false (all_of 8 (section_right bs) && eqb (start_by bs 8) (length bs))))

  pub laid-right : end ≡ length bs → (s : Section) → s ≡ section_at bs 0 → (s.count ≡ 0 → ⊥) → true ≡ laid_out bs
  unfolding laid_out
  laid-right q s e n =
      sym (rw (rw last at l.right, eq-eqb (start_by bs 8) (length bs) (rw last at (sym l.starts ∙ q)), ne_eqb (section_at bs 0).count 0 (rw e at n)))

-- ---- rows 1 to 5, one after the other

module _ (bs : List ℕ) where
  pub row_short : length bs < header_length → header_rule bs ≡ 1
  unfolding header_rule unless ◌▸◌
  row_short h = rw (lt-leb header_length (length bs) h)

  pub row_magic : same (take 8 bs) magic ≡ false → header_rule bs ≡ 1
  unfolding header_rule unless ◌▸◌
  row_magic h = rw (h, and-false (leb header_length (length bs)))

  pub headed_by : header_length ≤ length bs → same (take 8 bs) magic ≡ true → headed bs ≡ true
  headed_by h m = rw (le-leb header_length (length bs) h, m)

  module _ (a : headed bs ≡ true) where
    pub row_version : version_right (word_at bs version_at) ≡ false → header_rule bs ≡ 2
    unfolding header_rule unless ◌▸◌
    row_version n = rw (a, n)

    module _ (b : version_right (word_at bs version_at) ≡ true) where
      pub row_ink : ink_right (word_at bs ink_version_at) ≡ false → header_rule bs ≡ 3
      unfolding header_rule unless ◌▸◌
      row_ink n = rw (a, b, n)

      module _ (i : ink_right (word_at bs ink_version_at) ≡ true) where
        pub row_length : (word_at bs length_at ≡ length bs → ⊥) → header_rule bs ≡ 4
        unfolding header_rule unless ◌▸◌
        row_length n = rw (a, b, i, ne_eqb (word_at bs length_at) (length bs) n)

        module _ (t : word_at bs length_at ≡ length bs) where
          -- the layout decides
          pub row_layout : header_rule bs ≡ unless (laid_out bs) 5
          unfolding header_rule unless ◌▸◌
          row_layout = rw (a, b, i, eq-eqb (word_at bs length_at) (length bs) t)

-- ---- the answer of the constructor

module _ (bs : List ℕ) {A : Type 0} (r : Result A Refusal) (is : refusal_in r ≡ header_rule bs) where
  pub opened-refused : (e : Refusal) (q : Result ImageView Refusal) → r ≡ Err e → IsErrAnd q (λ x. x ≡ e) → numbered q ≡ opened_of bs
  unfolding opened_of opened_by
  opened-refused e q refused given =
      let n : header_rule bs ≡ suc (pred (refusal_number e)) = sym is ∙ ap refusal_in refused ∙ not-zero e in
      rw n (ap numbered (handed-on r e q refused given) ∙ ap Err (not-zero e))

  pub opened_view : (x : A) (v : ImageView) → r ≡ Ok x → v ≡ view_of bs → Ok v ≡ opened_of bs
  unfolding opened_of opened_by
  opened_view x v passed q = rw (passed-zero r x passed (header_rule bs) is, q)
