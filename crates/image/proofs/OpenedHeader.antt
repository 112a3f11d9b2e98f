-- What a header that breaks none of rows 1 to 5 says, and what the sections of such an image are.
use Prim.Native.Nat.{ℕ, zero, suc, ◌+◌, ◌*◌, ◌≤◌, ◌<◌, ◌^◌}
use mathlib.Core.Path.{◌≡◌, sym, ◌∙◌, subst}
use mathlib.Core.Bool.{true, ◌&&◌, not, true≢false}
use mathlib.Core.List.{List}
use native.Mathlib.Omega.{arith}
use borrow.Author.Tests.{le-leb, eq-eqb, ne_eqb, leb-true, eqb-true}
use lib.Dec.{leb, eqb}
use lib.ListN.{length, get_or, take}
use Rattle.laws.specs.Refusal.{unless}
use Rattle.laws.specs.Lists.{Below}
use Rattle.laws.proofs.First.{both, passed, pass}
use Rattle.words.proofs.Words.{word_below}
use Rattle.laws.specs.Counted.{all_of}
use Rattle.laws.proofs.Flags.{both_true, all_at, all_of_lem}
use Rattle.words.specs.Words.{word_at}
use Rattle.texts.specs.Text.{same}
use Rattle.image.specs.Header.{magic, header_length, version_right, section_at, view_of, sizes, start_by, section_right, laid_out, ink_right, headed, header_rule, ink_version_at, length_at, version_at}
use Rattle.image.proofs.Views.{Within, Inside, SectionCounts, counts}
use Rattle.image.proofs.Rows.{start-next, headed_by, row_layout}

pub record Opens (bs : List ℕ) : Type 0 where
  pub long : header_length ≤ length bs
  pub marked : same (take 8 bs) magic ≡ true
  pub versioned : version_right (word_at bs version_at) ≡ true
  pub inked : ink_right (word_at bs ink_version_at) ≡ true
  pub total : word_at bs length_at ≡ length bs
  pub begins : (k : ℕ) → k < 8 → (section_at bs k).offset ≡ start_by bs k
  pub ends : (k : ℕ) → k < 8 → start_by bs (suc k) ≤ length bs
  pub whole : start_by bs 8 ≡ length bs
  pub node : 0 < (section_at bs 0).count

pub opens : (bs : List ℕ) → header_rule bs ≡ 0 → Opens bs
unfolding header_rule laid_out section_right
opens bs h =
    let rows1 = both (unless (headed bs) 1) _ h in
    let rows2 = both (unless (version_right (word_at bs version_at)) 2) _ rows1.1 in
    let rows3 = both (unless (ink_right (word_at bs ink_version_at)) 3) _ rows2.1 in
    let rows4 = both (unless (eqb (word_at bs length_at) (length bs)) 4) _ rows3.1 in
    let head = both_true (leb header_length (length bs)) (same (take 8 bs) magic) (passed (headed bs) 0 rows1.0) in
    let laid = both_true (all_of 8 (section_right bs) && eqb (start_by bs 8) (length bs)) (not (eqb (section_at bs 0).count 0)) (passed (laid_out bs) 4 rows4.1) in
    let sections = both_true (all_of 8 (section_right bs)) (eqb (start_by bs 8) (length bs)) laid.0 in
    let right : (k : ℕ) → k < 8 → (eqb (section_at bs k).offset (start_by bs k) ≡ true) × (leb (start_by bs (suc k)) (length bs) ≡ true)
    = λ k l. both_true (eqb (section_at bs k).offset (start_by bs k)) (leb (start_by bs (suc k)) (length bs)) (all_at 8 (section_right bs) sections.0 k l) in
    record {
      long = leb-true header_length (length bs) head.0;
      marked = head.1;
      versioned = passed (version_right (word_at bs version_at)) 1 rows2.0;
      inked = passed (ink_right (word_at bs ink_version_at)) 2 rows3.0;
      total = eqb-true (word_at bs length_at) (length bs) (passed (eqb (word_at bs length_at) (length bs)) 3 rows4.0);
      begins = λ k l. eqb-true (section_at bs k).offset (start_by bs k) (right k l).0;
      ends = λ k l. leb-true (start_by bs (suc k)) (length bs) (right k l).1;
      whole = eqb-true (start_by bs 8) (length bs) sections.1;
      node = positive (section_at bs 0).count laid.1;
    }
  where
    positive : (n : ℕ) → not (eqb n 0) ≡ true → 0 < n
    positive zero e = absurd (true≢false (sym e))
    positive (suc n) e = omega arith

-- and nothing else is asked of a header
pub opens_of : (bs : List ℕ) → Opens bs → header_rule bs ≡ 0
unfolding laid_out section_right
opens_of bs o =
    row_layout bs (headed_by bs o.long o.marked) o.versioned o.inked o.total
    ∙ pass (laid_out bs) 5
    (rw (
      all_of_lem 8 (section_right bs) (λ k l. rw (eq-eqb (section_at bs k).offset (start_by bs k) (o.begins k l), le-leb (start_by bs (suc k)) (length bs) (o.ends k l))),
      eq-eqb (start_by bs 8) (length bs) o.whole,
      ne_eqb (section_at bs 0).count 0 (λ e. omega (arith, o.node)),
    ))

-- ---- the sections of an image that opens

pub section-within : (bs : List ℕ) → Opens bs → (k : ℕ) → k < 8 → Within bs (section_at bs k) (get_or (sizes (word_at bs version_at)) k 0)
section-within bs o k l =
    let e : (section_at bs k).offset + (section_at bs k).count * get_or (sizes (word_at bs version_at)) k 0 ≡ start_by bs (suc k) = rw (o.begins k l) (sym (start-next bs k)) in
    omega (arith, o.ends k l)

pub view-inside : (bs : List ℕ) → Opens bs → Inside bs (view_of bs)
unfolding view_of sizes
view-inside bs o =
    record {
      nodes = section-within bs o 0 (omega arith);
      children = section-within bs o 1 (omega arith);
      named = section-within bs o 2 (omega arith);
      definitions = section-within bs o 3 (omega arith);
      items = section-within bs o 4 (omega arith);
      index = section-within bs o 5 (omega arith);
      payload = section-within bs o 6 (omega arith);
      strings = section-within bs o 7 (omega arith);
    }

pub view-counts : (bs : List ℕ) → Opens bs → SectionCounts bs (view_of bs)
view-counts bs o = counts bs (view_of bs) (view-inside bs o)

pub view-node : (bs : List ℕ) → Opens bs → 0 < (view_of bs).nodes.count
unfolding view_of
view-node bs o = o.node

-- the length of an image is a word
pub length-word : (bs : List ℕ) → Below 256 bs → Opens bs → length bs < 2 ^ 32
length-word bs b o = subst (λ (n : ℕ). n < 2 ^ 32) o.total (word_below bs 16 b)
