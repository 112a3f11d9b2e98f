-- How many work words suffice to load.
use Rattle.std.specs.Prelude.{Err, Ok, Result, ℕ}
use Prim.Native.Nat.{ℕ, zero, suc, ◌+◌, ◌/◌, ◌≤◌}
use mathlib.Core.Path.{◌≡◌, refl, sym, ap, ◌∙◌}
use mathlib.Core.List.{List}
use mathlib.Core.Bool.{Bool, true, false, true≢false}
use native.Mathlib.Omega.{arith}
use native.Mathlib.Decide.{ℕ_discrete}
use lib.ListN.{length}
use lib.Dec.{leb}
use borrow.Author.Tests.{le-leb, eq-eqb, ne_eqb}
use Rattle.laws.specs.Refusal.{unless, counts_as, ◌▸◌, first_of}
use Rattle.image.specs.declared.ImageView.{ImageView}
use Rattle.image.specs.Sections.{Sections}
use Rattle.image.specs.Header.{header_rule, view_of, sections_of, opened_of}
use Rattle.image.proofs.OpenedHeader.{opens}
use Rattle.load.specs.Load.{checksum_rule, sections_rule, load_rule, load_words, early}
use Rattle.load.specs.Needed.{words_to_load, WordsSuffice}
use Rattle.load.proofs.NumbersFrom8.{late-sections, late-not-early}
use Rattle.load.proofs.Answers.{header-broken, header-kept, needed_is}
use Rattle.load.proofs.FirstSections.{first-sections}

module _ (bs : List ℕ) (a : Result ImageView ℕ) (e : a ≡ opened_of bs) where
  pub none_to_load : (r : ℕ) → a ≡ Err r → 0 ≡ words_to_load bs
  unfolding words_to_load
  none_to_load r h =
      let broken = header-broken bs a r e h in
      rw (ne_eqb (header_rule bs) 0 (λ z. broken.1 (broken.0 ∙ z)))

  pub some_to_load : (v : ImageView) → a ≡ Ok v → v.nodes.count + v.children.count + v.named.count + 1 ≡ words_to_load bs
  unfolding words_to_load
  some_to_load v h =
      let kept = header-kept bs a v e h in
      rw (eq-eqb (header_rule bs) 0 kept.0) (needed_is bs v kept.0 kept.1)

-- ---- 7 is no other rule's number

unfoldable pub Other : ℕ → Type 0
Other r = r ≡ 7 → ⊥

module _ (k : ℕ) (d : k ≡ 7 → ⊥) where
  pub other_test : (t : Bool) → Other (unless t k)
  unfolding Other unless
  other_test true e = omega arith
  other_test false e = d e

  pub other-count : (r : ℕ) → Other (counts_as k r)
  unfolding Other counts_as
  other-count zero e = omega arith
  other-count (suc r) e = d e

pub other-both : (a b : ℕ) → Other a → Other b → Other (a ▸ b)
unfolding ◌▸◌
other-both zero b p q = q
other-both (suc a) b p q = p

pub other-first : (n : ℕ) (f : ℕ → ℕ) → ((i : ℕ) → Other (f i)) → Other (first_of n f)
unfolding first_of Other
other-first zero f p = λ e. omega arith
other-first (suc n) f p = other-both (first_of n f) (f n) (other-first n f p) (p n)

header-other : (bs : List ℕ) → Other (header_rule bs)
unfolding header_rule
header-other bs =
    other-both _ _ (other_test 1 (λ e. omega arith) _)
    (other-both _ _ (other_test 2 (λ e. omega arith) _)
    (other-both _ _ (other_test 3 (λ e. omega arith) _) (other-both _ _ (other_test 4 (λ e. omega arith) _) (other_test 5 (λ e. omega arith) _))))

sections-other : (s : Sections) → Other (sections_rule s)
unfolding Other
sections-other s e = true≢false (sym (ap early e) ∙ late-not-early (sections_rule s) (late-sections s))

-- ---- a load's words suffice

quarter : (bs : List ℕ) → header_rule bs ≡ 0 → load_words (sections_of bs) ≤ length bs / 4
quarter bs h =
    let e = (opens bs h).ends 2 (omega arith) in
    let f = first-sections bs in
    let n = needed_is bs (view_of bs) h refl in
    omega arith

load-quarter : (bs : List ℕ) → words_to_load bs ≤ length bs / 4
unfolding words_to_load
load-quarter bs =
    elim (ℕ_discrete (header_rule bs) 0) [
      | yes h ↦ rw (eq-eqb (header_rule bs) 0 h) (quarter bs h)
      | no d ↦ rw (ne_eqb (header_rule bs) 0 d) (omega arith)
    ]

never_seven : (bs : List ℕ) (work : ℕ) → words_to_load bs ≤ work → Other (load_rule bs work)
unfolding words_to_load load_rule checksum_rule
never_seven bs work l =
    elim (ℕ_discrete (header_rule bs) 0) [
      | yes h ↦
          let enough : load_words (sections_of bs) ≤ work = rw (eq-eqb (header_rule bs) 0 h) at l in
          other-both _ _ (header-other bs)
          (other-both _ _ (other_test 6 (λ e. omega arith) _)
          (other-both _ _ (words-pass (load_words (sections_of bs)) work enough) (sections-other (sections_of bs))))
      | no d ↦ stopped (header_rule bs) _ d (header-other bs)
    ]
  where
    words-pass : (n m : ℕ) → n ≤ m → Other (unless (leb n m) 7)
    words-pass n m h = unfold Other unless in rw (le-leb n m h) (λ e. omega arith)

    stopped : (a b : ℕ) → (a ≡ 0 → ⊥) → Other a → Other (a ▸ b)
    stopped zero b d p = absurd (d refl)
    stopped (suc a) b d p = unfold ◌▸◌ in p

pub words_suffice : WordsSuffice
unfolding Other
words_suffice bs = (load-quarter bs, λ work l. never_seven bs work l)
