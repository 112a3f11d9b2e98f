-- Acceptance is the base's with one rule added, and the number is the base's, or 16.
use Prim.Native.Nat.{ℕ, zero, suc, ◌<◌}
use mathlib.Core.Path.{◌≡◌, refl, sym, ap, ◌∙◌, subst}
use mathlib.Core.Logic.{◌⊎◌, inl, inr}
use mathlib.Core.List.{List}
use mathlib.Core.Bool.{Bool, true, false}
use native.Mathlib.Omega.{arith}
use Rattle.laws.specs.Refusal.{unless, ◌▸◌, first_of}
use Rattle.laws.proofs.First.{both, then, pass, first_all, first_of_lem}
use Rattle.laws.proofs.Flags.{both_true}
use Rattle.texts.specs.Text.{same}
use Rattle.texts.proofs.Text.{equal-same}
use Rattle.image.specs.Sections.{Sections, index_count, index_word}
use Rattle.image.specs.Header.{sections_of}
use Rattle.index.specs.Paths.{canonical_path, name_or_place_on_way, fits}
use Rattle.index.specs.Index.{index_text, index_entry_rule, index_rule}
use Rattle.load.specs.Load.{sections_rule, load_rule}
use Rattle.promises.proofs.Acceptance.{accepted-right, load-accepted}
use Rattle.promises.proofs.Way.{right-path}
use Rattle.base_rule.specs.Added.{base_fits, base_entry_rule, base_index_rule, base_sections_rule, base_rule, OneSpelt, RuleAdded}

-- ---- the number is the base's, or 16

abbrev Or16 : ℕ → ℕ → Type 0
Or16 x y = (x ≡ y) ⊎ (x ≡ 16)

behind : (a : ℕ) {x y : ℕ} → Or16 x y → Or16 (a ▸ x) (a ▸ y)
unfolding ◌▸◌
behind zero d = d
behind (suc a) d = inl refl

before : (x y b : ℕ) → Or16 x y → Or16 (x ▸ b) (y ▸ b)
unfolding ◌▸◌
before x y b (inl e) = inl (ap (λ (a : ℕ). a ▸ b) e)
before x y b (inr e) = inr (rw e refl)

each : (f g : ℕ → ℕ) → ((j : ℕ) → Or16 (f j) (g j)) → (n : ℕ) → Or16 (first_of n f) (first_of n g)
unfolding first_of ◌▸◌
each f g d zero = inl refl
each f g d (suc n) = by (each f g d n)
  where
    by : Or16 (first_of n f) (first_of n g) → Or16 (first_of n f ▸ f n) (first_of n g ▸ g n)
    by (inl e) = subst (λ (a : ℕ). Or16 (first_of n f ▸ f n) (a ▸ g n)) e (behind (first_of n f) (d n))
    by (inr e) = inr (rw e refl)

module _ (s : Sections) (j : ℕ) where
  -- what fits by ours fits by the base
  base_fits_lem : (i : ℕ) (t : List ℕ) → fits s i t ≡ true → base_fits s i t ≡ true
  unfolding fits base_fits
  base_fits_lem i t e = rw (both_true (name_or_place_on_way s i) (same t (canonical_path s i)) e).1 refl

  fit_number : (i : ℕ) (t : List ℕ) → Or16 (unless (fits s i t) 16) (unless (base_fits s i t) 16)
  unfolding unless
  fit_number i t = by (fits s i t) refl
    where
      by : (b : Bool) → fits s i t ≡ b → Or16 (unless b 16) (unless (base_fits s i t) 16)
      by true e = inl (sym (pass _ 16 (base_fits_lem i t e)))
      by false e = inr refl

  entry-number : Or16 (index_entry_rule s j) (base_entry_rule s j)
  unfolding index_entry_rule base_entry_rule
  entry-number = behind _ (behind _ (behind _ (fit_number (index_word s j 2) (index_text s j))))

  -- an entry of the one spelling fits
  spelt-entry : base_entry_rule s j ≡ 0 → OneSpelt s j → index_entry_rule s j ≡ 0
  unfolding index_entry_rule base_entry_rule fits
  spelt-entry p o =
      let a = both _ _ p in
      let b = both _ _ a.1 in
      let c = both _ _ b.1 in
      then _ _ a.0 (then _ _ b.0 (then _ _ c.0 (pass _ 16 (rw (right-path s (index_word s j 2) o.way, equal-same _ _ o.path) refl))))

module _ (bs : List ℕ) (work : ℕ) where
  abbrev s : Sections
  s = sections_of bs

  number : Or16 (load_rule bs work) (base_rule bs work)
  unfolding load_rule sections_rule index_rule base_rule base_sections_rule base_index_rule
  number =
      behind _ (behind _ (behind _ (behind _ (behind _
      (before _ _ _ (each (index_entry_rule s) (base_entry_rule s) (entry-number s) (index_count s)))))))

  into : load_rule bs work ≡ 0 → base_rule bs work ≡ 0
  into p = by number
    where
      by : Or16 (load_rule bs work) (base_rule bs work) → base_rule bs work ≡ 0
      by (inl e) = sym e ∙ p
      by (inr e) = absurd (omega (arith, sym e ∙ p))

  spelt : load_rule bs work ≡ 0 → (j : ℕ) → j < index_count s → OneSpelt s j
  spelt p j h = let r = (accepted-right bs (load-accepted bs work p)).sections.index j h in record { path = r.path; way = r.way }

  back : base_rule bs work ≡ 0 → ((j : ℕ) → j < index_count s → OneSpelt s j) → load_rule bs work ≡ 0
  unfolding load_rule sections_rule index_rule base_rule base_sections_rule base_index_rule
  back p o =
      let a = both _ _ p in
      let b = both _ _ a.1 in
      let c = both _ _ b.1 in
      let d = both _ _ c.1 in
      let e = both _ _ d.1 in
      let g = both _ _ e.1 in
      then _ _ a.0
      (then _ _ b.0
      (then _ _ c.0
      (then _ _ d.0
      (then _ _ e.0
      (then _ _ (first_of_lem (index_count s) (index_entry_rule s) (λ j h. spelt-entry s j (first_all (index_count s) (base_entry_rule s) g.0 j h) (o j h))) g.1)))))

pub rule_added : RuleAdded
rule_added bs work =
    record { accepts = (λ p. (into bs work p, spelt bs work p), λ q. back bs work q.0 q.1); number = number bs work }
