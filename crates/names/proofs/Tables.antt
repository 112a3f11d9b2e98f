-- What a table says of its names: where they lie, and that a text is compared with the only one that it may be.
use Rattle.std.specs.Prelude.{None, Option, Some}
use Prim.Native.Nat.{ℕ, ◌+◌, ◌-◌, ◌%◌, ◌≤◌, ◌<◌}
use mathlib.Core.Path.{◌≡◌, refl, sym, ap, ◌∙◌}
use mathlib.Core.List.{List, []}
use mathlib.Core.Bool.{true}
use native.Mathlib.Omega.{arith}
use lib.Dec.{ltb}
use lib.ListN.{length, get_or}
use borrow.Author.Tests.{eqb-true, ltb-true, leb-true}
use Rattle.std.proofs.lemmas.List.FromFn.{length-map-range_with_len, get_or-map-range_with_len}
use Rattle.std.proofs.Math.Nat.{mod-lt}
use Rattle.laws.specs.Counted.{all_of}
use Rattle.laws.proofs.Flags.{both_true, all_at}
use Rattle.names.specs.declared.table.Table.{Table}
use Rattle.names.specs.Names.{number_in}
use Rattle.names.specs.Spelling.{hash_of}
use Rattle.names.specs.Table.{name_at, listed, lies, leads, is_table}
use Rattle.names.proofs.Distinct.{number-placed, held-number}

module _ {n : ℕ} (s : Table n) where
  abbrev pub names : List (List ℕ)
  names = listed s.names.now s.starts.now

  abbrev start : ℕ → ℕ
  start k = get_or s.starts.now k 0

  pub count : length names ≡ length s.starts.now - 1
  unfolding listed
  count = length-map-range_with_len (name_at s.names.now s.starts.now) 0 (length s.starts.now - 1)

  pub name_at_lem : (k : ℕ) → k < length names → get_or names k [] ≡ name_at s.names.now s.starts.now k
  unfolding listed
  name_at_lem k h = get_or-map-range_with_len (name_at s.names.now s.starts.now) 0 (length s.starts.now - 1) k k [] (rw count at h) (omega arith)

  parts : (all_of (length s.starts.now - 1) (lies s.names.now s.starts.now) ≡ true)
      × (all_of (length s.starts.now - 1) (leads s.names.now s.starts.now s.by_hash.now) ≡ true) × (ltb 0 (length s.by_hash.now) ≡ true)
      × (all_of (length s.by_hash.now) (λ i. ltb (get_or s.by_hash.now i 0) (length s.starts.now - 1)) ≡ true)
  unfolding is_table
  parts = let p = both_true _ _ s.right in let q = both_true _ _ p.0 in let r = both_true _ _ p.1 in (q.0, q.1, r.0, r.1)

  -- a name lies inside
  pub inside : (k : ℕ) → k < length names → (start k ≤ start (k + 1)) × (start (k + 1) ≤ length s.names.now) × (start (k + 1) - start k ≤ 11)
  inside k h =
      let p = both_true _ _ (all_at _ (lies s.names.now s.starts.now) parts.0 k (rw count at h)) in
      let q = both_true _ _ p.0 in
      (leb-true _ _ q.0, leb-true _ _ q.1, leb-true _ _ p.1)

  pub some_hash : 0 < length s.by_hash.now
  some_hash = ltb-true 0 (length s.by_hash.now) parts.2

  -- the number at a hash
  abbrev pub entry : ℕ → ℕ
  entry h = get_or s.by_hash.now (h % length s.by_hash.now) 0

  -- their count is the type's
  pub sized_place : (h : ℕ) → h % n ≡ h % length s.by_hash.now
  sized_place h = rw s.sized refl

  -- is a name's
  pub entry-below : (h : ℕ) → entry h < length names
  entry-below h = rw count (ltb-true _ _ (all_at _ (λ i. ltb (get_or s.by_hash.now i 0) (length s.starts.now - 1)) parts.3 (h % length s.by_hash.now) (mod-lt h some_hash)))

  -- and at a text's hash it is the only one that the text may have
  entry-only : (t : List ℕ) (k : ℕ) → k < length names → t ≡ get_or names k [] → entry (hash_of t) ≡ k
  entry-only t k h e = rw (e ∙ name_at_lem k h) (eqb-true _ _ (all_at _ (leads s.names.now s.starts.now s.by_hash.now) parts.1 k (rw count at h)))

  module _ (t : List ℕ) (h : ℕ) (is : h ≡ hash_of t) where
    -- the text is the name that it is compared with
    pub number_yes : get_or names (entry h) [] ≡ t → Some (entry h) ≡ number_in names t
    number_yes e = by (number_in names t) refl
      where
        by : (o : Option ℕ) → number_in names t ≡ o → Some (entry h) ≡ o
        by None p = absurd (held-number names t (entry h) (entry-below h) (sym e) p)
        by (Some j) p = let w = number-placed names t j p in ap Some (ap entry is ∙ entry-only t j w.below w.text)

    -- it is not, and can be no other
    pub number_no : (get_or names (entry h) [] ≡ t → ⊥) → None ≡ number_in names t
    number_no d = by (number_in names t) refl
      where
        by : (o : Option ℕ) → number_in names t ≡ o → None ≡ o
        by None p = refl
        by (Some j) p =
            let w = number-placed names t j p in
            absurd (d (ap (λ k. get_or names k []) (ap entry is ∙ entry-only t j w.below w.text) ∙ sym w.text))
