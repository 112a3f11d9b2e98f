-- What storing the texts answers.
use Rattle.std.specs.Prelude.{None, Option, Some, ℕ, Ok, Err}
use Prim.Native.Nat.{ℕ, ◌+◌, ◌^◌, ◌≤◌, ◌<◌}
use mathlib.Core.Path.{◌≡◌, refl, sym, ap, ◌∙◌}
use mathlib.Core.Logic.{inl, inr}
use mathlib.Core.List.{List}
use mathlib.Core.Bool.{Bool, true, false, cond}
use native.Mathlib.Omega.{arith}
use lib.ListN.{length}
use lib.Dec.{ltb}
use borrow.Author.Tests.{ltb-true, ltb-false}
use Rattle.image.specs.declared.EntryCounts.{EntryCounts}
use Rattle.draft.specs.declared.layout.Layout.{Layout}
use Rattle.write_interning.specs.Uses.{stored_of, texts_joined, stored_answer, Offsets}
use Rattle.write_plan.specs.Planned.{layout_with, entries_with, StoredPlan}

tag : Option ℕ → ℕ
tag (Some n) = 0
tag None = 1

size : Option ℕ → ℕ
size (Some n) = n
size None = 0

whole_by : (total m : ℕ) (b : Bool) → ltb total (2 ^ 32) ≡ b → Some m ≡ cond b (Some total) None → (m ≡ total) × (total < 2 ^ 32)
unfolding tag size
whole_by total m true e q = (ap {B = ℕ} size q, ltb-true total (2 ^ 32) e)
whole_by total m false e q = let z : ◌≡◌ {A = ℕ} 0 1 = ap {B = ℕ} tag q in absurd (omega arith)

long_by : (total : ℕ) (b : Bool) → ltb total (2 ^ 32) ≡ b → None ≡ cond b (Some total) None → 2 ^ 32 ≤ total
unfolding tag
long_by total true e q = let z : ◌≡◌ {A = ℕ} 1 0 = ap {B = ℕ} tag q in absurd (omega arith)
long_by total false e q = ltb-false total (2 ^ 32) e

module _ (key : ℕ → List ℕ) (l : Layout) (c : EntryCounts) (paths : ℕ) (a : Option ℕ) where
  abbrev total : ℕ
  total = length (texts_joined (stored_of key (l.texts + paths)))

  pub stored-whole : (m : ℕ) (w : List ℕ) → l.texts + paths ≤ 4294967295 → a ≡ stored_answer total → (total < 2 ^ 32 → Offsets key (l.texts + paths) w)
      → a ≡ Some m → StoredPlan key l c paths w (Ok (layout_with l l.texts paths, entries_with c paths m))
  unfolding stored_answer
  stored-whole m w h e o q =
      let x = whole_by total m (ltb total (2 ^ 32)) refl (sym q ∙ e) in
      (refl, ap (entries_with c paths) x.0, h, omega (arith, x.1), o x.1)

  pub stored-long : (w : List ℕ) → l.texts + paths ≤ 4294967295 → a ≡ stored_answer total → a ≡ None → StoredPlan key l c paths w (Err 23)
  unfolding stored_answer
  stored-long w h e q = (refl, inr (h, omega (arith, long_by total (ltb total (2 ^ 32)) refl (sym q ∙ e))))

pub stored-many : (key : ℕ → List ℕ) (l : Layout) (c : EntryCounts) (paths : ℕ) (w : List ℕ) → 4294967295 < l.texts + paths → StoredPlan key l c paths w (Err 23)
stored-many key l c paths w h = (refl, inl h)
