-- The work words that a draft needs and those that are lent, by the comparisons that the code makes.
use Rattle.std.specs.Prelude.{None, Some}
use Prim.Native.Nat.{ℕ, ◌+◌, ◌*◌, ◌-◌, ◌/◌, ◌≤◌, ◌<◌}
use mathlib.Core.Path.{◌≡◌, refl, ap}
use mathlib.Core.Bool.{Bool, true, false, cond}
use native.Mathlib.Omega.{arith}
use mir.Syntax.{w64}
use mir.Val.{Fits}
use lib.Dec.{leb}
use borrow.Author.Tests.{le-leb, lt-leb, leb-true}
use Rattle.laws.specs.Refusal.{unless}
use Rattle.image.specs.declared.EntryCounts.{EntryCounts}
use Rattle.draft.specs.Needs.{words_for, needed_of, needed_number}

fewer : (needed work : ℕ) → work < needed → None ≡ needed_of needed work
unfolding needed_of
fewer needed work h = rw (lt-leb needed work h)

-- row 7
pub needed-number : (needed work : ℕ) → needed_number (needed_of needed work) ≡ unless (leb needed work) 7
unfolding needed_of unless
needed-number needed work = go (leb needed work)
  where
    go : (b : Bool) → needed_number (cond b (Some needed) None) ≡ unless b 7
    go true = refl
    go false = refl

-- an answer that says how many are needed
pub needed-words : (needed work n : ℕ) → needed_of needed work ≡ Some n → (n ≡ needed) × (needed ≤ work)
unfolding needed_of
needed-words needed work n e = go (leb needed work) refl e
  where
    go : (b : Bool) → leb needed work ≡ b → cond b (Some needed) None ≡ Some n → (n ≡ needed) × (needed ≤ work)
    go true q p = (cc, leb-true needed work q)
    go false q p = let z : ◌≡◌ {A = ℕ} 0 1 = cc in absurd (omega arith)

-- what is left of a quarter of the words goes down
pub after-nodes : (n work : ℕ) → n ≤ work / 4 / 4 → work / 4 - n * 4 + n * 4 ≡ work / 4
after-nodes n work h = omega arith

pub after_next : (left used count all : ℕ) → left + used ≡ all → count ≤ left → left - count + (used + count) ≡ all
after_next left used count all e h = omega arith

-- four times what is taken of a quarter of the words is no more than they are
pub quarter : (work taken : ℕ) → Fits w64 work → Fits w64 ((work / 4 - taken) * 4)
quarter work taken h = omega arith

module _ (k : EntryCounts) (work : ℕ) where
  abbrev needed : ℕ
  needed = words_for k

  pub few_nodes : work / 4 / 4 < k.nodes → None ≡ needed_of needed work
  few_nodes h = fewer needed work (omega arith)

  pub few_children : (left : ℕ) → left + k.nodes * 4 ≡ work / 4 → left < k.children → None ≡ needed_of needed work
  few_children left e h = fewer needed work (omega arith)

  pub few_named : (left : ℕ) → left + (k.nodes * 4 + k.children) ≡ work / 4 → left < k.named → None ≡ needed_of needed work
  few_named left e h = fewer needed work (omega arith)

  pub few_definitions : (left : ℕ) → left + (k.nodes * 4 + k.children + k.named) ≡ work / 4 → left < k.definitions → None ≡ needed_of needed work
  few_definitions left e h = fewer needed work (omega arith)

  pub few_items : (left : ℕ) → left + (k.nodes * 4 + k.children + k.named + k.definitions) ≡ work / 4 → left < k.items → None ≡ needed_of needed work
  few_items left e h = fewer needed work (omega arith)

  pub few_payload : (left : ℕ) → left + (k.nodes * 4 + k.children + k.named + k.definitions + k.items) ≡ work / 4 → left < k.payload → None ≡ needed_of needed work
  few_payload left e h = fewer needed work (omega arith)

  pub enough : (left : ℕ) → left + (k.nodes * 4 + k.children + k.named + k.definitions + k.items + k.payload) ≡ work / 4 → Some ((work / 4 - left) * 4) ≡ needed_of needed work
  unfolding needed_of
  enough left e =
      let same : (work / 4 - left) * 4 ≡ needed = omega arith in
      rw (le-leb needed work (omega arith)) (ap Some same)
