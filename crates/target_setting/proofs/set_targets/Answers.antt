-- `target_setting::set_targets` meets its contract.
use Prim.Native.Nat.{ℕ}
use mathlib.Core.Path.{◌≡◌, ap}
use mathlib.Core.List.{List}
use native.Mathlib.Omega.{arith}
use Rattle.draft.specs.declared.path_list.PathEntry.{PathEntry}
use Rattle.draft.specs.PathList.{path_origin}
use Rattle.draft.specs.PathEntries.{path_entry}
use Rattle.draft.proofs.NodeCount.{below-count}
use Rattle.target_setting.proofs.SetLoop.{set-start, set-read, set_room, set-follower, set_next, set_end}
use Rattle.target_setting.proofs.set_targets.Goals as goal

-- the node of an entry that was read
origin : (paths : List ℕ) (k : ℕ) (entry : PathEntry) → entry ≡ path_entry paths k → entry.node ≡ path_origin paths k
origin paths k entry e = ap (λ (x : PathEntry). x.node) e

pub loop-k-init : goal.loop-k-init
loop-k-init c = set-start _ _ _ _

pub overflow_mul-i : goal.overflow_mul-i
overflow_mul-i c =
    let fits = set_room _ _ _ _ _ _ c.loop-k.invariant c.requires (below-count _ _ c.path_count-count.ensures _ c.loop-k-test.true) _ (origin _ _ _ c.entry_at-i.ensures) _ c.node_words.ensures in
    omega (arith, fits)

pub offset_bounds-work-i : goal.offset_bounds-work-i
offset_bounds-work-i c =
    let read = set-read _ _ _ _ _ _ c.loop-k.invariant c.requires (below-count _ _ c.path_count-count.ensures _ c.loop-k-test.true) _ (origin _ _ _ c.entry_at-i.ensures) in
    omega (arith, read)

pub bounds-work-i : goal.bounds-work-i
bounds-work-i c =
    let read = set-read _ _ _ _ _ _ c.loop-k.invariant c.requires (below-count _ _ c.path_count-count.ensures _ c.loop-k-test.true) _ (origin _ _ _ c.entry_at-i.ensures) in
    omega (arith, read)

pub set_target-requires : goal.set_target-requires
set_target-requires c =
    let below = below-count _ _ c.path_count-count.ensures _ c.loop-k-test.true in
    let node = origin _ _ _ c.entry_at-i.ensures in
    record {
      common_words_in_bounds = set_room _ _ _ _ _ _ c.loop-k.invariant c.requires below _ node _ c.node_words.ensures;
      at_value = set-follower _ _ _ _ _ _ c.loop-k.invariant c.requires below _ node _ c.node_words.ensures;
    }

pub loop-k-preserved : goal.loop-k-preserved
loop-k-preserved c =
    let below = below-count _ _ c.path_count-count.ensures _ c.loop-k-test.true in
    let node = origin _ _ _ c.entry_at-i.ensures in
    set_next _ _ _ _ _ _ c.loop-k.invariant c.requires below _ node _ c.node_words.ensures _ c.set_target.ensures

pub returns : goal.returns
returns c = set_end _ _ _ _ _ _ c.loop-k.invariant c.requires _ c.path_count-count.ensures c.loop-k-test.false
