-- `write_plan::store` meets its contract.
use Rattle.std.specs.Prelude.{Ok, Err}
use Prim.Native.Nat.{ℕ, ◌+◌}
use mathlib.Core.Path.{sym, subst}
use mathlib.Core.List.{List, []}
use Rattle.texts.specs.Text.{by_key}
use Rattle.write_interning.specs.Uses.{RisesFrom}
use Rattle.write_text_keys.specs.Keys.{key_in}
use Rattle.write_plan.specs.Planned.{layout_with, entries_with, StoredPlan}
use Rattle.write_plan.proofs.SharedTexts.{same_none, same_next, same_kept, keys-same}
use Rattle.write_plan.proofs.StoreAnswers.{stored-many, stored-whole, stored-long}
use borrow.Author.Rules.{rules}
use Rattle.write_plan.proofs.store.Goals as goal

pub returns-then-n-gt4294967295 : goal.returns-then-n-gt4294967295
returns-then-n-gt4294967295 c =
    let to = c.args in
    record {
      answer = stored-many (key_in to.source.version to.nodes.now to.strings.now to.layout to.w.now) to.layout to.counts to.paths [] c.if-n-gt4294967295.true;
      tables = same_none _ _ _ _;
    }

pub intern-requires : goal.intern-requires
intern-requires c =
    let to = c.args in
    let asked = c.requires in
    let share = c.share in
    let keys = keys-same to.strings.now to.layout.at to.layout.texts to.layout.paths to.layout.lengths to.w.now share.new.w asked.texts_bound.0 asked.texts_bound.1
    share.ensures to.source.version to.nodes.now in
    record {
      texts_le_n = search rules;
      rises_from = subst (λ (key : ℕ → List ℕ). RisesFrom (by_key key) to.layout.texts (to.layout.texts + to.paths)) (sym keys) asked.rises_from;
    }

pub returns-in-Some : goal.returns-in-Some
returns-in-Some c =
    let to = c.args in
    let asked = c.requires in
    let if1 = c.if-n-gt4294967295 in
    let share = c.share in
    let intern = c.intern in
    let keys = keys-same to.strings.now to.layout.at to.layout.texts to.layout.paths to.layout.lengths to.w.now share.new.w asked.texts_bound.0 asked.texts_bound.1
    share.ensures to.source.version to.nodes.now in
    record {
      answer = subst (λ (key : ℕ → List ℕ). StoredPlan key to.layout to.counts to.paths intern.new.w (Ok (layout_with to.layout to.layout.texts to.paths, entries_with to.counts to.paths c.in-Some.strings))) keys
          (stored-whole (key_in to.source.version to.nodes.now to.strings.now to.layout share.new.w) to.layout to.counts to.paths _ _ intern.new.w if1.false
          intern.ensures.result_value intern.ensures.offsets c.in-Some.is);
      tables = same_next _ _ _ _ _ _ share.ensures (same_kept _ _ _ _ _ intern.ensures.w_unchanged);
    }

pub returns-in-None : goal.returns-in-None
returns-in-None c =
    let to = c.args in
    let asked = c.requires in
    let if1 = c.if-n-gt4294967295 in
    let share = c.share in
    let intern = c.intern in
    let keys = keys-same to.strings.now to.layout.at to.layout.texts to.layout.paths to.layout.lengths to.w.now share.new.w asked.texts_bound.0 asked.texts_bound.1
    share.ensures to.source.version to.nodes.now in
    record {
      answer = subst (λ (key : ℕ → List ℕ). StoredPlan key to.layout to.counts to.paths [] (Err 23)) keys
          (stored-long (key_in to.source.version to.nodes.now to.strings.now to.layout share.new.w) to.layout to.counts to.paths _ [] if1.false intern.ensures.result_value
          c.in-None.is);
      tables = same_next _ _ _ _ _ _ share.ensures (same_kept _ _ _ _ _ intern.ensures.w_unchanged);
    }
