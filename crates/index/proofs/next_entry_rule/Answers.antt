-- `index::next_entry_rule` meets its contract.
use mathlib.Core.Path.{◌∙◌, refl, sym}
use native.Mathlib.Omega.{arith}
use Rattle.laws.specs.Refusal.{unless}
use Rattle.words.specs.Words.{words_of}
use Rattle.index.specs.Parts.{index_parts}
use Rattle.index.proofs.Readers.{index-texts}
use Rattle.index.proofs.Extended.{extended-found, extended-rule, extended-next}
use Rattle.index.proofs.next_entry_rule.Goals as goal

pub returns-then-k-j : goal.returns-then-k-j
returns-then-k-j c =
    let at = c in
    let answer = c.extended_entry-k in
    sym (extended-next (extended-found _ at.args.j at.requires.tested at.args.work.now answer.result answer.ensures (omega arith)) c.if-k-j.true)

pub returns-then-entry_rises : goal.returns-then-entry_rises
unfolding unless
returns-then-entry_rises c =
    let at = c in
    let s = index_parts at.args.version at.args.nodes.now at.args.index.now at.args.strings.now in
    let answer = c.extended_entry-k in
    sym (extended-rule (extended-found s at.args.j at.requires.tested at.args.work.now answer.result answer.ensures (omega arith))
    ∙ rw (← index-texts s (words_of at.args.index.now) refl at.args.j, ← c.entry_rises.ensures, c.if-entry_rises.true))

pub returns-else-entry_rises : goal.returns-else-entry_rises
unfolding unless
returns-else-entry_rises c =
    let at = c in
    let s = index_parts at.args.version at.args.nodes.now at.args.index.now at.args.strings.now in
    let answer = c.extended_entry-k in
    sym (extended-rule (extended-found s at.args.j at.requires.tested at.args.work.now answer.result answer.ensures (omega arith))
    ∙ rw (← index-texts s (words_of at.args.index.now) refl at.args.j, ← c.entry_rises.ensures, c.if-entry_rises.false))
