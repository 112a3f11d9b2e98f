-- `notes::is_note` meets its contract.
use mathlib.Core.Path.{refl}
use native.Mathlib.Omega.{arith}
use Rattle.texts.specs.Text.{ascii}
use Rattle.notes.specs.Notes.{note_prefix}
use Rattle.notes.proofs.Hiding.{short-note, other_byte, last_byte}
use borrow.Author.Rules.{rules}
use Rattle.notes.proofs.is_note.Goals as goal

pub returns-then-text-lt5 : goal.returns-then-text-lt5
returns-then-text-lt5 c = search (rules, short-note)

pub returns-then-text-ne116 : goal.returns-then-text-ne116
unfolding note_prefix ascii
returns-then-text-ne116 c = other_byte _ 0 116 (omega arith) refl c.if-text-ne116.true

pub returns-then-text-ne101 : goal.returns-then-text-ne101
unfolding note_prefix ascii
returns-then-text-ne101 c = other_byte _ 1 101 (omega arith) refl c.if-text-ne101.true

pub returns-then-text-ne99 : goal.returns-then-text-ne99
unfolding note_prefix ascii
returns-then-text-ne99 c = other_byte _ 2 99 (omega arith) refl c.if-text-ne99.true

pub returns-then-text-ne104 : goal.returns-then-text-ne104
unfolding note_prefix ascii
returns-then-text-ne104 c = other_byte _ 3 104 (omega arith) refl c.if-text-ne104.true

pub returns : goal.returns
returns c = search (rules, last_byte)
