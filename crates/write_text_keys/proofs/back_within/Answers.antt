-- `write_text_keys::back_within` meets its contract.
use borrow.Author.Rules.{rules}
use mathlib.Core.Path.{sym}
use Rattle.write_text_keys.proofs.BackwardReads.{back_in}
use Rattle.write_text_keys.proofs.back_within.Goals as goal

pub returns : goal.returns
returns c = λ v nodes. sym (back_in v nodes c.args.count c.args.c (search rules))
