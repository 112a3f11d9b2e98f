-- `write_text_keys::key_length` meets its contract.
use mathlib.Core.Path.{sym, ◌∙◌}
use lib.ListN.{drop}
use Rattle.laws.proofs.Lists.{to_end}
use Rattle.write_text_keys.proofs.Uses.{key_length_lem}
use Rattle.write_text_keys.proofs.key_length.Goals as goal

pub returns : goal.returns
returns c =
    let to = c.args in
    λ version nodes. c.length_of.ensures ∙ rw (to_end to.layout.at to.w.now) (sym (key_length_lem version nodes to.strings.now to.layout.texts to.layout.paths to.layout.lengths (drop to.layout.at to.w.now) to.a))
