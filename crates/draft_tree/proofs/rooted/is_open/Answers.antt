-- `draft_tree::rooted::is_open` meets its contract.
use mathlib.Core.Path.{refl}
use native.Mathlib.Omega.{arith}
use Rattle.image.proofs.Widths.{words-some}
use Rattle.draft_tree.proofs.Climbs.{no_container_lem, container_open}
use Rattle.draft_tree.proofs.rooted.is_open.Goals as goal

pub node_word-requires : goal.node_word-requires
node_word-requires c = let to = c in (to.requires.0, omega (arith, words-some to.args.source.version))

pub returns-then-node_word-ne-CONTAINER : goal.returns-then-node_word-ne-CONTAINER
returns-then-node_word-ne-CONTAINER c = no_container_lem _ c.args.work.now _ _ c.node_word.ensures c.if-node_word-ne-CONTAINER.true

pub returns : goal.returns
returns c = container_open _ c.args.work.now _ _ c.node_word.ensures c.if-node_word-ne-CONTAINER.false _ refl
