-- `index::has_name_or_place` meets its contract.
use mathlib.Core.Path.{◌≡◌, sym, ◌∙◌}
use mathlib.Core.List.{[]}
use mathlib.Core.Bool.{not, or-true, or-false}
use borrow.Author.Tests.{eq-eqb, ne_eqb}
use Rattle.words.specs.Words.{NONE}
use Rattle.index.specs.declared.PathNode.{PathNode}
use Rattle.index.specs.Paths.{no_name, name_or_place_by, name_or_place}
use Rattle.index.specs.Parts.{index_parts}
use Rattle.index.proofs.has_name_or_place.Goals as goal

pub returns-then-node : goal.returns-then-node
returns-then-node c =
    let node : PathNode = c.path_node-node.result in
    let read : name_or_place_by node.place node.offset node.len ≡ name_or_place (index_parts c.args.version c.args.nodes.now [] []) c.args.at =
    let e = c.path_node-node.ensures in λ j. name_or_place_by (e j).place (e j).offset (e j).len in
    let at = c in
    sym (rw (ne_eqb node.place NONE c.if-node.true) (or-true (not (no_name node.offset node.len)))) ∙ read

pub returns : goal.returns
returns c =
    let node : PathNode = c.path_node-node.result in
    let read : name_or_place_by node.place node.offset node.len ≡ name_or_place (index_parts c.args.version c.args.nodes.now [] []) c.args.at =
    let e = c.path_node-node.ensures in λ j. name_or_place_by (e j).place (e j).offset (e j).len in
    let at = c in
    sym (rw (eq-eqb node.place NONE c.if-node.false, c.no_name.ensures) (or-false (not (no_name node.offset node.len)))) ∙ read
