-- `records::is_container` meets its contract.
use Rattle.records.proofs.Tests.{other_tag, that_tag}
use Rattle.records.proofs.is_container.Goals as goal

pub returns-then-node_tag-ne-CONTAINER : goal.returns-then-node_tag-ne-CONTAINER
returns-then-node_tag-ne-CONTAINER c = search other_tag

pub returns : goal.returns
returns c = search that_tag
