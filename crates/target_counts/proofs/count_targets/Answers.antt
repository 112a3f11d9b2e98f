-- `target_counts::count_targets` meets its contract.
use Rattle.target_counts.proofs.Answers.{count_few, image-short, image-counted}
use borrow.Author.Rules.{rules}
use Rattle.target_counts.proofs.count_targets.Goals as goal

pub returns-then-summary-count : goal.returns-then-summary-count
returns-then-summary-count c =
    record {
      number = (image-short _ _ _ c.nodes_part-part.ensures _ c.node_count-count.ensures _ c.if-summary-count.true).0;
      words = (image-short _ _ _ c.nodes_part-part.ensures _ c.node_count-count.ensures _ c.if-summary-count.true).1;
    }

pub image_nodes-requires : goal.image_nodes-requires
image_nodes-requires c = (c.node_count-count.ensures, c.if-summary-count.false, count_few c.args.bytes.now c.args.view _ c.nodes_part-part.ensures _ c.node_count-count.ensures (search rules))

pub returns : goal.returns
returns c =
    record {
      number = (image-counted _ _ _ c.nodes_part-part.ensures _ c.node_count-count.ensures _ c.if-summary-count.false _ c.image_nodes.ensures).0;
      words = (image-counted _ _ _ c.nodes_part-part.ensures _ c.node_count-count.ensures _ c.if-summary-count.false _ c.image_nodes.ensures).1;
    }
