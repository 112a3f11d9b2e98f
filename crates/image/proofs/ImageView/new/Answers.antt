-- `image::ImageView::new` meets its contract.
use mathlib.Core.Path.{sym, ◌∙◌}
use Rattle.image.proofs.Refused.{passed-zero}
use Rattle.image.proofs.Rows.{opened-refused, opened_view}
use Rattle.image.proofs.OpenedHeader.{opens}
use Rattle.image.proofs.ImageView.new.Goals as goal

pub returns-in_err-header_rule : goal.returns-in_err-header_rule
returns-in_err-header_rule c = opened-refused _ _ c.header_rule.ensures _ _ c.in_err-header_rule.was c.from_residual.ensures.1

pub view_at-requires : goal.view_at-requires
view_at-requires c = (opens _ (passed-zero _ _ c.in_ok-header_rule.was _ c.header_rule.ensures)).long

pub returns : goal.returns
returns c = opened_view _ _ c.header_rule.ensures _ _ c.in_ok-header_rule.was c.view_at.ensures
