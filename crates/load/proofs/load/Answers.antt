-- `load::load` meets its contract: the header, then the rest.
use mathlib.Core.Path.{ap, ◌∙◌}
use Rattle.image.specs.Refusals.{numbered}
use Rattle.image.proofs.Refused.{refused-numbered}
use Rattle.load.proofs.Answers.{header-kept, header-broken, header_refused, header-early, refused-load, left-alone_at}
use Rattle.load.proofs.load.Goals as goal

pub load_view-requires : goal.load_view-requires
load_view-requires c =
    let kept = header-kept _ _ _ c.new.ensures (ap numbered c.in_ok-new.was) in
    record {
      bytes_value = kept.0;
      view_value = kept.1;
    }

pub returns-in_err-new : goal.returns-in_err-new
returns-in_err-new c =
    let broken = header-broken _ _ _ c.new.ensures (ap numbered c.in_err-new.was) in
    let e = header_refused _ _ _ broken.0 broken.1 in
    record {
      answer = refused-numbered _ _ _ c.in_err-new.was c.from_residual.ensures.1 ∙ refused-load _ _ _ e broken.1;
      words = left-alone_at _ _ _ _ e (header-early _ _ broken.0 broken.1);
    }
