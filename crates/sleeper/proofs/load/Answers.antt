-- `sleeper::load` meets its contract.
use mathlib.Core.Path.{ap, ◌∙◌}
use Rattle.image.specs.Refusals.{numbered}
use Rattle.image.proofs.Refused.{refused-numbered}
use Rattle.sleeper.proofs.Reading.{refused-seen, view-seen}
use Rattle.sleeper.proofs.load.Goals as goal

pub returns-in_err-view : goal.returns-in_err-view
returns-in_err-view c =
    record {
      answer = refused-numbered _ _ _ c.in_err-view.was c.from_residual.ensures.1 ∙ refused-seen _ _ _ c.load.ensures.answer _ (ap numbered c.in_err-view.was);
      words = c.load.ensures.words;
    }

pub returns : goal.returns
returns c =
    record {
      answer = view-seen _ _ _ c.load.ensures.answer _ (ap numbered c.in_ok-view.was) _ c.without_places.ensures;
      words = c.load.ensures.words;
    }
