-- `load::needed::load_without_words` meets its contract.
use mathlib.Core.Path.{ap, ◌∙◌}
use Rattle.image.specs.Refusals.{numbered, refusal_in}
use Rattle.image.proofs.Refused.{refused-alike}
use Rattle.load.proofs.Numbered.{viewed, refused}
use Rattle.load.proofs.needed.load_without_words.Goals as goal

pub returns-in_err-load : goal.returns-in_err-load
returns-in_err-load c =
    refused-alike _ _ _ c.in_err-load.was c.from_residual.ensures.1
    ∙ ap refusal_in c.in_err-load.was
    ∙ (refused _ _ _ c.load.ensures.answer _ (ap numbered c.in_err-load.was)).0

pub returns : goal.returns
returns c = (viewed _ _ _ c.load.ensures.answer _ (ap numbered c.in_ok-load.was)).0
