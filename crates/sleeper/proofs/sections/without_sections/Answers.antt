-- `sleeper::sections::without_sections` meets its contract.
use Rattle.sleeper.proofs.sections.without_sections.Goals as goal

pub returns : goal.returns
returns c = cc
