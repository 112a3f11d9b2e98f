-- `image::header::section_at` meets its contract.
use Rattle.image.proofs.header.section_at.Goals as goal

pub returns : goal.returns
returns c = rw (c.word.ensures, c.word-2.ensures)
