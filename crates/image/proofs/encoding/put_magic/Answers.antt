-- `image::encoding::put_magic` meets its contract.
use Rattle.texts.specs.Text.{ascii}
use Rattle.image.specs.Header.{magic}
use Rattle.image.proofs.encoding.put_magic.Goals as goal

pub returns : goal.returns
unfolding magic ascii
returns c = c.put_bytes.ensures
