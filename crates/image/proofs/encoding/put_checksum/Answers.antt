-- `image::encoding::put_checksum` meets its contract.
use Rattle.image.proofs.HeaderBytes.{sum_put}
use Rattle.image.proofs.encoding.put_checksum.Goals as goal

pub returns : goal.returns
returns c = λ ink s e. sum_put ink s _ _ _ e c.checksum-sum.ensures c.put_word.ensures
