-- The checksum of all bytes is inverted at the end.
use borrow.Author.Rules.{rules}
use Rattle.checksum.specs.Crc.{crc32}
use Rattle.checksum.proofs.crc.Goals as goal

pub returns : goal.returns
unfolding crc32
returns c = search rules
