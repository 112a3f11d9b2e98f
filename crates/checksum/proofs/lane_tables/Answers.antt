-- The four tables are those of the shifts: computed at the eight powers of two, the other entries are sums of those.
use mathlib.Core.Path.{refl, ◌∙◌}
use Rattle.checksum.specs.Crc.{shift, shifts}
use Rattle.checksum.proofs.Tables.{doubled, lane_doubled, lane-doubled}
use Rattle.checksum.proofs.lane_tables.Goals as goal

pub returns : goal.returns
unfolding lane_doubled doubled shifts shift
returns c = refl ∙ lane-doubled
