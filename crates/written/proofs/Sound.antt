-- Demand 3 of every written image: a load accepts it, so what holds of accepted images holds of it.
use Prim.Native.Nat.{◌≤◌}
use native.Mathlib.Omega.{arith}
use Rattle.image.specs.Header.{sections_of}
use Rattle.load.specs.Load.{load_words}
use Rattle.draft_image.specs.Encode.{image_for}
use Rattle.promises.proofs.Sound.{accepted-sound}
use Rattle.promises.proofs.OneSpelling.{accepted_one_spelling}
use Rattle.written.specs.Written.{WrittenSound, WrittenOneSpelling}
use Rattle.written.proofs.Loads.{written-loads}
use Rattle.written.proofs.Bytes.{image-bytes}

pub written-sound : WrittenSound
written-sound ink s work room two words p =
    let needed = load_words (sections_of (image_for ink s)) in
    let enough : load_words (sections_of (image_for ink s)) ≤ load_words (sections_of (image_for ink s)) = omega arith in
    accepted-sound (image_for ink s) needed (image-bytes ink s words) (written-loads ink s work room two words p needed enough)

pub written_one_spelling : WrittenOneSpelling
written_one_spelling ink s work room two words p =
    let needed = load_words (sections_of (image_for ink s)) in
    accepted_one_spelling (image_for ink s) needed (written-loads ink s work room two words p needed (omega arith))
