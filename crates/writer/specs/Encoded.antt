-- What `encode` answers, with the numbers of FORMAT.md's table: the length of the image that was written; the length that the image needs, where
-- the output is too short for it (23); the number of the first rule that is broken.
use Rattle.std.specs.Prelude.{ℕ, Result, Ok, Err}
use Rattle.image.specs.Refusals.{refusal_number}
use Rattle.writer.specs.declared.EncodeError.{EncodeError}
use Rattle.writer.specs.declared.EncodeError.TheVariants as error

pub data Encoded : Type 0 where
  Written : ℕ → Encoded
  Short : ℕ → Encoded
  Refused : ℕ → Encoded

abbrev pub encoded_in : Result ℕ EncodeError → Encoded
encoded_in (Ok length) = Written length
encoded_in (Err (error.Short length)) = Short length
encoded_in (Err (error.Refused refusal)) = Refused (refusal_number refusal)
