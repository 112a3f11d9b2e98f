-- A refusal that `?` hands on as an error of the writer.
use Rattle.std.specs.Prelude.{◌≡◌, ℕ, Result, Ok, Err, IsErrAnd}
use mathlib.Core.Path.{ap}
use Rattle.image.specs.declared.refusal.Refusal.{Refusal}
use Rattle.image.specs.Refusals.{refusal_number}
use Rattle.writer.specs.declared.EncodeError.{EncodeError}
use Rattle.writer.specs.declared.EncodeError.TheVariants as error
use Rattle.writer.specs.Encoded.{Encoded, Refused, encoded_in}

pub refused-encoded : (e : Refusal) (q : Result ℕ EncodeError) → IsErrAnd q (λ x. x ≡ error.Refused e) → encoded_in q ≡ Refused (refusal_number e)
refused-encoded e (Ok n) h = absurd h
refused-encoded e (Err x) h = ap (λ (y : EncodeError). encoded_in (Err y)) h
