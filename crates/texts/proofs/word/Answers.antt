-- The eight bytes that are read are those of the list.
use native.Mathlib.Omega.{arith}
use Rattle.texts.proofs.Blocks.{eight_bytes}
use Rattle.texts.proofs.word.Goals as goal

pub returns : goal.returns
returns c =
    record {
      room = c.requires;
      number = eight_bytes c.args.s.now c.args.at c.from_be_bytes.result c.requires (omega (arith, c.from_be_bytes.ensures));
      bytes = λ k. omega (arith, c.type_inv.s k);
    }
