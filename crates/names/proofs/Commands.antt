-- The commands and their names, one-to-one.
use Rattle.std.specs.Prelude.{Some}
use Prim.Native.Nat.{ℕ, ◌<◌}
use mathlib.Core.Path.{◌≡◌, refl}
use mathlib.Core.List.{List, []}
use lib.ListN.{get_or}
use Rattle.names.specs.Names.{commands, number_in, names}
use Rattle.names.specs.Spelling.{element_at}
use Rattle.names.specs.declared.control_command.CommandType.{CommandType}
use Rattle.names.specs.declared.control_command.CommandType.TheVariants.{EvalStart, EvalOutput, EvalEnd, Duplicate, PopEvaluatedValue, PopFunction, PopTunnel, BeginString, EndString, NoOp, ChoiceCount, Turns, TurnsSince, ReadCount, Random, SeedRandom, VisitIndex, SequenceShuffleIndex, StartThread, Done, End, ListFromInt, ListRange, ListRandom, BeginTag, EndTag}
use Rattle.names.specs.ControlCommand.{command_number, command_types}
use Rattle.names.proofs.Distinct.{distinct, number-placed, place-number}
use Rattle.names.proofs.Numbers.{Numbered, in_order, number-below}

told : (c : CommandType) → element_at command_types (command_number c) ≡ Some c
unfolding element_at command_types
told EvalStart = refl
told EvalOutput = refl
told EvalEnd = refl
told Duplicate = refl
told PopEvaluatedValue = refl
told PopFunction = refl
told PopTunnel = refl
told BeginString = refl
told EndString = refl
told NoOp = refl
told ChoiceCount = refl
told Turns = refl
told TurnsSince = refl
told ReadCount = refl
told Random = refl
told SeedRandom = refl
told VisitIndex = refl
told SequenceShuffleIndex = refl
told StartThread = refl
told Done = refl
told End = refl
told ListFromInt = refl
told ListRange = refl
told ListRandom = refl
told BeginTag = refl
told EndTag = refl

-- the commands, numbered
pub commands_numbered : Numbered command_number command_types commands
unfolding command_types names distinct in_order
commands_numbered = record { told = told; ordered = refl; counts = refl; apart = refl }

pub below : (c : CommandType) → command_number c < 26
unfolding names
below c = number-below commands_numbered c

-- one-to-one, in plain terms
pub name-number : (k : ℕ) → k < 26 → number_in commands (get_or commands k []) ≡ Some k
unfolding names
name-number k h = place-number commands commands_numbered.apart k h

pub number-name : (t : List ℕ) (k : ℕ) → number_in commands t ≡ Some k → (k < 26) × (t ≡ get_or commands k [])
unfolding names
number-name t k p = let w = number-placed commands t k p in (w.below, w.text)
