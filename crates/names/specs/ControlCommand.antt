-- The commands, numbered in the order of their names.
use Rattle.std.specs.Prelude.{ℕ, List, [], ◌∷◌, Option}
use Rattle.names.specs.Names.{commands}
use Rattle.names.specs.Spelling.{element_named}
use Rattle.names.specs.declared.control_command.CommandType.{CommandType}
use Rattle.names.specs.declared.control_command.CommandType.TheVariants.{EvalStart, EvalOutput, EvalEnd, Duplicate, PopEvaluatedValue, PopFunction, PopTunnel, BeginString, EndString, NoOp, ChoiceCount, Turns, TurnsSince, ReadCount, Random, SeedRandom, VisitIndex, SequenceShuffleIndex, StartThread, Done, End, ListFromInt, ListRange, ListRandom, BeginTag, EndTag}

-- the place of the command's name in the list
abbrev pub command_number : CommandType → ℕ
command_number EvalStart = 0
command_number EvalOutput = 1
command_number EvalEnd = 2
command_number Duplicate = 3
command_number PopEvaluatedValue = 4
command_number PopFunction = 5
command_number PopTunnel = 6
command_number BeginString = 7
command_number EndString = 8
command_number NoOp = 9
command_number ChoiceCount = 10
command_number Turns = 11
command_number TurnsSince = 12
command_number ReadCount = 13
command_number Random = 14
command_number SeedRandom = 15
command_number VisitIndex = 16
command_number SequenceShuffleIndex = 17
command_number StartThread = 18
command_number Done = 19
command_number End = 20
command_number ListFromInt = 21
command_number ListRange = 22
command_number ListRandom = 23
command_number BeginTag = 24
command_number EndTag = 25

-- in the order of their numbers
unfoldable pub command_types : List CommandType
command_types =
    EvalStart ∷ EvalOutput ∷ EvalEnd ∷ Duplicate ∷ PopEvaluatedValue ∷ PopFunction ∷ PopTunnel ∷ BeginString ∷ EndString ∷ NoOp ∷ ChoiceCount ∷ Turns
    ∷ TurnsSince ∷ ReadCount ∷ Random ∷ SeedRandom ∷ VisitIndex ∷ SequenceShuffleIndex ∷ StartThread ∷ Done ∷ End ∷ ListFromInt ∷ ListRange
    ∷ ListRandom ∷ BeginTag ∷ EndTag ∷ []

-- the command that a text names
abbrev pub command_named : List ℕ → Option CommandType
command_named t = element_named command_types commands t
