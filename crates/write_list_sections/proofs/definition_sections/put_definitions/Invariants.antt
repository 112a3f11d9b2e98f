-- `write_list_sections::definition_sections::put_definitions` meets its contract.
use Prim.Native.Nat.{◌/◌}
use lib.ListN.{length}
use Rattle.write_list_sections.proofs.DefinitionLoops.{Defining}
use Rattle.image.specs.Sections.{definition_words}
use Rattle.write_list_sections.proofs.definition_sections.put_definitions.Given as goal

abbrev pub invariant-loop-d : goal.invariant-loop-d
invariant-loop-d l = Defining l.definitions l.w l.offsets (length l.definitions / definition_words) l.initial.out l.out l.k l.at l.d
