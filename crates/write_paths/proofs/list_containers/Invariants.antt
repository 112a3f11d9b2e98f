-- `write_paths::list_containers` meets its contract.
use Rattle.write_paths.proofs.ContainerLoops.{Listing}
use Rattle.write_paths.proofs.list_containers.Given as goal

abbrev pub invariant-loop-j : goal.invariant-loop-j
invariant-loop-j l = Listing l.source.version l.nodes l.initial.w l.w l.order l.count l.paths l.found l.j
