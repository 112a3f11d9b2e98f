-- `write_paths::path_index::put_index` meets its contract.
use Rattle.words.proofs.EntryLoop.{Running}
use Rattle.write_paths.specs.PathIndex.{index_words}
use Rattle.write_paths.proofs.path_index.put_index.Given as goal

abbrev pub invariant-loop-k : goal.invariant-loop-k
invariant-loop-k l = Running 0 l.count (index_words l.work l.layout) l.initial.out l.out l.k l.at
