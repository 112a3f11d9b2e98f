use Rattle.write_sorting.proofs.+sort.Given as goal

-- proposed from what the function passes where it calls itself
abbrev pub decreases-sort : goal.decreases-sort
decreases-sort l = l.n
