-- Flags in a node's words.
use Rattle.std.specs.Prelude.{ℕ, ◌/◌, ◌%◌, Bool, not, eqb}
use Rattle.image.specs.declared.NodeRecord.{NodeRecord}

-- the lowest bit
abbrev pub odd : ℕ → Bool
odd w = not (eqb (w % 2) 0)

-- a divert is external: the second bit of its flags
abbrev pub external : NodeRecord → Bool
external r = odd (r.f6 / 2)
