-- What a walk reads of a draft, and where it begins.
use Rattle.std.specs.Prelude.{ℕ, List, [], drop, None, Option, Some}
use Rattle.image.specs.Sections.{Sections}
use Rattle.draft.specs.Source.{draft_of}
use Rattle.walks.specs.Walk.{components, steps}

-- a draft that has nodes, their entries and strings alone
abbrev pub walked : ℕ → List ℕ → List ℕ → List ℕ → List ℕ → Sections
walked version nodes children named strings = draft_of version nodes children named [] [] [] strings

-- the walk that begins there, along a path and with the names that are lent
abbrev pub walk_from : Sections → Option (ℕ × ℕ) → List ℕ → List ℕ → Option ℕ
walk_from s None names path = None
walk_from s (Some (from, first)) names path = steps s (Some from) (components names (drop first path))
