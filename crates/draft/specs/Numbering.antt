-- The numbering of a written image: depth first in reading order.
use Rattle.std.specs.Prelude.{ℕ, List, reverse, cond, get_or}
use Rattle.laws.specs.Lists.{place_in, lists}
use Rattle.words.specs.Words.{NONE, is_none}
use Rattle.image.specs.Sections.{Sections}
use Rattle.tree.specs.Tree.{read_walk, trees}

-- the draft's numbers, in the order of the image's: node, ordered children, named children
unfoldable pub numbering : Sections → List ℕ
numbering s = reverse (read_walk s).seen

-- the draft's number of the image's node j
abbrev pub old_of : List ℕ → ℕ → ℕ
old_of order j = get_or order j 0

-- the image's number of the draft's node n; NONE stays
unfoldable pub new_of : List ℕ → ℕ → ℕ
new_of order n = cond (is_none n) NONE (place_in order n)

-- names on an `unfolding` line what a computation with this module needs
unfoldable pub numberings : Unit {0}
unfolding numbering new_of trees lists
numberings = tt
