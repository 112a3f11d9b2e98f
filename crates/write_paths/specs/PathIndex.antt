-- What the writer of the index reads out of the work words.
use Rattle.std.specs.Prelude.{ℕ, ◌+◌, ◌≤◌, ◌<◌, ◌≡◌, List, [], ◌∷◌, length, get_or}
use Rattle.image.specs.Sections.{Sections}
use Rattle.draft.specs.Numbering.{old_of}
use Rattle.draft_image.specs.Strings.{by_path, path_of}
use Rattle.draft.specs.declared.layout.Layout.{Layout}

-- the words are there
pub record IndexFit (w : List ℕ) (l : Layout) (count : ℕ) : Type 0 where
  pub nodes : l.at + l.paths + count ≤ length w
  pub offsets : l.offsets + l.texts + count ≤ length w
  pub lengths : l.at + l.lengths ≤ length w
  pub new : l.new ≤ length w

-- from a word on, the draft's numbers of the containers in the order of the index
abbrev pub PathsAt : Sections → List ℕ → List ℕ → ℕ → Type 0
PathsAt s order w at = (k : ℕ) → k < length (by_path s order) → get_or w (at + k) 0 ≡ old_of order (get_or (by_path s order) k 0)

-- the lengths of their paths, two words a node of the draft: the first is the length
abbrev pub LengthsAt : Sections → List ℕ → List ℕ → ℕ → Type 0
LengthsAt s order w at =
    (k : ℕ) → k < length (by_path s order)
    → get_or w (at + old_of order (get_or (by_path s order) k 0) + old_of order (get_or (by_path s order) k 0)) 0 ≡ length (path_of s order (get_or (by_path s order) k 0))

-- entry k: offset and length of the path, and the image's number of the node
abbrev pub index_words : List ℕ → Layout → ℕ → List ℕ
index_words w l k =
    let node = get_or w (l.at + l.paths + k) 0 in
    get_or w (l.offsets + l.texts + k) 0 ∷ get_or w (l.at + l.lengths + node + node) 0 ∷ get_or w (l.new + node) 0 ∷ []
