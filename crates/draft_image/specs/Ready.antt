-- What the writer's work words hold before the sections are written: numbers of nodes, and offsets of stored texts.
use Rattle.std.specs.Prelude.{ℕ, ◌+◌, ◌<◌, ◌≡◌, List, [], ◌++◌, length, get_or}
use Rattle.laws.specs.Counted.{join_of}
use Rattle.laws.specs.Lists.{place_in}
use Rattle.image.specs.Sections.{Sections, node_count, definition_count}
use Rattle.draft.specs.Numbering.{old_of}
use Rattle.draft_image.specs.Strings.{node_texts, named_texts, definition_texts, offset_of}

-- ---- numbers of n nodes

-- from a word on, the draft's numbers of the image's nodes
abbrev pub OldsAt : List ℕ → List ℕ → ℕ → ℕ → Type 0
OldsAt order w n at = (j : ℕ) → j < n → get_or w (at + j) 0 ≡ old_of order j

-- the image's numbers of the draft's nodes
abbrev pub NewsAt : List ℕ → List ℕ → ℕ → ℕ → Type 0
NewsAt order w n at = (i : ℕ) → i < n → get_or w (at + i) 0 ≡ place_in order i

-- ---- texts in the order of their use

-- of nodes and lists, of named entries, of definitions and their items
abbrev pub node_uses : Sections → List ℕ → List (List ℕ)
node_uses s order = join_of (node_count s) (λ j. node_texts s (old_of order j))

abbrev pub named_uses : Sections → List ℕ → List (List ℕ)
named_uses s order = join_of (node_count s) (λ j. named_texts s (old_of order j))

abbrev pub definition_uses : Sections → List (List ℕ)
definition_uses s = join_of (definition_count s) (definition_texts s)

-- all but the paths of the index
abbrev pub text_uses : Sections → List ℕ → List (List ℕ)
text_uses s order = node_uses s order ++ named_uses s order ++ definition_uses s

-- from a word on, the offsets of texts among the stored ones
abbrev pub OffsetsAt : List (List ℕ) → List (List ℕ) → List ℕ → ℕ → Type 0
OffsetsAt kept texts w at = (k : ℕ) → k < length texts → get_or w (at + k) 0 ≡ offset_of kept (get_or texts k [])
