-- What the section writers read out of the draft's words and the work words, over plain lists; laws tie it to the written sections.
use Rattle.std.specs.Prelude.{ℕ, ◌+◌, ◌*◌, ◌/◌, ◌≤◌, ◌<◌, List, [], ◌∷◌, length, get_or}
use Rattle.laws.specs.Counted.{join_of, sum_of}
use Rattle.image.specs.Sections.{node_words, text_entry_words, f}
use Rattle.records.specs.Records.{number_of_children, number_of_named, payload_length_of}
use Rattle.draft.specs.Source.{nodes_only}
use Rattle.draft.specs.declared.layout.Layout.{Layout}
use Rattle.write_numbering.specs.Numbers.{new_in}

-- the words hold a number of a node for each node of the image
pub record OrderFits (version : ℕ) (nodes w : List ℕ) (l : Layout) : Type 0 where
  pub olds : (j : ℕ) → j < length nodes / node_words version → get_or w (l.order + j) 0 < length nodes / node_words version
  pub order_end : l.order + length nodes / node_words version ≤ length w
  pub new_start : l.new ≤ length w

-- ---- ordered children

-- of one node, by their numbers in the image
abbrev pub child_words : List ℕ → List ℕ → ℕ → ℕ → ℕ → List ℕ
child_words children w new first count = join_of count (λ j. new_in w new (get_or children (first + j) 0) ∷ [])

-- of draft's node i
unfoldable pub child_words_of : ℕ → List ℕ → List ℕ → List ℕ → ℕ → ℕ → List ℕ
child_words_of version nodes children w new i = child_words children w new (f (nodes_only version nodes []) i 3) (number_of_children (nodes_only version nodes []) i)

-- ---- named children

-- of one node, where the offset of its first text is the word at `text`: offset, length, number of each in the image
abbrev pub named_words : List ℕ → List ℕ → ℕ → ℕ → ℕ → ℕ → List ℕ
named_words named w new text first count =
    join_of count
    (λ j. get_or w (text + j) 0 ∷ get_or named ((first + j) * text_entry_words + 1) 0 ∷ new_in w new (get_or named ((first + j) * text_entry_words + 2) 0) ∷ [])

-- of draft's node i
unfoldable pub named_words_of : ℕ → List ℕ → List ℕ → List ℕ → ℕ → ℕ → ℕ → List ℕ
named_words_of version nodes named w new text i = named_words named w new text (f (nodes_only version nodes []) i 5) (number_of_named (nodes_only version nodes []) i)

-- ---- the image's nodes before node j, whose numbers in the draft the words from `order` on hold

module _ (version : ℕ) (nodes w : List ℕ) (order : ℕ) where
  -- their ordered children, their named children, their bytes of payload
  abbrev pub children_in_order : ℕ → ℕ
  children_in_order j = sum_of j (λ m. number_of_children (nodes_only version nodes []) (get_or w (order + m) 0))

  abbrev pub named_in_order : ℕ → ℕ
  named_in_order j = sum_of j (λ m. number_of_named (nodes_only version nodes []) (get_or w (order + m) 0))

  abbrev pub payload_in_order : ℕ → ℕ
  payload_in_order j = sum_of j (λ m. payload_length_of (nodes_only version nodes []) (get_or w (order + m) 0))

-- what a section of named children needs of the words: numbers of nodes, and from `offsets` on an offset for each text
pub record NamedFit (version : ℕ) (nodes w : List ℕ) (l : Layout) (offsets : ℕ) : Type 0 where
  pub order : OrderFits version nodes w l
  pub texts : offsets + named_in_order version nodes w l.order (length nodes / node_words version) ≤ length w
