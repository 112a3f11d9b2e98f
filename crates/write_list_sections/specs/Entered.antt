-- What the writers of the sections of definitions, items and payload read out of the draft and the work words, over plain lists; laws
-- tie it to the written sections.
use Rattle.std.specs.Prelude.{ℕ, ◌+◌, ◌*◌, ◌/◌, ◌≤◌, ◌<◌, ◌≡◌, List, [], ◌∷◌, ◌++◌, cond, length, get_or, eqb}
use Rattle.laws.specs.Counted.{sum_of, join_of}
use Rattle.words.specs.Words.{word_in}
use Rattle.image.specs.declared.NodeRecord.{NodeRecord}
use Rattle.image.specs.Entries.{record_of}
use Rattle.image.specs.Sections.{text_entry_words, definition_words, node_words, list_head_size, list_item_size, list_origin_size}
use Rattle.image.specs.Tags.{list_tag}
use Rattle.words.specs.Output.{put_at}
use Rattle.definitions.specs.Definitions.{items_before}
use Rattle.draft.specs.Source.{draft_of}
use Rattle.write_tree_sections.specs.Encoded.{text_count, optional_offset}
use Rattle.write_tree_sections.specs.Summed.{used_by}

-- ---- definitions and items: the offsets of their texts lie from word `at` on, each definition's before those of its items

-- how many texts the definitions before d have, with those of their items
unfoldable pub texts_before : List ℕ → ℕ → ℕ
texts_before definitions d = sum_of d (λ e. 1 + get_or definitions (e * definition_words + 3) 0)

-- how many items they have
unfoldable pub items_before_in : List ℕ → ℕ → ℕ
items_before_in definitions d = items_before (draft_of 0 [] [] [] definitions [] [] []) d

-- definition d
unfoldable pub definition_entry : List ℕ → List ℕ → ℕ → ℕ → List ℕ
definition_entry definitions w at d =
    get_or w (at + texts_before definitions d) 0 ∷ get_or definitions (d * definition_words + 1) 0 ∷ get_or definitions (d * definition_words + 2) 0 ∷ get_or definitions (d * definition_words + 3) 0 ∷ []

-- item i, counted from the first one of a definition
unfoldable pub item_words : List ℕ → List ℕ → ℕ → ℕ → ℕ → List ℕ
item_words items w at first i = get_or w (at + i) 0 ∷ get_or items ((first + i) * text_entry_words + 1) 0 ∷ get_or items ((first + i) * text_entry_words + 2) 0 ∷ []

-- the items of definition d
unfoldable pub items_words : List ℕ → List ℕ → List ℕ → ℕ → ℕ → List ℕ
items_words definitions items w at d =
    join_of (get_or definitions (d * definition_words + 3) 0) (item_words items w (at + texts_before definitions d + 1) (get_or definitions (d * definition_words + 2) 0))

-- ---- payload: the offset of a list's first text is word `text`

-- the texts of the items before item j of the list whose payload starts at `start`
unfoldable pub item_texts : List ℕ → ℕ → ℕ → ℕ
item_texts payload start j = sum_of j (λ m. text_count (word_in payload (start + list_head_size + m * list_item_size)) + 1)

-- item j: an origin that may be absent, a name, a value
unfoldable pub list_item_words : List ℕ → List ℕ → ℕ → ℕ → ℕ → List ℕ
list_item_words payload w text start j =
    optional_offset w (text + item_texts payload start j) (word_in payload (start + list_head_size + j * list_item_size))
    ∷ word_in payload (start + list_head_size + j * list_item_size + 4)
    ∷ get_or w (text + item_texts payload start j + text_count (word_in payload (start + list_head_size + j * list_item_size))) 0
    ∷ word_in payload (start + list_head_size + j * list_item_size + 12)
    ∷ word_in payload (start + list_head_size + j * list_item_size + 16)
    ∷ []

-- origin j of those that begin at a byte
unfoldable pub list_origin_words : List ℕ → List ℕ → ℕ → ℕ → ℕ → List ℕ
list_origin_words payload w text first j = get_or w (text + j) 0 ∷ word_in payload (first + j * list_origin_size + 4) ∷ []

-- the list
unfoldable pub list_words : List ℕ → List ℕ → ℕ → ℕ → List ℕ
list_words payload w text start =
    (word_in payload start ∷ word_in payload (start + 4) ∷ [])
    ++ join_of (word_in payload start) (list_item_words payload w text start)
    ++ join_of (word_in payload (start + 4))
    (list_origin_words payload w (text + item_texts payload start (word_in payload start)) (start + list_head_size + word_in payload start * list_item_size))

-- a node that is no list has none
unfoldable pub node_list_words : List ℕ → List ℕ → ℕ → NodeRecord → List ℕ
node_list_words payload w text r = cond (eqb r.tag list_tag) (list_words payload w text r.f0) []

-- those of the image's node j: the draft's numbers of the nodes lie from word `order` on, the offsets of their texts from `offsets` on
unfoldable pub payload_words : ℕ → List ℕ → List ℕ → List ℕ → ℕ → ℕ → ℕ → List ℕ
payload_words version nodes payload w order offsets j =
    node_list_words payload w (offsets + used_by version nodes w order payload j) (record_of version nodes (get_or w (order + j) 0))

-- numbers of nodes are there, and an offset for each text
pub record PayloadFits (version : ℕ) (nodes payload w : List ℕ) (order offsets : ℕ) : Type 0 where
  pub olds : (j : ℕ) → j < length nodes / node_words version → get_or w (order + j) 0 < length nodes / node_words version
  pub order_end : order + length nodes / node_words version ≤ length w
  pub texts : offsets + used_by version nodes w order payload (length nodes / node_words version) ≤ length w

-- words were written as bytes from `at` on, and end at r
pub record PutAsBytes (ws out₀ out : List ℕ) (at r : ℕ) : Type 0 where
  pub end : r ≡ at + 4 * length ws
  pub is : out ≡ put_at out₀ at ws
