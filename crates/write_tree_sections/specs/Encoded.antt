-- The record that is written for a node, by its kind, over its own record and the words that hold numbers and offsets; laws tie it to
-- the written section.
use Rattle.std.specs.Prelude.{ℕ, ◌+◌, ◌*◌, List, [], ◌∷◌, cond, get_or}
use Rattle.laws.specs.Counted.{sum_of}
use Rattle.image.specs.Sections.{list_head_size, list_item_size}
use Rattle.words.specs.Words.{NONE, is_none, word_in}
use Rattle.image.specs.declared.NodeRecord.{NodeRecord}
use Rattle.records.specs.Fields.{Kind, Container, Choice, Command, Divert, Glue, Operator, Tag, BoolValue, IntValue, FloatValue, StringValue, ListValue, TargetValue, PointerValue, Assignment, Reference, Void, Unknown}
use Rattle.write_numbering.specs.Numbers.{new_in}
use Rattle.write_tree_sections.specs.declared.kinds.Starts.{Starts}

-- how many texts an optional text is, by its offset
abbrev pub text_count : ℕ → ℕ
text_count offset = cond (is_none offset) 0 1

-- the offset of an optional text, which the word at `at` holds
abbrev pub optional_offset : List ℕ → ℕ → ℕ → ℕ
optional_offset w at offset = cond (is_none offset) NONE (get_or w at 0)

-- the words of a record, by the format version
abbrev pub record_words : ℕ → NodeRecord → List ℕ
record_words version r =
    r.parent ∷ r.place ∷ r.tag ∷ r.f0 ∷ r.f1 ∷ r.f2 ∷ r.f3 ∷ r.f4 ∷ r.f5 ∷ r.f6 ∷ []

module _ (w : List ℕ) (new : ℕ) where
  -- parent, place and tag of a record, with other fields
  abbrev pub fielded : NodeRecord → ℕ → ℕ → ℕ → ℕ → ℕ → ℕ → ℕ → NodeRecord
  fielded r a b c d e f g =
      record { parent = new_in w new r.parent; place = r.place; tag = r.tag; f0 = a; f1 = b; f2 = c; f3 = d; f4 = e; f5 = f; f6 = g }

  abbrev pub blank_of : NodeRecord → NodeRecord
  blank_of r = fielded r NONE NONE NONE NONE NONE NONE NONE

  -- the record that is written, where the offset of the node's first text is the word at `at`
  unfoldable pub record_by_kind : ℕ → Starts → NodeRecord → Kind → NodeRecord
  record_by_kind at st r Container = fielded r (optional_offset w at r.f0) r.f1 r.f2 st.children r.f4 st.named r.f6
  record_by_kind at st r Choice = fielded r (optional_offset w at r.f0) r.f1 (new_in w new r.f2) r.f3 NONE NONE NONE
  record_by_kind at st r Command = fielded r (get_or w at 0) r.f1 NONE NONE NONE NONE NONE
  record_by_kind at st r Divert =
      fielded r (optional_offset w at r.f0) r.f1 (new_in w new r.f2) (optional_offset w (at + text_count r.f0) r.f3) r.f4 r.f5 r.f6
  record_by_kind at st r Glue = blank_of r
  record_by_kind at st r Operator = fielded r (get_or w at 0) r.f1 NONE NONE NONE NONE NONE
  record_by_kind at st r Tag = fielded r (get_or w at 0) r.f1 NONE NONE NONE NONE NONE
  record_by_kind at st r BoolValue = fielded r r.f0 NONE NONE NONE NONE NONE NONE
  record_by_kind at st r IntValue = fielded r r.f0 NONE NONE NONE NONE NONE NONE
  record_by_kind at st r FloatValue = fielded r r.f0 NONE NONE NONE NONE NONE NONE
  record_by_kind at st r StringValue = fielded r (get_or w at 0) r.f1 NONE NONE NONE NONE NONE
  record_by_kind at st r ListValue = fielded r st.payload r.f1 NONE NONE NONE NONE NONE
  record_by_kind at st r TargetValue = fielded r (get_or w at 0) r.f1 (new_in w new r.f2) NONE NONE NONE NONE
  record_by_kind at st r PointerValue = fielded r (get_or w at 0) r.f1 r.f2 NONE NONE NONE NONE
  record_by_kind at st r Assignment = fielded r (get_or w at 0) r.f1 r.f2 NONE NONE NONE NONE
  record_by_kind at st r Reference =
      fielded r (get_or w at 0) r.f1 (optional_offset w (at + 1) r.f2) r.f3 (new_in w new r.f4) NONE NONE
  record_by_kind at st r Void = blank_of r
  record_by_kind at st r Unknown = blank_of r

-- ---- texts that a node uses

-- of the list whose payload starts at `at`: origins that items have, a name an item, a text an origin
unfoldable pub list_texts_in : List ℕ → ℕ → ℕ
list_texts_in payload at =
    sum_of (word_in payload at) (λ j. text_count (word_in payload (at + list_head_size + j * list_item_size))) + word_in payload at + word_in payload (at + 4)

unfoldable pub texts_by : List ℕ → NodeRecord → Kind → ℕ
texts_by payload r Container = text_count r.f0
texts_by payload r Choice = text_count r.f0
texts_by payload r Command = 1
texts_by payload r Divert = text_count r.f0 + text_count r.f3
texts_by payload r Glue = 0
texts_by payload r Operator = 1
texts_by payload r Tag = 1
texts_by payload r BoolValue = 0
texts_by payload r IntValue = 0
texts_by payload r FloatValue = 0
texts_by payload r StringValue = 1
texts_by payload r ListValue = list_texts_in payload r.f0
texts_by payload r TargetValue = 1
texts_by payload r PointerValue = 1
texts_by payload r Assignment = 1
texts_by payload r Reference = 1 + text_count r.f2
texts_by payload r Void = 0
texts_by payload r Unknown = 0
