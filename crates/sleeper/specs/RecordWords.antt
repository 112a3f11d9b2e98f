-- What inner functions make of the words that the technician is given of a kind. Laws tie it to the views; it need not be believed.
use Rattle.std.specs.Prelude.{ℕ, List, Bool, cond, ◌&&◌, not, eqb}
use Rattle.words.specs.Words.{is_none}
use Rattle.image.specs.Sections.{text_or_empty}
use Rattle.image.specs.Tags.{tag_tag, list_tag, void_tag}
use Rattle.answers.specs.declared.node.KindWords.{KindWords}
use Rattle.answers.specs.RecordWords.{value_alone}
use Rattle.notes.specs.Notes.{is_note}
use Rattle.sleeper.specs.NodeWords.{six_words}

-- a note
abbrev pub note_words : List ℕ → KindWords → Bool
note_words strings k = eqb k.tag tag_tag && is_note (text_or_empty strings k.text.offset k.text.len)

-- it as void
abbrev pub hidden_words : List ℕ → KindWords → KindWords
hidden_words strings k = cond (note_words strings k) (value_alone void_tag 0) k

-- whether there is a text: of a list, whose place is in the payload, there is none
abbrev pub text_given : ℕ → ℕ → Bool
text_given tag at = not (eqb tag list_tag) && not (is_none at)

-- the words without places
abbrev pub six_of : KindWords → List ℕ
six_of k = six_words k.tag (text_given k.tag k.text.offset) (not (is_none k.variable.offset)) k.target k.value k.flags
