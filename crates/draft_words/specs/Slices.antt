-- What is read of a recorded draft's words.
use Rattle.std.specs.Prelude.{ℕ, ◌*◌, ◌<◌, ◌≡◌, List, get_or, drop}
use Rattle.words.specs.Words.{word_in}
use Rattle.draft_words.specs.declared.Lengths.{Lengths}

-- the first n of these words are those that the bytes begin with; one that is not there is 0
unfoldable pub BeginWith : ℕ → List ℕ → List ℕ → Type 0
BeginWith n bs ws = (k : ℕ) → k < n → get_or ws k 0 ≡ word_in bs (4 * k)

-- the lengths that bytes begin with, a word each; one that is not there is 0
abbrev pub lengths_in : List ℕ → Lengths
lengths_in bs =
    record {
      nodes = word_in bs 0;
      children = word_in bs 4;
      named = word_in bs 8;
      definitions = word_in bs 12;
      items = word_in bs 16;
      payload = word_in bs 20;
      strings = word_in bs 24;
    }

-- the bytes behind so many words
abbrev pub behind_words : ℕ → List ℕ → List ℕ
behind_words n bs = drop (4 * n) bs

-- the bytes behind each table of a draft
abbrev pub behind_nodes : Lengths → List ℕ → List ℕ
behind_nodes l bs = behind_words l.nodes bs

abbrev pub behind_children : Lengths → List ℕ → List ℕ
behind_children l bs = behind_words l.children (behind_nodes l bs)

abbrev pub behind_named : Lengths → List ℕ → List ℕ
behind_named l bs = behind_words l.named (behind_children l bs)

abbrev pub behind_definitions : Lengths → List ℕ → List ℕ
behind_definitions l bs = behind_words l.definitions (behind_named l bs)

abbrev pub behind_items : Lengths → List ℕ → List ℕ
behind_items l bs = behind_words l.items (behind_definitions l bs)
