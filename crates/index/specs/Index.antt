-- The path index: the rules of its entries.
use Rattle.std.specs.Prelude.{ℕ, List}
use Rattle.laws.specs.Refusal.{unless, ◌▸◌, first_of, refusals}
use Rattle.texts.specs.Text.{rising}
use Rattle.image.specs.Sections.{Sections, index_word, index_count, text_at, good_text, inside_container, sections}
use Rattle.image.specs.Refusals.{bad_node, bad_text, bad_index}
use Rattle.index.specs.Paths.{fits, paths}

abbrev pub index_text : Sections → ℕ → List ℕ
index_text s j = text_at s (index_word s j 0) (index_word s j 1)

unfoldable pub index_entry_rule : Sections → ℕ → ℕ
index_entry_rule s j =
    unless (good_text s (index_word s j 0) (index_word s j 1)) bad_text
    ▸ unless (inside_container s (index_word s j 2)) bad_node
    ▸ unless (rising (index_text s) j) bad_index
    ▸ unless (fits s (index_word s j 2) (index_text s j)) bad_index

unfoldable pub index_rule : Sections → ℕ
index_rule s = first_of (index_count s) (index_entry_rule s)

-- names on an `unfolding` line what a computation with this module needs
unfoldable pub indexes : Unit {0}
unfolding index_entry_rule index_rule paths refusals sections
indexes = tt
