-- List definitions and their items.
use Rattle.std.specs.Prelude.{ℕ, ◌+◌, List, Bool, ◌&&◌, leb, eqb}
use Rattle.laws.specs.Refusal.{unless, ◌▸◌, first_of, refusals}
use Rattle.laws.specs.Counted.{sum_of, counted}
use Rattle.texts.specs.Text.{rising, texts}
use Rattle.image.specs.Sections.{Sections, definition_count, item_count, definition_word, item_word, text_at, good_text, sections}
use Rattle.image.specs.Refusals.{bad_text, bad_range, bad_definition}

abbrev pub definition_text : Sections → ℕ → List ℕ
definition_text s d = text_at s (definition_word s d 0) (definition_word s d 1)

-- first item and count of items of definition d
abbrev pub first_item : Sections → ℕ → ℕ
first_item s d = definition_word s d 2

abbrev pub number_of_items : Sections → ℕ → ℕ
number_of_items s d = definition_word s d 3

abbrev pub item_text : Sections → ℕ → List ℕ
item_text s j = text_at s (item_word s j 0) (item_word s j 1)

-- the text of the j-th item of definition d
abbrev pub item_text_of : Sections → ℕ → ℕ → List ℕ
item_text_of s d j = item_text s (first_item s d + j)

abbrev pub good_definition : Sections → ℕ → Bool
good_definition s d = good_text s (definition_word s d 0) (definition_word s d 1)

abbrev pub good_item : Sections → ℕ → Bool
good_item s j = good_text s (item_word s j 0) (item_word s j 1)

abbrev pub items_before : Sections → ℕ → ℕ
items_before s d = sum_of d (number_of_items s)

-- the items are inside, and start where those before end
abbrev pub items_right : Sections → ℕ → Bool
items_right s d = leb (first_item s d + number_of_items s d) (item_count s) && eqb (first_item s d) (items_before s d)

-- the rule of the j-th item from the first one of a definition on
unfoldable pub item_rule_from : Sections → ℕ → ℕ → ℕ
item_rule_from s first j = unless (good_item s (first + j)) bad_definition ▸ unless (rising (λ k. item_text s (first + k)) j) bad_definition

-- the rule of the j-th item of definition d
abbrev pub item_rule : Sections → ℕ → ℕ → ℕ
item_rule s d j = item_rule_from s (first_item s d) j

unfoldable pub definition_rule : Sections → ℕ → ℕ
definition_rule s d =
    unless (good_definition s d) bad_text
    ▸ unless (rising (definition_text s) d) bad_definition
    ▸ unless (items_right s d) bad_range
    ▸ first_of (number_of_items s d) (item_rule s d)

unfoldable pub items_used_up : Sections → Bool
items_used_up s = eqb (items_before s (definition_count s)) (item_count s)

unfoldable pub definitions_rule : Sections → ℕ
definitions_rule s = first_of (definition_count s) (definition_rule s) ▸ unless (items_used_up s) bad_definition

-- names on an `unfolding` line what a computation with this module needs
unfoldable pub definitions : Unit {0}
unfolding item_rule_from definition_rule items_used_up definitions_rule refusals counted sections texts
definitions = tt
