-- What queries answer, in the words that C and Rust are given.
use Rattle.std.specs.Prelude.{ℕ, ◌+◌, ◌≡◌, List, [], ◌∷◌, ◌++◌, Bool, cond, length, drop, ℤ, leb, None, Option, Some}
use Rattle.std.proofs.Common.{of_z}
use Rattle.std.specs.Int.{w32}
use Rattle.words.specs.Words.{NONE, word_at}
use Rattle.views.specs.declared.Span.{Span}
use Rattle.views.specs.declared.NamedChildView.{NamedChildView}
use Rattle.views.specs.declared.ListEntry.{ListEntry}
use Rattle.views.specs.declared.DefinitionView.{DefinitionView}
use Rattle.views.specs.declared.ItemView.{ItemView}
use Rattle.views.specs.View.{span}
use Rattle.lookups.specs.declared.ListItem.{ListItem}
use Rattle.image.specs.Refusals.{not_found}
use Rattle.image.specs.Sections.{list_head_size}

-- ---- an answer in a lent slice: its words, where there are some and they fit

-- 0, or 18, for a lent answer of so many words
unfoldable pub number_of : Option (List ℕ) → ℕ → ℕ
number_of None n = not_found
number_of (Some ws) n = cond (leb (length ws) n) 0 not_found

-- the lent answer on return: written at its start, or as it was
unfoldable pub answer_after : Option (List ℕ) → List ℕ → List ℕ
answer_after None answer = answer
answer_after (Some ws) answer = cond (leb (length ws) (length answer)) (ws ++ drop (length ws) answer) answer

-- what a query returns, and the lent answer before and after
pub record Answered (o : Option (List ℕ)) (before after : List ℕ) (r : ℕ) : Type 0 where
  pub number : r ≡ number_of o (length before)
  pub written : after ≡ answer_after o before

-- ---- parts of answers

-- the bits of a signed number
abbrev pub unsigned : ℤ → ℕ
unsigned z = of_z w32 z

abbrev pub word_or : Option ℕ → ℕ
word_or (Some w) = w
word_or None = NONE

abbrev pub no_span : Span
no_span = span NONE NONE

abbrev pub span_or : Option Span → Span
span_or (Some t) = t
span_or None = no_span

abbrev pub bit_if : Bool → ℕ → ℕ
bit_if flag w = cond flag w 0

abbrev pub span_then : Span → List ℕ → List ℕ
span_then t ws = t.offset ∷ t.len ∷ ws

-- ---- words of each answer

abbrev pub named_view_words : NamedChildView → List ℕ
named_view_words e = span_then e.name (e.node ∷ [])

abbrev pub entry_words : ListEntry → List ℕ
entry_words e = span_then (span_or e.origin) (span_then e.name (unsigned e.value ∷ []))

abbrev pub definition_view_words : DefinitionView → List ℕ
definition_view_words d = span_then d.name (d.items ∷ [])

abbrev pub item_view_words : ItemView → List ℕ
item_view_words i = span_then i.name (unsigned i.value ∷ [])

-- a number that is more than a word has no words
abbrev pub count_words : ℕ → Option (List ℕ)
count_words n = cond (leb n NONE) (Some (n ∷ [])) None

abbrev pub found_item_words : ListItem → Option (List ℕ)
found_item_words i =
    cond (leb i.definition NONE) (cond (leb i.item NONE) (Some (i.definition ∷ i.item ∷ unsigned i.value ∷ [])) None) None

-- start and length, in an image of so many bytes, of what lies at a place of a section that begins at `section`. What is not inside,
-- or begins beyond a word, has no words; an accepted image has no such
abbrev pub part_words : ℕ → ℕ → Span → Option (List ℕ)
part_words bytes section t =
    cond (leb (section + t.offset + t.len) bytes) (cond (leb (section + t.offset) NONE) (Some ((section + t.offset) ∷ t.len ∷ [])) None) None

-- ---- by answer

abbrev pub found_answer : Option ℕ → Option (List ℕ)
found_answer (Some n) = Some (n ∷ [])
found_answer None = None

abbrev pub named_answer : Option NamedChildView → Option (List ℕ)
named_answer (Some e) = Some (named_view_words e)
named_answer None = None

abbrev pub place_answer : Option Span → Option (List ℕ)
place_answer (Some t) = Some (span_then t [])
place_answer None = None

abbrev pub part_answer : ℕ → ℕ → Option Span → Option (List ℕ)
part_answer bytes strings (Some t) = part_words bytes strings t
part_answer bytes strings None = None

abbrev pub entry_answer : Option ListEntry → Option (List ℕ)
entry_answer (Some e) = Some (entry_words e)
entry_answer None = None

abbrev pub definition_answer : Option DefinitionView → Option (List ℕ)
definition_answer (Some d) = Some (definition_view_words d)
definition_answer None = None

abbrev pub item_answer : Option ItemView → Option (List ℕ)
item_answer (Some i) = Some (item_view_words i)
item_answer None = None

abbrev pub list_item_answer : Option ListItem → Option (List ℕ)
list_item_answer (Some i) = found_item_words i
list_item_answer None = None

-- ---- of a list value, out of its payload: how many items, how many origins

abbrev pub list_count_words : List ℕ → Option (List ℕ)
list_count_words payload = cond (leb list_head_size (length payload)) (Some (word_at payload 0 ∷ word_at payload 4 ∷ [])) None
