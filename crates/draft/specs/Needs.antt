-- The entries of a draft, counted; the work words that they need, compared with those that are lent.
use Rattle.std.specs.Prelude.{ℕ, ◌+◌, ◌*◌, cond, leb, None, Option, Some}
use Rattle.image.specs.Sections.{Sections}
use Rattle.image.specs.Refusals.{too_few_words}
use Rattle.image.specs.declared.EntryCounts.{EntryCounts}
use Rattle.image.specs.Counted.{counts_with}

-- a draft has no index, and its strings are stored anew: neither is counted
abbrev pub draft_counts : Sections → EntryCounts
draft_counts s = counts_with s 0 0

-- 7: 16 words a node, 4 for each other entry and payload byte
abbrev pub words_for : EntryCounts → ℕ
words_for c = 16 * c.nodes + 4 * (c.children + c.named + c.definitions + c.items + c.payload)

unfoldable pub needed_of : ℕ → ℕ → Option ℕ
needed_of needed work = cond (leb needed work) (Some needed) None

-- FORMAT.md's number for an answer
abbrev pub needed_number : Option ℕ → ℕ
needed_number (Some n) = 0
needed_number None = too_few_words
