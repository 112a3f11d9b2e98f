-- What the program image_check says of its input, and the line that it prints.
use Rattle.std.specs.Prelude.{ℕ, zero, suc, ◌+◌, List, [], ◌∷◌, ◌++◌, cond, length, take, drop, leb}
use Rattle.laws.specs.Refusal.{◌▸◌}
use Rattle.texts.specs.Text.{ascii}
use Rattle.texts.specs.Decimal.{decimal}
use Rattle.image.specs.declared.ImageView.{ImageView}
use Rattle.image.specs.Header.{header_rule, view_of, sections_of}
use Rattle.load.specs.Load.{checksum_rule, sections_rule}
use Rattle.image_answer.specs.declared.Answer.{Answer}
use Rattle.image_answer.specs.declared.Answer.TheVariants.{Accepted, Refused, Long}

-- the longest image that is read, in bytes
abbrev pub limit : ℕ
limit = 65536

-- the most work words that an image of at most that length can need: after the header one node is due, and children take the least
-- bytes a work word, so 1 node, 16,352 children and 1
abbrev pub most_work_words : ℕ
most_work_words = 16354

-- rows 1 to 6 and 8 to 17: all that a load with enough work words asks
unfoldable pub image_rule : List ℕ → ℕ
image_rule bs = header_rule bs ▸ checksum_rule bs ▸ sections_rule (sections_of bs)

abbrev pub answer_by : ℕ → ImageView → Answer
answer_by zero v = Accepted v.ink_version v.nodes.count
answer_by (suc r) v = Refused (suc r)

unfoldable pub answer_of : List ℕ → Answer
answer_of bs = cond (leb (length bs) limit) (answer_by (image_rule bs) (view_of bs)) Long

-- ---- the line: `ok V N`, `no K` or `long`, and a newline

abbrev pub newline : List ℕ
newline = 10 ∷ []

unfoldable pub accepted_line : ℕ → ℕ → List ℕ
accepted_line version nodes = ascii "ok " ++ decimal version ++ ascii " " ++ decimal nodes ++ newline

unfoldable pub refused_line : ℕ → List ℕ
refused_line number = ascii "no " ++ decimal number ++ newline

unfoldable pub long_line : List ℕ
long_line = ascii "long" ++ newline

abbrev pub line_of : Answer → List ℕ
line_of (Accepted version nodes) = accepted_line version nodes
line_of (Refused number) = refused_line number
line_of Long = long_line

-- an output with bytes written into it from a place on
abbrev pub put_bytes : List ℕ → ℕ → List ℕ → List ℕ
put_bytes out at bs = take at out ++ bs ++ drop (at + length bs) out
