-- How the writer spells the names of commands and operators: as `get_name` does where that spelling is itself a known name, else as the draft
-- does. The writer's definition copies the draft's text, and the two are one.
use Rattle.std.specs.Prelude.{ℕ, ◌+◌, ◌≡◌, List, [], cond, get_or, None, Option, Some}
use Rattle.texts.specs.Text.{holds}
use Rattle.names.specs.Names.{commands, operators, number_in}
use Rattle.image.specs.Sections.{Sections, f, text_at}
use Rattle.records.specs.Fields.{command, operator}
use Rattle.draft_image.specs.Strings.{text_words}
use Rattle.draft_image.specs.Written.{field_words}

-- the name at a number, a text's own where there is none
abbrev pub name_at : List (List ℕ) → List ℕ → Option ℕ → List ℕ
name_at names t None = t
name_at names t (Some k) = get_or names k []

-- what `get_name` gives for the command or operator that the text names
abbrev pub get_name : List (List ℕ) → List ℕ → List ℕ
get_name names t = name_at names t (number_in names t)

unfoldable pub spelling_of : List (List ℕ) → List ℕ → List ℕ
spelling_of names t = cond (holds names (get_name names t)) (get_name names t) t

-- the words that are written are those of this spelling
pub record WriterSpells (s : Sections) (order : List ℕ) (kept : List (List ℕ)) (i k : ℕ) : Type 0 where
  pub command_words :
      field_words s order kept i (command k) ≡ text_words kept (spelling_of commands (text_at s (f s i k) (f s i (k + 1))))
  pub operator_words :
      field_words s order kept i (operator k) ≡ text_words kept (spelling_of operators (text_at s (f s i k) (f s i (k + 1))))

abbrev pub Spells : Type 0
Spells = (s : Sections) (order : List ℕ) (kept : List (List ℕ)) (i k : ℕ) → WriterSpells s order kept i k
