-- What the writers of sections 3, 4 and 6 have written, of every draft whose tables these are and whose offsets the work words hold.
use Rattle.std.specs.Prelude.{ℕ, ◌≡◌, List}
use Rattle.laws.specs.Counted.{join_of}
use Rattle.words.specs.Words.{bytes_of}
use Rattle.words.specs.Output.{over}
use Rattle.image.specs.Sections.{Sections, node_count, definition_count, item_count}
use Rattle.draft.specs.Draft.{tables_rule}
use Rattle.draft.specs.Numbering.{old_of}
use Rattle.draft_image.specs.Ready.{OldsAt, OffsetsAt, node_uses, definition_uses}
use Rattle.draft_image.specs.Written.{definition_out, item_out, payload_out}

-- section 3
abbrev pub DefinitionsPut : List ℕ → List ℕ → ℕ → List ℕ → List ℕ → Type 0
DefinitionsPut definitions w offsets out₀ out =
    (s : Sections) (order : List ℕ) (kept : List (List ℕ)) → s.definitions ≡ definitions → tables_rule s ≡ 0
    → OffsetsAt kept (definition_uses s) w offsets → out ≡ over (bytes_of (join_of (definition_count s) (definition_out s order kept))) out₀

-- section 4
abbrev pub ItemsPut : List ℕ → List ℕ → List ℕ → ℕ → List ℕ → List ℕ → Type 0
ItemsPut definitions items w offsets out₀ out =
    (s : Sections) (order : List ℕ) (kept : List (List ℕ)) → s.definitions ≡ definitions → s.items ≡ items → tables_rule s ≡ 0
    → OffsetsAt kept (definition_uses s) w offsets → out ≡ over (bytes_of (join_of (item_count s) (item_out s order kept))) out₀

-- section 6
abbrev pub PayloadPut : ℕ → List ℕ → List ℕ → List ℕ → ℕ → ℕ → List ℕ → List ℕ → Type 0
PayloadPut version nodes payload w order offsets out₀ out =
    (s : Sections) (olds : List ℕ) (kept : List (List ℕ)) → s.nodes ≡ nodes → s.version ≡ version → s.payload ≡ payload
    → tables_rule s ≡ 0 → OldsAt olds w (node_count s) order → OffsetsAt kept (node_uses s olds) w offsets
    → out ≡ over (join_of (node_count s) (λ j. payload_out s olds kept (old_of olds j))) out₀
