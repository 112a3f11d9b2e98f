-- What the writers of sections 0 to 2 have written, of every draft whose tables these are and whose numbers and offsets the work words hold.
use Rattle.std.specs.Prelude.{ℕ, ◌+◌, ◌<◌, ◌≡◌, List, length}
use Rattle.laws.specs.Counted.{join_of}
use Rattle.laws.specs.Lists.{place_in}
use Rattle.words.specs.Words.{bytes_of}
use Rattle.words.specs.Output.{over}
use Rattle.image.specs.Sections.{Sections, node_count}
use Rattle.draft.specs.Draft.{tables_rule, shape_rule}
use Rattle.draft.specs.Numbering.{old_of}
use Rattle.draft_image.specs.Written.{node_out, children_out, named_out}
use Rattle.draft_image.specs.Ready.{OldsAt, NewsAt, OffsetsAt, node_uses, named_uses}
use Rattle.draft.specs.declared.layout.Layout.{Layout}

-- section 0, and r is the word at which the offsets of the texts that follow begin
abbrev pub NodesPut : ℕ → List ℕ → List ℕ → List ℕ → Layout → List ℕ → List ℕ → ℕ → Type 0
NodesPut version nodes payload w l out₀ out r =
    (s : Sections) (order : List ℕ) (kept : List (List ℕ)) → s.nodes ≡ nodes → s.version ≡ version → s.payload ≡ payload
    → tables_rule s ≡ 0 → shape_rule s ≡ 0 → ((j : ℕ) → j < node_count s → place_in order (old_of order j) ≡ j)
    → OldsAt order w (node_count s) l.order → NewsAt order w (node_count s) l.new → OffsetsAt kept (node_uses s order) w l.offsets
    → (out ≡ over (bytes_of (join_of (node_count s) (λ j. node_out s order kept (old_of order j)))) out₀)
    × (r ≡ l.offsets + length (node_uses s order))

-- section 1
abbrev pub ChildrenPut : ℕ → List ℕ → List ℕ → List ℕ → Layout → List ℕ → List ℕ → Type 0
ChildrenPut version nodes children w l out₀ out =
    (s : Sections) (order : List ℕ) (kept : List (List ℕ)) → s.nodes ≡ nodes → s.version ≡ version → s.children ≡ children
    → tables_rule s ≡ 0 → OldsAt order w (node_count s) l.order → NewsAt order w (node_count s) l.new
    → out ≡ over (bytes_of (join_of (node_count s) (λ j. children_out s order kept (old_of order j)))) out₀

-- section 2, where the offsets of its texts begin at word `offsets`
abbrev pub NamedPut : ℕ → List ℕ → List ℕ → List ℕ → Layout → ℕ → List ℕ → List ℕ → Type 0
NamedPut version nodes named w l offsets out₀ out =
    (s : Sections) (order : List ℕ) (kept : List (List ℕ)) → s.nodes ≡ nodes → s.version ≡ version → s.named ≡ named
    → tables_rule s ≡ 0 → OldsAt order w (node_count s) l.order → NewsAt order w (node_count s) l.new
    → OffsetsAt kept (named_uses s order) w offsets
    → out ≡ over (bytes_of (join_of (node_count s) (λ j. named_out s order kept (old_of order j)))) out₀
