-- Notes to the technician in plain words, of any sections.
use Rattle.std.specs.Prelude.{ℕ, ◌≡◌, List, ◌++◌, true, Some}
use Rattle.image.specs.Sections.{Sections, text_or_empty}
use Rattle.views.specs.declared.Span.{Span}
use Rattle.views.specs.declared.NodeKindView.TheVariants as kind
use Rattle.views.specs.declared.NodeView.{NodeView}
use Rattle.views.specs.View.{node_view}
use Rattle.notes.specs.Notes.{note_prefix, note_at}

-- the technician's reader shows node i as a tag, and its text is `tech:` and a rest
pub record TechnicianNote (s : Sections) (i : ℕ) : Type 0 where
  pub view : NodeView
  pub viewed : node_view s i ≡ Some view
  pub text : Span
  pub tag : view.kind ≡ kind.Tag text
  pub rest : List ℕ
  pub begins : text_or_empty s.strings text.offset text.len ≡ note_prefix ++ rest

-- node i is a note exactly if so
pub record NoteExactly (s : Sections) (i : ℕ) : Type 0 where
  pub note : note_at s i ≡ true → TechnicianNote s i
  pub noted : TechnicianNote s i → note_at s i ≡ true
