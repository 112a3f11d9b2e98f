-- A node is a note exactly if the technician's reader shows it as a tag whose text is `tech:` and a rest.
use Rattle.std.specs.Prelude.{None, Option, Some}
use Prim.Native.Nat.{ℕ}
use mathlib.Core.Path.{◌≡◌, refl, sym, ap, ◌∙◌}
use mathlib.Core.List.{List, ◌++◌}
use mathlib.Core.Bool.{true, true≢false}
use lib.ListN.{length, take, drop, take-append-drop}
use lib.Seq.{take-append_seam}
use Rattle.texts.proofs.Text.{same-equal, equal-same}
use Rattle.image.specs.Sections.{Sections, text_or_empty}
use Rattle.views.specs.declared.NodeKindView.{NodeKindView}
use Rattle.views.specs.declared.NodeKindView.TheVariants as kind
use Rattle.views.specs.View.{node_view}
use Rattle.notes.specs.Notes.{note_prefix, is_note, note_kind, note_in, note_at}
use Rattle.notes.specs.Promised.{TechnicianNote, NoteExactly}
use Rattle.views.specs.declared.NodeView.{NodeView}

note-begins : (t : List ℕ) → is_note t ≡ true → t ≡ note_prefix ++ drop (length note_prefix) t
unfolding is_note
note-begins t h = sym (take-append-drop (length note_prefix) t) ∙ ap (λ (x : List ℕ). x ++ drop (length note_prefix) t) (same-equal (take (length note_prefix) t) note_prefix h)

begins-note : (t rest : List ℕ) → t ≡ note_prefix ++ rest → is_note t ≡ true
unfolding is_note
begins-note t rest e = equal-same (take (length note_prefix) t) note_prefix (ap (take (length note_prefix)) e ∙ take-append_seam note_prefix rest)

module _ (s : Sections) (i : ℕ) where
  note_in_lem : (a : Option NodeView) → node_view s i ≡ a → note_in s.strings a ≡ true → TechnicianNote s i
  note_in_lem None e h = absurd (true≢false (sym h))
  note_in_lem (Some v) e h = by v.kind refl h
    where
      by : (k : NodeKindView) → v.kind ≡ k → note_kind s.strings k ≡ true → TechnicianNote s i
      by (kind.Container flags name) q z = absurd (true≢false (sym z))
      by (kind.ChoicePoint flags target) q z = absurd (true≢false (sym z))
      by (kind.ControlCommand c) q z = absurd (true≢false (sym z))
      by (kind.Divert path target variable arguments conditional external pushes pushed) q z = absurd (true≢false (sym z))
      by kind.Glue q z = absurd (true≢false (sym z))
      by (kind.NativeFunction o) q z = absurd (true≢false (sym z))
      by (kind.Tag t) q z =
          let bytes = text_or_empty s.strings t.offset t.len in
          record { view = v; viewed = e; text = t; tag = q; rest = drop (length note_prefix) bytes; begins = note-begins bytes z }
      by (kind.Value x) q z = absurd (true≢false (sym z))
      by (kind.VariableAssignment t global new) q z = absurd (true≢false (sym z))
      by (kind.VariableReference t target) q z = absurd (true≢false (sym z))
      by kind.Void q z = absurd (true≢false (sym z))

  pub note-exactly : NoteExactly s i
  unfolding note_at
  note-exactly =
      record {
        note = λ h. note_in_lem (node_view s i) refl h;
        noted = λ n. ap (note_in s.strings) n.viewed ∙ ap (note_kind s.strings) n.tag ∙ begins-note _ n.rest n.begins;
      }
