-- The technician's view with notes as void, case by case.
use Rattle.std.specs.Prelude.{None, Option, Some}
use Prim.Native.Nat.{ℕ, ◌≤◌, ◌<◌}
use mathlib.Core.Path.{◌≡◌, refl, sym, ap, ◌∙◌}
use mathlib.Core.List.{List, [], ◌∷◌}
use mathlib.Core.Bool.{Bool, true, false, cond}
use native.Mathlib.Omega.{arith}
use native.Mathlib.Decide.{ℕ_discrete}
use lib.ListN.{length, get_or, take, length-take}
use lib.Dec.{eqb}
use lib.Seq.{get_or-take}
use borrow.Author.Tests.{eq-eqb, ne_eqb}
use Rattle.texts.specs.Text.{ascii}
use Rattle.texts.proofs.Text.{equal-same, unlike-same}
use Rattle.image.specs.Sections.{Sections}
use Rattle.views.specs.declared.NodeKindView.{NodeKindView}
use Rattle.views.specs.declared.NodeKindView.TheVariants as kind
use Rattle.views.specs.declared.NodeView.{NodeView}
use Rattle.views.specs.View.{node_view}
use Rattle.notes.specs.Notes.{note_prefix, is_note, note_kind, note_in, note_at, hide_note, hide_in, hidden}

-- ---- what the functions answer

pub short-note : (t : List ℕ) → length t < 5 → false ≡ is_note t
unfolding is_note note_prefix ascii
short-note t h = sym (unlike-same (take 5 t) note_prefix (λ e. let l : length (take 5 t) ≡ 5 = ap length e in omega (arith, length-take 5 t)))

-- a byte that is another than the prefix has there
pub other_byte : (t : List ℕ) (k n : ℕ) → k < 5 → get_or note_prefix k 0 ≡ n → (get_or t k 0 ≡ n → ⊥) → false ≡ is_note t
unfolding is_note note_prefix ascii
other_byte t k n h p d = sym (unlike-same (take 5 t) note_prefix (λ e. d (sym (get_or-take 5 t k 0 h) ∙ ap (λ (l : List ℕ). get_or l k 0) e ∙ p)))

-- five bytes, the last of which decides
pub last_byte : (t : List ℕ) → 5 ≤ length t → get_or t 0 0 ≡ 116 → get_or t 1 0 ≡ 101 → get_or t 2 0 ≡ 99 → get_or t 3 0 ≡ 104 → eqb (get_or t 4 0) 58 ≡ is_note t
unfolding is_note note_prefix ascii
last_byte [] h = absurd (omega arith)
last_byte (a ∷ []) h = absurd (omega arith)
last_byte (a ∷ b ∷ []) h = absurd (omega arith)
last_byte (a ∷ b ∷ c ∷ []) h = absurd (omega arith)
last_byte (a ∷ b ∷ c ∷ d ∷ []) h = absurd (omega arith)
last_byte (a ∷ b ∷ c ∷ d ∷ e ∷ rest) h = λ pa pb pc pd.
    elim (ℕ_discrete e 58) [
      | yes q ↦ eq-eqb e 58 q ∙ sym (equal-same _ note_prefix (λ u. pa u ∷ pb u ∷ pc u ∷ pd u ∷ q u ∷ []))
      | no q ↦ ne_eqb e 58 q ∙ sym (unlike-same _ note_prefix (λ z. q (ap (λ (l : List ℕ). get_or l 4 0) z)))
    ]

module _ (strings : List ℕ) (k : NodeKindView) (b : Bool) (e : b ≡ note_kind strings k) where
  pub note-hidden : b ≡ true → kind.Void ≡ hide_note strings k
  note-hidden h = ap (λ (x : Bool). cond x kind.Void k) (sym h ∙ e)

  pub other-kept : b ≡ false → k ≡ hide_note strings k
  other-kept h = ap (λ (x : Bool). cond x kind.Void k) (sym h ∙ e)

module _ (s : Sections) (i : ℕ) (a : Option NodeView) where
  pub hidden-missing : a ≡ node_view s i → a ≡ None → None ≡ hidden s i
  unfolding hidden
  hidden-missing e h = rw (← e, h) refl

  pub hidden-there : a ≡ node_view s i → (v : NodeView) → a ≡ Some v → (strings : List ℕ) → strings ≡ s.strings → (k : NodeKindView)
      → k ≡ hide_note strings v.kind → Some (record { parent = v.parent; child_index = v.child_index; kind = k }) ≡ hidden s i
  unfolding hidden
  hidden-there e v h strings q k z = rw (← e, h, z, q) refl

-- ---- a note, and any other node

-- the answer with its kind as void
abbrev pub voided : Option NodeView → Option NodeView
voided (Some v) = Some (record { parent = v.parent; child_index = v.child_index; kind = kind.Void })
voided None = None

module _ (s : Sections) (i : ℕ) where
  pub hidden-note : note_at s i ≡ true → hidden s i ≡ voided (node_view s i)
  unfolding note_at hidden
  hidden-note h = by (node_view s i) h
    where
      by : (a : Option NodeView) → note_in s.strings a ≡ true → hide_in s.strings a ≡ voided a
      by (Some v) e = rw e refl
      by None e = refl

  pub hidden-other : note_at s i ≡ false → hidden s i ≡ node_view s i
  unfolding note_at hidden
  hidden-other h = by (node_view s i) h
    where
      by : (a : Option NodeView) → note_in s.strings a ≡ false → hide_in s.strings a ≡ a
      by (Some v) e = rw e refl
      by None e = refl
