-- The texts and list values that a view holds: what holds of each that is shown holds of all of them, whatever the sections.
use Rattle.std.specs.Prelude.{None, Option, Some}
use Prim.Native.Nat.{ℕ, ◌+◌, ◌/◌}
use mathlib.Core.Path.{◌≡◌, refl, sym, subst}
use mathlib.Core.Logic.{⊎_elim}
use mathlib.Core.List.Memᴰ
use mathlib.Core.List.{List, [], ◌∷◌, ◌++◌, Memᴰ}
use mathlib.Core.Bool.{Bool, true, false, cond}
use lib.ListN.{length}
use lib.Dec.{leb}
use Rattle.names.specs.declared.control_command.CommandType.{CommandType}
use Rattle.names.specs.declared.native_function_call.Op.{Op}
use Rattle.names.specs.ControlCommand.{command_named}
use Rattle.names.specs.NativeFunctionCall.{operator_named}
use Rattle.image.specs.Sections.{Sections, f, text_or_empty}
use Rattle.image.specs.Entries.{node_in}
use Rattle.records.specs.Fields.{Kind, Container, Choice, Command, Divert, Glue, Operator, Tag, BoolValue, IntValue, FloatValue, StringValue, ListValue, TargetValue, PointerValue, Assignment, Reference, Void, Unknown, fields, Field, text, optional, command, operator, node, optionalNode, container, optionalContainer, plain, at_most, children, named, payload, wrong}
use Rattle.views.specs.declared.Span.{Span}
use Rattle.views.specs.declared.NodeKindView.{NodeKindView}
use Rattle.views.specs.View.{span, shown, optional_text, of_command, of_operator, with_text, kind_view}
use Rattle.promises.specs.Readers.{texts_in, view_texts, view_lists}

-- ---- lists of texts

abbrev pub All : (Span → Type 0) → List Span → Type 0
All P ts = (t : Span) → Memᴰ t ts → P t

pub all_none : (P : Span → Type 0) → All P []
all_none P t m = absurd (Memᴰ.not-nil m)

pub all_one : (P : Span → Type 0) (t : Span) → P t → All P (t ∷ [])
all_one P t w u m = subst P (sym (Memᴰ.eq_of_singleton m)) w

all_both : (P : Span → Type 0) (ts us : List Span) → All P ts → All P us → All P (ts ++ us)
all_both P ts us a b t m = ⊎_elim (a t) (b t) (Memᴰ.append_cases ts m)

-- ---- the view of node i

module _ (s : Sections) (i : ℕ) where
  abbrev pub kind_at : Kind → Option NodeKindView
  kind_at k = kind_view s.strings (length s.payload) (node_in s i) k

-- ---- its texts

module _ (s : Sections) (P : Span → Type 0) where
  -- a text that is shown has the property
  abbrev pub Shows : ℕ → ℕ → Type 0
  Shows at len = shown (length s.strings) at len ≡ true → P (span at len)

  pub optional_all : (at len : ℕ) → Shows at len → All P (texts_in (optional_text (length s.strings) at len))
  unfolding optional_text
  optional_all at len h = by (shown (length s.strings) at len) refl
    where
      by : (b : Bool) → shown (length s.strings) at len ≡ b → All P (texts_in (optional_text (length s.strings) at len))
      by true e = rw e (all_one P (span at len) (h e))
      by false e = rw e (all_none P)

  abbrev KindTexts : Option NodeKindView → Type 0
  KindTexts (Some k) = All P (view_texts k)
  KindTexts None = Unit {0}

  command_texts : (o : Option CommandType) → KindTexts (of_command o)
  command_texts None = tt
  command_texts (Some c) = all_none P

  operator_texts : (o : Option Op) → KindTexts (of_operator o)
  operator_texts None = tt
  operator_texts (Some c) = all_none P

  module _ (i : ℕ) where
    -- the texts of a field have it
    abbrev pub FieldShows : Field → Type 0
    FieldShows (text k) = Shows (f s i k) (f s i (k + 1))
    FieldShows (optional k) = Shows (f s i k) (f s i (k + 1))
    FieldShows (command k) = Unit {0}
    FieldShows (operator k) = Unit {0}
    FieldShows (node k) = Unit {0}
    FieldShows (optionalNode k) = Unit {0}
    FieldShows (container k) = Unit {0}
    FieldShows (optionalContainer k) = Unit {0}
    FieldShows (plain k) = Unit {0}
    FieldShows (at_most k n) = Unit {0}
    FieldShows children = Unit {0}
    FieldShows named = Unit {0}
    FieldShows payload = Unit {0}
    FieldShows wrong = Unit {0}

    abbrev first : Bool
    first = shown (length s.strings) (f s i 0) (f s i 1)

    with_texts_lem : (g : Span → Option NodeKindView) → (first ≡ true → KindTexts (g (span (f s i 0) (f s i 1)))) → KindTexts (with_text s.strings (node_in s i) g)
    unfolding with_text
    with_texts_lem g h = by first refl
      where
        by : (b : Bool) → first ≡ b → KindTexts (with_text s.strings (node_in s i) g)
        by true e = rw e (h e)
        by false e = rw e tt

    tested : (b : Bool) (k : NodeKindView) → All P (view_texts k) → KindTexts (cond b (Some k) None)
    tested true k a = a
    tested false k a = tt

    kind-texts : (k : Kind) → ((x : Field) → Memᴰ x (fields k) → FieldShows x) → KindTexts (kind_at s i k)
    unfolding fields kind_view
    kind-texts Container r = optional_all (f s i 0) (f s i 1) (r _ (Memᴰ.head refl))
    kind-texts Choice r = all_none P
    kind-texts Command r = with_texts_lem _ (λ e. command_texts (command_named (text_or_empty s.strings (f s i 0) (f s i 1))))
    kind-texts Divert r =
        tested (leb (f s i 6 / 8) 2) _
        (all_both P _ _ (optional_all (f s i 0) (f s i 1) (r _ (Memᴰ.head refl)))
        (optional_all (f s i 3) (f s i 4) (r _ (Memᴰ.tail (Memᴰ.tail (Memᴰ.head refl))))))
    kind-texts Glue r = all_none P
    kind-texts Operator r = with_texts_lem _ (λ e. operator_texts (operator_named (text_or_empty s.strings (f s i 0) (f s i 1))))
    kind-texts Tag r = with_texts_lem _ (λ e. all_one P _ (r _ (Memᴰ.head refl) e))
    kind-texts BoolValue r = all_none P
    kind-texts IntValue r = all_none P
    kind-texts FloatValue r = all_none P
    kind-texts StringValue r = with_texts_lem _ (λ e. all_one P _ (r _ (Memᴰ.head refl) e))
    kind-texts ListValue r = tested (leb (f s i 0 + f s i 1) (length s.payload)) _ (all_none P)
    kind-texts TargetValue r = with_texts_lem _ (λ e. all_one P _ (r _ (Memᴰ.head refl) e))
    kind-texts PointerValue r = with_texts_lem _ (λ e. all_one P _ (r _ (Memᴰ.head refl) e))
    kind-texts Assignment r = with_texts_lem _ (λ e. all_one P _ (r _ (Memᴰ.head refl) e))
    kind-texts Reference r = with_texts_lem _ (λ e. all_one P _ (r _ (Memᴰ.head refl) e))
    kind-texts Void r = all_none P
    kind-texts Unknown r = tt

    pub view-texts : (k : Kind) (q : NodeKindView) → ((x : Field) → Memᴰ x (fields k) → FieldShows x) → kind_at s i k ≡ Some q → All P (view_texts q)
    view-texts k q r e = subst KindTexts e (kind-texts k r)

-- ---- its list values

module _ (s : Sections) (P : Span → Type 0) where
  abbrev KindLists : Option NodeKindView → Type 0
  KindLists (Some k) = All P (view_lists k)
  KindLists None = Unit {0}

  command_lists : (o : Option CommandType) → KindLists (of_command o)
  command_lists None = tt
  command_lists (Some c) = all_none P

  operator_lists : (o : Option Op) → KindLists (of_operator o)
  operator_lists None = tt
  operator_lists (Some c) = all_none P

  module _ (i : ℕ) where
    -- a list value that lies in the payload has the property
    abbrev pub ListShows : Type 0
    ListShows = leb (f s i 0 + f s i 1) (length s.payload) ≡ true → P (span (f s i 0) (f s i 1))

    with_lists_lem : (g : Span → Option NodeKindView) → KindLists (g (span (f s i 0) (f s i 1))) → KindLists (with_text s.strings (node_in s i) g)
    unfolding with_text
    with_lists_lem g h = by (shown (length s.strings) (f s i 0) (f s i 1))
      where
        by : (b : Bool) → KindLists (cond b (g (span (f s i 0) (f s i 1))) None)
        by true = h
        by false = tt

    tested-lists : (b : Bool) (k : NodeKindView) → (b ≡ true → All P (view_lists k)) → KindLists (cond b (Some k) None)
    tested-lists true k a = a refl
    tested-lists false k a = tt

    kind-lists : (k : Kind) → (k ≡ ListValue → ListShows) → KindLists (kind_at s i k)
    unfolding kind_view
    kind-lists ListValue r = tested-lists (leb (f s i 0 + f s i 1) (length s.payload)) _ (λ e. all_one P _ (r refl e))
    kind-lists Container r = all_none P
    kind-lists Choice r = all_none P
    kind-lists Command r = with_lists_lem _ (command_lists (command_named (text_or_empty s.strings (f s i 0) (f s i 1))))
    kind-lists Divert r = tested-lists (leb (f s i 6 / 8) 2) _ (λ e. all_none P)
    kind-lists Glue r = all_none P
    kind-lists Operator r = with_lists_lem _ (operator_lists (operator_named (text_or_empty s.strings (f s i 0) (f s i 1))))
    kind-lists Tag r = with_lists_lem _ (all_none P)
    kind-lists BoolValue r = all_none P
    kind-lists IntValue r = all_none P
    kind-lists FloatValue r = all_none P
    kind-lists StringValue r = with_lists_lem _ (all_none P)
    kind-lists TargetValue r = with_lists_lem _ (all_none P)
    kind-lists PointerValue r = with_lists_lem _ (all_none P)
    kind-lists Assignment r = with_lists_lem _ (all_none P)
    kind-lists Reference r = with_lists_lem _ (all_none P)
    kind-lists Void r = all_none P
    kind-lists Unknown r = tt

    pub view-lists : (k : Kind) (q : NodeKindView) → (k ≡ ListValue → ListShows) → kind_at s i k ≡ Some q → All P (view_lists q)
    view-lists k q r e = subst KindLists e (kind-lists k r)
