-- What a reader sees of a written image is what its author wrote: the statements. s is the draft, t the image, order the numbering:
-- the image's node j is the draft's node `old_of order j`, the draft's node i the image's `new_of order i`. Both sides are read by the
-- definitions that the contracts of the queries cite.
use Rattle.std.specs.Prelude.{ℕ, ◌+◌, ◌≤◌, ◌<◌, ◌≡◌, Bool, true, false, length, None, Option, Some, option_map, Ok}
use mathlib.Core.List.{List, Memᴰ}
use Rattle.words.specs.Words.{word_at}
use Rattle.image.specs.Sections.{Sections, node_count, definition_count, item_count, tag_of, f, text_at}
use Rattle.image.specs.declared.ImageView.{ImageView}
use Rattle.image.specs.Header.{sections_by, sections_of}
use Rattle.records.specs.Fields.{Field, text, optional, command, operator, node, optionalNode, container, optionalContainer, plain, at_most, children, named, payload, wrong}
use Rattle.records.specs.Records.{fields_at}
use Rattle.definitions.specs.Definitions.{first_item}
use Rattle.load.specs.Load.{load_words, loaded_of}
use Rattle.draft.specs.Numbering.{numbering, old_of, new_of}
use Rattle.draft_image.specs.Encode.{image_for}
use Rattle.views.specs.declared.Span.{Span}
use Rattle.views.specs.declared.ValueView.{ValueView}
use Rattle.views.specs.declared.ValueView.TheVariants as value
use Rattle.views.specs.declared.NodeKindView.{NodeKindView}
use Rattle.views.specs.declared.NodeKindView.TheVariants as kind
use Rattle.views.specs.declared.NodeView.{NodeView}
use Rattle.views.specs.declared.NamedChildView.{NamedChildView}
use Rattle.views.specs.declared.ListEntry.{ListEntry}
use Rattle.views.specs.declared.DefinitionView.{DefinitionView}
use Rattle.views.specs.declared.ItemView.{ItemView}
use Rattle.views.specs.View.{span, shown, optional_text, node_view}
use Rattle.views.specs.Children.{child_count_of, named_count_of, child_query, named_query}
use Rattle.views.specs.Lists.{list_part, list_entry, list_origin, definition_query, item_entry, item_query}
use Rattle.walks.specs.Walk.{Component, resolve}
use Rattle.depth.specs.Depth.{depth_of}
use Rattle.promises.specs.Answers.{Answer, of_found}
use Rattle.written.specs.Written.{Written}

-- ---- node numbers

-- a parent or a target in the image's numbers
abbrev pub renumbered : List ℕ → Option ℕ → Option ℕ
renumbered order (Some n) = Some (new_of order n)
renumbered order None = None

-- what a walk answers, in the image's numbers: the same number, and the node's counterpart
abbrev pub renumbered_answer : List ℕ → Answer ℕ → Answer ℕ
renumbered_answer order a = record { number = a.number; value = option_map (new_of order) a.value }

-- each of the draft's nodes is one of the image's, and the root is the root
pub record Renumbers (s : Sections) (order : List ℕ) : Type 0 where
  pub root : new_of order 0 ≡ 0
  pub new_inside : (i : ℕ) → i < node_count s → new_of order i < node_count s
  pub old_inside : (j : ℕ) → j < node_count s → old_of order j < node_count s
  pub there_and_back : (i : ℕ) → i < node_count s → old_of order (new_of order i) ≡ i
  pub back-and-there : (j : ℕ) → j < node_count s → new_of order (old_of order j) ≡ j

module _ (s t : Sections) where
  -- ---- texts

  -- both are present and inside, and have the same bytes
  pub record SameText (a b : Span) : Type 0 where
    pub drafted : shown (length s.strings) a.offset a.len ≡ true
    pub written : shown (length t.strings) b.offset b.len ≡ true
    pub len : b.len ≡ a.len
    pub bytes : text_at t b.offset b.len ≡ text_at s a.offset a.len

  -- both are absent, or both are there
  abbrev pub SameOptional : Option Span → Option Span → Type 0
  SameOptional (Some a) (Some b) = SameText a b
  SameOptional (Some a) None = ⊥
  SameOptional None (Some b) = ⊥
  SameOptional None None = Unit {0}

  -- ---- list values

  -- item k of a list value, found in both
  pub record SameEntry (p q : Span) (k : ℕ) : Type 0 where
    pub draft : ListEntry
    pub image : ListEntry
    pub drafted : list_entry (list_part s p) s.strings k ≡ Some draft
    pub written : list_entry (list_part t q) t.strings k ≡ Some image
    pub origin : SameOptional draft.origin image.origin
    pub name : SameText draft.name image.name
    pub value : image.value ≡ draft.value

  -- origin k
  pub record SameOrigin (p q : Span) (k : ℕ) : Type 0 where
    pub draft : Span
    pub image : Span
    pub drafted : list_origin (list_part s p) s.strings k ≡ Some draft
    pub written : list_origin (list_part t q) t.strings k ≡ Some image
    pub name : SameText draft image

  -- both are inside: as long, as many items and origins, the same ones
  pub record SameList (p q : Span) : Type 0 where
    pub drafted : p.offset + p.len ≤ length s.payload
    pub written : q.offset + q.len ≤ length t.payload
    pub len : q.len ≡ p.len
    pub items : word_at (list_part t q) 0 ≡ word_at (list_part s p) 0
    pub origins : word_at (list_part t q) 4 ≡ word_at (list_part s p) 4
    pub item : (k : ℕ) → k < word_at (list_part s p) 0 → SameEntry p q k
    pub origin : (k : ℕ) → k < word_at (list_part s p) 4 → SameOrigin p q k

  -- ---- kinds: what the image shows, where the draft shows this

  abbrev pub SameValue : ValueView → ValueView → Type 0
  SameValue (value.Bool b) image = image ≡ value.Bool b
  SameValue (value.Int n) image = image ≡ value.Int n
  SameValue (value.Float bits x) image = image ≡ value.Float bits x
  SameValue (value.String a) image = (b : Span) × (image ≡ value.String b) × SameText a b
  SameValue (value.List p) image = (q : Span) × (image ≡ value.List q) × SameList p q
  SameValue (value.DivertTarget a) image = (b : Span) × (image ≡ value.DivertTarget b) × SameText a b
  SameValue (value.VariablePointer a context) image = (b : Span) × (image ≡ value.VariablePointer b context) × SameText a b

  module _ (order : List ℕ) where
    abbrev pub SameKind : NodeKindView → NodeKindView → Type 0
    SameKind (kind.Container flags a) image = (b : Option Span) × (image ≡ kind.Container flags b) × SameOptional a b
    SameKind (kind.ChoicePoint flags target) image = image ≡ kind.ChoicePoint flags (renumbered order target)
    SameKind (kind.ControlCommand c) image = image ≡ kind.ControlCommand c
    SameKind (kind.Divert a target x arguments conditional external pushes pushed) image =
        (b : Option Span)
        × (y : Option Span)
        × (image ≡ kind.Divert b (renumbered order target) y arguments conditional external pushes pushed)
        × SameOptional a b
        × SameOptional x y
    SameKind kind.Glue image = image ≡ kind.Glue
    SameKind (kind.NativeFunction o) image = image ≡ kind.NativeFunction o
    SameKind (kind.Tag a) image = (b : Span) × (image ≡ kind.Tag b) × SameText a b
    SameKind (kind.Value v) image = (w : ValueView) × (image ≡ kind.Value w) × SameValue v w
    SameKind (kind.VariableAssignment a global new) image = (b : Span) × (image ≡ kind.VariableAssignment b global new) × SameText a b
    SameKind (kind.VariableReference a target) image = (b : Span) × (image ≡ kind.VariableReference b (renumbered order target)) × SameText a b
    SameKind kind.Void image = image ≡ kind.Void

    -- ---- fields by their words, those too that a view does not show: a choice's and a reference's path, a target value's node

    module _ (i j : ℕ) where
      abbrev pub SameField : Field → Type 0
      SameField (text k) = SameText (span (f s i k) (f s i (k + 1))) (span (f t j k) (f t j (k + 1)))
      SameField (optional k) =
          SameOptional (optional_text (length s.strings) (f s i k) (f s i (k + 1))) (optional_text (length t.strings) (f t j k) (f t j (k + 1)))
      SameField (command k) = SameText (span (f s i k) (f s i (k + 1))) (span (f t j k) (f t j (k + 1)))
      SameField (operator k) = SameText (span (f s i k) (f s i (k + 1))) (span (f t j k) (f t j (k + 1)))
      SameField (node k) = f t j k ≡ new_of order (f s i k)
      SameField (optionalNode k) = f t j k ≡ new_of order (f s i k)
      SameField (container k) = f t j k ≡ new_of order (f s i k)
      SameField (optionalContainer k) = f t j k ≡ new_of order (f s i k)
      SameField (plain k) = f t j k ≡ f s i k
      SameField (at_most k n) = f t j k ≡ f s i k
      SameField children = f t j 4 ≡ f s i 4
      SameField named = f t j 6 ≡ f s i 6
      SameField payload = SameList (span (f s i 0) (f s i 1)) (span (f t j 0) (f t j 1))
      SameField wrong = ⊥

      -- ---- children of the draft's node i and the image's node j

      -- the k-th ordered child, found in both
      pub record SameChild (k : ℕ) : Type 0 where
        pub child : ℕ
        pub drafted : child_query s i k ≡ Some child
        pub written : child_query t j k ≡ Some (new_of order child)

      -- the k-th named child
      pub record SameNamed (k : ℕ) : Type 0 where
        pub draft : NamedChildView
        pub image : NamedChildView
        pub drafted : named_query s i k ≡ Some draft
        pub written : named_query t j k ≡ Some image
        pub name : SameText draft.name image.name
        pub node : image.node ≡ new_of order draft.node

    -- ---- the image's node j

    pub record SameNode (j : ℕ) : Type 0 where
      pub draft : NodeView
      pub image : NodeView
      pub drafted : node_view s (old_of order j) ≡ Some draft
      pub written : node_view t j ≡ Some image
      pub parent : image.parent ≡ renumbered order draft.parent
      pub place : image.child_index ≡ draft.child_index
      pub depth : depth_of t j ≡ depth_of s (old_of order j)
      pub kind : SameKind draft.kind image.kind
      pub tag : tag_of t j ≡ tag_of s (old_of order j)
      pub fields : (x : Field) → Memᴰ x (fields_at s (old_of order j)) → SameField (old_of order j) j x
      pub child-count : child_count_of t j ≡ child_count_of s (old_of order j)
      pub named_count_lem : named_count_of t j ≡ named_count_of s (old_of order j)
      pub child : (n : ℕ) → child_count_of s (old_of order j) ≡ Some n → (k : ℕ) → k < n → SameChild (old_of order j) j k
      pub named : (n : ℕ) → named_count_of s (old_of order j) ≡ Some n → (k : ℕ) → k < n → SameNamed (old_of order j) j k

  -- ---- definitions and items keep their numbers

  -- an item, found in both
  pub record SameItem (a b : Option ItemView) : Type 0 where
    pub draft : ItemView
    pub image : ItemView
    pub drafted : a ≡ Some draft
    pub written : b ≡ Some image
    pub name : SameText draft.name image.name
    pub value : image.value ≡ draft.value

  pub record SameDefinition (d : ℕ) : Type 0 where
    pub draft : DefinitionView
    pub image : DefinitionView
    pub drafted : definition_query s d ≡ Some draft
    pub written : definition_query t d ≡ Some image
    pub name : SameText draft.name image.name
    pub items : image.items ≡ draft.items
    pub first : first_item t d ≡ first_item s d
    pub item : (k : ℕ) → k < draft.items → SameItem (item_query s d k) (item_query t d k)

-- ---- all of it

pub record SameViews (s t : Sections) (order : List ℕ) : Type 0 where
  pub numbers : Renumbers s order
  pub node-count : node_count t ≡ node_count s
  pub nodes : (j : ℕ) → j < node_count t → SameNode s t order j
  -- from the counterpart of its origin a walk in the image ends at the counterpart of where it ends in the draft, and finds nothing where
  -- that finds nothing; an absolute one from whatever origins
  pub walks : (relative : Bool) (origin : ℕ) (cs : List Component)
      → of_found (resolve t relative (new_of order origin) cs) ≡ renumbered_answer order (of_found (resolve s relative origin cs))
  pub absolute-walks : (origin other : ℕ) (cs : List Component) → of_found (resolve t false other cs) ≡ renumbered_answer order (of_found (resolve s false origin cs))
  pub definition-count : definition_count t ≡ definition_count s
  pub definitions : (d : ℕ) → d < definition_count t → SameDefinition s t d
  pub item_count_lem : item_count t ≡ item_count s
  pub items : (k : ℕ) → k < item_count t → SameItem s t (item_entry s k) (item_entry t k)

-- of every ink version and draft that the writer takes
abbrev pub WrittenViews : Type 0
WrittenViews = Written (λ ink s. SameViews s (sections_of (image_for ink s)) (numbering s))

-- and so by the view that a load of the image answers
abbrev pub WrittenReads : Type 0
WrittenReads =
    Written (λ ink s. (enough : ℕ) → load_words (sections_of (image_for ink s)) ≤ enough
    → (v : ImageView) × (loaded_of (image_for ink s) enough ≡ Ok v) × SameViews s (sections_by (image_for ink s) v) (numbering s))
