-- What the sleeper can count on in an image that the sleeper's load accepts.
use Rattle.std.specs.Prelude.{None, Option, Some, Err, Ok, Result, ℕ}
use Prim.Native.Nat.{ℕ, zero, suc, ◌≤◌, ◌<◌}
use mathlib.Core.Path.{◌≡◌, refl, sym, ap, ◌∙◌, subst}
use mathlib.Core.List.{List, Memᴰ}
use mathlib.Core.Bool.{Bool, true, false, cond, true≢false}
use Rattle.std.proofs.lemmas.Option.{none-some}
use native.Mathlib.Omega.{arith}
use lib.ListN.{length}
use Rattle.laws.specs.Lists.{Below}
use Rattle.words.specs.Words.{word_at}
use Rattle.image.specs.declared.ImageView.{ImageView}
use Rattle.image.specs.Sections.{Sections, list_head_size, node_count, tag_of, f, text_or_empty}
use Rattle.image.specs.Header.{view_of, sections_by, sections_of}
use Rattle.image.proofs.OpenedHeader.{opens}
use Rattle.records.specs.Fields.{Kind, fields, kind_of, payload}
use Rattle.load.specs.Load.{load_rule, loaded_of}
use Rattle.views.specs.declared.Span.{Span}
use Rattle.views.specs.declared.ValueView.{ValueView}
use Rattle.views.specs.declared.ValueView.TheVariants as value
use Rattle.views.specs.declared.NodeKindView.{NodeKindView}
use Rattle.views.specs.declared.NodeKindView.TheVariants as kind
use Rattle.views.specs.declared.NodeView.{NodeView}
use Rattle.views.specs.View.{node_view}
use Rattle.views.specs.Children.{named_query}
use Rattle.views.specs.Lists.{list_part, list_entry, list_origin, definition_query, item_entry, item_query}
use Rattle.answers.specs.NodeViewWords.{list_of_kind, list_place}
use Rattle.notes.specs.Notes.{note_kind, hide_note, hide_in, hidden}
use Rattle.promises.specs.Answers.{Answer, given, of_loaded, of_node, of_count, of_found}
use Rattle.promises.specs.Promises.{Sound, OneSpelling}
use Rattle.promises.specs.Lookups.{Lookups}
use Rattle.promises.specs.Readers.{view_lists, step_up, ascend, ChildRead, NamedRead, Reads, ImageReads}
use Rattle.promises.proofs.Answers.{given-equal}
use Rattle.promises.proofs.Acceptance.{load-accepted}
use Rattle.promises.proofs.Premises.{Kept, load_kept, a_node}
use Rattle.promises.proofs.Views.{Right, seen as node_seen}
use Rattle.promises.proofs.ViewParts.{view-lists}
use Rattle.promises.proofs.Whole.{part-long}
use Rattle.promises.proofs.Readers.{answered, image-reads, accepted-reads}
use Rattle.promises.proofs.Lookups.{accepted-lookups}
use Rattle.promises.proofs.Sound.{accepted-sound}
use Rattle.promises.proofs.OneSpelling.{accepted_one_spelling}
use Rattle.sleeper.specs.declared.Which.{Which}
use Rattle.sleeper.specs.declared.Which.TheVariants as which
use Rattle.sleeper.specs.declared.SleeperView.{SleeperView}
use Rattle.sleeper.specs.declared.SleeperValue.TheVariants as seenValue
use Rattle.sleeper.specs.declared.SleeperKind.{SleeperKind}
use Rattle.sleeper.specs.declared.SleeperKind.TheVariants as seen
use Rattle.sleeper.specs.declared.SleeperNode.{SleeperNode}
use Rattle.sleeper.specs.Reader.{without_places, sleeper_sections, loaded_seen, sleeper_loaded}
use Rattle.sleeper.specs.Seen.{presence, value_seen, kind_seen, view_seen, sleeper_view}
use Rattle.sleeper.specs.Texts.{value_text, kind_text, kind_variable, of_kind, text_place, bytes_if, sleeper_text}
use Rattle.sleeper.proofs.AnswersSeen.{seen_as_technician}
use Rattle.sleeper_promises.specs.Answers.{of_sleeper_loaded, of_sleeper, of_sleeper_entry, of_sleeper_item, of_bytes}
use Rattle.sleeper_promises.specs.Shown.{TextGiven, TextIf, value_has_text, has_text, has_variable, step_seen, ascend_seen, ListShown, ChildShown, NamedShown, NodeShown, SectionsShown, ImageShown, AcceptedShown}
use Rattle.sleeper_promises.proofs.SameView.{whole-sections, passed-rules}
use Rattle.sleeper_promises.proofs.GoodTexts.{node-given, named-given, text-given, entry-given, definition-given, item-given, texts-good}

-- ---- which texts a view tells of

value-told : (v : ValueView) → presence (value_text v) ≡ value_has_text (value_seen v)
value-told (value.Bool b) = refl
value-told (value.Int n) = refl
value-told (value.Float bits x) = refl
value-told (value.String t) = refl
value-told (value.List p) = refl
value-told (value.DivertTarget t) = refl
value-told (value.VariablePointer t context) = refl

text-told : (k : NodeKindView) → presence (kind_text k) ≡ has_text (kind_seen k)
text-told (kind.Container flags name) = refl
text-told (kind.ChoicePoint flags target) = refl
text-told (kind.ControlCommand c) = refl
text-told (kind.Divert path target variable arguments conditional external pushes pushed) = refl
text-told kind.Glue = refl
text-told (kind.NativeFunction o) = refl
text-told (kind.Tag t) = refl
text-told (kind.Value v) = value-told v
text-told (kind.VariableAssignment t global new) = refl
text-told (kind.VariableReference t target) = refl
text-told kind.Void = refl

variable-told : (k : NodeKindView) → presence (kind_variable k) ≡ has_variable (kind_seen k)
variable-told (kind.Container flags name) = refl
variable-told (kind.ChoicePoint flags target) = refl
variable-told (kind.ControlCommand c) = refl
variable-told (kind.Divert path target variable arguments conditional external pushes pushed) = refl
variable-told kind.Glue = refl
variable-told (kind.NativeFunction o) = refl
variable-told (kind.Tag t) = refl
variable-told (kind.Value v) = refl
variable-told (kind.VariableAssignment t global new) = refl
variable-told (kind.VariableReference t target) = refl
variable-told kind.Void = refl

-- ---- which nodes are list values

is_list : SleeperKind → Bool
is_list (seen.Value seenValue.List) = true
is_list (seen.Value (seenValue.Bool b)) = false
is_list (seen.Value (seenValue.Int n)) = false
is_list (seen.Value (seenValue.Float bits x)) = false
is_list (seen.Value seenValue.String) = false
is_list (seen.Value seenValue.DivertTarget) = false
is_list (seen.Value (seenValue.VariablePointer context)) = false
is_list (seen.Container flags name) = false
is_list (seen.ChoicePoint flags target) = false
is_list (seen.ControlCommand c) = false
is_list (seen.Divert path target variable arguments conditional external pushes pushed) = false
is_list seen.Glue = false
is_list (seen.NativeFunction o) = false
is_list seen.Tag = false
is_list (seen.VariableAssignment global new) = false
is_list (seen.VariableReference target) = false
is_list seen.Void = false

record ListKind (k : NodeKindView) : Type 0 where
  place : Span
  is : k ≡ kind.Value (value.List place)

kind-list : (k : NodeKindView) → is_list (kind_seen k) ≡ true → ListKind k
unfolding is_list
kind-list (kind.Value (value.List p)) e = record { place = p; is = refl }
kind-list (kind.Value (value.Bool b)) e = absurd (true≢false (sym e))
kind-list (kind.Value (value.Int n)) e = absurd (true≢false (sym e))
kind-list (kind.Value (value.Float bits x)) e = absurd (true≢false (sym e))
kind-list (kind.Value (value.String t)) e = absurd (true≢false (sym e))
kind-list (kind.Value (value.DivertTarget t)) e = absurd (true≢false (sym e))
kind-list (kind.Value (value.VariablePointer t context)) e = absurd (true≢false (sym e))
kind-list (kind.Container flags name) e = absurd (true≢false (sym e))
kind-list (kind.ChoicePoint flags target) e = absurd (true≢false (sym e))
kind-list (kind.ControlCommand c) e = absurd (true≢false (sym e))
kind-list (kind.Divert path target variable arguments conditional external pushes pushed) e = absurd (true≢false (sym e))
kind-list kind.Glue e = absurd (true≢false (sym e))
kind-list (kind.NativeFunction o) e = absurd (true≢false (sym e))
kind-list (kind.Tag t) e = absurd (true≢false (sym e))
kind-list (kind.VariableAssignment t global new) e = absurd (true≢false (sym e))
kind-list (kind.VariableReference t target) e = absurd (true≢false (sym e))
kind-list kind.Void e = absurd (true≢false (sym e))

-- with a note as void
list-kind : (b : Bool) (k : NodeKindView) → kind_seen (cond b kind.Void k) ≡ seen.Value seenValue.List → ListKind k
unfolding is_list
list-kind true k e = absurd (true≢false (sym (ap is_list e)))
list-kind false k e = kind-list k (ap is_list e)

-- ---- the view of a node that the technician's reader shows so

module _ (s : Sections) where
  -- with a note as void
  abbrev hidden_kind : NodeView → NodeKindView
  hidden_kind v = hide_note s.strings v.kind

  abbrev seen_node : NodeView → SleeperNode
  seen_node v = record { parent = v.parent; child_index = v.child_index; kind = kind_seen (hidden_kind v) }

  view-seen : (i : ℕ) (v : NodeView) → of_node (node_view s i) ≡ given v → of_sleeper (sleeper_view s i) ≡ given (seen_node v)
  unfolding sleeper_view hidden
  view-seen i v e = ap (λ (a : Option NodeView). of_sleeper (view_seen (hide_in s.strings a))) (node-given (node_view s i) v e)

  -- ---- climbing: a note keeps its parent

  step_same : (i : ℕ) → step_seen i (sleeper_view s i) ≡ step_up i (node_view s i)
  unfolding sleeper_view hidden
  step_same i = by (node_view s i)
    where
      by : (a : Option NodeView) → step_seen i (view_seen (hide_in s.strings a)) ≡ step_up i a
      by (Some v) = refl
      by None = refl

  ascend-same : (k i : ℕ) → ascend_seen s k i ≡ ascend s k i
  unfolding ascend_seen ascend
  ascend-same zero i = refl
  ascend-same (suc k) i = ap (ascend_seen s k) (step_same i) ∙ ascend-same k (step_up i (node_view s i))

  child-shown : (i j : ℕ) → ChildRead s i j → ChildShown s i j
  child-shown i j c =
      record {
        child = c.child;
        found = c.found;
        view = seen_node c.view;
        viewed = view-seen c.child c.view c.viewed;
        parent = c.parent;
        place = c.place;
      }

module _ (s : Sections) (g : Kept s) where
  -- ---- texts

  given-text : (w : Which) (t : List ℕ) → sleeper_text s w ≡ Some t → TextGiven s w
  given-text w t e = record { bytes = t; found = ap of_bytes e; encoded = texts-good s g w t (ap of_bytes e) }

  text_if_lem : (w : Which) (o : Option Span) → sleeper_text s w ≡ bytes_if s.strings o → TextIf (presence o) s w
  text_if_lem w (Some t) e = given-text w (text_or_empty s.strings t.offset t.len) e
  text_if_lem w None e = ap of_bytes e

  node-text : (i : ℕ) (v : NodeView) → of_node (node_view s i) ≡ given v → TextIf (has_text (kind_seen (hidden_kind s v))) s (which.Node i)
  unfolding sleeper_text text_place hidden
  node-text i v e =
      subst (λ (b : Bool). TextIf b s (which.Node i)) (text-told (hidden_kind s v))
      (text_if_lem (which.Node i) (kind_text (hidden_kind s v))
      (ap (λ (a : Option NodeView). bytes_if s.strings (of_kind kind_text (hide_in s.strings a))) (node-given (node_view s i) v e)))

  node-variable : (i : ℕ) (v : NodeView) → of_node (node_view s i) ≡ given v → TextIf (has_variable (kind_seen (hidden_kind s v))) s (which.Variable i)
  unfolding sleeper_text text_place hidden
  node-variable i v e =
      subst (λ (b : Bool). TextIf b s (which.Variable i)) (variable-told (hidden_kind s v))
      (text_if_lem (which.Variable i) (kind_variable (hidden_kind s v))
      (ap (λ (a : Option NodeView). bytes_if s.strings (of_kind kind_variable (hide_in s.strings a))) (node-given (node_view s i) v e)))

  named-shown : (i j : ℕ) → NamedRead s i j → NamedShown s i j
  named-shown i j n =
      let q = ((seen_as_technician s).named i j).found n.child (named-given (named_query s i j) n.child n.found) in
      record {
        child = n.child.node;
        found = ap of_found q.0;
        name = given-text (which.NamedChild i j) _ q.1;
        view = seen_node s n.view;
        viewed = view-seen s n.child.node n.view n.viewed;
        parent = n.parent;
      }

  -- ---- list values

  -- the payload of a list value has room for both counts
  list-long : (i : ℕ) → i < node_count s → (v : NodeView) → of_node (node_view s i) ≡ given v → (p : Span) → Memᴰ p (view_lists v.kind)
      → list_head_size ≤ length (list_part s p)
  unfolding fields
  list-long i h v e p m =
      let w = node_seen s i (a_node g i h) (g.rules.fields i h) in
      let same = given-equal _ v (sym (ap of_node w.view_is) ∙ e) in
      view-lists s (λ (x : Span). list_head_size ≤ length (list_part s x)) i (kind_of (tag_of s i)) w.kind
      (λ q l. let r = (subst (λ (k : Kind). Right s i k) q (g.rules.fields i h) payload (mathlib.Core.List.Memᴰ.head refl)).1 in
      omega (arith, part-long s (f s i 0) (f s i 1) r, r.long))
      w.kind_is p (subst (λ (x : NodeView). Memᴰ p (view_lists x.kind)) (sym same) m)

  list-shown : (i : ℕ) → i < node_count s → (r : Reads s i) → kind_seen (hidden_kind s r.view) ≡ seen.Value seenValue.List → ListShown s i
  list-shown i h r e =
      let k = list-kind (note_kind s.strings r.view.kind) r.view.kind e in
      let p = k.place in
      let m : Memᴰ p (view_lists r.view.kind) = subst (λ (x : NodeKindView). Memᴰ p (view_lists x)) (sym k.is) (mathlib.Core.List.Memᴰ.head refl) in
      let read = r.lists p m in
      let q = (seen_as_technician s).list i p (ap list_place (node-given (node_view s i) r.view r.viewed) ∙ ap list_of_kind k.is) in
      let counts = q.counts (list-long i h r.view r.viewed p m) in
      record {
        items = word_at (list_part s p) 0;
        item_count_lem = ap of_count counts.0;
        item = λ j l.
            let a = read.items j l in
            let b = (q.entry j).found a.item (entry-given (list_entry (list_part s p) s.strings j) a.item a.found) in
            record {
              entry = record { origin = presence a.item.origin; value = a.item.value };
              found = ap of_sleeper_entry b.0;
              name = given-text (which.EntryName i j) _ b.1;
              origin = text_if_lem (which.EntryOrigin i j) a.item.origin b.2;
            };
        origins = word_at (list_part s p) 4;
        origin-count = ap of_count counts.1;
        origin = λ j l.
            let a = read.origins j l in
            given-text (which.Origin i j) _ ((q.origin j).found a.origin (text-given (list_origin (list_part s p) s.strings j) a.origin a.found));
      }

  -- ---- a node

  node-shown : (i : ℕ) → i < node_count s → Reads s i → NodeShown s i
  node-shown i h r =
      record {
        view = seen_node s r.view;
        viewed = view-seen s i r.view r.viewed;
        technician = r.view;
        technician-viewed = r.viewed;
        parent = refl;
        place = refl;
        text = node-text i r.view r.viewed;
        variable = node-variable i r.view r.viewed;
        list = list-shown i h r;
        ascends = λ k l. ascend-same s k i ∙ r.ascends k l;
        parentless = r.parentless;
        depth = record {
          depth = r.depth.depth;
          found = r.depth.found;
          few = r.depth.few;
          arrives = ascend-same s r.depth.depth i ∙ r.depth.arrives;
          before = λ k l e. r.depth.before k l (sym (ascend-same s k i) ∙ e);
        };
        child-count = r.child-count;
        named_count_lem = r.named_count_lem;
        child = λ n e j l. child-shown s i j (r.child n e j l);
        named = λ n e j l. named-shown i j (r.named n e j l);
      }

  -- ---- all of it

  sections-shown : SectionsShown s
  sections-shown =
      let r = image-reads s g in
      record {
        nodes = λ i h. node-shown i h (r.nodes i h);
        walks = λ relative origin cs n e.
            let w = r.walks relative origin cs n e in
            record { inside = w.inside; view = seen_node s w.view; viewed = view-seen s n w.view w.viewed };
        definitions = λ d h.
            let a = r.definitions d h in
            let b = ((seen_as_technician s).definition d).found a.definition (definition-given (definition_query s d) a.definition a.found) in
            record {
              items = a.definition.items;
              found = ap of_count b.0;
              first = ap of_count b.1;
              name = given-text (which.Definition d) _ b.2;
              item = λ j l.
                  let x = a.items j l in
                  let y = ((seen_as_technician s).definition-item d j).found x.item (item-given (item_query s d j) x.item x.found) in
                  record { value = x.item.value; found = ap of_sleeper_item y.0; name = given-text (which.DefinitionItem d j) _ y.1 };
            };
        items = λ k h.
            let x = r.items k h in
            let y = ((seen_as_technician s).item k).found x.item (item-given (item_entry s k) x.item x.found) in
            record { value = x.item.value; found = ap of_sleeper_item y.0; name = given-text (which.Item k) _ y.1 };
        texts = texts-good s g;
      }

-- ---- after a load

-- the sleeper's load answers a view only where the technician's does
record BothLoaded (r : Result ImageView ℕ) (v : SleeperView) : Type 0 where
  pub technician : ImageView
  pub loaded : r ≡ Ok technician
  pub kept : without_places technician ≡ v

both-loaded : (r : Result ImageView ℕ) (v : SleeperView) → of_sleeper_loaded (loaded_seen r) ≡ given v → BothLoaded r v
both-loaded (Ok w) v e = record { technician = w; loaded = refl; kept = given-equal (without_places w) v e }
both-loaded (Err n) v e = absurd (none-some v (ap (λ (a : Answer SleeperView). a.value) e))

-- by the technician's view
image-shown : (bs : List ℕ) (work : ℕ) (v : ImageView) → Below 256 bs → loaded_of bs work ≡ Ok v → ImageShown bs work (without_places v)
unfolding loaded_of
image-shown bs work v b e =
    let a = answered (load_rule bs work) (view_of bs) v e in
    let o = opens bs (passed-rules bs (load-accepted bs work a.0)).header in
    let same = subst (λ (x : ImageView). sleeper_sections bs (without_places x) ≡ sections_by bs x) a.1 (whole-sections bs o b) in
    let again = subst (λ (x : ImageView). sections_of bs ≡ sleeper_sections bs (without_places x)) a.1 (sym (whole-sections bs o b)) in
    record {
      technician = v;
      loaded = ap of_loaded e;
      kept = refl;
      sections = same;
      promised = record {
        reads = subst ImageReads (sym same) (accepted-reads bs work v b (ap of_loaded e));
        lookups = subst Lookups (sym same) (accepted-lookups bs work v b (ap of_loaded e));
        sound = subst Sound again (accepted-sound bs work b a.0);
        spelling = subst OneSpelling again (accepted_one_spelling bs work a.0);
      };
      shown = subst SectionsShown again (sections-shown (sections_of bs) (load_kept bs work b a.0));
    }

pub accepted-shown : AcceptedShown
unfolding sleeper_loaded
accepted-shown bs work v b e =
    let r = both-loaded (loaded_of bs work) v e in
    subst (ImageShown bs work) r.kept (image-shown bs work r.technician b r.loaded)
