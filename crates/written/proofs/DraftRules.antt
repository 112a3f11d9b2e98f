-- The writer's rules in plain words, both ways.
use Prim.Native.Nat.{ℕ, ◌+◌, ◌%◌, ◌<◌}
use mathlib.Core.Path.{◌≡◌, refl, sym}
use mathlib.Core.Logic.{◌≢◌}
use mathlib.Core.List.{Memᴰ}
use mathlib.Core.Bool.{Bool, true, false, ◌||◌, not, true≢false}
use native.Mathlib.Omega.{arith}
use native.Mathlib.Decide.{ℕ_discrete}
use lib.ListN.{length}
use lib.Dec.{eqb, leb}
use borrow.Author.Tests.{eq-eqb, ne_eqb, eqb-true, eqb-false, le-leb, leb-true}
use Rattle.laws.proofs.First.{both, then, passed, pass, zero_as, first_all, first_of_lem}
use Rattle.laws.proofs.Flags.{both_true, all_at, all_of_lem}
use Rattle.laws.proofs.Members.{all_has}
use Rattle.words.specs.Words.{NONE}
use Rattle.texts.specs.Text.{same}
use Rattle.texts.proofs.Text.{same-equal, equal-same}
use Rattle.image.specs.Sections.{Sections, node_words, text_entry_words, definition_words, node_count, child_count, named_count, definition_count, item_count, parent_of, tag_of, child_word, named_word, inside, is_container}
use Rattle.image.specs.Header.{first_ink_version, last_ink_version}
use Rattle.records.specs.Fields.{Field}
use Rattle.records.specs.Records.{fields_at, fields_rule, root_right}
use Rattle.records.proofs.PassedRules.{root, used_up_lem, used_up_of}
use Rattle.tree.specs.Tree.{child_at, named_at, all_seen, read_walk}
use Rattle.tree.specs.Reach.{Reached}
use Rattle.tree.proofs.Numbers.{read-reached, reached-read}
use Rattle.tree.proofs.Entries.{children-pass, named-pass, entries-pass}
use Rattle.index.specs.Paths.{canonical_path, name_or_place}
use Rattle.definitions.specs.Definitions.{first_item, number_of_items, items_before, items_used_up}
use Rattle.draft.specs.Draft.{whole_entries, draft_node_rule, draft_child_rule, draft_named_rule, draft_definition_rule, draft_item_rule, tables_rule, write_words, reach_rule, relation_rule, order_rule, shape_rule, placed, new_path, path_rule, paths_rule}
use Rattle.draft.proofs.Rules.{TablesBy, tables, checked, tables_rule_by, entries-counts, entries_below, shape}
use Rattle.draft.proofs.ReachedNodes.{reached}
use Rattle.draft_image.specs.Encode.{image_for, draft_rule, encode_rule}
use Rattle.promises.specs.Rules.{NodeRight, FieldRight}
use Rattle.promises.proofs.Fields.{text-right, right-text, node-right, right-node, fields-right, right-fields, parent-right, right-parent}
use Rattle.promises.proofs.Way.{name-right, right-name}
use Rattle.promises.proofs.Acceptance.{right_child, right-named}
use Rattle.written.specs.DraftRules.{TablesRightBy, TablesRight, ShapeRight, PathsRight, EncodeRight, EncodesExactly, DraftsExactly}

module _ (s : Sections) where
  -- ---- 19

  -- by a rule of the nodes' fields and what it is in plain words
  pub tables-right_by : (rule : ℕ → ℕ) (Right : ℕ → Field → Type 0) → tables_rule_by s rule ≡ 0 → TablesBy s rule
      → ((i : ℕ) → i < node_count s → rule i ≡ 0 → (x : Field) → Memᴰ x (fields_at s i) → Right i x) → TablesRightBy s Right
  unfolding items_used_up
  tables-right_by rule Right p t right =
      let c = checked s (passed _ 18 (both _ _ p).0) in
      let u = used_up_lem s t.used in
      record {
        nodes-whole = c.nodes;
        named-whole = c.named;
        definitions-whole = c.definitions;
        items-whole = c.items;
        some = t.some;
        fields = λ i h. right i h (t.fields i h);
        parents = λ i h k. node-right s (parent_of s i) (t.parents i h k);
        children-used = u.children;
        named-used = u.named;
        payload-used = u.payload;
        child = λ j h. node-right s (child_word s j) (t.children j h);
        named-text = λ j h. text-right s _ _ (t.named-texts j h);
        named-node = λ j h. node-right s (named_word s j 2) (t.named-nodes j h);
        definition = λ d h.
            let q = both_true (leb (first_item s d + number_of_items s d) (item_count s)) _ (t.definitions d h).1 in
            record { text = text-right s _ _ (t.definitions d h).0; inside = leb-true _ _ q.0; start = eqb-true _ _ q.1 };
        items-used = eqb-true _ _ t.items-used;
        item = λ j h. text-right s _ _ (t.items j h);
      }

  tables-right : tables_rule s ≡ 0 → TablesRight s
  unfolding tables_rule draft_node_rule
  tables-right p = tables-right_by (fields_rule s) (FieldRight s) p (tables s p) (λ i h. fields-right s i)

  parent-inside : (i : ℕ) → (0 < i → NodeRight s (parent_of s i)) → (eqb i 0 || inside s (parent_of s i)) ≡ true
  parent-inside i h =
      elim (ℕ_discrete i 0) [
        | yes e ↦ rw (eq-eqb i 0 e)
        | no d ↦ rw (ne_eqb i 0 d) (right-node s (parent_of s i) (h (omega arith)))
      ]

  whole-entries : (Right : ℕ → Field → Type 0) → TablesRightBy s Right → whole_entries s ≡ true
  unfolding whole_entries
  whole-entries Right t =
      rw (
        eq-eqb (length s.nodes % node_words s.version) 0 t.nodes-whole,
        eq-eqb (length s.named % text_entry_words) 0 t.named-whole,
        eq-eqb (length s.definitions % definition_words) 0 t.definitions-whole,
        eq-eqb (length s.items % text_entry_words) 0 t.items-whole,
        ne_eqb (node_count s) 0 (λ e. omega (arith, t.some)),
      )

  pub right-tables_by : (rule : ℕ → ℕ) (Right : ℕ → Field → Type 0) → TablesRightBy s Right
      → ((i : ℕ) → ((x : Field) → Memᴰ x (fields_at s i) → Right i x) → rule i ≡ 0) → tables_rule_by s rule ≡ 0
  unfolding draft_child_rule draft_named_rule draft_definition_rule draft_item_rule items_used_up
  right-tables_by rule Right t right =
      then _ _ (pass _ 19 (whole-entries Right t))
      (then _ _
      (first_of_lem (node_count s) _
      (λ i h. then _ _ (zero_as 19 _ (right i (t.fields i h))) (pass _ 19 (parent-inside i (t.parents i h)))))
      (then _ _ (pass _ 19 (used_up_of s (record { children = t.children-used; named = t.named-used; payload = t.payload-used })))
      (then _ _ (first_of_lem (child_count s) _ (λ j h. pass _ 19 (right-node s (child_word s j) (t.child j h))))
      (then _ _
      (first_of_lem (named_count s) _
      (λ j h. then _ _ (pass _ 19 (right-text s _ _ (t.named-text j h))) (pass _ 19 (right-node s (named_word s j 2) (t.named-node j h)))))
      (then _ _
      (first_of_lem (definition_count s) _
      (λ d h.
      let q = t.definition d h in
      then _ _ (pass _ 19 (right-text s _ _ q.text))
      (pass _ 19 (rw (le-leb (first_item s d + number_of_items s d) (item_count s) q.inside, eq-eqb (first_item s d) (items_before s d) q.start)))))
      (then _ _ (pass _ 19 (eq-eqb _ _ t.items-used)) (first_of_lem (item_count s) _ (λ j h. pass _ 19 (right-text s _ _ (t.item j h))))))))))

  right-tables : TablesRight s → tables_rule s ≡ 0
  unfolding tables_rule draft_node_rule
  right-tables t = right-tables_by (fields_rule s) (FieldRight s) t (right-fields s)

  -- ---- 20

  pub reached-right : reach_rule s ≡ 0 → (i : ℕ) → i < node_count s → Reached s i
  reached-right p i h = all_has (Reached s) i (read_walk s).seen (reached s p i h) (read-reached s)

  pub right-reached : (rule : ℕ → ℕ) → TablesBy s rule → ((i : ℕ) → i < node_count s → Reached s i) → reach_rule s ≡ 0
  unfolding reach_rule all_seen
  right-reached rule t r =
      pass _ 20 (all_of_lem _ _ (λ i h. reached-read s (entries-counts s t) (λ k l. entries_below s t k l) i (r i h)))

  -- ---- 21

  pub shape-right : shape_rule s ≡ 0 → ShapeRight s
  shape-right p =
      let u = shape s p in
      let r = root s u.root in
      record {
        root-parent = r.parent;
        root-place = r.place;
        root-container = r.tag;
        parents = λ i h k. parent-right s i k (u.parents i h);
        child = λ i h j k.
            let q = children-pass s i (u.entries i h) j k in
            record { node = node-right s (child_at s i j) q.within; parent = q.parent; place = q.place };
        entry = λ i h j k.
            let q = named-pass s i (u.entries i h) j k in
            record {
              text = text-right s _ _ q.text;
              order = q.order;
              container = record { node = node-right s (named_at s i j 2) q.within; container = eqb-true (tag_of s (named_at s i j 2)) 1 q.container };
              parent = q.parent;
            };
        definitions-rise = u.rising-definitions;
        items-rise = u.rising-items;
      }

  right-root : ShapeRight s → root_right s ≡ true
  unfolding root_right
  right-root r = rw (eq-eqb _ _ r.root-parent, eq-eqb _ _ r.root-place, eq-eqb _ _ r.root-container)

  pub right-shape : ShapeRight s → shape_rule s ≡ 0
  unfolding shape_rule relation_rule order_rule
  right-shape r =
      then _ _ (pass _ 21 (right-root r))
      (then _ _
      (first_of_lem (node_count s) _
      (λ i h.
      then _ _ (zero_as 21 _ (right-parent s i (r.parents i h)))
      (zero_as 21 _ (entries-pass s i (λ j k. right_child s i j (r.child i h j k)) (λ j k. right-named s i j (r.entry i h j k))))))
      (first_of_lem (definition_count s) _
      (λ d h. then _ _ (pass _ 21 (r.definitions-rise d h)) (first_of_lem (number_of_items s d) _ (λ j k. pass _ 21 (r.items-rise d h j k))))))

  -- ---- 22

  one_of : (a b c : Bool) → (not a || b || c) ≡ true → a ≡ true → b ≡ false → c ≡ true
  one_of true false c e p q = e
  one_of false b c e p q = absurd (true≢false (sym p))
  one_of true true c e p q = absurd (true≢false q)

  of_one : (a b c : Bool) → (a ≡ true → b ≡ false → c ≡ true) → (not a || b || c) ≡ true
  of_one true false c h = h refl refl
  of_one true true c h = refl
  of_one false true c h = refl
  of_one false false c h = refl

  two_apart : (a b c : Bool) → (not a || (not b || not c)) ≡ true → a ≡ true → b ≡ true → c ≡ true → ⊥
  two_apart true true true e p q r = true≢false (sym e)
  two_apart true true false e p q r = true≢false (sym r)
  two_apart true false c e p q r = true≢false (sym q)
  two_apart false b c e p q r = true≢false (sym p)

  apart_two : (a b c : Bool) → (a ≡ true → b ≡ true → c ≡ true → ⊥) → (not a || (not b || not c)) ≡ true
  apart_two true true true h = absurd (h refl refl refl)
  apart_two true true false h = refl
  apart_two true false c h = refl
  apart_two false b c h = refl

  paths-right : paths_rule s ≡ 0 → PathsRight s
  unfolding paths_rule path_rule placed new_path
  paths-right p =
      record {
        placed = λ i h c d.
            let q = both _ _ (first_all _ _ p i h) in
            name-right s i (one_of (is_container s i) (eqb i 0) (name_or_place s i) (passed _ 21 q.0) c (ne_eqb i 0 d));
        differ = λ i j h k a b e.
            let q = both _ _ (first_all _ _ p i h) in
            new_differs i (passed _ 21 q.1) j k a b e;
      }
    where
      new_differs : (i : ℕ) → new_path s i ≡ true → (j : ℕ) → j < i → is_container s j ≡ true → is_container s i ≡ true → canonical_path s j ≢ canonical_path s i
      new_differs i q j k a b e =
          let all = rw b at q in
          two_apart true (is_container s j) (same (canonical_path s j) (canonical_path s i)) (all_at i _ all j k) refl a (equal-same _ _ e)

  right-paths : PathsRight s → paths_rule s ≡ 0
  unfolding paths_rule path_rule placed new_path
  right-paths r = first_of_lem (node_count s) _ (λ i h. then _ _ (pass _ 22 (is_placed i h)) (pass _ 22 (is_new i h)))
    where
      is_placed : (i : ℕ) → i < node_count s → placed s i ≡ true
      is_placed i h = of_one (is_container s i) (eqb i 0) (name_or_place s i) (λ c d. right-name s i (r.placed i h c (eqb-false i 0 d)))

      is_new : (i : ℕ) → i < node_count s → new_path s i ≡ true
      is_new i h = by (is_container s i) refl
        where
          by : (b : Bool) → is_container s i ≡ b → new_path s i ≡ true
          by false e = rw e
          by true e =
              rw e
              (all_of_lem i _ (λ j k. apart_two true (is_container s j) (same (canonical_path s j) (canonical_path s i))
              (λ t c q. r.differ i j h k c e (same-equal _ _ q))))

-- ---- 19 to 22

pub drafts-exactly : DraftsExactly
drafts-exactly s = (
  λ p. record { tables = tables-right s p.0; reached = reached-right s p.1; shape = shape-right s p.2; paths = paths-right s p.3 },
  λ r.
      let t = right-tables s r.tables in
      (t, right-reached s (fields_rule s) (tables s t) r.reached, right-shape s r.shape, right-paths s r.paths),
)

-- ---- all of it

module _ (ink : ℕ) (s : Sections) (work room : ℕ) where
  encode-right : encode_rule ink s work room ≡ 0 → EncodeRight ink s work room
  unfolding encode_rule draft_rule
  encode-right p =
      let d = both _ _ p in
      let after_ink = both _ _ d.0 in
      let after-tables = both _ _ after_ink.1 in
      let after-words = both _ _ after-tables.1 in
      let after-reach = both _ _ after-words.1 in
      let after-shape = both _ _ after-reach.1 in
      let versions = both_true (leb first_ink_version ink) _ (passed _ 2 after_ink.0) in
      let fit = both_true (leb (length (image_for ink s)) room) _ (passed _ 22 d.1) in
      record {
        ink_least = leb-true _ _ versions.0;
        ink_most = leb-true _ _ versions.1;
        draft = (drafts-exactly s).0 (after-tables.0, after-reach.0, after-shape.0, after-shape.1);
        words = leb-true _ _ (passed _ 6 after-words.0);
        room-enough = leb-true _ _ fit.0;
        length-fits = leb-true _ _ fit.1;
      }

  right-encode : EncodeRight ink s work room → encode_rule ink s work room ≡ 0
  unfolding encode_rule draft_rule
  right-encode r =
      let d = (drafts-exactly s).1 r.draft in
      then _ _
      (then _ _ (pass _ 3 (rw (le-leb first_ink_version ink r.ink_least, le-leb ink last_ink_version r.ink_most)))
      (then _ _ d.0
      (then _ _ (pass _ 7 (le-leb (write_words s) work r.words)) (then _ _ d.1 (then _ _ d.2 d.3)))))
      (pass _ 23 (rw (le-leb (length (image_for ink s)) room r.room-enough, le-leb (length (image_for ink s)) NONE r.length-fits)))

pub encodes-exactly : EncodesExactly
encodes-exactly ink s work room = (encode-right ink s work room, right-encode ink s work room)
