-- What record rules that pass give: of a field, of a list's payload, of a node, of its parent and target, and of all nodes.
use Prim.Native.Nat.{ℕ, zero, suc, ◌+◌, ◌*◌, ◌≤◌, ◌<◌}
use mathlib.Core.Path.{◌≡◌, refl, sym, ap, ◌∙◌, subst}
use mathlib.Core.Logic.{⊎_elim}
use mathlib.Core.Bool.{Bool, true, not, ◌&&◌, ◌||◌, true≢false}
use mathlib.Core.List.Memᴰ
use mathlib.Core.List.{List, [], ◌∷◌, Memᴰ}
use native.Mathlib.Omega.{arith}
use native.Mathlib.Decide.{ℕ_discrete}
use native.Mathlib.Nat.{add-zero}
use lib.ListN.{length}
use lib.Dec.{leb, ltb, eqb}
use borrow.Author.Tests.{leb-true, ltb-true, eqb-true, eq-eqb, ne_eqb, not-true}
use Rattle.laws.specs.Refusal.{unless, first_of}
use Rattle.laws.specs.Counted.{sum_of}
use Rattle.laws.proofs.First.{both, then, second, passed, first_all}
use Rattle.laws.proofs.Flags.{both_true}
use Rattle.laws.proofs.Chains.{refused}
use Rattle.words.specs.Words.{NONE, is_none}
use Rattle.texts.specs.Text.{holds}
use Rattle.names.specs.Names.{commands, operators}
use Rattle.image.specs.declared.NodeRecord.{NodeRecord}
use Rattle.image.specs.Entries.{node_in}
use Rattle.image.specs.Sections.{list_head_size, list_item_size, list_origin_size, Sections, node_count, child_count, named_count, parent_of, place_of, tag_of, f, text_at, good_text, good_optional, inside, is_container, inside_container}
use Rattle.records.specs.declared.Sums.{Sums}
use Rattle.records.specs.Fields.{Kind, Container, Choice, Command, Divert, Glue, Operator, Tag, BoolValue, IntValue, FloatValue, StringValue, ListValue, TargetValue, PointerValue, Assignment, Reference, Void, Unknown, Field, text, optional, command, operator, node, optionalNode, container, optionalContainer, at_most, children, named, payload, kinds, kind_of, fields, target_among}
use Rattle.records.specs.Records.{field_word, target_in, target_of, number_of_children, number_of_named, payload_length_of, container_of, children_before, named_before, payload_before, containers_before, list_items, list_origins, list_item_word, list_origin_word, list_item_rule, list_origin_rule, payload_rule, field_rule, first_field, fields_rule, parent_rule, node_rule, root_right, used_up}
use Rattle.records.specs.Shown.{sums_before, sums_after}

-- ---- node numbers

pub record Node (s : Sections) (n : ℕ) : Type 0 where
  pub below : n < node_count s
  pub some : n ≡ NONE → ⊥

pub node_of_lem : (s : Sections) (n : ℕ) → inside s n ≡ true → Node s n
node_of_lem s n h =
    let p = both_true (ltb n (node_count s)) (not (is_none n)) h in
    record { below = ltb-true n (node_count s) p.0; some = λ e. true≢false (sym (eq-eqb n NONE e) ∙ not-true (is_none n) p.1) }

-- a word that may be absent
or_some : (n : ℕ) (b : Bool) → (is_none n || b) ≡ true → (n ≡ NONE → ⊥) → b ≡ true
or_some n b h d = rw (ne_eqb n NONE d) at h

-- ---- fields

-- each field of those that pass
pub each_field : (s : Sections) (i : ℕ) (xs : List Field) → first_field s i xs ≡ 0 → (x : Field) → Memᴰ x xs → field_rule s i x ≡ 0
unfolding first_field
each_field s i [] p x m = absurd (Memᴰ.not-nil m)
each_field s i (y ∷ ys) p x m =
    ⊎_elim (λ e. ap (field_rule s i) e ∙ (both (field_rule s i y) (first_field s i ys) p).0)
    (λ q. each_field s i ys (both (field_rule s i y) (first_field s i ys) p).1 x q) (Memᴰ.cases_cons m)

-- and where each passes, all do
pub all_fields-pass : (s : Sections) (i : ℕ) (xs : List Field) → ((x : Field) → Memᴰ x xs → field_rule s i x ≡ 0) → first_field s i xs ≡ 0
unfolding first_field
all_fields-pass s i [] p = refl
all_fields-pass s i (y ∷ ys) p =
    then (field_rule s i y) (first_field s i ys) (p y (Memᴰ.head refl)) (all_fields-pass s i ys (λ x m. p x (Memᴰ.tail m)))

module _ (s : Sections) (i : ℕ) where
  pub text-passed : (k : ℕ) → field_rule s i (text k) ≡ 0 → good_text s (f s i k) (f s i (k + 1)) ≡ true
  unfolding field_rule
  text-passed k p = passed _ 9 p

  pub optional-passed : (k : ℕ) → field_rule s i (optional k) ≡ 0 → good_optional s (f s i k) (f s i (k + 1)) ≡ true
  unfolding field_rule
  optional-passed k p = passed _ 9 p

  pub command_passed : (k : ℕ) → field_rule s i (command k) ≡ 0
      → (good_text s (f s i k) (f s i (k + 1)) ≡ true) × (holds commands (text_at s (f s i k) (f s i (k + 1))) ≡ true)
  unfolding field_rule
  command_passed k p = let q = both _ _ p in (passed _ 9 q.0, passed _ 11 q.1)

  pub operator_passed : (k : ℕ) → field_rule s i (operator k) ≡ 0
      → (good_text s (f s i k) (f s i (k + 1)) ≡ true) × (holds operators (text_at s (f s i k) (f s i (k + 1))) ≡ true)
  unfolding field_rule
  operator_passed k p = let q = both _ _ p in (passed _ 9 q.0, passed _ 11 q.1)

  pub node-passed : (k : ℕ) → field_rule s i (node k) ≡ 0 → inside s (f s i k) ≡ true
  unfolding field_rule
  node-passed k p = passed _ 8 p

  pub optional-node-passed : (k : ℕ) → field_rule s i (optionalNode k) ≡ 0 → (f s i k ≡ NONE → ⊥) → inside s (f s i k) ≡ true
  unfolding field_rule
  optional-node-passed k p d = or_some (f s i k) (inside s (f s i k)) (passed _ 8 p) d

  pub container-passed : (k : ℕ) → field_rule s i (container k) ≡ 0 → inside_container s (f s i k) ≡ true
  unfolding field_rule
  container-passed k p = passed _ 8 p

  pub optional-container-passed : (k : ℕ) → field_rule s i (optionalContainer k) ≡ 0 → (f s i k ≡ NONE → ⊥) → inside_container s (f s i k) ≡ true
  unfolding field_rule
  optional-container-passed k p d = or_some (f s i k) (inside_container s (f s i k)) (passed _ 8 p) d

  pub at_most-passed : (k n : ℕ) → field_rule s i (at_most k n) ≡ 0 → f s i k ≤ n
  unfolding field_rule
  at_most-passed k n p = leb-true _ _ (passed _ 11 p)

  pub children-passed : field_rule s i children ≡ 0 → (f s i 3 + f s i 4 ≤ child_count s) × (f s i 3 ≡ children_before s i)
  unfolding field_rule
  children-passed p =
      let q = both_true (leb (f s i 3 + f s i 4) (child_count s)) (eqb (f s i 3) (children_before s i)) (passed _ 10 p) in
      (leb-true _ _ q.0, eqb-true _ _ q.1)

  pub named-passed : field_rule s i named ≡ 0 → (f s i 5 + f s i 6 ≤ named_count s) × (f s i 5 ≡ named_before s i)
  unfolding field_rule
  named-passed p =
      let q = both_true (leb (f s i 5 + f s i 6) (named_count s)) (eqb (f s i 5) (named_before s i)) (passed _ 10 p) in
      (leb-true _ _ q.0, eqb-true _ _ q.1)

  pub payload-passed : field_rule s i payload ≡ 0 → (f s i 0 ≡ payload_before s i) × (payload_rule s (f s i 0) (f s i 1) ≡ 0)
  unfolding field_rule
  payload-passed p = let q = both _ _ p in (eqb-true _ _ (passed _ 10 q.0), q.1)

-- ---- a list's payload

pub record ListPassed (s : Sections) (at len : ℕ) : Type 0 where
  pub inside : at + len ≤ length s.payload
  pub long : 8 ≤ len
  pub exact : len ≡ list_head_size + list_items s at * list_item_size + list_origins s at * list_origin_size
  pub item-origin : (j : ℕ) → j < list_items s at → good_optional s (list_item_word s at j 0) (list_item_word s at j 1) ≡ true
  pub item-name : (j : ℕ) → j < list_items s at → good_text s (list_item_word s at j 2) (list_item_word s at j 3) ≡ true
  pub origin : (j : ℕ) → j < list_origins s at → good_text s (list_origin_word s at j 0) (list_origin_word s at j 1) ≡ true

pub list-passed : (s : Sections) (at len : ℕ) → payload_rule s at len ≡ 0 → ListPassed s at len
unfolding payload_rule
list-passed s at len p =
    let lengths = both _ _ p in
    let entries = both _ _ lengths.1 in
    let fits = leb (at + len) (length s.payload) in
    let exact = both_true (fits && leb list_head_size len) _ (passed _ 10 lengths.0) in
    let here = both_true fits (leb list_head_size len) exact.0 in
    record {
      inside = leb-true _ _ here.0;
      long = leb-true _ _ here.1;
      exact = eqb-true _ _ exact.1;
      item-origin = λ j h. unfold list_item_rule in passed _ 9 (both _ _ (first_all _ (list_item_rule s at) entries.0 j h)).0;
      item-name = λ j h. unfold list_item_rule in passed _ 9 (both _ _ (first_all _ (list_item_rule s at) entries.0 j h)).1;
      origin = λ j h. unfold list_origin_rule in passed _ 9 (first_all _ (list_origin_rule s at) entries.1 j h);
    }

-- ---- a node

module _ (s : Sections) (i : ℕ) where
  -- the fields by the tag
  tagged : (t : ℕ) → tag_of s i ≡ t → fields_rule s i ≡ 0 → first_field s i (fields (kind_of t)) ≡ 0
  tagged t e p = subst (λ (x : ℕ). first_field s i (fields (kind_of x)) ≡ 0) e p

  pub known-kind : fields_rule s i ≡ 0 → kind_of (tag_of s i) ≡ Unknown → ⊥
  known-kind p e = wrong-kind (subst (λ (k : Kind). first_field s i (fields k) ≡ 0) e p)
    where
      wrong-kind : first_field s i (fields Unknown) ≡ 0 → ⊥
      wrong-kind q = unfold first_field field_rule fields in let z : ◌≡◌ {A = ℕ} 12 0 = (both _ _ q).0 in omega arith

  -- a container begins where the ranges before it end
  pub record Ranges : Type 0 where
    pub name : good_optional s (f s i 0) (f s i 1) ≡ true
    pub children-start : f s i 3 ≡ children_before s i
    pub children_end : f s i 3 + f s i 4 ≤ child_count s
    pub named_start : f s i 5 ≡ named_before s i
    pub named_end : f s i 5 + f s i 6 ≤ named_count s

  pub ranges : is_container s i ≡ true → fields_rule s i ≡ 0 → Ranges
  ranges c p = parts (tagged 1 (eqb-true (tag_of s i) 1 c) p)
    where
      parts : first_field s i (fields (kind_of 1)) ≡ 0 → Ranges
      parts q = unfold first_field fields kinds in
          let after-name = both _ _ q in
          let after-flags = both _ _ after-name.1 in
          let after-children = both _ _ after-flags.1 in
          let ordered = children-passed s i after-children.0 in
          let by_name = named-passed s i (both _ _ after-children.1).0 in
          record {
            name = optional-passed s i 0 after-name.0;
            children-start = ordered.1;
            children_end = ordered.0;
            named_start = by_name.1;
            named_end = by_name.0;
          }

  -- a list's payload begins where those before it end
  pub payload-range : tag_of s i ≡ 12 → fields_rule s i ≡ 0 → (f s i 0 ≡ payload_before s i) × ListPassed s (f s i 0) (f s i 1)
  payload-range e p = parts (tagged 12 e p)
    where
      parts : first_field s i (fields (kind_of 12)) ≡ 0 → (f s i 0 ≡ payload_before s i) × ListPassed s (f s i 0) (f s i 1)
      parts q = unfold first_field fields kinds in
          let r = payload-passed s i (both _ _ q).0 in
          (r.0, list-passed s (f s i 0) (f s i 1) r.1)

-- ---- sums

-- what holds of the sums before node i: they stay in their sections
pub record Within (s : Sections) (i : ℕ) : Type 0 where
  pub children : children_before s i ≤ child_count s
  pub named : named_before s i ≤ named_count s
  pub payload : payload_before s i ≤ length s.payload
  pub containers : containers_before s i ≤ i

-- the counts of a container, of a list, of another kind
module _ (s : Sections) (i : ℕ) where
  pub record Counted (children named payload containers : ℕ) : Type 0 where
    pub children_are : number_of_children s i ≡ children
    pub named_are : number_of_named s i ≡ named
    pub payload_is : payload_length_of s i ≡ payload
    pub containers_are : container_of s i ≡ containers

  pub container-counts : tag_of s i ≡ 1 → Counted (f s i 4) (f s i 6) 0 1
  unfolding number_of_children number_of_named payload_length_of container_of
  container-counts e = record { children_are = rw e; named_are = rw e; payload_is = rw e; containers_are = rw e }

  pub list_counts : tag_of s i ≡ 12 → Counted 0 0 (f s i 1) 0
  unfolding number_of_children number_of_named payload_length_of container_of
  list_counts e = record { children_are = rw e; named_are = rw e; payload_is = rw e; containers_are = rw e }

  pub other-counts : (tag_of s i ≡ 1 → ⊥) → (tag_of s i ≡ 12 → ⊥) → Counted 0 0 0 0
  unfolding number_of_children number_of_named payload_length_of container_of
  other-counts d e =
      let one = ne_eqb (tag_of s i) 1 d in
      let twelve = ne_eqb (tag_of s i) 12 e in
      record { children_are = rw one; named_are = rw one; payload_is = rw twelve; containers_are = rw one }

  -- the sums before the next node
  pub next-sums : {a b c d : ℕ} → Counted a b c d
      → sums_before s (suc i) ≡ record { children = children_before s i + a; named = named_before s i + b; payload = payload_before s i + c; containers = containers_before s i + d }
  unfolding sum_of
  next-sums n =
      λ j.
      record {
        children = children_before s i + n.children_are j;
        named = named_before s i + n.named_are j;
        payload = payload_before s i + n.payload_is j;
        containers = containers_before s i + n.containers_are j;
      }

-- before the first node
pub first-sums : (s : Sections) → ◌≡◌ {A = Sums} (record { children = 0; named = 0; payload = 0; containers = 0 }) (sums_before s 0)
unfolding sum_of
first-sums s = refl

pub within-start : (s : Sections) → Within s 0
unfolding sum_of
within-start s = record { children = omega arith; named = omega arith; payload = omega arith; containers = omega arith }

pub within-next : (s : Sections) (i : ℕ) → Within s i → fields_rule s i ≡ 0 → Within s (suc i)
within-next s i w p = by (ℕ_discrete (tag_of s i) 1) (ℕ_discrete (tag_of s i) 12)
  where
    next : {a b c d : ℕ} → Counted s i a b c d → children_before s i + a ≤ child_count s → named_before s i + b ≤ named_count s
        → payload_before s i + c ≤ length s.payload → d ≤ 1 → Within s (suc i)
    next n ha hb hc hd = unfold sum_of in
        record {
          children = omega (arith, n.children_are);
          named = omega (arith, n.named_are);
          payload = omega (arith, n.payload_is);
          containers = omega (arith, n.containers_are);
        }

    by : Dec (tag_of s i ≡ 1) → Dec (tag_of s i ≡ 12) → Within s (suc i)
    by (yes e) t = let r = ranges s i (eq-eqb (tag_of s i) 1 e) p in next (container-counts s i e) (omega arith) (omega arith) (omega arith) (omega arith)
    by (no d) (yes e) =
        let r = payload-range s i e p in
        let start : f s i 0 ≡ payload_before s i = r.0 in
        let end : f s i 0 + f s i 1 ≤ length s.payload = r.1.inside in
        next (list_counts s i e) (omega arith) (omega arith) (omega arith) (omega arith)
    by (no d) (no e) = next (other-counts s i d e) (omega arith) (omega arith) (omega arith) (omega arith)

pub within : (s : Sections) (n : ℕ) → ((i : ℕ) → i < n → fields_rule s i ≡ 0) → Within s n
within s zero p = within-start s
within s (suc n) p = within-next s n (within s n (λ i h. p i (omega arith))) (p n (omega arith))

-- the sums before the next node, by the ends of this one's ranges

module _ (s : Sections) (i : ℕ) (u : Sums) (r : NodeRecord) (q : u ≡ sums_before s i) (h : r ≡ node_in s i) where
  tag_is : (t : ℕ) → r.tag ≡ t → tag_of s i ≡ t
  tag_is t e = sym (ap (λ (x : NodeRecord). x.tag) h) ∙ e

  -- sums that stay
  children-stay : u.children ≡ children_before s i + 0
  children-stay = ap (λ (x : Sums). x.children) q ∙ sym (add-zero (children_before s i))

  named-stay : u.named ≡ named_before s i + 0
  named-stay = ap (λ (x : Sums). x.named) q ∙ sym (add-zero (named_before s i))

  payload-stays : u.payload ≡ payload_before s i + 0
  payload-stays = ap (λ (x : Sums). x.payload) q ∙ sym (add-zero (payload_before s i))

  containers-stay : u.containers ≡ containers_before s i + 0
  containers-stay = ap (λ (x : Sums). x.containers) q ∙ sym (add-zero (containers_before s i))

  pub sums-container : r.tag ≡ 1 → fields_rule s i ≡ 0
      → ◌≡◌ {A = Sums} (record { children = r.f3 + r.f4; named = r.f5 + r.f6; payload = u.payload; containers = u.containers + 1 }) (sums_before s (suc i))
  sums-container e p =
      let g = ranges s i (eq-eqb (tag_of s i) 1 (tag_is 1 e)) p in
      let start : r.f3 ≡ children_before s i = ap (λ (x : NodeRecord). x.f3) h ∙ g.children-start in
      let named_start : r.f5 ≡ named_before s i = ap (λ (x : NodeRecord). x.f5) h ∙ g.named_start in
      (λ j. record { children = start j + (h j).f4; named = named_start j + (h j).f6; payload = payload-stays j; containers = (q j).containers + 1 })
      ∙ sym (next-sums s i (container-counts s i (tag_is 1 e)))

  pub sums-list : r.tag ≡ 12 → fields_rule s i ≡ 0
      → ◌≡◌ {A = Sums} (record { children = u.children; named = u.named; payload = r.f0 + r.f1; containers = u.containers }) (sums_before s (suc i))
  sums-list e p =
      let start : r.f0 ≡ payload_before s i = ap (λ (x : NodeRecord). x.f0) h ∙ (payload-range s i (tag_is 12 e) p).0 in
      (λ j. record { children = children-stay j; named = named-stay j; payload = start j + (h j).f1; containers = containers-stay j })
      ∙ sym (next-sums s i (list_counts s i (tag_is 12 e)))

  pub sums-other : (r.tag ≡ 1 → ⊥) → (r.tag ≡ 12 → ⊥) → u ≡ sums_before s (suc i)
  sums-other d e =
      let same : r.tag ≡ tag_of s i = ap (λ (x : NodeRecord). x.tag) h in
      (λ j. record { children = children-stay j; named = named-stay j; payload = payload-stays j; containers = containers-stay j })
      ∙ sym (next-sums s i (other-counts s i (λ t. d (same ∙ t)) (λ t. e (same ∙ t))))

  -- so the sums after a node whose field rules pass are those before the next one
  pub shown-sums : fields_rule s i ≡ 0 → sums_after u r ≡ sums_before s (suc i)
  unfolding sums_after
  shown-sums p =
      elim (ℕ_discrete r.tag 1) [
        | yes e ↦ rw (eq-eqb r.tag 1 e) (sums-container e p)
        | no d ↦ elim (ℕ_discrete r.tag 12) [
          | yes e ↦ rw e (sums-list e p)
          | no o ↦ rw (ne_eqb r.tag 1 d, ne_eqb r.tag 12 o) (sums-other d o)
        ]
      ]

-- ---- nothing left over

pub record UsedUp (s : Sections) : Type 0 where
  pub children : children_before s (node_count s) ≡ child_count s
  pub named : named_before s (node_count s) ≡ named_count s
  pub payload : payload_before s (node_count s) ≡ length s.payload

pub used_up_lem : (s : Sections) → used_up s ≡ true → UsedUp s
unfolding used_up
used_up_lem s h =
    let first = eqb (children_before s (node_count s)) (child_count s) in
    let second = eqb (named_before s (node_count s)) (named_count s) in
    let all = both_true (first && second) _ h in
    let two = both_true first second all.0 in
    record { children = eqb-true _ _ two.0; named = eqb-true _ _ two.1; payload = eqb-true _ _ all.1 }

pub used_up_of : (s : Sections) → UsedUp s → used_up s ≡ true
unfolding used_up
used_up_of s u = rw (eq-eqb _ _ u.children, eq-eqb _ _ u.named, eq-eqb _ _ u.payload)

-- ---- the root

pub record Root (s : Sections) : Type 0 where
  pub parent : parent_of s 0 ≡ NONE
  pub place : place_of s 0 ≡ NONE
  pub tag : tag_of s 0 ≡ 1

pub root : (s : Sections) → root_right s ≡ true → Root s
unfolding root_right
root s h =
    let all = both_true (is_none (parent_of s 0) && is_none (place_of s 0)) (is_container s 0) h in
    let two = both_true (is_none (parent_of s 0)) (is_none (place_of s 0)) all.0 in
    record { parent = eqb-true _ _ two.0; place = eqb-true _ _ two.1; tag = eqb-true _ _ all.1 }

-- ---- parents

pub record Parent (s : Sections) (i : ℕ) : Type 0 where
  pub node : Node s (parent_of s i)
  pub container : is_container s (parent_of s i) ≡ true
  pub other : parent_of s i ≡ i → ⊥

pub parent : (s : Sections) (i : ℕ) → 0 < i → parent_rule s i ≡ 0 → Parent s i
unfolding parent_rule
parent s i h p =
    let q : unless (inside_container s (parent_of s i) && not (eqb (parent_of s i) i)) 9 ≡ 0 = rw (ne_eqb i 0 (λ e. omega arith)) at p in
    let all = both_true (inside_container s (parent_of s i)) (not (eqb (parent_of s i) i)) (passed _ 8 q) in
    let two = both_true (inside s (parent_of s i)) (is_container s (parent_of s i)) all.0 in
    record {
      node = node_of_lem s (parent_of s i) two.0;
      container = two.1;
      other = λ e. true≢false (sym (eq-eqb (parent_of s i) i e) ∙ not-true (eqb (parent_of s i) i) all.1);
    }

-- ---- targets

module _ (s : Sections) (i : ℕ) where
  kind-target : (k : Kind) → first_field s i (fields k) ≡ 0 → (target_of s i k ≡ NONE → ⊥) → Node s (target_of s i k)
  unfolding first_field fields target_in field_word target_among
  kind-target Choice p d = node_of_lem s _ (both_true _ _ (container-passed s i 2 (both _ _ (both _ _ p).1).0)).0
  kind-target Divert p d = node_of_lem s _ (optional-node-passed s i 2 (both _ _ (both _ _ p).1).0 d)
  kind-target TargetValue p d = node_of_lem s _ (node-passed s i 2 (both _ _ (both _ _ p).1).0)
  kind-target Reference p d = node_of_lem s _ (both_true _ _ (optional-container-passed s i 4 (both _ _ (both _ _ (both _ _ p).1).1).0 d)).0
  kind-target Container p d = absurd (d refl)
  kind-target Command p d = absurd (d refl)
  kind-target Glue p d = absurd (d refl)
  kind-target Operator p d = absurd (d refl)
  kind-target Tag p d = absurd (d refl)
  kind-target BoolValue p d = absurd (d refl)
  kind-target IntValue p d = absurd (d refl)
  kind-target FloatValue p d = absurd (d refl)
  kind-target StringValue p d = absurd (d refl)
  kind-target ListValue p d = absurd (d refl)
  kind-target PointerValue p d = absurd (d refl)
  kind-target Assignment p d = absurd (d refl)
  kind-target Void p d = absurd (d refl)
  kind-target Unknown p d = absurd (d refl)

  -- a target that is present is a node
  pub target : fields_rule s i ≡ 0 → (target_of s i (kind_of (tag_of s i)) ≡ NONE → ⊥) → Node s (target_of s i (kind_of (tag_of s i)))
  target p d = kind-target (kind_of (tag_of s i)) p d

-- ---- parent and fields together

-- the parent's rule is broken
pub node-refused : (s : Sections) (i r : ℕ) → r ≡ parent_rule s i → (r ≡ 0 → ⊥) → r ≡ node_rule s i
unfolding node_rule
node-refused s i r e d = refused (parent_rule s i) (fields_rule s i) r e d

-- it is kept: the fields decide
pub node-fields : (s : Sections) (i q r : ℕ) → q ≡ parent_rule s i → q ≡ 0 → r ≡ fields_rule s i → r ≡ node_rule s i
unfolding node_rule
node-fields s i q r e z h = h ∙ sym (second (parent_rule s i) (fields_rule s i) (sym e ∙ z))

-- ---- all nodes

module _ (s : Sections) (p : first_of (node_count s) (node_rule s) ≡ 0) where
  pub all_fields : (i : ℕ) → i < node_count s → fields_rule s i ≡ 0
  unfolding node_rule
  all_fields i h = (both _ _ (first_all (node_count s) (node_rule s) p i h)).1

  pub all_parents : (i : ℕ) → i < node_count s → 0 < i → Parent s i
  unfolding node_rule
  all_parents i h k = parent s i k (both _ _ (first_all (node_count s) (node_rule s) p i h)).0

  pub all_targets : (i : ℕ) → i < node_count s → (target_of s i (kind_of (tag_of s i)) ≡ NONE → ⊥) → Node s (target_of s i (kind_of (tag_of s i)))
  all_targets i h = target s i (all_fields i h)

  pub all_within : Within s (node_count s)
  all_within = within s (node_count s) all_fields
