-- The record rules: the rule of each field of a node, of its parent, of a list's payload; sums of the counts before; leftovers.
use Rattle.std.specs.Prelude.{ℕ, ◌+◌, ◌*◌, List, [], ◌∷◌, Bool, true, false, cond, ◌&&◌, ◌||◌, not, length, get_or, leb, eqb}
use Rattle.laws.specs.Refusal.{unless, ◌▸◌, first_of, refusals}
use Rattle.laws.specs.Counted.{sum_of, counted}
use Rattle.words.specs.Words.{NONE, is_none, word_at, words}
use Rattle.texts.specs.Text.{holds, texts}
use Rattle.names.specs.Names.{commands, operators, names}
use Rattle.image.specs.declared.NodeRecord.{NodeRecord}
use Rattle.image.specs.Entries.{node_in}
use Rattle.image.specs.Sections.{Sections, list_head_size, list_item_size, list_origin_size, node_count, child_count, named_count, parent_of, place_of, tag_of, f, text_at, good_text, good_optional, inside, is_container, inside_container, sections}
use Rattle.image.specs.Refusals.{bad_node, bad_text, bad_range, bad_tag}
use Rattle.image.specs.Tags.{list_tag}
use Rattle.records.specs.Fields.{Kind, Field, target_place, text, optional, command, operator, node, optionalNode, container, optionalContainer, plain, at_most, children, named, payload, wrong, fields, kind_of, schema}

-- the fields of node i
abbrev pub fields_at : Sections → ℕ → List Field
fields_at s i = fields (kind_of (tag_of s i))

-- ---- the target of a node

-- word k of a record's fields; past f6 there is none
unfoldable pub field_word : NodeRecord → ℕ → ℕ
field_word r k = get_or (r.f0 ∷ r.f1 ∷ r.f2 ∷ r.f3 ∷ r.f4 ∷ r.f5 ∷ r.f6 ∷ []) k NONE

-- the word of a record that names another node, NONE for a kind that has no target
unfoldable pub target_in : NodeRecord → Kind → ℕ
target_in r k = field_word r (target_place k)

-- the target of node i, if it is of the kind
abbrev pub target_of : Sections → ℕ → Kind → ℕ
target_of s i k = target_in (node_in s i) k

-- a node that a field may name: whether it may be absent, and whether a container is due
abbrev pub may_target : Bool → Bool → Sections → ℕ → Bool
may_target absentToo containerDue s n =
    let there = cond containerDue (inside_container s n) (inside s n) in
    cond absentToo (is_none n || there) there

-- ---- counts of a node, and their sums over the nodes before

-- ordered children, named children
unfoldable pub number_of_children : Sections → ℕ → ℕ
number_of_children s i = cond (is_container s i) (f s i 4) 0

unfoldable pub number_of_named : Sections → ℕ → ℕ
number_of_named s i = cond (is_container s i) (f s i 6) 0

-- bytes of payload
unfoldable pub payload_length_of : Sections → ℕ → ℕ
payload_length_of s i = cond (eqb (tag_of s i) list_tag) (f s i 1) 0

-- 1 for a container
unfoldable pub container_of : Sections → ℕ → ℕ
container_of s i = cond (is_container s i) 1 0

abbrev pub children_before : Sections → ℕ → ℕ
children_before s i = sum_of i (number_of_children s)

abbrev pub named_before : Sections → ℕ → ℕ
named_before s i = sum_of i (number_of_named s)

abbrev pub payload_before : Sections → ℕ → ℕ
payload_before s i = sum_of i (payload_length_of s)

abbrev pub containers_before : Sections → ℕ → ℕ
containers_before s i = sum_of i (container_of s)

-- ---- a list's payload: words items, origins; an item is an optional origin, a name, a value, 20 bytes; an origin a text, 8 bytes

-- the word at byte k of the payload that starts at `at`
unfoldable pub list_word : Sections → ℕ → ℕ → ℕ
list_word s at k = word_at s.payload (at + k)

abbrev pub list_items : Sections → ℕ → ℕ
list_items s at = list_word s at 0

abbrev pub list_origins : Sections → ℕ → ℕ
list_origins s at = list_word s at 4

-- word k of item j; of origin j
abbrev pub list_item_word : Sections → ℕ → ℕ → ℕ → ℕ
list_item_word s at j k = list_word s at (list_head_size + j * list_item_size + k * 4)

abbrev pub list_origin_word : Sections → ℕ → ℕ → ℕ → ℕ
list_origin_word s at j k = list_word s at (list_head_size + list_items s at * list_item_size + j * list_origin_size + k * 4)

unfoldable pub list_item_rule : Sections → ℕ → ℕ → ℕ
list_item_rule s at j =
    unless (good_optional s (list_item_word s at j 0) (list_item_word s at j 1)) bad_text ▸ unless (good_text s (list_item_word s at j 2) (list_item_word s at j 3)) bad_text

unfoldable pub list_origin_rule : Sections → ℕ → ℕ → ℕ
list_origin_rule s at j = unless (good_text s (list_origin_word s at j 0) (list_origin_word s at j 1)) bad_text

-- the length is exact
unfoldable pub payload_rule : Sections → ℕ → ℕ → ℕ
payload_rule s at len =
    unless (leb (at + len) (length s.payload) && leb list_head_size len && eqb len (list_head_size + list_items s at * list_item_size + list_origins s at * list_origin_size)) bad_range
    ▸ first_of (list_items s at) (list_item_rule s at)
    ▸ first_of (list_origins s at) (list_origin_rule s at)

-- ---- the rule of a field of node i

unfoldable pub field_rule : Sections → ℕ → Field → ℕ
field_rule s i (text k) = unless (good_text s (f s i k) (f s i (k + 1))) bad_text
field_rule s i (optional k) = unless (good_optional s (f s i k) (f s i (k + 1))) bad_text
field_rule s i (command k) =
    unless (good_text s (f s i k) (f s i (k + 1))) bad_text ▸ unless (holds commands (text_at s (f s i k) (f s i (k + 1)))) bad_tag
field_rule s i (operator k) =
    unless (good_text s (f s i k) (f s i (k + 1))) bad_text ▸ unless (holds operators (text_at s (f s i k) (f s i (k + 1)))) bad_tag
field_rule s i (node k) = unless (may_target false false s (f s i k)) bad_node
field_rule s i (optionalNode k) = unless (may_target true false s (f s i k)) bad_node
field_rule s i (container k) = unless (may_target false true s (f s i k)) bad_node
field_rule s i (optionalContainer k) = unless (may_target true true s (f s i k)) bad_node
field_rule s i (plain k) = 0
field_rule s i (at_most k n) = unless (leb (f s i k) n) bad_tag
field_rule s i children = unless (leb (f s i 3 + f s i 4) (child_count s) && eqb (f s i 3) (children_before s i)) bad_range
field_rule s i named = unless (leb (f s i 5 + f s i 6) (named_count s) && eqb (f s i 5) (named_before s i)) bad_range
field_rule s i payload = unless (eqb (f s i 0) (payload_before s i)) bad_range ▸ payload_rule s (f s i 0) (f s i 1)
field_rule s i wrong = bad_tag

unfoldable pub first_field : Sections → ℕ → List Field → ℕ
first_field s i [] = 0
first_field s i (x ∷ xs) = let r = first_field s i xs in field_rule s i x ▸ r

-- the rules of node i's fields
abbrev pub fields_rule : Sections → ℕ → ℕ
fields_rule s i = first_field s i (fields_at s i)

-- a parent is a container and another node; the root has none
unfoldable pub parent_rule : Sections → ℕ → ℕ
parent_rule s i = cond (eqb i 0) 0 (unless (inside_container s (parent_of s i) && not (eqb (parent_of s i) i)) bad_node)

unfoldable pub node_rule : Sections → ℕ → ℕ
node_rule s i = parent_rule s i ▸ fields_rule s i

-- row 8
unfoldable pub root_right : Sections → Bool
root_right s = is_none (parent_of s 0) && is_none (place_of s 0) && is_container s 0

-- nothing left over in children, named children and payload
unfoldable pub used_up : Sections → Bool
used_up s =
    eqb (children_before s (node_count s)) (child_count s) && eqb (named_before s (node_count s)) (named_count s)
    && eqb (payload_before s (node_count s)) (length s.payload)

-- names on an `unfolding` line what a computation with this module needs
unfoldable pub records : Unit {0}
unfolding field_word target_in number_of_children number_of_named payload_length_of container_of list_word list_item_rule list_origin_rule payload_rule field_rule first_field parent_rule node_rule root_right used_up schema sections names refusals counted words texts
records = tt
