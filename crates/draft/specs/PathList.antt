-- Paths lent beside a draft, from which targets are to be found: the entries of the list, the nodes that follow a path of it, and row 19, which
-- does not test the targets of these.
use Rattle.std.specs.Prelude.{ℕ, ◌+◌, ◌*◌, ◌/◌, ◌%◌, List, [], ◌∷◌, Bool, cond, ◌&&◌, ◌||◌, not, length, get_or, leb, eqb, Option, is_some}
use Rattle.laws.specs.Refusal.{unless, counts_as, ◌▸◌, first_of}
use Rattle.laws.specs.Counted.{all_of, last_of}
use Rattle.image.specs.declared.NodeRecord.{NodeRecord}
use Rattle.image.specs.Entries.{node_in}
use Rattle.image.specs.Refusals.{bad_draft}
use Rattle.image.specs.Sections.{Sections, node_count, parent_of, absent, inside, inside_among}
use Rattle.image.specs.Tags.{choice_tag, divert_tag, target_tag, reference_tag}
use Rattle.records.specs.Fields.{Field, target_before, no_place}
use Rattle.records.specs.Flags.{external}
use Rattle.records.specs.Records.{fields_at, first_field, fields_rule}
use Rattle.draft.specs.Draft.{whole_entries, entry_tables_rule, drafts}

-- ---- the entries of the list

-- words an entry: the node whose path it is, 0 for an absolute path or 1 for a relative one, the first component, how many components
abbrev pub path_entry_words : ℕ
path_entry_words = 4

abbrev pub path_count : List ℕ → ℕ
path_count entries = length entries / path_entry_words

-- word w of entry k
unfoldable pub path_word : List ℕ → ℕ → ℕ → ℕ
path_word entries k w = get_or entries (k * path_entry_words + w) 0

-- the node whose path entry k is
abbrev pub path_origin : List ℕ → ℕ → ℕ
path_origin entries k = path_word entries k 0

-- the entry of node i: a list that is right has one at most
unfoldable pub path_of : List ℕ → ℕ → Option ℕ
path_of entries i = last_of (path_count entries) (λ k. eqb (path_origin entries k) i)

abbrev pub listed : List ℕ → ℕ → Bool
listed entries i = is_some (path_of entries i)

-- no entry before k is of the same node
unfoldable pub new_origin : List ℕ → ℕ → Bool
new_origin entries k = all_of k (λ j. not (eqb (path_origin entries j) (path_origin entries k)))

-- among so many nodes and whole components: entry k is of a node and of no node twice, says 0 or 1, and has its components inside
unfoldable pub path_right : ℕ → ℕ → List ℕ → ℕ → Bool
path_right nodes components entries k =
    inside_among nodes (path_origin entries k) && new_origin entries k && leb (path_word entries k 1) 1
    && leb (path_word entries k 2 + path_word entries k 3) components

-- whole entries, each right
unfoldable pub list_right : ℕ → ℕ → List ℕ → Bool
list_right nodes components entries =
    eqb (length entries % path_entry_words) 0 && all_of (path_count entries) (path_right nodes components entries)

-- ---- the nodes that follow a path

-- a divert that is neither external nor by variable
abbrev pub plain_divert : NodeRecord → Bool
plain_divert r = eqb r.tag divert_tag && not (external r) && absent r.f3 r.f4

-- a choice, a divert that is neither external nor by variable, a divert-target value, a reference
unfoldable pub may_follow : NodeRecord → Bool
may_follow r = eqb r.tag choice_tag || plain_divert r || eqb r.tag target_tag || eqb r.tag reference_tag

-- node i has a path in the list, and is of such a kind: any other node is passed over
abbrev pub follows : Sections → List ℕ → ℕ → Bool
follows s entries i = listed entries i && may_follow (node_in s i)

-- ---- 19, but for the targets of nodes that follow a path

-- the fields without the one that names a node
unfoldable pub without_target : List Field → List Field
without_target [] = []
without_target (x ∷ xs) = let r = without_target xs in cond (eqb (target_before x no_place) no_place) (x ∷ r) r

unfoldable pub path_fields_rule : Sections → List ℕ → ℕ → ℕ
path_fields_rule s entries i = cond (follows s entries i) (first_field s i (without_target (fields_at s i))) (fields_rule s i)

unfoldable pub path_node_rule : Sections → List ℕ → ℕ → ℕ
path_node_rule s entries i = counts_as bad_draft (path_fields_rule s entries i) ▸ unless (eqb i 0 || inside s (parent_of s i)) bad_draft

unfoldable pub path_tables_rule : Sections → List ℕ → ℕ
path_tables_rule s entries = unless (whole_entries s) bad_draft ▸ first_of (node_count s) (path_node_rule s entries) ▸ entry_tables_rule s

-- names on an `unfolding` line what a computation with this module needs
unfoldable pub path_lists : Unit {0}
unfolding path_word path_of new_origin path_right list_right may_follow without_target path_fields_rule path_node_rule path_tables_rule drafts
path_lists = tt
