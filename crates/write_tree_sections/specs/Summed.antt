-- What the loop over the image's nodes sums: starts of children, named children and payload, and texts used; over plain lists.
use Rattle.std.specs.Prelude.{ℕ, ◌+◌, ◌/◌, ◌≤◌, List, cond, length, get_or, eqb}
use Rattle.laws.specs.Counted.{sum_of}
use Rattle.words.specs.Words.{NONE}
use Rattle.image.specs.Sections.{node_words}
use Rattle.image.specs.declared.NodeRecord.{NodeRecord}
use Rattle.image.specs.Entries.{record_of}
use Rattle.image.specs.Tags.{container_tag, list_tag}
use Rattle.records.specs.Fields.{kind_of}
use Rattle.draft.specs.declared.layout.Layout.{Layout}
use Rattle.write_tree_sections.specs.Held.{OrderFits, children_in_order, named_in_order, payload_in_order}
use Rattle.write_tree_sections.specs.declared.kinds.Starts.{Starts}
use Rattle.write_tree_sections.specs.Encoded.{texts_by}

-- ---- one node

-- what a record adds to each start
abbrev pub child_count_in : NodeRecord → ℕ
child_count_in r = cond (eqb r.tag container_tag) r.f4 0

abbrev pub named_count_in : NodeRecord → ℕ
named_count_in r = cond (eqb r.tag container_tag) r.f6 0

abbrev pub payload_length_in : NodeRecord → ℕ
payload_length_in r = cond (eqb r.tag list_tag) r.f1 0

pub record StartsFit (st : Starts) (r : NodeRecord) : Type 0 where
  pub children : st.children + child_count_in r ≤ NONE
  pub named : st.named + named_count_in r ≤ NONE
  pub payload : st.payload + payload_length_in r ≤ NONE

abbrev pub starts_after : Starts → NodeRecord → Starts
starts_after st r = record { children = st.children + child_count_in r; named = st.named + named_count_in r; payload = st.payload + payload_length_in r }

-- the texts of the draft's node i
unfoldable pub texts_at : ℕ → List ℕ → List ℕ → ℕ → ℕ
texts_at version nodes payload i = texts_by payload (record_of version nodes i) (kind_of (record_of version nodes i).tag)

-- ---- the image's nodes before node j, whose numbers in the draft the words from `order` on hold

module _ (version : ℕ) (nodes w : List ℕ) (order : ℕ) where
  abbrev pub starts_by : ℕ → Starts
  starts_by j = record { children = children_in_order version nodes w order j; named = named_in_order version nodes w order j; payload = payload_in_order version nodes w order j }

  abbrev pub used_by : List ℕ → ℕ → ℕ
  used_by payload j = sum_of j (λ m. texts_at version nodes payload (get_or w (order + m) 0))

-- numbers of nodes are there, starts are words, and there is an offset for each text
pub record NodesFit (version : ℕ) (nodes payload w : List ℕ) (l : Layout) : Type 0 where
  pub order : OrderFits version nodes w l
  pub children : children_in_order version nodes w l.order (length nodes / node_words version) ≤ NONE
  pub named : named_in_order version nodes w l.order (length nodes / node_words version) ≤ NONE
  pub bytes : payload_in_order version nodes w l.order (length nodes / node_words version) ≤ NONE
  pub texts : l.offsets + used_by version nodes w l.order payload (length nodes / node_words version) ≤ length w
