-- What the rules are told of a node by value: its record, the counts of the sections, the sums of the counts before it, the tag of
-- its target; and the rules of each kind over these, as the code tests them.
use Rattle.std.specs.Prelude.{ℕ, ◌+◌, ◌≡◌, List, [], Bool, cond, ◌&&◌, ◌||◌, not, length, leb, eqb}
use Rattle.laws.specs.Refusal.{unless, ◌▸◌, refusals}
use Rattle.words.specs.Words.{is_none}
use Rattle.texts.specs.Text.{holds}
use Rattle.names.specs.Names.{commands, operators}
use Rattle.image.specs.declared.EntryCounts.{EntryCounts}
use Rattle.image.specs.declared.NodeRecord.{NodeRecord}
use Rattle.image.specs.Counted.{counts_with}
use Rattle.image.specs.Entries.{node_in}
use Rattle.image.specs.Header.{version}
use Rattle.image.specs.Sections.{Sections, node_count, index_count, parent_of, tag_of, inside, inside_among, part_at, good_in, optional_in}
use Rattle.image.specs.Refusals.{bad_node, bad_text, bad_range, bad_tag}
use Rattle.image.specs.Tags.{container_tag, command_tag, operator_tag, tag_tag, string_tag, list_tag, pointer_tag}
use Rattle.records.specs.declared.Sums.{Sums}
use Rattle.records.specs.Fields.{Kind, Container, Choice, Command, Divert, Glue, Operator, Tag, BoolValue, IntValue, FloatValue, StringValue, ListValue, TargetValue, PointerValue, Assignment, Reference, Void, Unknown, kind_of}
use Rattle.records.specs.Records.{target_of, children_before, named_before, payload_before, containers_before, payload_rule, records}

-- the counts of an image's sections
abbrev pub counts_of : Sections → EntryCounts
counts_of s = counts_with s (index_count s) (length s.strings)

-- the sums over the nodes before node i
abbrev pub sums_before : Sections → ℕ → Sums
sums_before s i =
    record { children = children_before s i; named = named_before s i; payload = payload_before s i; containers = containers_before s i }

-- the tag of node n, 0 where there is no such node
unfoldable pub tag_in : Sections → ℕ → ℕ
tag_in s n = cond (inside s n) (tag_of s n) 0

-- record, counts, sums, the tag of the target, payload and strings are those of node i; what is counted of index and strings no rule asks
pub record Shows (s : Sections) (i : ℕ) (r : NodeRecord) (c : EntryCounts) (u : Sums) (tag : ℕ) (ps ts : List ℕ) : Type 0 where
  pub node : r ≡ node_in s i
  pub counts : c ≡ counts_with s c.index c.strings
  pub sums : u ≡ sums_before s i
  pub target : tag ≡ tag_in s (target_of s i (kind_of (tag_of s i)))
  pub payload : ps ≡ s.payload
  pub strings : ts ≡ s.strings

-- the record and the tag of the parent are those of node i, and there are so many nodes
pub record ShowsParent (s : Sections) (i : ℕ) (r : NodeRecord) (nodes tag : ℕ) : Type 0 where
  pub node : r ≡ node_in s i
  pub count : nodes ≡ node_count s
  pub parent : tag ≡ tag_in s (parent_of s i)

-- ---- tests of a field

-- among so many nodes, and of the tag of a container
abbrev pub container_among : ℕ → ℕ → ℕ → Bool
container_among nodes n tag = inside_among nodes n && eqb tag container_tag

-- a range begins where those before it end, and ends inside
abbrev pub starts_next : ℕ → ℕ → ℕ → ℕ → Bool
starts_next start count before all = leb (start + count) all && eqb start before

-- sections that have a payload and strings alone
abbrev pub bytes_only : List ℕ → List ℕ → Sections
bytes_only payload strings =
    record { version = version; nodes = []; children = []; named = []; definitions = []; items = []; index = []; payload = payload; strings = strings }

-- ---- the rules by kind

unfoldable pub container_rule : NodeRecord → EntryCounts → Sums → List ℕ → ℕ
container_rule r c u strings =
    unless (optional_in strings r.f0 r.f1) bad_text
    ▸ unless (starts_next r.f3 r.f4 u.children c.children) bad_range
    ▸ unless (starts_next r.f5 r.f6 u.named c.named) bad_range

unfoldable pub choice_rule : NodeRecord → ℕ → ℕ → List ℕ → ℕ
choice_rule r nodes tag strings = unless (optional_in strings r.f0 r.f1) bad_text ▸ unless (container_among nodes r.f2 tag) bad_node

unfoldable pub divert_rule : NodeRecord → ℕ → List ℕ → ℕ
divert_rule r nodes strings =
    unless (optional_in strings r.f0 r.f1) bad_text
    ▸ unless (is_none r.f2 || inside_among nodes r.f2) bad_node
    ▸ unless (optional_in strings r.f3 r.f4) bad_text
    ▸ unless (leb r.f6 23) bad_tag

-- a text alone, by the tag, which says whether it is the known name of a command or an operator
unfoldable pub text_rule : ℕ → ℕ → ℕ → List ℕ → ℕ
text_rule tag at len strings =
    unless (good_in strings at len) bad_text
    ▸ cond (eqb tag command_tag) (unless (holds commands (part_at strings at len)) bad_tag) (cond (eqb tag operator_tag) (unless (holds operators (part_at strings at len)) bad_tag) 0)

unfoldable pub target_rule : NodeRecord → ℕ → List ℕ → ℕ
target_rule r nodes strings = unless (good_in strings r.f0 r.f1) bad_text ▸ unless (inside_among nodes r.f2) bad_node

unfoldable pub assignment_rule : NodeRecord → List ℕ → ℕ
assignment_rule r strings = unless (good_in strings r.f0 r.f1) bad_text ▸ unless (leb r.f2 3) bad_tag

unfoldable pub reference_rule : NodeRecord → ℕ → ℕ → List ℕ → ℕ
reference_rule r nodes tag strings =
    unless (good_in strings r.f0 r.f1) bad_text
    ▸ unless (optional_in strings r.f2 r.f3) bad_text
    ▸ unless (is_none r.f4 || container_among nodes r.f4 tag) bad_node

unfoldable pub list_rule : NodeRecord → Sums → List ℕ → List ℕ → ℕ
list_rule r u payload strings = unless (eqb r.f0 u.payload) bad_range ▸ payload_rule (bytes_only payload strings) r.f0 r.f1

-- of a node of a kind: its record, the counts, the sums before it, the tag of its target, payload and strings
unfoldable pub fields_by : Kind → NodeRecord → EntryCounts → Sums → ℕ → List ℕ → List ℕ → ℕ
fields_by Container r c u tag payload strings = container_rule r c u strings
fields_by Choice r c u tag payload strings = choice_rule r c.nodes tag strings
fields_by Command r c u tag payload strings = text_rule command_tag r.f0 r.f1 strings
fields_by Divert r c u tag payload strings = divert_rule r c.nodes strings
fields_by Glue r c u tag payload strings = 0
fields_by Operator r c u tag payload strings = text_rule operator_tag r.f0 r.f1 strings
fields_by Tag r c u tag payload strings = text_rule tag_tag r.f0 r.f1 strings
fields_by BoolValue r c u tag payload strings = unless (leb r.f0 1) bad_tag
fields_by IntValue r c u tag payload strings = 0
fields_by FloatValue r c u tag payload strings = 0
fields_by StringValue r c u tag payload strings = text_rule string_tag r.f0 r.f1 strings
fields_by ListValue r c u tag payload strings = list_rule r u payload strings
fields_by TargetValue r c u tag payload strings = target_rule r c.nodes strings
fields_by PointerValue r c u tag payload strings = text_rule pointer_tag r.f0 r.f1 strings
fields_by Assignment r c u tag payload strings = assignment_rule r strings
fields_by Reference r c u tag payload strings = reference_rule r c.nodes tag strings
fields_by Void r c u tag payload strings = 0
fields_by Unknown r c u tag payload strings = bad_tag

-- ---- the parent, the root, sums and what is left over

-- of node i by its record, among so many nodes, with the tag of its parent
unfoldable pub parent_by : ℕ → NodeRecord → ℕ → ℕ → ℕ
parent_by i r nodes tag = cond (eqb i 0) 0 (unless (container_among nodes r.parent tag && not (eqb r.parent i)) bad_node)

-- the root by its record
unfoldable pub root_by : NodeRecord → Bool
root_by r = is_none r.parent && is_none r.place && eqb r.tag container_tag

-- the sums after a node, whose ranges begin where those before it end
unfoldable pub sums_after : Sums → NodeRecord → Sums
sums_after u r =
    cond (eqb r.tag container_tag)
    (record { children = r.f3 + r.f4; named = r.f5 + r.f6; payload = u.payload; containers = u.containers + 1 })
    (cond (eqb r.tag list_tag)
    (record { children = u.children; named = u.named; payload = r.f0 + r.f1; containers = u.containers })
    u)

-- the sums are the counts
unfoldable pub used_up_by : Sums → EntryCounts → Bool
used_up_by u c = eqb u.children c.children && eqb u.named c.named && eqb u.payload c.payload

-- names on an `unfolding` line what a computation with this module needs
unfoldable pub shown_records : Unit {0}
unfolding tag_in container_rule choice_rule divert_rule text_rule target_rule assignment_rule reference_rule list_rule fields_by parent_by root_by sums_after used_up_by records refusals
shown_records = tt
