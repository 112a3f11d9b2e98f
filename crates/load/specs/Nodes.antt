-- What the loop over the nodes is told and gives.
use Rattle.std.specs.Prelude.{ℕ, zero, suc, ◌≡◌, List, [], Err, Ok, Result}
use Rattle.laws.specs.Refusal.{first_of, ◌▸◌}
use Rattle.words.specs.Words.{words_of}
use Rattle.image.specs.Sections.{Sections, node_count}
use Rattle.image.specs.declared.EntryCounts.{EntryCounts}
use Rattle.image.specs.declared.NodeRecord.{NodeRecord}
use Rattle.records.specs.declared.Sums.{Sums}
use Rattle.records.specs.Fields.{kind_of}
use Rattle.records.specs.Records.{target_in, node_rule}
use Rattle.records.specs.Shown.{counts_of, sums_before, tag_in, parent_by, fields_by}
use Rattle.tree.specs.Parts.{parts_of}

-- the sections of a version whose nodes, payload and strings have these bytes
pub record ReadFrom (s : Sections) (version : ℕ) (nodes payload strings : List ℕ) (c : EntryCounts) : Type 0 where
  pub versioned : s.version ≡ version
  pub nodes_are : s.nodes ≡ words_of nodes
  pub payload_is : s.payload ≡ payload
  pub strings_are : s.strings ≡ strings
  pub counts : c ≡ counts_of s

-- the rules of node i by its record, the bytes of nodes, payload and strings, the counts, and the sums before it: its parent's, its fields'
unfoldable pub node_by : ℕ → List ℕ → List ℕ → List ℕ → EntryCounts → Sums → ℕ → NodeRecord → ℕ
node_by version nodes payload strings c u i r =
    let tag = tag_in (parts_of version nodes [] [] []) in
    parent_by i r c.nodes (tag r.parent)
    ▸ fields_by (kind_of r.tag) r c u (tag (target_in r (kind_of r.tag))) payload strings

-- the sums of all nodes, or the first refusal
abbrev pub nodes_by : ℕ → Sections → Result Sums ℕ
nodes_by zero s = Ok (sums_before s (node_count s))
nodes_by (suc r) s = Err (suc r)

unfoldable pub nodes_of : Sections → Result Sums ℕ
nodes_of s = nodes_by (first_of (node_count s) (node_rule s)) s
