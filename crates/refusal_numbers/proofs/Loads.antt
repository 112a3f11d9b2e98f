-- The numbers of a load.
use Prim.Native.Nat.{ℕ}
use mathlib.Core.List.{List, [], ◌∷◌}
use Rattle.laws.specs.Refusal.{◌▸◌}
use Rattle.laws.specs.Lists.{has}
use Rattle.image.specs.Sections.{Sections}
use Rattle.image.specs.Header.{header_rule}
use Rattle.records.specs.Fields.{Field, text, optional, command, operator, node, optionalNode, container, optionalContainer, plain, at_most, children, named, payload, wrong}
use Rattle.records.specs.Records.{list_item_rule, list_origin_rule, payload_rule, field_rule, first_field, parent_rule, node_rule}
use Rattle.tree.specs.Tree.{child_rule, named_rule, entries_rule, load_walk, tree_rule}
use Rattle.index.specs.Index.{index_entry_rule, index_rule}
use Rattle.definitions.specs.Definitions.{item_rule_from, definition_rule, definitions_rule}
use Rattle.load.specs.Load.{checksum_rule, leftover_rule, records_rule, sections_rule, load_rule}
use Rattle.refusal_numbers.specs.Numbers.{header_numbers, load_numbers, HeaderNumbers, LoadNumbers}
use Rattle.refusal_numbers.proofs.OneOf.{In, among, numbers, walked}

header-number : (bs : List ℕ) → In header_numbers (header_rule bs)
unfolding header_rule has
header-number bs = search numbers depth 12

pub header-numbers : HeaderNumbers
header-numbers bs = among header_numbers _ (header-number bs)

-- ---- a load

abbrev L : ℕ → Type 0
L r = In load_numbers r

header_again : (bs : List ℕ) → L (header_rule bs)
unfolding header_rule has
header_again bs = search numbers depth 12

payload-number : (s : Sections) (at len : ℕ) → L (payload_rule s at len)
unfolding payload_rule list_item_rule list_origin_rule has
payload-number s at len = search numbers depth 12

field_number : (s : Sections) (i : ℕ) (x : Field) → L (field_rule s i x)
unfolding field_rule has
field_number s i (text k) = search numbers
field_number s i (optional k) = search numbers
field_number s i (command k) = search numbers
field_number s i (operator k) = search numbers
field_number s i (node k) = search numbers
field_number s i (optionalNode k) = search numbers
field_number s i (container k) = search numbers
field_number s i (optionalContainer k) = search numbers
field_number s i (plain k) = search numbers
field_number s i (at_most k n) = search numbers
field_number s i children = search numbers
field_number s i named = search numbers
field_number s i payload = search (payload-number, numbers)
field_number s i wrong = search numbers

fields-number : (s : Sections) (i : ℕ) (xs : List Field) → L (first_field s i xs)
unfolding first_field has
fields-number s i [] = search numbers
fields-number s i (x ∷ xs) = search (field_number s i x, fields-number s i xs, numbers)

node-number : (s : Sections) (i : ℕ) → L (node_rule s i)
unfolding node_rule parent_rule has
node-number s i = search (fields-number, numbers)

entries-number : (s : Sections) (i : ℕ) → L (entries_rule s i)
unfolding entries_rule child_rule named_rule has
entries-number s i = search numbers depth 12

tree-number : (s : Sections) → L (tree_rule s)
unfolding tree_rule load_walk has
tree-number s = search (walked, entries-number, numbers)

rest-number : (s : Sections) → L (index_rule s ▸ definitions_rule s)
unfolding index_rule index_entry_rule definitions_rule definition_rule item_rule_from has
rest-number s = search numbers depth 20

load-number : (bs : List ℕ) (work : ℕ) → L (load_rule bs work)
unfolding load_rule checksum_rule sections_rule records_rule leftover_rule has
load-number bs work = search (header_again, node-number, tree-number, rest-number, numbers) depth 20

pub load-numbers : LoadNumbers
load-numbers bs work = among load_numbers _ (load-number bs work)
