-- The record that is written holds all words of a node, since there are no others than the common ones.
use Prim.Native.Nat.{ℕ}
use mathlib.Core.Path.{◌≡◌, refl, sym}
use mathlib.Core.List.{List, []}
use lib.ListN.{length}
use Rattle.laws.specs.Counted.{join_of}
use Rattle.image.specs.declared.NodeRecord.{NodeRecord}
use Rattle.image.specs.Sections.{Sections, node_words}
use Rattle.image.proofs.Widths.{only-common}
use Rattle.draft_image.specs.Written.{more_words}
use Rattle.write_tree_sections.specs.Encoded.{record_words}

pub record_length : (version : ℕ) (r : NodeRecord) → length (record_words version r) ≡ node_words version
record_length version r = sym (only-common version)

pub more-none : (s : Sections) (order : List ℕ) (kept : List (List ℕ)) (i : ℕ) → more_words s order kept i ≡ []
unfolding more_words join_of
more-none s order kept i = rw (only-common s.version) refl
