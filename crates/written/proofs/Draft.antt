-- What the rules say of a draft that the writer takes, and of its numbering.
use Prim.Native.Nat.{ℕ, ◌≤◌, ◌<◌}
use mathlib.Core.Path.{◌≡◌}
use mathlib.Core.Bool.{true}
use lib.ListN.{length}
use lib.Dec.{leb}
use borrow.Author.Tests.{leb-true}
use Rattle.laws.specs.Lists.{has}
use Rattle.laws.proofs.First.{both, passed, first_all}
use Rattle.laws.proofs.Flags.{both_true}
use Rattle.words.specs.Words.{NONE}
use Rattle.image.specs.Sections.{Sections, node_count}
use Rattle.image.specs.Header.{ink_right}
use Rattle.tree.specs.Tree.{read_walk}
use Rattle.tree.proofs.Numbers.{EachOnce}
use Rattle.draft.specs.Draft.{placed, new_path, path_rule, paths_rule, tables_rule, reach_rule, shape_rule}
use Rattle.draft.specs.Numbering.{numbering}
use Rattle.draft.proofs.Rules.{Tables, Shape, tables, shape}
use Rattle.draft.proofs.ReachedNodes.{reached, numbered as draft-numbered}
use Rattle.draft_image.specs.Encode.{image_for, draft_rule, encode_rule}

-- the rules 19 to 22, one by one
pub record Taken (s : Sections) : Type 0 where
  pub tables : Tables s
  pub shape : Shape s
  pub reached : (i : ℕ) → i < node_count s → has i (read_walk s).seen ≡ true
  pub places : (i : ℕ) → i < node_count s → placed s i ≡ true
  pub paths : (i : ℕ) → i < node_count s → new_path s i ≡ true

module _ (ink : ℕ) (s : Sections) (work room : ℕ) (p : encode_rule ink s work room ≡ 0) where
  pub ink_taken : ink_right ink ≡ true
  unfolding encode_rule draft_rule
  ink_taken = passed _ 2 (both _ _ (both _ _ p).0).0

  pub image-fits : length (image_for ink s) ≤ NONE
  unfolding encode_rule
  image-fits = leb-true _ _ (both_true (leb (length (image_for ink s)) room) _ (passed _ 22 (both _ _ p).1)).1

  drafted : (tables_rule s ≡ 0) × (reach_rule s ≡ 0) × (shape_rule s ≡ 0) × (paths_rule s ≡ 0)
  unfolding encode_rule draft_rule
  drafted =
      let after_ink = (both _ _ (both _ _ p).0).1 in
      let after-tables = (both _ _ (both _ _ after_ink).1).1 in
      let after-reach = both _ _ (both _ _ after-tables).1 in
      ((both _ _ after_ink).0, (both _ _ after-tables).0, after-reach.0, after-reach.1)

  pub taken : Taken s
  unfolding paths_rule path_rule
  taken =
      record {
        tables = tables s drafted.0;
        shape = shape s drafted.2;
        reached = reached s drafted.1;
        places = λ i h. passed _ 21 (both _ _ (first_all _ _ drafted.3 i h)).0;
        paths = λ i h. passed _ 21 (both _ _ (first_all _ _ drafted.3 i h)).1;
      }

  pub numbered : EachOnce (node_count s) (numbering s)
  numbered = draft-numbered s (tables s drafted.0) (reached s drafted.1)
