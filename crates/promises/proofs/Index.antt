-- The index names each container exactly once.
use Prim.Native.Nat.{ℕ, ◌<◌}
use mathlib.Core.Path.{◌≡◌, sym, ◌∙◌}
use mathlib.Core.Bool.{true}
use native.Mathlib.Omega.{arith}
use borrow.Author.Tests.{eq-eqb}
use Rattle.image.specs.Sections.{Sections, node_count, index_count, index_word, tag_of, is_container}
use Rattle.records.specs.Records.{container_of}
use Rattle.index.proofs.Index.{index-target}
use Rattle.promises.specs.Promises.{NamedOnce}
use Rattle.promises.specs.Rules.{SectionsRight}
use Rattle.promises.proofs.Acceptance.{right-sections}
use Rattle.promises.proofs.Counts.{Different, each_hit}

one_container : (s : Sections) (i : ℕ) → is_container s i ≡ true → container_of s i ≡ 1
unfolding container_of
one_container s i c = rw c

module _ (s : Sections) (some : 0 < node_count s) (right : SectionsRight s) where
  -- no two entries have one target
  different : Different (index_count s) (λ j. index_word s j 2)
  different j k h l e = index-target s (right-sections s some right).index j k h l e

  -- each target is a container
  weighs : (j : ℕ) → j < index_count s → 0 < container_of s (index_word s j 2)
  weighs j h = rw (one_container s (index_word s j 2) (eq-eqb (tag_of s (index_word s j 2)) 1 (right.index j h).container.container)) (omega arith)

  pub named-once : (i : ℕ) → i < node_count s → is_container s i ≡ true → NamedOnce s i
  named-once i h c =
      let q = each_hit (node_count s) (index_count s) (container_of s) (λ j. index_word s j 2) (λ j l. (right.index j l).container.node.below) weighs different
      right.index-used i h (one_container s i c) in
      record {
        entry = q.at;
        entry-inside = q.below;
        holds = q.holds;
        no_other = λ j l e. different j q.at l q.below (e ∙ sym q.holds);
      }
