-- The rules on sections give no refusal with a number below 8: those leave the work words untouched.
use Prim.Native.Nat.{ℕ, zero, suc, ◌≤◌}
use mathlib.Core.Path.{◌≡◌, refl}
use mathlib.Core.List.{List, [], ◌∷◌, ◌++◌, reverse}
use mathlib.Core.Bool.{Bool, true, false, cond}
use native.Mathlib.Omega.{arith}
use lib.Dec.{eqb, leb}
use borrow.Author.Tests.{lt-leb}
use Rattle.laws.specs.Refusal.{unless, ◌▸◌, first_of}
use Rattle.laws.specs.Lists.{has}
use Rattle.laws.proofs.Flags.{and-false}
use Rattle.image.specs.Sections.{Sections}
use Rattle.records.specs.Fields.{Field, text, optional, command, operator, node, optionalNode, container, optionalContainer, plain, at_most, children, named, payload, wrong}
use Rattle.records.specs.Records.{field_rule, first_field, fields_at, parent_rule, node_rule, payload_rule, list_item_rule, list_origin_rule}
use Rattle.tree.specs.Tree.{stop, walk, child_rule, named_rule, entries_rule, entry_nodes, load_walk, tree_rule, turns}
use Rattle.index.specs.Index.{index_entry_rule, index_rule}
use Rattle.definitions.specs.Definitions.{item_rule_from, definition_rule, definitions_rule}
use Rattle.load.specs.Load.{leftover_rule, records_rule, sections_rule, early}

-- nothing, or a number from 8 on
pub data Late : ℕ → Type 0 where
  nothing : Late 0
  late : {r : ℕ} → 8 ≤ r → Late r

late-unless : (t : Bool) (k : ℕ) → 8 ≤ k → Late (unless t k)
unfolding unless
late-unless true k h = nothing
late-unless false k h = late h

late-then : (a b : ℕ) → Late a → Late b → Late (a ▸ b)
unfolding ◌▸◌
late-then zero b p q = q
late-then (suc a) b p q = p

late-first : (n : ℕ) (f : ℕ → ℕ) → ((i : ℕ) → Late (f i)) → Late (first_of n f)
unfolding first_of
late-first zero f p = nothing
late-first (suc n) f p = late-then (first_of n f) (f n) (late-first n f p) (p n)

late-cond : (t : Bool) (a b : ℕ) → Late a → Late b → Late (cond t a b)
late-cond true a b p q = p
late-cond false a b p q = q

pub late-not-early : (r : ℕ) → Late r → early r ≡ false
late-not-early r nothing = refl
late-not-early r (late h) = rw (lt-leb r 7 h) (and-false (leb 1 r))

-- a walk refuses with what a test answers
late-walk : (test : ℕ → ℕ) (push : ℕ → List ℕ) → ((i : ℕ) → Late (test i)) → (n : ℕ) (seen pending : List ℕ) → Late (walk test push n seen pending).refusal
unfolding walk
late-walk test push p zero seen pending = nothing
late-walk test push p (suc n) seen [] = nothing
late-walk test push p (suc n) seen (i ∷ pending) =
    taken (has i seen) (test i) (p i) (late-walk test push p n seen pending) (late-walk test push p n (i ∷ seen) (push i ++ pending))
  where
    taken : (b : Bool) (r : ℕ) → Late r → Late (walk test push n seen pending).refusal → Late (walk test push n (i ∷ seen) (push i ++ pending)).refusal
        → Late (cond b (walk test push n seen pending) (stop test push r (i ∷ seen) (walk test push n (i ∷ seen) (push i ++ pending)))).refusal
    taken true r q skipped entered = skipped
    taken false zero q skipped entered = entered
    taken false (suc r) q skipped entered = q

module _ (s : Sections) where
  late-payload : (at len : ℕ) → Late (payload_rule s at len)
  unfolding payload_rule list_item_rule list_origin_rule
  late-payload at len =
      late-then _ _ (late-unless _ 11 (omega arith))
      (late-then _ _ (late-first _ _ (λ j. late-then _ _ (late-unless _ 10 (omega arith)) (late-unless _ 10 (omega arith))))
      (late-first _ _ (λ j. late-unless _ 10 (omega arith))))

  late_field : (i : ℕ) (x : Field) → Late (field_rule s i x)
  unfolding field_rule
  late_field i (text k) = late-unless _ 10 (omega arith)
  late_field i (optional k) = late-unless _ 10 (omega arith)
  late_field i (command k) = late-then _ _ (late-unless _ 10 (omega arith)) (late-unless _ 12 (omega arith))
  late_field i (operator k) = late-then _ _ (late-unless _ 10 (omega arith)) (late-unless _ 12 (omega arith))
  late_field i (node k) = late-unless _ 9 (omega arith)
  late_field i (optionalNode k) = late-unless _ 9 (omega arith)
  late_field i (container k) = late-unless _ 9 (omega arith)
  late_field i (optionalContainer k) = late-unless _ 9 (omega arith)
  late_field i (plain k) = nothing
  late_field i (at_most k n) = late-unless _ 12 (omega arith)
  late_field i children = late-unless _ 11 (omega arith)
  late_field i named = late-unless _ 11 (omega arith)
  late_field i payload = late-then _ _ (late-unless _ 11 (omega arith)) (late-payload _ _)
  late_field i wrong = late {r = 12} (omega arith)

  late-fields : (i : ℕ) (xs : List Field) → Late (first_field s i xs)
  unfolding first_field
  late-fields i [] = nothing
  late-fields i (x ∷ xs) = late-then _ _ (late_field i x) (late-fields i xs)

  late-node : (i : ℕ) → Late (node_rule s i)
  unfolding node_rule parent_rule
  late-node i = late-then _ _ (late-cond (eqb i 0) _ _ nothing (late-unless _ 9 (omega arith))) (late-fields i (fields_at s i))

  late-records : Late (records_rule s)
  unfolding records_rule leftover_rule
  late-records = late-then _ _ (late-unless _ 8 (omega arith)) (late-then _ _ (late-first _ _ late-node) (late-unless _ 13 (omega arith)))

  late-entries : (i : ℕ) → Late (entries_rule s i)
  unfolding entries_rule child_rule named_rule
  late-entries i =
      late-then _ _ (late-first _ _ (λ j. late-unless _ 14 (omega arith)))
      (late-first _ _
      (λ j.
      late-then _ _ (late-unless _ 14 (omega arith))
      (late-then _ _ (late-unless _ 14 (omega arith)) (late-then _ _ (late-unless _ 9 (omega arith)) (late-unless _ 14 (omega arith))))))

  late-tree : Late (tree_rule s)
  unfolding tree_rule load_walk
  late-tree =
      late-then _ _ (late-walk (entries_rule s) (λ i. reverse (entry_nodes s i)) late-entries (turns s) [] (0 ∷ []))
      (late-unless _ 15 (omega arith))

  late_index : Late (index_rule s)
  unfolding index_rule index_entry_rule
  late_index =
      late-first _ _
      (λ j.
      late-then _ _ (late-unless _ 10 (omega arith))
      (late-then _ _ (late-unless _ 9 (omega arith)) (late-then _ _ (late-unless _ 16 (omega arith)) (late-unless _ 16 (omega arith)))))

  late-definitions : Late (definitions_rule s)
  unfolding definitions_rule definition_rule item_rule_from
  late-definitions =
      late-then _ _
      (late-first _ _
      (λ d.
      late-then _ _ (late-unless _ 10 (omega arith))
      (late-then _ _ (late-unless _ 17 (omega arith))
      (late-then _ _ (late-unless _ 11 (omega arith))
      (late-first _ _ (λ j. late-then _ _ (late-unless _ 17 (omega arith)) (late-unless _ 17 (omega arith))))))))
      (late-unless _ 17 (omega arith))

  pub late-sections : Late (sections_rule s)
  unfolding sections_rule
  late-sections = late-then _ _ late-records (late-then _ _ late-tree (late-then _ _ late_index late-definitions))
