-- What a change answers, and node words and summary on return.
use Prim.Native.Nat.{ℕ, zero, suc, ◌+◌, ◌*◌, ◌≤◌, ◌<◌}
use mathlib.Core.Path.{◌≡◌, refl, sym, ap, ◌∙◌}
use mathlib.Core.Bool.{Bool, true, false, ◌&&◌, not}
use mathlib.Core.List.{List}
use native.Mathlib.Omega.{arith}
use lib.Dec.{ltb}
use lib.ListN.{length, set}
use borrow.Author.Tests.{ne_eqb, le-leb, lt-leb, ltb-true, not-true, not-false}
use Rattle.laws.specs.Refusal.{unless, ◌▸◌}
use Rattle.laws.proofs.Flags.{both_true}
use Rattle.words.specs.Words.{NONE}
use Rattle.image.specs.declared.NodeRecord.{NodeRecord}
use Rattle.image.specs.Sections.{Sections, node_words, node_count, node_word, tag_of, inside, inside_among}
use Rattle.image.specs.Entries.{record_of}
use Rattle.image.specs.Refusals.{not_found}
use Rattle.image.proofs.Entries.{node_record}
use Rattle.image.proofs.Widths.{node-within, number-words}
use Rattle.records.specs.Fields.{kind_of}
use Rattle.records.specs.Records.{target_in}
use Rattle.records.specs.Shown.{tag_in}
use Rattle.records.proofs.PassedRules.{target}
use Rattle.draft.specs.Draft.{tables_rule}
use Rattle.draft.proofs.Rules.{tables}
use Rattle.target_counts.specs.Summary.{target_at, summary_rule}
use Rattle.target_counts.proofs.Counting.{nodes_alone, target-read}
use Rattle.target_changes.specs.Change.{allowed, step_rule, stepped, move_rule, set_target_rule, nodes_after_set, summary_after_set}
use Rattle.target_changes.specs.Steps.{allowed_by, place_by, Steps, Summarised, Moved}
use Rattle.target_changes.proofs.Targets.{allowed-inside}
use Rattle.target_changes.proofs.WordSteps.{allowed-told, place_by_lem}

-- ---- behind 19 and a short summary

module _ (s : Sections) (w : List ℕ) (i t : ℕ) where
  -- a refusal leaves both
  stays : (r : ℕ) → r ≡ move_rule s w i t → (r ≡ 0 → ⊥) → Moved s w i t s.nodes w r
  unfolding nodes_after_set summary_after_set
  stays r e d = record { number = e; nodes_are = rw (ne_eqb r 0 d); words_are = rw (ne_eqb r 0 d) }

  module _ (p : Summarised s w) (count : ℕ) (counted : count ≡ node_count s) (b : Bool) (f' : b ≡ inside_among count i) where
    f : b ≡ inside_among (node_count s) i
    f = f' ∙ ap (λ (x : ℕ). inside_among x i) counted

    pub move_outside : not b ≡ true → Moved s w i t s.nodes w 18
    unfolding move_rule unless ◌▸◌
    move_outside h = stays 18 (rw (← f, not-true b h)) (λ q. omega arith)

    pub move_inside : not b ≡ false → i < node_count s
    move_inside h = ltb-true _ _ (both_true (ltb i (node_count s)) _ (sym f ∙ not-false b h)).0

    -- the node that the code read, and the tag of the target
    module _ (h : not b ≡ false) (n : NodeRecord) (read : n ≡ record_of s.version s.nodes i) (g : ℕ) (told : g ≡ tag_in s t) where
      tag_read : n.tag ≡ tag_of s i
      tag_read = ap (λ (x : NodeRecord). x.tag) (read ∙ node_record s s.version s.nodes i refl refl)

      module _ (m : Bool) (q : m ≡ allowed_by (kind_of n.tag) count t g) where
        may_is : m ≡ allowed s (kind_of (tag_of s i)) t
        may_is = rw (tag_read, told, counted) at q ∙ allowed-told s (kind_of (tag_of s i)) t

        pub move_forbidden : not m ≡ true → Moved s w i t s.nodes w 18
        unfolding move_rule unless ◌▸◌
        move_forbidden k = stays 18 (rw (← f, not-false b h, ← may_is, not-true m k)) (λ y. omega arith)

        module _ (k : not m ≡ false) (old : ℕ) (o : old ≡ target_in n (kind_of n.tag)) (x : ℕ) (e : x ≡ step_rule w old t) where
          may_be : allowed s (kind_of (tag_of s i)) t ≡ true
          may_be = sym may_is ∙ not-false m k

          old_is : old ≡ target_at s i
          old_is = target-read s s.version s.nodes i n old refl refl read o

          stepped-rule : x ≡ move_rule s w i t
          unfolding move_rule unless ◌▸◌
          stepped-rule = rw (← f, not-false b h, ← may_is, not-false m k, ← old_is) e

          pub move_stuck : (x ≡ 0 → ⊥) → Moved s w i t s.nodes w x
          move_stuck d = stays x stepped-rule d

          pub move_steps : x ≡ 0 → Steps w old t
          move_steps y =
              record {
                rule = sym e ∙ y;
                old_there = λ d. let l = p.targets i (move_inside h) (λ z. d (old_is ∙ z)) in let z = p.room in rw old_is (omega arith);
                new_there = λ d. let l = allowed-inside s (kind_of (tag_of s i)) t may_be (ne_eqb t NONE d) in let z = p.room in omega arith;
              }

          pub move_done : x ≡ 0 → (width : ℕ) → width ≡ node_words s.version → (ns w' : List ℕ)
              → ns ≡ set s.nodes (i * width + (3 + place_by n.tag)) t → w' ≡ stepped w old t → Moved s w i t ns w' 0
          unfolding nodes_after_set summary_after_set
          move_done y width a ns w' u v =
              record {
                number = sym y ∙ stepped-rule;
                nodes_are = rw (place_by_lem s (tag_of s i) t may_be, ← tag_read, ← a) u;
                words_are = rw (← old_is) v;
              }

-- where its words begin
pub node-begins : (s : Sections) (i width : ℕ) → i ≤ NONE → width ≡ node_words s.version → i * width ≤ 18446744073709551615
node-begins s i width h e = rw e (omega (arith, number-words i s.version h))

-- the words of a node that is inside, where it is written
pub node-room : (s : Sections) (i width : ℕ) → i < node_count s → width ≡ node_words s.version → i * width + 10 ≤ length s.nodes
node-room s i width h e = rw e (let n = node-within s.nodes s.version i h in omega (arith, n.words, n.least))

-- ---- the call

-- what is answered, and both on return
pub record SetDone (s : Sections) (w : List ℕ) (i t : ℕ) (ns w' : List ℕ) (r : ℕ) : Type 0 where
  pub number : r ≡ set_target_rule s w i t
  pub nodes_are : ns ≡ nodes_after_set (set_target_rule s w i t) s i t
  pub words_are : w' ≡ summary_after_set (set_target_rule s w i t) s w i t

module _ (s : Sections) (w : List ℕ) (i t : ℕ) where
  kept : (r : ℕ) → r ≡ set_target_rule s w i t → (r ≡ 0 → ⊥) → SetDone s w i t s.nodes w r
  unfolding nodes_after_set summary_after_set
  kept r e d = record { number = e; nodes_are = rw (← e, ne_eqb r 0 d); words_are = rw (← e, ne_eqb r 0 d) }

  pub set-broken : (r : ℕ) → r ≡ tables_rule s → (r ≡ 0 → ⊥) → SetDone s w i t s.nodes w r
  unfolding set_target_rule ◌▸◌
  set-broken zero e d = absurd (d refl)
  set-broken (suc r) e d = kept (suc r) (rw (← e)) d

  module _ (r : ℕ) (e : r ≡ tables_rule s) (z : r ≡ 0) (count : ℕ) (counted : count ≡ node_count s) where
    pub set-short : length w < count → SetDone s w i t s.nodes w 27
    unfolding set_target_rule summary_rule unless ◌▸◌
    set-short h = kept 27 (rw (← e, z, ← counted, lt-leb count (length w) h)) (λ q. omega arith)

    module _ (enough : count ≤ length w) where
      -- by node words alone
      abbrev alone : Sections
      alone = nodes_alone s.version s.nodes

      pub summarised : Summarised alone w
      unfolding node_word
      summarised = record { targets = λ j l d. (target s j ((tables s (sym e ∙ z)).fields j l) d).below; room = omega arith }

      allowed-alone : allowed alone (kind_of (tag_of s i)) t ≡ allowed s (kind_of (tag_of s i)) t
      unfolding tag_in node_word
      allowed-alone = sym (allowed-told alone (kind_of (tag_of s i)) t) ∙ allowed-told s (kind_of (tag_of s i)) t

      move_alone : move_rule alone w i t ≡ move_rule s w i t
      unfolding move_rule node_word
      move_alone = ap (λ (b : Bool). unless (inside s i && b) not_found ▸ step_rule w (target_at s i) t) allowed-alone

      same-rule : move_rule alone w i t ≡ set_target_rule s w i t
      unfolding set_target_rule summary_rule unless ◌▸◌
      same-rule = move_alone ∙ rw (← e, z, ← counted, le-leb count (length w) enough)

      pub set_moved : (ns w' : List ℕ) (x : ℕ) → Moved alone w i t ns w' x → SetDone s w i t ns w' x
      unfolding node_word nodes_after_set summary_after_set
      set_moved ns w' x m =
          let q : x ≡ set_target_rule s w i t = m.number ∙ same-rule in
          record {
            number = q;
            nodes_are = m.nodes_are ∙ ap (λ (y : ℕ). nodes_after_set y s i t) q;
            words_are = m.words_are ∙ ap (λ (y : ℕ). summary_after_set y s w i t) q;
          }
