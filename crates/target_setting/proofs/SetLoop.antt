-- The loop that sets the targets: the nodes of entries before k are set, the words of the others are as they were.
use Rattle.std.specs.Prelude.{None, Option, Some, is_some}
use Prim.Native.Nat.{ℕ, ◌+◌, ◌*◌, ◌-◌, ◌/◌, ◌≤◌, ◌<◌}
use mathlib.Core.Path.{◌≡◌, refl, sym, ap, ◌∙◌}
use mathlib.Core.List.{List}
use mathlib.Core.Bool.{true, true≢false}
use native.Mathlib.Omega.{arith}
use native.Mathlib.Decide.{ℕ_discrete, dec_lt}
use lib.ListN.{length, get_or}
use Rattle.words.specs.Words.{NONE}
use Rattle.image.specs.Sections.{common_words, node_words}
use Rattle.image.proofs.Widths.{node-within, words-some, later-node}
use Rattle.draft.specs.PathList.{path_count, path_origin, path_of}
use Rattle.draft.specs.Source.{word_of}
use Rattle.target_setting.specs.Setting.{follower_tag, set_word, NodeSet, Settable, AllSet}
use Rattle.target_finding.proofs.Finding.{path-there, path-nowhere}
use Rattle.target_setting.proofs.SetNode.{later-word, none-word}

-- ---- one node

-- the words of another node are as they were
pub others-kept : (version i target : ℕ) (nodes nodes' : List ℕ) → NodeSet (i * node_words version) target nodes nodes'
    → ((target ≡ NONE → ⊥) → follower_tag (word_of version nodes i 2) ≡ true)
    → (j q : ℕ) → (j ≡ i → ⊥) → q < node_words version → word_of version nodes' j q ≡ word_of version nodes j q
others-kept version i target nodes nodes' x f j q d l = go (dec_lt j i)
  where
    go : Dec (j < i) → word_of version nodes' j q ≡ word_of version nodes j q
    go (yes b) = x.before (j * node_words version + q) (omega (arith, later-node j i version b))
    go (no b) =
        let far = later-node i j version (omega arith) in
        let k : ℕ = j * node_words version + q - i * node_words version in
        let a : j * node_words version + q ≡ i * node_words version + k = omega (arith, far) in
        let h : 8 ≤ k = omega (arith, far, words-some version) in
        rw a (x.here k ∙ later-word (word_of version nodes i 2) target k (get_or nodes (i * node_words version + k) 0) h f)

-- ---- the loop

pub record SetSoFar (version : ℕ) (work paths nodes₀ nodes : List ℕ) (k : ℕ) : Type 0 where
  pub within : k ≤ path_count paths
  pub long : length nodes ≡ length nodes₀
  pub done : (j q : ℕ) → j < k → q < node_words version
      → word_of version nodes (path_origin paths j) q
      ≡ set_word (word_of version nodes₀ (path_origin paths j) 2) (get_or work (path_origin paths j) 0) q (word_of version nodes₀ (path_origin paths j) q)
  pub rest : (i q : ℕ) → q < node_words version → ((j : ℕ) → j < k → path_origin paths j ≡ i → ⊥) → word_of version nodes i q ≡ word_of version nodes₀ i q

module _ (version : ℕ) (work paths nodes₀ : List ℕ) where
  pub set-start : SetSoFar version work paths nodes₀ nodes₀ 0
  set-start = record { within = omega arith; long = refl; done = λ j q h l. absurd (omega arith); rest = λ i q l h. refl }

  module _ (nodes : List ℕ) (k : ℕ) (s : SetSoFar version work paths nodes₀ nodes k) (can : Settable version paths nodes₀ work) where
    pub set_end : (count : ℕ) → count ≡ path_count paths → count ≤ k → AllSet version nodes₀ work nodes
    set_end count e h = record { long = s.long; each = λ i q l m. by i q l m (path_of paths i) refl }
      where
        no_target_lem : (i : ℕ) → i < length nodes₀ / node_words version → path_of paths i ≡ None → Dec (get_or work i 0 ≡ NONE) → get_or work i 0 ≡ NONE
        no_target_lem i l p (yes z) = z
        no_target_lem i l p (no d) = absurd (true≢false (sym (can.has i l d) ∙ ap is_some p))

        by : (i q : ℕ) → i < length nodes₀ / node_words version → q < node_words version → (x : Option ℕ) → path_of paths i ≡ x
            → word_of version nodes i q ≡ set_word (word_of version nodes₀ i 2) (get_or work i 0) q (word_of version nodes₀ i q)
        by i q l m None p =
            s.rest i q m (λ j b. path-nowhere paths i p j (omega (arith, s.within)))
            ∙ sym (none-word (word_of version nodes₀ i 2) (get_or work i 0) q (word_of version nodes₀ i q) (no_target_lem i l p (ℕ_discrete (get_or work i 0) NONE)))
        by i q l m (Some j) p =
            let there = path-there paths i j p in
            rw (← there.1) (s.done j q (omega (arith, e, there.0)) m)

    -- at entry k, of node i, where the code has the width as a number
    module _ (h : k < path_count paths) (i : ℕ) (is : i ≡ path_origin paths k) where
      pub set_below : i < length nodes₀ / node_words version
      set_below = rw is (can.inside k h)

      pub set-read : i < length work
      set-read = omega (arith, set_below, can.enough)

      same-before : (q : ℕ) → q < node_words version → word_of version nodes i q ≡ word_of version nodes₀ i q
      same-before q l = s.rest i q l (λ j b e. can.apart j k b h (e ∙ is))

      tag_kept : word_of version nodes i 2 ≡ word_of version nodes₀ i 2
      tag_kept = same-before 2 (omega (arith, words-some version))

      follower : (get_or work i 0 ≡ NONE → ⊥) → follower_tag (word_of version nodes i 2) ≡ true
      follower d = rw tag_kept (can.followers i set_below d)

      module _ (width : ℕ) (e : width ≡ node_words version) where
        pub set_room : i * width + common_words ≤ length nodes
        set_room = rw e (let n = node-within nodes₀ version i set_below in omega (arith, n.words, n.least, s.long))

        pub set-follower : (get_or work i 0 ≡ NONE → ⊥) → follower_tag (get_or nodes (i * width + 2) 0) ≡ true
        set-follower d = rw e (follower d)

        pub set_next : (nodes' : List ℕ) → NodeSet (i * width) (get_or work i 0) nodes nodes' → SetSoFar version work paths nodes₀ nodes' (k + 1)
        set_next nodes' x₀ =
            record {
              within = omega arith;
              long = x.long ∙ s.long;
              done = λ j q l m. by j q l m (ℕ_discrete j k);
              rest = λ n q m d. kept n q (λ z. d k (omega arith) (sym (z ∙ is))) m ∙ s.rest n q m (λ j l. d j (omega arith));
            }
          where
            x : NodeSet (i * node_words version) (get_or work i 0) nodes nodes'
            x = rw e at x₀

            kept : (j q : ℕ) → (j ≡ i → ⊥) → q < node_words version → word_of version nodes' j q ≡ word_of version nodes j q
            kept j q d m = others-kept version i (get_or work i 0) nodes nodes' x follower j q d m

            here : (q : ℕ) → q < node_words version
                → word_of version nodes' i q ≡ set_word (word_of version nodes₀ i 2) (get_or work i 0) q (word_of version nodes₀ i q)
            here q m =
                x.here q ∙ ap (λ (t : ℕ). set_word t (get_or work i 0) q (word_of version nodes i q)) tag_kept
                ∙ ap (λ (w : ℕ). set_word (word_of version nodes₀ i 2) (get_or work i 0) q w) (same-before q m)

            by : (j q : ℕ) → j < k + 1 → q < node_words version → Dec (j ≡ k)
                → word_of version nodes' (path_origin paths j) q
                ≡ set_word (word_of version nodes₀ (path_origin paths j) 2) (get_or work (path_origin paths j) 0) q (word_of version nodes₀ (path_origin paths j) q)
            by j q l m (yes z) = rw (z, ← is) (here q m)
            by j q l m (no d) =
                kept (path_origin paths j) q (λ z. can.apart j k (omega arith) h (z ∙ is)) m ∙ s.done j q (omega arith) m
