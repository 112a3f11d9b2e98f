-- The nodes of a draft, each set by its work word, are those of the resolved draft.
use Prim.Native.Nat.{ℕ, ◌+◌, ◌*◌, ◌/◌, ◌%◌, ◌≤◌, ◌<◌}
use mathlib.Core.Path.{◌≡◌, refl, sym, ap, ◌∙◌, subst}
use mathlib.Core.List.{List}
use mathlib.Core.Bool.{Bool, true, false, cond, ◌&&◌, ◌||◌}
use native.Mathlib.Omega.{arith}
use native.Mathlib.Nat.{div-add-mod', mod-lt, div-lt_iff_lt-mul}
use lib.ListN.{length, get_or}
use lib.Dec.{eqb}
use lib.Seq.{ext_get_or}
use borrow.Author.Tests.{eq-eqb, ne_eqb}
use Rattle.laws.proofs.Flags.{both_true}
use Rattle.laws.proofs.Members.{length_join, get_join}
use Rattle.words.specs.Words.{NONE}
use Rattle.image.specs.Sections.{Sections, node_words, node_count, node_word, tag_of}
use Rattle.image.specs.Entries.{node_in}
use Rattle.image.proofs.Widths.{words-some}
use Rattle.draft.specs.PathList.{list_right, listed, may_follow, follows}
use Rattle.draft_image.proofs.Joins.{even_read, even_len}
use Rattle.target_finding.specs.Targets.{PathList, target_found, followed_word, resolved_word, resolved_node, resolved_nodes}
use Rattle.target_setting.specs.Setting.{follower_tag, set_word, Settable, AllSet}
use Rattle.target_setting.proofs.RightEntries.{origins-inside, origins-apart}

-- ---- words by node and place

module _ (n w : ℕ) (xs ys : List ℕ) (some : 0 < w) (xl : length xs ≡ n * w) (yl : length ys ≡ n * w)
    (each : (j k : ℕ) → j < n → k < w → get_or xs (j * w + k) 0 ≡ get_or ys (j * w + k) 0) where
  pub same-words : xs ≡ ys
  same-words = ext_get_or 0 xs ys (xl ∙ sym yl) at
    where
      at : (m : ℕ) → m < length xs → get_or xs m 0 ≡ get_or ys m 0
      at m h =
          subst (λ (x : ℕ). get_or xs x 0 ≡ get_or ys x 0) (div-add-mod' m w)
          (each (m / w) (m % w) ((div-lt_iff_lt-mul some).1 (subst (λ (x : ℕ). m < x) xl h)) (mod-lt m some))

-- ---- the targets that were found, in the work words

-- the work words hold the target of every node, and a node that follows a path has one
pub record TargetsAt (s : Sections) (p : PathList) (work : List ℕ) : Type 0 where
  pub enough : node_count s ≤ length work
  pub found : (i : ℕ) → i < node_count s → get_or work i 0 ≡ target_found s p i
  pub some : (i : ℕ) → i < node_count s → follows s p.entries i ≡ true → target_found s p i ≡ NONE → ⊥

module _ (s : Sections) (p : PathList) where
  passed_over : (i : ℕ) → follows s p.entries i ≡ false → target_found s p i ≡ NONE
  unfolding target_found
  passed_over i h = rw h refl

  follower : (i : ℕ) → may_follow (node_in s i) ≡ true → follower_tag (tag_of s i) ≡ true
  unfolding may_follow follower_tag
  follower i h = go (eqb (tag_of s i) 2) (eqb (tag_of s i) 4) _ _ (eqb (tag_of s i) 13) (eqb (tag_of s i) 17) h
    where
      go : (a b x y c d : Bool) → (a || b && x && y || c || d) ≡ true → (a || b || c || d) ≡ true
      go true b x y c d q = refl
      go false true x y c d q = refl
      go false false x y c d q = q

  module _ (work : List ℕ) (t : TargetsAt s p work) where
    by_follows : (i : ℕ) → i < node_count s → (b : Bool) → follows s p.entries i ≡ b → (get_or work i 0 ≡ NONE → ⊥) → follower_tag (tag_of s i) ≡ true
    by_follows i h true e d = follower i (both_true (listed p.entries i) (may_follow (node_in s i)) e).1
    by_follows i h false e d = absurd (d (t.found i h ∙ passed_over i e))

    by_listed : (i : ℕ) → i < node_count s → (b : Bool) → follows s p.entries i ≡ b → (get_or work i 0 ≡ NONE → ⊥) → listed p.entries i ≡ true
    by_listed i h true e d = (both_true (listed p.entries i) (may_follow (node_in s i)) e).0
    by_listed i h false e d = absurd (d (t.found i h ∙ passed_over i e))

    pub settable : (m : ℕ) → list_right (node_count s) m p.entries ≡ true → Settable s.version p.entries s.nodes work
    unfolding node_word
    settable m l =
        record {
          enough = t.enough;
          followers = λ i h. by_follows i h (follows s p.entries i) refl;
          has = λ i h. by_listed i h (follows s p.entries i) refl;
          inside = origins-inside (node_count s) m p.entries l;
          apart = origins-apart (node_count s) m p.entries l;
        }

    set_word_lem : (i k : ℕ) → i < node_count s → set_word (tag_of s i) (get_or work i 0) k (node_word s i k) ≡ resolved_word s p i k
    unfolding set_word resolved_word
    set_word_lem i k h = ap (λ (x : ℕ). set_word (tag_of s i) x k (node_word s i k)) (t.found i h) ∙ go (follows s p.entries i) refl
      where
        go : (b : Bool) → follows s p.entries i ≡ b → set_word (tag_of s i) (target_found s p i) k (node_word s i k)
            ≡ cond b (followed_word (tag_of s i) (target_found s p i) k (node_word s i k)) (node_word s i k)
        go true e = rw (ne_eqb (target_found s p i) NONE (t.some i h e)) refl
        go false e = rw (eq-eqb (target_found s p i) NONE (passed_over i e)) refl

    node-long : (i : ℕ) → length (resolved_node s p i) ≡ node_words s.version
    unfolding resolved_node
    node-long i = length_join (node_words s.version) (resolved_word s p i)

    node_at : (i k : ℕ) → k < node_words s.version → get_or (resolved_node s p i) k 0 ≡ resolved_word s p i k
    unfolding resolved_node
    node_at i k h = get_join 0 (node_words s.version) (resolved_word s p i) k h

    pub all_resolved : length s.nodes ≡ node_count s * node_words s.version → (nodes : List ℕ) → AllSet s.version s.nodes work nodes → nodes ≡ resolved_nodes s p
    unfolding resolved_nodes node_word
    all_resolved whole nodes a =
        same-words (node_count s) (node_words s.version) nodes (resolved_nodes s p) (omega (arith, words-some s.version)) (a.long ∙ whole)
        (even_len (node_count s) (node_words s.version) (resolved_node s p) (λ m h. node-long m))
        (λ j k h l.
        a.each j k h l ∙ set_word_lem j k h
        ∙ sym (even_read (node_count s) (node_words s.version) (resolved_node s p) (λ m q. node-long m) j k h l ∙ node_at j k l))
