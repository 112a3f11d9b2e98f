-- The words of a resolved draft's nodes, and that its tree is the draft's.
use Prim.Native.Nat.{ℕ, ◌+◌, ◌*◌, ◌/◌, ◌%◌, ◌≤◌, ◌<◌}
use mathlib.Core.Path.{◌≡◌, refl, sym, ap, ◌∙◌, subst}
use mathlib.Core.Logic.{◌≢◌, inl, inr}
use mathlib.Core.List.{List}
use mathlib.Core.Bool.{Bool, true, false, ◌||◌, true≢false}
use native.Mathlib.Omega.{arith}
use native.Mathlib.Decide.{dec_lt}
use native.Mathlib.Nat.{mul-le-mul_right, mod-lt, div-add-mod'}
use lib.ListN.{length, get_or, get_or-eq_default}
use lib.Seq.{ext_get_or}
use lib.Dec.{eqb}
use borrow.Author.Tests.{ne_eqb}
use Rattle.laws.proofs.Flags.{and-false}
use Rattle.laws.proofs.Members.{length_join, get_join}
use Rattle.words.specs.Words.{NONE}
use Rattle.image.specs.Entries.{node_in}
use Rattle.image.specs.Sections.{Sections, common_words, node_words, text_entry_words, definition_words, node_count, node_word, tag_of}
use Rattle.image.specs.Tags.{container_tag, choice_tag, divert_tag, list_tag, target_tag, reference_tag}
use Rattle.image.proofs.Widths.{words-some, count_of_lem}
use Rattle.records.specs.Fields.{target_place, kind_of, schema}
use Rattle.draft.specs.PathList.{follows}
use Rattle.draft.proofs.PathTables.{FollowTag, follow_tag, no_container_lem, no_list, followed}
use Rattle.draft_image.proofs.Joins.{even_read, even_len}
use Rattle.target_finding.specs.Targets.{PathList, target_found, is_path_text, followed_word, resolved_word, resolved_node, resolved_nodes, resolved}
use Rattle.resolved_drafts.specs.Resolved.{ResolvedKeeps, DraftKept}
use Rattle.draft.proofs.SameTree.{SameTree}

-- ---- the words of a node that follows

-- a word that is neither the target nor of the path text
pub kept_word : (tag target k w : ℕ) → k ≢ 3 + target_place (kind_of tag) → is_path_text tag k ≡ false → followed_word tag target k w ≡ w
unfolding followed_word
kept_word tag target k w d e = rw (ne_eqb k (3 + target_place (kind_of tag)) d, e)

-- the path text is absent; its words are not the target
target-apart : (tag : ℕ) → FollowTag tag → is_path_text tag (3 + target_place (kind_of tag)) ≡ false
unfolding is_path_text schema
target-apart t (inl e) = ap (λ (x : ℕ). is_path_text x (3 + target_place (kind_of x))) e
target-apart t (inr (inl e)) = ap (λ (x : ℕ). is_path_text x (3 + target_place (kind_of x))) e
target-apart t (inr (inr (inl e))) = ap (λ (x : ℕ). is_path_text x (3 + target_place (kind_of x))) e
target-apart t (inr (inr (inr e))) = ap (λ (x : ℕ). is_path_text x (3 + target_place (kind_of x))) e

text-word : (tag : ℕ) → FollowTag tag → (target k w : ℕ) → is_path_text tag k ≡ true → followed_word tag target k w ≡ NONE
unfolding followed_word
text-word tag g target k w e =
    rw (ne_eqb k (3 + target_place (kind_of tag)) (λ q. true≢false (sym e ∙ ap (is_path_text tag) q ∙ target-apart tag g)), e)

-- a divert-target value has none
value-text : (k : ℕ) → is_path_text target_tag k ≡ false
unfolding is_path_text
value-text k = refl

value-apart : (k : ℕ) → k ≢ 2 → 3 + k ≢ 3 + target_place (kind_of target_tag)
unfolding schema
value-apart k d e = d (omega arith)

-- parent, place and tag are neither
front : (tag k : ℕ) → k < 3 → is_path_text tag k ≡ false
unfolding is_path_text
front tag k h =
    rw (ne_eqb k 3 (λ e. omega arith), ne_eqb k 4 (λ e. omega arith), ne_eqb k 5 (λ e. omega arith), ne_eqb k 6 (λ e. omega arith), and-false (eqb tag choice_tag || eqb tag divert_tag), and-false (eqb tag reference_tag))
    refl

module _ (s : Sections) (p : PathList) where
  abbrev r : Sections
  r = resolved s p

  abbrev w : ℕ
  w = node_words s.version

  node-length : (i : ℕ) → length (resolved_node s p i) ≡ w
  unfolding resolved_node
  node-length i = length_join w (resolved_word s p i)

  pub nodes-length : length (resolved_nodes s p) ≡ node_count s * w
  unfolding resolved_nodes
  nodes-length = even_len (node_count s) w (resolved_node s p) (λ m h. node-length m)

  pub node-count : node_count r ≡ node_count s
  node-count = count_of_lem (resolved_nodes s p) (node_count s) s.version nodes-length

  pub node-word : (i k : ℕ) → i < node_count s → k < w → node_word r i k ≡ resolved_word s p i k
  unfolding node_word resolved_nodes resolved_node
  node-word i k h l = even_read (node_count s) w (resolved_node s p) (λ m q. node-length m) i k h l ∙ get_join 0 w (resolved_word s p i) k l

  -- ---- by whether the node follows a path

  pub passed-word : (i k : ℕ) → follows s p.entries i ≡ false → resolved_word s p i k ≡ node_word s i k
  unfolding resolved_word
  passed-word i k e = rw e

  pub followed-word : (i k : ℕ) → follows s p.entries i ≡ true
      → resolved_word s p i k ≡ followed_word (tag_of s i) (target_found s p i) k (node_word s i k)
  unfolding resolved_word
  followed-word i k e = rw e

  same_word : (i k : ℕ) → k ≢ 3 + target_place (kind_of (tag_of s i)) → is_path_text (tag_of s i) k ≡ false → resolved_word s p i k ≡ node_word s i k
  same_word i k d e = by (follows s p.entries i) refl
    where
      by : (b : Bool) → follows s p.entries i ≡ b → resolved_word s p i k ≡ node_word s i k
      by true q = followed-word i k q ∙ kept_word (tag_of s i) (target_found s p i) k (node_word s i k) d e
      by false q = passed-word i k q

  pub tag_of_follower : (i : ℕ) → follows s p.entries i ≡ true → FollowTag (tag_of s i)
  tag_of_follower i e = follow_tag (node_in s i) (followed s p.entries i e)

  -- what is of another kind is passed over
  passed_over : (i tag k : ℕ) → (FollowTag tag → ⊥) → tag_of s i ≡ tag → resolved_word s p i k ≡ node_word s i k
  passed_over i tag k d e = by (follows s p.entries i) refl
    where
      by : (b : Bool) → follows s p.entries i ≡ b → resolved_word s p i k ≡ node_word s i k
      by true q = absurd (d (subst FollowTag e (tag_of_follower i q)))
      by false q = passed-word i k q

  -- ---- what stays

  value-word : (i k : ℕ) → tag_of s i ≡ target_tag → k ≢ 2 → resolved_word s p i (3 + k) ≡ node_word s i (3 + k)
  value-word i k e h =
      same_word i (3 + k) (λ d. value-apart k h (d ∙ ap (λ (t : ℕ). 3 + target_place (kind_of t)) e)) (ap (λ (t : ℕ). is_path_text t (3 + k)) e ∙ value-text (3 + k))

  absent-word : (i k : ℕ) → follows s p.entries i ≡ true → is_path_text (tag_of s i) k ≡ true → resolved_word s p i k ≡ NONE
  absent-word i k e q = followed-word i k e ∙ text-word (tag_of s i) (tag_of_follower i e) (target_found s p i) k (node_word s i k) q

  pub kept : ResolvedKeeps s p
  kept =
      record {
        nodes = node-count;
        words = λ t.
            16 * node-count t + 4 * (length s.children + length s.named / text_entry_words + length s.definitions / definition_words + length s.items / text_entry_words + length s.payload);
        passed_over = λ i k h l e. node-word i k h l ∙ passed-word i k e;
        others = λ i k h l d e. node-word i k h l ∙ same_word i k d e;
        path-text = λ i k h l e q. node-word i k h l ∙ absent-word i k e q;
        value-text = λ i k h e l. node-word i (3 + k) h (omega (arith, words-some s.version)) ∙ value-word i k e (λ q. omega arith);
      }

  -- ---- nodes that are whole entries: past the last one there are no words

  module _ (whole : length s.nodes ≡ node_count s * w) where
    past : (ws : List ℕ) (i k : ℕ) → length ws ≡ node_count s * w → node_count s ≤ i → get_or ws (i * w + k) 0 ≡ 0
    past ws i k e h = get_or-eq_default ws 0 {n = i * w + k} (omega (arith, mul-le-mul_right w h))

    -- a word that stays in a node stays anywhere
    any_word : (i k : ℕ) → k < w → resolved_word s p i k ≡ node_word s i k → node_word r i k ≡ node_word s i k
    any_word i k l e = by (dec_lt i (node_count s))
      where
        by : Dec (i < node_count s) → node_word r i k ≡ node_word s i k
        by (yes h) = node-word i k h l ∙ e
        by (no h) = unfold node_word in past (resolved_nodes s p) i k nodes-length (omega arith) ∙ sym (past s.nodes i k whole (omega arith))

    common : (k : ℕ) → k < common_words → k < w
    common k h = omega (arith, words-some s.version)

    front-word : (i k : ℕ) → k < 3 → node_word r i k ≡ node_word s i k
    front-word i k h = any_word i k (common k (omega arith)) (same_word i k (λ e. omega arith) (front (tag_of s i) k h))

    pub same-tree : SameTree s (resolved_nodes s p)
    same-tree =
        record {
          count = node-count;
          tags = λ i. front-word i 2 (omega arith);
          parents = λ i. front-word i 0 (omega arith);
          places = λ i. front-word i 1 (omega arith);
          boxes = λ i k e h. any_word i (3 + k) (common (3 + k) (omega arith)) (passed_over i container_tag (3 + k) (λ q. no_container_lem container_tag q refl) e);
          lists = λ i e. any_word i 4 (common 4 (omega arith)) (passed_over i list_tag 4 (λ q. no_list list_tag q refl) e);
        }

    -- where no node follows a path, nothing changes
    pub unchanged : ((i : ℕ) → follows s p.entries i ≡ false) → resolved_nodes s p ≡ s.nodes
    unfolding node_word
    unchanged none =
        ext_get_or 0 (resolved_nodes s p) s.nodes (nodes-length ∙ sym whole)
        (λ m h.
        let e = sym (div-add-mod' m w) in
        ap (λ (x : ℕ). get_or (resolved_nodes s p) x 0) e ∙ any_word (m / w) (m % w) (rest m) (passed-word (m / w) (m % w) (none (m / w)))
        ∙ ap (λ (x : ℕ). get_or s.nodes x 0) (sym e))
      where
        rest : (m : ℕ) → m % w < w
        rest m = mod-lt m (omega (arith, words-some s.version))

pub draft-kept : DraftKept
draft-kept s p = kept s p
