-- The words of a resolved draft are words.
use Rattle.std.specs.Prelude.{None, Option, Some, ℕ}
use Prim.Native.Nat.{ℕ, ◌+◌, ◌^◌, ◌<◌}
use mathlib.Core.Path.{◌≡◌, refl, sym, subst}
use mathlib.Core.Bool.{Bool, true, false, cond}
use native.Mathlib.Omega.{arith}
use lib.Dec.{eqb}
use borrow.Author.Tests.{eqb-true}
use Rattle.laws.proofs.Lists.{below_at}
use Rattle.laws.proofs.Members.{all_join}
use Rattle.words.specs.Words.{NONE}
use Rattle.image.specs.Sections.{Sections, node_words, node_count, node_word, tag_of, child_word, named_word}
use Rattle.image.specs.Tags.{container_tag}
use Rattle.records.specs.Fields.{target_place, kind_of}
use Rattle.draft.specs.PathList.{path_of, follows}
use Rattle.draft.proofs.PathTables.{no_container_lem}
use Rattle.walks.specs.Walk.{components}
use Rattle.written.specs.Written.{DraftWords}
use Rattle.written.proofs.Lists.{all_below, all_joined}
use Rattle.target_finding.specs.Targets.{PathList, path_components, path_end, found_node, entry_target, target_found, is_path_text, followed_word, resolved_word, resolved_node, resolved_nodes}
use Rattle.walks.proofs.WalkEnds.{Closed, walk_ends}
use Rattle.resolved_drafts.specs.Resolved.{WordsKept, ResolvedWritten}
use Rattle.resolved_drafts.proofs.Reading.{passed-word, followed-word, tag_of_follower}

abbrev Word : ℕ → Type 0
Word n = n < 2 ^ 32

none-word : Word NONE
none-word = omega arith

either : (b : Bool) (x y : ℕ) → Word x → Word y → Word (cond b x y)
either true x y a b = a
either false x y a b = b

module _ (s : Sections) (p : PathList) (d : DraftWords s) where
  node-small : (i k : ℕ) → Word (node_word s i k)
  unfolding node_word
  node-small i k = below_at (2 ^ 32) _ s.nodes (omega arith) d.nodes

  -- entries and parents are words
  closed : Closed s Word
  unfolding child_word named_word
  closed =
      record {
        parents = λ i g e. node-small i 0;
        children = λ j h. below_at (2 ^ 32) _ s.children (omega arith) d.children;
        named = λ j h. below_at (2 ^ 32) _ s.named (omega arith) d.named;
      }

  module _ (i : ℕ) (g : follows s p.entries i ≡ true) where
    -- a node that follows is no container, so its walk starts at a word
    found-small : (k : ℕ) (x : Option ℕ) → path_end s p i k ≡ x → Word (found_node x)
    unfolding path_end
    found-small k None e = none-word
    found-small k (Some n) e =
        walk_ends s Word closed (omega arith) _ i
        (λ h b. absurd (no_container_lem (tag_of s i) (tag_of_follower s p i g) (eqb-true (tag_of s i) container_tag b)))
        (components p.names (path_components p k)) n e

    entry-small : (x : Option ℕ) → Word (entry_target s p i x)
    entry-small None = none-word
    entry-small (Some k) = found-small k (path_end s p i k) refl

    target_small : Word (target_found s p i)
    unfolding target_found
    target_small = either (follows s p.entries i) _ NONE (entry-small (path_of p.entries i)) none-word

    followed-small : (k : ℕ) → Word (followed_word (tag_of s i) (target_found s p i) k (node_word s i k))
    unfolding followed_word
    followed-small k =
        either (eqb k (3 + target_place (kind_of (tag_of s i)))) _ _ target_small (either (is_path_text (tag_of s i) k) NONE _ none-word (node-small i k))

  word_small : (i k : ℕ) → Word (resolved_word s p i k)
  word_small i k = by (follows s p.entries i) refl
    where
      by : (b : Bool) → follows s p.entries i ≡ b → Word (resolved_word s p i k)
      by true g = subst Word (sym (followed-word s p i k g)) (followed-small i g k)
      by false g = subst Word (sym (passed-word s p i k g)) (node-small i k)

pub words-kept : WordsKept
unfolding resolved_nodes resolved_node
words-kept s p d =
    record {
      nodes = all_below (2 ^ 32) (resolved_nodes s p)
          (all_joined Word (node_count s) (resolved_node s p) (λ i h. all_join Word (node_words s.version) (resolved_word s p i) (λ k l. word_small s p d i k)));
      children = d.children;
      named = d.named;
      definitions = d.definitions;
      items = d.items;
      payload = d.payload;
      strings = d.strings;
    }

pub resolved-written : ResolvedWritten
resolved-written P h ink s p work room v d e = h ink _ work room v (words-kept s p d) e
