-- What the calls answer, and draft and summary on return.
use Prim.Native.Nat.{ℕ, zero, suc, ◌+◌, ◌*◌, ◌/◌, ◌≤◌, ◌<◌}
use mathlib.Core.Path.{◌≡◌, refl, sym, ◌∙◌}
use mathlib.Core.Bool.{Bool, true, false, not}
use mathlib.Core.List.{List, [], ◌++◌}
use native.Mathlib.Omega.{arith}
use native.Mathlib.Nat.{mul-zero, mul_comm}
use native.Mathlib.Decide.{dec_lt}
use lib.ListN.{length, drop}
use borrow.Author.Tests.{ne_eqb, le-leb, lt-leb, not-true, not-false}
use Rattle.laws.specs.Refusal.{unless, ◌▸◌}
use Rattle.words.specs.Words.{NONE, words_of}
use Rattle.words.proofs.Words.{length-words}
use Rattle.image.specs.declared.ImageView.{ImageView}
use Rattle.image.specs.Header.{section_bytes, sections_by}
use Rattle.image.specs.Sections.{Sections, node_words, node_count, node_word}
use Rattle.image.proofs.Parts.{section-outside}
use Rattle.image.proofs.Views.{nodes_by_lem, version_by, section-count}
use Rattle.image.proofs.Widths.{words-some, count_of_lem}
use Rattle.draft.specs.Draft.{tables_rule}
use Rattle.target_counts.specs.Summary.{pointed_at, summary_of, summary_rule, words_hold, draft_count_rule, summary_after}
use Rattle.target_counts.proofs.Counting.{nodes_alone}

-- ---- the targets of an image

zero-count : (version : ℕ) → 0 / node_words version ≡ 0
zero-count version = count_of_lem [] 0 version (sym (mul_comm 0 (node_words version) ∙ mul-zero (node_words version)))

-- what is answered, and the summary on return
abbrev Counted : ℕ → Sections → List ℕ → ℕ → List ℕ → Type 0
Counted rule s w r w' = (r ≡ rule) × (w' ≡ summary_after rule s w)

module _ (bs : List ℕ) (v : ImageView) (part : List ℕ) (e : part ≡ section_bytes bs v.nodes (4 * node_words v.version)) where
  part_few : length (words_of part) / node_words v.version ≤ v.nodes.count
  part_few = rw e (by (dec_lt (length bs) (v.nodes.offset + v.nodes.count * (4 * node_words v.version))))
    where
      by : Dec (length bs < v.nodes.offset + v.nodes.count * (4 * node_words v.version))
          → length (words_of (section_bytes bs v.nodes (4 * node_words v.version))) / node_words v.version ≤ v.nodes.count
      by (yes h) = rw (section-outside bs v.nodes (4 * node_words v.version) h, length-words []) (none (zero-count v.version))
        where
          none : 0 / node_words v.version ≡ 0 → 0 / node_words v.version ≤ v.nodes.count
          none z = omega arith
      by (no h) =
          let q = section-count bs v.nodes (node_words v.version) (omega (arith, words-some v.version)) (omega arith) in
          omega (arith, q)

  summary_by : summary_of (nodes_alone v.version (words_of part)) ≡ summary_of (sections_by bs v)
  unfolding summary_of pointed_at node_word sections_by
  summary_by = rw e

  module _ (n : ℕ) (k : n ≡ length (words_of part) / node_words v.version) where
    pub count_few : v.nodes.count ≤ NONE → n ≤ NONE
    count_few h = let z = part_few in omega arith

  module _ (n : ℕ) (k : n ≡ length (words_of part) / node_words v.version) (w : List ℕ) where
    abbrev s : Sections
    s = sections_by bs v

    count_by : n ≡ node_count s
    count_by = k ∙ rw (e, nodes_by_lem bs v, version_by bs v)

    fewer : length w < n → 27 ≡ summary_rule s (length w)
    unfolding summary_rule unless
    fewer h = rw (← count_by, lt-leb n (length w) h)

    pub image-short : length w < n → Counted (summary_rule s (length w)) s w 27 w
    unfolding summary_after
    image-short h = (fewer h, rw (← fewer h))

    enough : n ≤ length w → 0 ≡ summary_rule s (length w)
    unfolding summary_rule unless
    enough h = rw (← count_by, le-leb n (length w) h)

    pub image-counted : n ≤ length w → (w' : List ℕ) → w' ≡ summary_of (nodes_alone v.version (words_of part)) ++ drop n w
        → Counted (summary_rule s (length w)) s w 0 w'
    unfolding summary_after
    image-counted h w' q = (enough h, rw (← enough h, ← summary_by, ← count_by) q)

-- ---- those of a draft

module _ (s : Sections) (w : List ℕ) where
  refused : (r : ℕ) → r ≡ draft_count_rule s (length w) → (r ≡ 0 → ⊥) → Counted (draft_count_rule s (length w)) s w r w
  unfolding summary_after
  refused r e d = (e, rw (← e, ne_eqb r 0 d))

  pub draft-broken : (r : ℕ) → r ≡ tables_rule s → (r ≡ 0 → ⊥) → Counted (draft_count_rule s (length w)) s w r w
  unfolding draft_count_rule ◌▸◌
  draft-broken zero e d = absurd (d refl)
  draft-broken (suc r) e d = refused (suc r) (rw (← e)) d

  module _ (r : ℕ) (e : r ≡ tables_rule s) (z : r ≡ 0) (n : ℕ) (counted : n ≡ node_count s) where
    pub draft-short : length w < n → Counted (draft_count_rule s (length w)) s w 27 w
    unfolding draft_count_rule summary_rule ◌▸◌ unless
    draft-short h = refused 27 (rw (← e, z, ← counted, lt-leb n (length w) h)) (λ q. omega arith)

    pub alone_hold : words_hold (nodes_alone s.version s.nodes) ≡ words_hold s
    unfolding words_hold pointed_at node_word
    alone_hold = refl

    module _ (room : n ≤ length w) (b : Bool) (q : b ≡ words_hold (nodes_alone s.version s.nodes)) where
      hold_is : b ≡ words_hold s
      hold_is = q ∙ alone_hold

      pub draft-many : not b ≡ true → Counted (draft_count_rule s (length w)) s w 27 w
      unfolding draft_count_rule summary_rule ◌▸◌ unless
      draft-many h = refused 27 (rw (← e, z, ← counted, le-leb n (length w) room, ← hold_is, not-true b h)) (λ y. omega arith)

      passes_all : not b ≡ false → 0 ≡ draft_count_rule s (length w)
      unfolding draft_count_rule summary_rule ◌▸◌ unless
      passes_all h = rw (← e, z, ← counted, le-leb n (length w) room, ← hold_is, not-false b h)

      alone-summary : summary_of (nodes_alone s.version s.nodes) ≡ summary_of s
      unfolding summary_of pointed_at node_word
      alone-summary = refl

      pub draft-counted : not b ≡ false → (w' : List ℕ) → w' ≡ summary_of (nodes_alone s.version s.nodes) ++ drop n w
          → Counted (draft_count_rule s (length w)) s w 0 w'
      unfolding summary_after
      draft-counted h w' y = (passes_all h, rw (← passes_all h, ← alone-summary, ← counted) y)
