-- The loop of `depth`: so many steps have led to a node, and the rest are those from it.
use Rattle.std.specs.Prelude.{None, Option, Some, ℕ}
use Prim.Native.Nat.{ℕ, suc, ◌+◌, ◌*◌, ◌-◌, ◌/◌, ◌≤◌, ◌<◌}
use mathlib.Core.Path.{◌≡◌, refl, sym, ap, ◌∙◌, subst}
use mathlib.Core.List.{List, []}
use mathlib.Core.Bool.{Bool, true, false, not}
use native.Mathlib.Omega.{arith}
use native.Mathlib.Nat.{add-zero, zero-add, sub-zero, zero-div}
use native.Mathlib.Decide.{dec_lt}
use lib.ListN.{length, get_or}
use borrow.Author.Tests.{not-true, not-false}
use Rattle.words.specs.Words.{words_of}
use Rattle.words.proofs.Words.{length-words}
use Rattle.image.specs.declared.ImageView.{ImageView}
use Rattle.image.specs.Sections.{Sections, node_words, node_size, node_count, node_word, parent_of, inside, inside_among}
use Rattle.image.specs.Header.{section_bytes, sections_by}
use Rattle.image.proofs.Parts.{section-outside}
use Rattle.image.proofs.Views.{section-count}
use Rattle.image.proofs.Widths.{words-some}
use Rattle.views.proofs.Reading.{count-here, inside-here, node-below}
use Rattle.depth.specs.Depth.{one_more, depth_from, depth_of}
use Rattle.depth.proofs.Steps.{depth-root, depth-above, outside-none}

-- so many steps more
abbrev pub plus : ℕ → Option ℕ → Option ℕ
plus k (Some n) = Some (k + n)
plus k None = None

plus_none : (c : Option ℕ) → plus 0 c ≡ c
plus_none (Some n) = ap Some (zero-add n)
plus_none None = refl

plus-more : (k : ℕ) (c : Option ℕ) → plus k (one_more c) ≡ plus (k + 1) c
plus-more k (Some n) = let e : k + suc n ≡ k + 1 + n = omega arith in ap Some e
plus-more k None = refl

-- ---- over sections

-- so many steps have led from node id to node `at`, no more than there are nodes; the depth is that of `at` and these steps
pub record Climbed (s : Sections) (id at steps : ℕ) : Type 0 where
  pub few : steps ≤ node_count s
  pub left : depth_of s id ≡ plus steps (depth_from (node_count s - steps) s at)

climb-start : (s : Sections) (id : ℕ) → Climbed s id id 0
unfolding depth_of
climb-start s id = record { few = omega arith; left = rw (sub-zero (node_count s)) (sym (plus_none _)) }

module _ (s : Sections) (id at steps : ℕ) (c : Climbed s id at steps) where
  climb_end : node_count s ≤ steps → None ≡ depth_of s id
  unfolding depth_from
  climb_end h = let e : node_count s - steps ≡ 0 = omega arith in sym (c.left ∙ rw e)

  climb_out : inside s at ≡ false → None ≡ depth_of s id
  climb_out o = sym (c.left ∙ ap (plus steps) (outside-none s (node_count s - steps) at o))

  module _ (h : steps < node_count s) (i : inside s at ≡ true) where
    abbrev rest : ℕ
    rest = node_count s - (steps + 1)

    one_left : depth_of s id ≡ plus steps (depth_from (suc rest) s at)
    one_left = let e : node_count s - steps ≡ suc rest = omega arith in c.left ∙ ap (λ (n : ℕ). plus steps (depth_from n s at)) e

    climb-root : at ≡ 0 → Some steps ≡ depth_of s id
    climb-root z = sym (one_left ∙ ap (plus steps) (depth-root s rest at i z) ∙ ap Some (add-zero steps))

    climb-above : (at ≡ 0 → ⊥) → Climbed s id (parent_of s at) (steps + 1)
    climb-above z =
        record { few = omega arith; left = one_left ∙ ap (plus steps) (depth-above s rest at i z) ∙ plus-more steps (depth_from rest s (parent_of s at)) }

-- ---- over the nodes of a view

none-there : (version : ℕ) → length (words_of []) / node_words version ≡ 0
none-there version = rw (length-words [], zero-div (node_words version))

module _ (bs : List ℕ) (v : ImageView) (part : List ℕ) (e : part ≡ section_bytes bs v.nodes (node_size v.version))
    (nodes : ℕ) (n : nodes ≡ length (words_of part) / node_words v.version) (id : ℕ) where
  abbrev own : Sections
  own = sections_by bs v

  count_is : nodes ≡ node_count own
  count_is = count-here bs v part e id nodes n

  parent_is : (at : ℕ) → get_or (words_of part) (at * node_words v.version + 0) 0 ≡ parent_of own at
  unfolding sections_by node_word
  parent_is at = ap (λ (x : List ℕ). get_or (words_of x) (at * node_words v.version + 0) 0) e

  -- there are as many nodes as the view says, or none
  pub record CountOrNone : Type 0 where
    pub most : nodes ≤ v.nodes.count
    pub whole : 0 < nodes → nodes ≡ v.nodes.count

  counted : nodes ≡ length (words_of (section_bytes bs v.nodes (node_size v.version))) / node_words v.version
  unfolding sections_by
  counted = count_is

  count_or_none : CountOrNone
  count_or_none = by (dec_lt (length bs) (v.nodes.offset + v.nodes.count * node_size v.version))
    where
      by : Dec (length bs < v.nodes.offset + v.nodes.count * node_size v.version) → CountOrNone
      by (yes h) =
          let q : nodes ≡ 0 = counted ∙ ap (λ (x : List ℕ). length (words_of x) / node_words v.version) (section-outside bs v.nodes (node_size v.version) h)
          ∙ none-there v.version in
          record { most = omega arith; whole = λ k. absurd (omega arith) }
      by (no h) =
          let q : nodes ≡ v.nodes.count = counted ∙ section-count bs v.nodes (node_words v.version) (omega (arith, words-some v.version)) (omega arith) in
          record { most = omega arith; whole = λ k. q }

  pub loop_start : Climbed own id id 0
  loop_start = climb-start own id

  module _ (at steps : ℕ) (c : Climbed own id at steps) where
    pub loop_end : v.nodes.count ≤ steps → None ≡ depth_of own id
    loop_end h = climb_end own id at steps c (rw (← count_is) (omega (arith, count_or_none.most)))

    module _ (b : Bool) (i : b ≡ inside_among nodes at) where
      inside_is : b ≡ inside own at
      inside_is = inside-here bs v part e at nodes n b i

      pub loop_out : not b ≡ true → None ≡ depth_of own id
      loop_out o = climb_out own id at steps c (sym inside_is ∙ not-true b o)

      module _ (o : not b ≡ false) where
        pub node-there : (at < length (words_of part) / node_words v.version) × (0 < node_words v.version)
        node-there = (node-below bs v part e at nodes n b i o, omega (arith, words-some v.version))

        pub at_below : at < nodes
        at_below = rw n node-there.0

        module _ (h : steps < v.nodes.count) where
          fewer : steps < node_count own
          fewer = rw (← count_is) (omega (arith, at_below, count_or_none.whole (omega (arith, at_below))))

          node : inside own at ≡ true
          node = sym inside_is ∙ not-false b o

          pub loop_root : at ≡ 0 → Some steps ≡ depth_of own id
          loop_root z = climb-root own id at steps c fewer node z

          pub loop_above : (at ≡ 0 → ⊥) → (p : ℕ) → p ≡ get_or (words_of part) (at * node_words v.version + 0) 0 → Climbed own id p (steps + 1)
          loop_above z p q = subst (λ (x : ℕ). Climbed own id x (steps + 1)) (sym (q ∙ parent_is at)) (climb-above own id at steps c fewer node z)
