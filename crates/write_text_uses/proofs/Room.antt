-- What the uses of a draft ask for, out of the rules: its tables are right, its numbering is in the work words, and there is room.
use Prim.Native.Nat.{ℕ, ◌+◌, ◌*◌, ◌/◌, ◌≤◌, ◌<◌}
use mathlib.Core.Path.{◌≡◌, sym, ap, ◌∙◌}
use mathlib.Core.List.{List, []}
use native.Mathlib.Omega.{arith}
use lib.ListN.{length, drop, length-drop}
use lib.Seq.{get_or-take, get_or-drop, ext_get_or, length-take-le}
use Rattle.image.specs.Sections.{Sections, node_words, node_count, node_word}
use Rattle.records.specs.Records.{list_word}
use Rattle.draft.specs.Draft.{tables_rule}
use Rattle.draft.specs.Source.{draft_of, nodes_only}
use Rattle.draft.proofs.Rules.{tables}
use Rattle.draft.proofs.ReachedNodes.{Numbered}
use Rattle.draft_image.specs.Ready.{OldsAt}
use Rattle.write_text_uses.specs.Uses.{use_words, uses_most, words_from, Readable, Collectable}
use Rattle.write_text_uses.proofs.AllUses.{uses_are}
use Rattle.write_text_uses.proofs.Fits.{readable, uses-length}
use Rattle.write_text_uses.proofs.Bounds.{uses-bound, olds-below}

-- the numbers that the words hold
pub order_is : (order w : List ℕ) (n at : ℕ) → OldsAt order w n at → length order ≡ n → at + n ≤ length w → words_from w at n ≡ order
order_is order w n at olds e h =
    let size : length (words_from w at n) ≡ n = length-take-le n (drop at w) (omega (arith, length-drop at w)) in
    ext_get_or 0 (words_from w at n) order (size ∙ sym e)
    (λ j k. let l : j < n = omega arith in get_or-take n (drop at w) j 0 l ∙ get_or-drop at w j 0 ∙ olds j l)

module _ (version : ℕ) (nodes kids entries definitions items bytes strings : List ℕ) where
  abbrev s : Sections
  s = draft_of version nodes kids entries definitions items bytes strings

  told : (order : List ℕ) → Readable s order → Readable (nodes_only version nodes bytes) order
  unfolding node_word list_word
  told order r = record { olds = r.olds; lists = r.lists }

  same : (order : List ℕ) → use_words (draft_of version nodes [] entries definitions items bytes []) order ≡ use_words s order
  same order = uses_are version nodes [] entries definitions items bytes [] order ∙ sym (uses_are version nodes kids entries definitions items bytes strings order)

  pub collectable : (order w : List ℕ) (at base : ℕ) → tables_rule s ≡ 0 → Numbered (node_count s) order → OldsAt order w (node_count s) base
      → base + node_count s ≤ length w → at + 2 * uses_most s ≤ base → Collectable version nodes entries definitions items bytes w base at
  collectable order w at base p n olds h room =
      let e : words_from w base (length nodes / node_words version) ≡ order = order_is order w (node_count s) base olds n.len h in
      record {
        read = rw e (told order (readable s (tables s p) order (olds-below s order p n)));
        numbers = h;
        below = rw e (omega (arith, ap length (same order), uses-length s order, uses-bound s order p n));
      }
