-- The payload of a list, by the words that the code reads and the tests that it makes.
use Prim.Native.Nat.{ℕ, ◌+◌, ◌*◌, ◌≤◌, ◌<◌}
use mathlib.Core.Path.{◌≡◌, refl, sym, ap, ◌∙◌}
use mathlib.Core.Bool.{Bool, true, false, not, ◌&&◌}
use mathlib.Core.List.{List}
use native.Mathlib.Omega.{arith}
use lib.ListN.{length}
use lib.Dec.{leb, eqb}
use borrow.Author.Tests.{le-leb, lt-leb, eq-eqb, ne_eqb}
use Rattle.laws.specs.Refusal.{unless, ◌▸◌, first_of}
use Rattle.laws.proofs.Flags.{and-false}
use Rattle.laws.proofs.First.{first, second, pass, fail}
use Rattle.laws.proofs.Chains.{refused, stop, go, stop-last, go_last}
use Rattle.words.specs.Words.{word_at}
use Rattle.image.specs.Sections.{list_head_size, list_item_size, list_origin_size, good_in, optional_in}
use Rattle.records.specs.Records.{list_word, list_items, list_origins, list_item_word, list_origin_word, list_item_rule, list_origin_rule, payload_rule}
use Rattle.records.specs.Shown.{bytes_only}

module _ (ps ts : List ℕ) (at : ℕ) where
  -- ---- items and origins, whose words begin at `from`

  pub item-rule : (j from a b c d : ℕ) → from ≡ at + list_head_size + j * list_item_size → a ≡ word_at ps from → b ≡ word_at ps (from + 4) → c ≡ word_at ps (from + 8)
      → d ≡ word_at ps (from + 12) → (unless (optional_in ts a b) 10 ▸ unless (good_in ts c d) 10) ≡ list_item_rule (bytes_only ps ts) at j
  unfolding list_item_rule list_word
  item-rule j from a b c d e ha hb hc hd =
      let pa : a ≡ list_item_word (bytes_only ps ts) at j 0 = ha ∙ ap (word_at ps) (omega arith) in
      let pb : b ≡ list_item_word (bytes_only ps ts) at j 1 = hb ∙ ap (word_at ps) (omega arith) in
      let pc : c ≡ list_item_word (bytes_only ps ts) at j 2 = hc ∙ ap (word_at ps) (omega arith) in
      let pd : d ≡ list_item_word (bytes_only ps ts) at j 3 = hd ∙ ap (word_at ps) (omega arith) in
      λ k. unless (optional_in ts (pa k) (pb k)) 10 ▸ unless (good_in ts (pc k) (pd k)) 10

  pub origin-rule : (items j from a b : ℕ) → items ≡ list_items (bytes_only ps ts) at → from ≡ at + list_head_size + items * list_item_size + j * list_origin_size → a ≡ word_at ps from
      → b ≡ word_at ps (from + 4) → unless (good_in ts a b) 10 ≡ list_origin_rule (bytes_only ps ts) at j
  unfolding list_origin_rule list_word
  origin-rule items j from a b n e ha hb =
      let pa : a ≡ list_origin_word (bytes_only ps ts) at j 0 = ha ∙ ap (word_at ps) (omega arith) in
      let pb : b ≡ list_origin_word (bytes_only ps ts) at j 1 = hb ∙ ap (word_at ps) (omega arith) in
      λ k. unless (good_in ts (pa k) (pb k)) 10

  -- ---- the words before them

  pub items-word : (n : ℕ) → n ≡ word_at ps at → n ≡ list_items (bytes_only ps ts) at
  unfolding list_word
  items-word n e = e ∙ ap (word_at ps) (omega arith)

  pub origins-word : (n : ℕ) → n ≡ word_at ps (at + 4) → n ≡ list_origins (bytes_only ps ts) at
  unfolding list_word
  origins-word n e = e

  -- ---- the whole

  -- the test of the length
  abbrev exact : ℕ → Bool
  exact len = leb (at + len) (length ps) && leb list_head_size len && eqb len (list_head_size + list_items (bytes_only ps ts) at * list_item_size + list_origins (bytes_only ps ts) at * list_origin_size)

  inexact : (len : ℕ) → exact len ≡ false → 11 ≡ payload_rule (bytes_only ps ts) at len
  unfolding payload_rule
  inexact len h = sym (first _ _ 10 (fail (exact len) 11 h))

  pub payload-past : (len : ℕ) → length ps < at + len → 11 ≡ payload_rule (bytes_only ps ts) at len
  payload-past len h = inexact len (rw (lt-leb (at + len) (length ps) h))

  pub payload-short : (len : ℕ) → len < 8 → 11 ≡ payload_rule (bytes_only ps ts) at len
  payload-short len h = inexact len (rw (lt-leb list_head_size len h, and-false (leb (at + len) (length ps))))

  module _ (len items origins : ℕ) (n : items ≡ word_at ps at) (o : origins ≡ word_at ps (at + 4)) where
    total : list_head_size + items * list_item_size + origins * list_origin_size ≡ list_head_size + list_items (bytes_only ps ts) at * list_item_size + list_origins (bytes_only ps ts) at * list_origin_size
    total = λ k. list_head_size + items-word items n k * list_item_size + origins-word origins o k * list_origin_size

    pub payload-other : (len ≡ list_head_size + items * list_item_size + origins * list_origin_size → ⊥) → 11 ≡ payload_rule (bytes_only ps ts) at len
    payload-other h =
        inexact len (rw (ne_eqb len _ (λ e. h (e ∙ sym total))) (and-false (leb (at + len) (length ps) && leb list_head_size len)))

    module _ (inside : at + len ≤ length ps) (long : list_head_size ≤ len) (e : len ≡ list_head_size + items * list_item_size + origins * list_origin_size) where
      is_exact : exact len ≡ true
      is_exact = rw (le-leb (at + len) (length ps) inside, le-leb list_head_size len long, eq-eqb len _ (e ∙ total))

      -- an item is refused
      pub payload-items : (r : ℕ) → r ≡ first_of items (list_item_rule (bytes_only ps ts) at) → (r ≡ 0 → ⊥) → r ≡ payload_rule (bytes_only ps ts) at len
      unfolding payload_rule
      payload-items r h d =
          refused _ _ r (h ∙ ap (λ (m : ℕ). first_of m (list_item_rule (bytes_only ps ts) at)) (items-word items n)) d
          ∙ sym (second _ _ (pass (exact len) 11 is_exact))

      -- none is: the origins decide
      pub payload-origins : (q r : ℕ) → q ≡ first_of items (list_item_rule (bytes_only ps ts) at) → q ≡ 0
          → r ≡ first_of origins (list_origin_rule (bytes_only ps ts) at) → r ≡ payload_rule (bytes_only ps ts) at len
      unfolding payload_rule
      payload-origins q r g z h =
          h ∙ ap (λ (m : ℕ). first_of m (list_origin_rule (bytes_only ps ts) at)) (origins-word origins o)
          ∙ sym (second _ _ (ap (λ (m : ℕ). first_of m (list_item_rule (bytes_only ps ts) at)) (sym (items-word items n)) ∙ sym g ∙ z))
          ∙ sym (second _ _ (pass (exact len) 11 is_exact))

-- ---- an item and an origin, by the flags that the tests gave

module _ (ps ts : List ℕ) (at j from : ℕ) where
  module _ (a b c d : ℕ) (e : from ≡ at + list_head_size + j * list_item_size) (ha : a ≡ word_at ps from) (hb : b ≡ word_at ps (from + 4)) (hc : c ≡ word_at ps (from + 8))
      (hd : d ≡ word_at ps (from + 12)) (p : Bool) (origin : p ≡ optional_in ts a b) where
    pub item-origin : not p ≡ true → 10 ≡ list_item_rule (bytes_only ps ts) at j
    item-origin n = stop (optional_in ts a b) p 10 (unless (good_in ts c d) 10) refl origin n ∙ item-rule ps ts at j from a b c d e ha hb hc hd

    module _ (n : not p ≡ false) (q : Bool) (name : q ≡ good_in ts c d) where
      pub item-name : not q ≡ true → 10 ≡ list_item_rule (bytes_only ps ts) at j
      item-name m =
          go (optional_in ts a b) p 10 (unless (good_in ts c d) 10) 10 origin n (stop-last (good_in ts c d) q 10 name m)
          ∙ item-rule ps ts at j from a b c d e ha hb hc hd

      pub item-right : not q ≡ false → 0 ≡ list_item_rule (bytes_only ps ts) at j
      item-right m =
          go (optional_in ts a b) p 10 (unless (good_in ts c d) 10) 0 origin n (go_last (good_in ts c d) q 10 name m)
          ∙ item-rule ps ts at j from a b c d e ha hb hc hd
