-- The text of a use: how long it is, and that it is read from its end.
use Prim.Native.Nat.{ℕ, ◌+◌, ◌-◌, ◌≤◌, ◌<◌}
use mathlib.Core.Path.{◌≡◌, refl, sym, ap, ◌∙◌}
use mathlib.Core.List.{List, []}
use mathlib.Core.Bool.{Bool, true, false, cond, ◌&&◌}
use native.Mathlib.Omega.{arith}
use lib.Dec.{eqb, leb, ltb}
use lib.ListN.{length, get_or, take, drop, length-take, length-drop}
use lib.Seq.{get_or-drop}
use borrow.Author.Tests.{lt-ltb, le-ltb, le-leb, leb-true, eqb-true}
use Rattle.laws.proofs.Flags.{both_true}
use Rattle.laws.proofs.Lists.{to_end}
use Rattle.texts.specs.Text.{before}
use Rattle.texts.proofs.Text.{before_self}
use Rattle.image.specs.Sections.{part_at, text_or_empty}
use Rattle.write_text_keys.specs.declared.Cursor.{Cursor}
use Rattle.write_text_keys.specs.Keys.{at_end, last_byte, step_back, read_back, back, decided, alike, node_of, long_of, key_of, key_length, end_of}
use Rattle.write_text_keys.proofs.Comparison.{decided-last, decided-self, before-shorter, before-longer}
use Rattle.write_text_keys.proofs.BackwardReads.{read_length, read-front, read_one, read_alike, piece-read}

-- ---- texts

-- one part is one text
pub part-self : (strings : List ℕ) (offset len at size : ℕ) → offset ≡ at → len ≡ size → false ≡ before (text_or_empty strings offset len) (text_or_empty strings at size)
part-self strings offset len at size e l = sym (rw (e, l) (before_self (text_or_empty strings at size)))

module _ (v : ℕ) (nodes strings : List ℕ) where
  -- a name, read from its end
  name-read : (at len above : ℕ) → at + len ≤ length strings
      → read_back len v nodes strings (record { named = true; at = at; left = len; above = above }) ≡ take len (drop at strings)
  unfolding read_back
  name-read at len above h =
      piece-read v nodes strings (drop at strings) len 0 len (record { named = true; at = at; left = len; above = above }) refl
      (simp length-drop (omega arith))
      (λ i g. sym (get_or-drop at strings i 0))
      (omega arith)

  -- a text of the strings
  text-read : (at len above : ℕ)
      → read_back (length (text_or_empty strings at len)) v nodes strings (record { named = true; at = at; left = len; above = above }) ≡ text_or_empty strings at len
  unfolding text_or_empty part_at read_back
  text-read at len above = by (leb (at + len) (length strings)) refl
    where
      by : (b : Bool) → leb (at + len) (length strings) ≡ b
          → read_back (length (cond b (take len (drop at strings)) [])) v nodes strings (record { named = true; at = at; left = len; above = above }) ≡ cond b (take len (drop at strings)) []
      by true e =
          let h : at + len ≤ length strings = leb-true (at + len) (length strings) e in
          let n : length (take len (drop at strings)) ≡ len = simp (length-take, length-drop) (omega arith) in
          rw n (name-read at len above h)
      by false e = refl

  -- ---- two cursors, each before as many bytes

  module _ (n : ℕ) (c d : Cursor) (later : Bool) where
    pub none-decided : n ≡ 0 → decided (read_back n v nodes strings c) (read_back n v nodes strings d) later ≡ later
    unfolding decided read_back
    none-decided e = rw e

    -- one text is left before both
    pub rest-decided : alike c d ≡ true → decided (read_back n v nodes strings c) (read_back n v nodes strings d) later ≡ later
    rest-decided e =
        let p = both_true (eqb c.left 0 && eqb d.left 0) (eqb c.above d.above) e in
        let q = both_true (eqb c.left 0) (eqb d.left 0) p.0 in
        rw (read_alike v nodes strings n c d (eqb-true c.left 0 q.0) (eqb-true d.left 0 q.1) (eqb-true c.above d.above p.1))
        (decided-self (read_back n v nodes strings d) later)

  -- a byte before each
  pub byte-decided : (left n : ℕ) (c d : Cursor) (later : Bool) → n ≡ left + 1
      → decided (read_back n v nodes strings c) (read_back n v nodes strings d) later
      ≡ decided (read_back left v nodes strings (step_back v nodes c)) (read_back left v nodes strings (step_back v nodes d))
      (cond (ltb (last_byte strings c) (last_byte strings d)) true (cond (ltb (last_byte strings d) (last_byte strings c)) false later))
  byte-decided left n c d later e =
      rw (read_one v nodes strings left n c e, read_one v nodes strings left n d e)
      (decided-last (read_back left v nodes strings (step_back v nodes c)) (read_back left v nodes strings (step_back v nodes d)) (last_byte strings c) (last_byte strings d) later
      (read_length v nodes strings left (step_back v nodes c) ∙ sym (read_length v nodes strings left (step_back v nodes d))))

-- ---- uses

module _ (v : ℕ) (nodes strings : List ℕ) (texts paths lengths : ℕ) (tab : List ℕ) where
  pub key_length_lem : (a : ℕ) → length (key_of v nodes strings texts paths lengths tab a) ≡ key_length strings texts paths lengths tab a
  unfolding key_of key_length
  key_length_lem a = by (ltb a texts)
    where
      x : ℕ
      x = node_of texts paths tab a

      text : List ℕ
      text = text_or_empty strings (get_or tab (a + a) 0) (get_or tab (a + a + 1) 0)

      by : (b : Bool) → length (cond b text (read_back (long_of lengths tab x) v nodes strings (at_end v nodes x))) ≡ cond b (length text) (long_of lengths tab x)
      by true = refl
      by false = read_length v nodes strings (long_of lengths tab x) (at_end v nodes x)

  -- it is read from its end
  pub key_read : (a : ℕ) → read_back (key_length strings texts paths lengths tab a) v nodes strings (end_of v nodes texts paths tab a) ≡ key_of v nodes strings texts paths lengths tab a
  unfolding key_of key_length end_of
  key_read a = by (ltb a texts)
    where
      x : ℕ
      x = node_of texts paths tab a

      at : ℕ
      at = get_or tab (a + a) 0

      len : ℕ
      len = get_or tab (a + a + 1) 0

      text : List ℕ
      text = text_or_empty strings at len

      by : (b : Bool) → read_back (cond b (length text) (long_of lengths tab x)) v nodes strings (cond b (record { named = true; at = at; left = len; above = 0 }) (at_end v nodes x)) ≡ cond b text (read_back (long_of lengths tab x) v nodes strings (at_end v nodes x))
      by true = text-read v nodes strings at len 0
      by false = refl

  pub text_key : (a : ℕ) → a < texts → key_of v nodes strings texts paths lengths tab a ≡ text_or_empty strings (get_or tab (a + a) 0) (get_or tab (a + a + 1) 0)
  unfolding key_of
  text_key a h = rw (lt-ltb a texts h)

  -- a text use's text is that part of the strings
  pub key_text : (a : ℕ) → a < texts → get_or tab (a + a) 0 + get_or tab (a + a + 1) 0 ≤ length strings
      → key_of v nodes strings texts paths lengths tab a ≡ part_at strings (get_or tab (a + a) 0) (get_or tab (a + a + 1) 0)
  unfolding text_or_empty
  key_text a h g = text_key a h ∙ rw (le-leb (get_or tab (a + a) 0 + get_or tab (a + a + 1) 0) (length strings) g)

  -- a path use's text is read from the end of its node's piece
  pub path_key : (a x n : ℕ) (c : Cursor) → texts ≤ a → x ≡ node_of texts paths tab a → c ≡ at_end v nodes x → n ≡ long_of lengths tab x
      → key_of v nodes strings texts paths lengths tab a ≡ read_back n v nodes strings c
  unfolding key_of
  path_key a x n c h e q l = rw (le-ltb a texts h, q, l, e)

  -- ---- order: the surplus of the longer text is passed

  module _ (a b m n : ℕ) (em : m ≡ key_length strings texts paths lengths tab a) (en : n ≡ key_length strings texts paths lengths tab b) where
    first : read_back m v nodes strings (end_of v nodes texts paths tab a) ≡ key_of v nodes strings texts paths lengths tab a
    first = rw em (key_read a)

    second : read_back n v nodes strings (end_of v nodes texts paths tab b) ≡ key_of v nodes strings texts paths lengths tab b
    second = rw en (key_read b)

    pub below-shorter : m < n
        → decided (read_back m v nodes strings (end_of v nodes texts paths tab a)) (read_back m v nodes strings (back (n - m) v nodes (end_of v nodes texts paths tab b))) true
        ≡ before (key_of v nodes strings texts paths lengths tab a) (key_of v nodes strings texts paths lengths tab b)
    below-shorter h =
        let s = read_back m v nodes strings (end_of v nodes texts paths tab a) in
        let t = read_back n v nodes strings (end_of v nodes texts paths tab b) in
        let ls : length s ≡ m = read_length v nodes strings m (end_of v nodes texts paths tab a) in
        let lt : length t ≡ n = read_length v nodes strings n (end_of v nodes texts paths tab b) in
        let e : read_back m v nodes strings (back (n - m) v nodes (end_of v nodes texts paths tab b)) ≡ take (length s) t =
        sym (read-front v nodes strings (n - m) m n (end_of v nodes texts paths tab b) (omega arith)) ∙ ap (λ (j : ℕ). take j t) (sym ls) in
        rw e (sym (before-shorter s t (omega arith)) ∙ rw (first, second))

    pub below-longer : n ≤ m
        → decided (read_back n v nodes strings (back (m - n) v nodes (end_of v nodes texts paths tab a))) (read_back n v nodes strings (end_of v nodes texts paths tab b)) false
        ≡ before (key_of v nodes strings texts paths lengths tab a) (key_of v nodes strings texts paths lengths tab b)
    below-longer h =
        let s = read_back m v nodes strings (end_of v nodes texts paths tab a) in
        let t = read_back n v nodes strings (end_of v nodes texts paths tab b) in
        let ls : length s ≡ m = read_length v nodes strings m (end_of v nodes texts paths tab a) in
        let lt : length t ≡ n = read_length v nodes strings n (end_of v nodes texts paths tab b) in
        let e : read_back n v nodes strings (back (m - n) v nodes (end_of v nodes texts paths tab a)) ≡ take (length t) s =
        sym (read-front v nodes strings (m - n) n m (end_of v nodes texts paths tab a) (omega arith)) ∙ ap (λ (j : ℕ). take j s) (sym lt) in
        rw e (sym (before-longer s t (omega arith)) ∙ rw (first, second))

-- ---- the text that was read out of the work words

module _ (v : ℕ) (nodes strings : List ℕ) (texts paths lengths at : ℕ) (w : List ℕ) where
  pub text-written : (text : List ℕ) (a : ℕ) → a < texts
      → text ≡ text_or_empty strings (get_or (take (length w - at) (drop at w)) (a + a) 0) (get_or (take (length w - at) (drop at w)) (a + a + 1) 0)
      → key_of v nodes strings texts paths lengths (drop at w) a ≡ text
  text-written text a h e = sym (e ∙ rw (to_end at w, text_key v nodes strings texts paths lengths (drop at w) a h))

  pub path-written : (a x n : ℕ) (c : Cursor) → texts ≤ a → x ≡ node_of texts paths (take (length w - at) (drop at w)) a → c ≡ at_end v nodes x
      → n ≡ long_of lengths (take (length w - at) (drop at w)) x
      → (key_of v nodes strings texts paths lengths (drop at w) a ≡ read_back n v nodes strings c) × (length (key_of v nodes strings texts paths lengths (drop at w) a) ≡ n)
  path-written a x n c h e q l =
      let p = path_key v nodes strings texts paths lengths (drop at w) a x n c h (rw to_end at e) q (rw to_end at l) in
      (p, ap length p ∙ read_length v nodes strings n c)
