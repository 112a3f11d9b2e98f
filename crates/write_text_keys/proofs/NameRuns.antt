-- Runs of bytes that a cursor reads from its name: they are a part of the strings.
use Prim.Native.Nat.{ℕ, ◌+◌, ◌-◌, ◌≤◌, ◌<◌}
use mathlib.Core.Path.{◌≡◌, refl, sym, ap, ◌∙◌}
use mathlib.Core.List.{List, ◌++◌}
use mathlib.Core.Bool.{Bool, true, false, cond}
use native.Mathlib.Omega.{arith}
use lib.Dec.{leb}
use lib.ListN.{length, take, drop, length-take, length-drop}
use lib.Seq.{get_or-drop, drop-drop, drop_at, take-add}
use borrow.Author.Tests.{leb-true}
use Rattle.std.specs.declared.cmp.Ordering.{Ordering}
use Rattle.texts.specs.Text.{order_of}
use Rattle.write_text_keys.specs.declared.Cursor.{Cursor}
use Rattle.write_text_keys.specs.Keys.{read_back, back, name_left, decided}
use Rattle.write_text_keys.proofs.Comparison.{decided_append, decided-self, by_order, decided-order}
use Rattle.write_text_keys.proofs.BackwardReads.{read_length, read-split, piece-read}

-- the k bytes before a cursor are its name's, which is inside the strings
pub record InName (strings : List ℕ) (c : Cursor) (k : ℕ) : Type 0 where
  pub named : c.named ≡ true
  pub inside : c.at + c.left ≤ length strings
  pub left : k ≤ c.left

module _ (strings : List ℕ) (c : Cursor) where
  pub in_name : (k : ℕ) → 0 < k → k ≤ name_left strings c → InName strings c k
  unfolding name_left
  in_name k z h = by c.named (leb (c.at + c.left) (length strings)) refl refl h
    where
      by : (b d : Bool) → c.named ≡ b → leb (c.at + c.left) (length strings) ≡ d → k ≤ cond b (cond d c.left 0) 0 → InName strings c k
      by true true p q g = record { named = p; inside = leb-true (c.at + c.left) (length strings) q; left = g }
      by true false p q g = absurd (omega arith)
      by false d p q g = absurd (omega arith)

  -- they are a part of the strings
  pub run_read : (v : ℕ) (nodes : List ℕ) (k from : ℕ) → InName strings c k → from + k ≡ c.at + c.left → read_back k v nodes strings c ≡ take k (drop from strings)
  unfolding read_back
  run_read v nodes k from g e =
      let m = c.left - k in
      let name = drop c.at strings in
      let split : m + k ≡ c.left = omega (arith, g.left) in
      let start : c.at + m ≡ from = omega (arith, g.left) in
      let long : length name ≡ length strings - c.at = length-drop c.at strings in
      let front : length (take m name) ≡ m = simp length-take (omega (arith, g.left, g.inside)) in
      let whole : read_back c.left v nodes strings c ≡ take m name ++ take k (drop m name) =
      piece-read v nodes strings name c.left 0 c.left c refl (omega (arith, g.inside)) (λ i h. rw g.named (sym (get_or-drop c.at strings i 0))) (omega arith)
      ∙ ap (λ (j : ℕ). take j name) (sym split)
      ∙ take-add m k name in
      sym (drop_at (read_back m v nodes strings (back k v nodes c)) (read_back k v nodes strings c) m (read_length v nodes strings m (back k v nodes c)))
      ∙ ap (drop m) (sym (read-split v nodes strings k m c.left c (sym split)) ∙ whole)
      ∙ drop_at (take m name) (take k (drop m name)) m front
      ∙ ap (take k) (drop-drop m c.at strings ∙ ap (λ (j : ℕ). drop j strings) start)

  -- the part of the strings that ends where the cursor stands
  pub run_part : (v : ℕ) (nodes : List ℕ) (k end : ℕ) → 0 < k → k ≤ name_left strings c → end ≡ c.at + c.left
      → take (end - (end - k)) (drop (end - k) strings) ≡ read_back k v nodes strings c
  run_part v nodes k end z h e =
      let g = in_name k z h in
      let size : end - (end - k) ≡ k = omega (arith, g.left) in
      ap (λ (j : ℕ). take j (drop (end - k) strings)) size ∙ sym (run_read v nodes k (end - k) g (omega (arith, g.left)))

-- ---- two cursors, a run before each

module _ (v : ℕ) (nodes strings : List ℕ) (c d : Cursor) (k : ℕ) (z : 0 < k) (g : k ≤ name_left strings c) (h : k ≤ name_left strings d) (later : Bool) where
  -- one part of the strings
  pub run_same : c.at + c.left ≡ d.at + d.left → later ≡ decided (read_back k v nodes strings c) (read_back k v nodes strings d) later
  run_same e =
      let p = in_name strings c k z g in
      let from = c.at + c.left - k in
      let one : read_back k v nodes strings c ≡ read_back k v nodes strings d =
      run_read strings c v nodes k from p (omega (arith, p.left)) ∙ sym (run_read strings d v nodes k from (in_name strings d k z h) (omega (arith, p.left))) in
      sym (rw one (decided-self (read_back k v nodes strings d) later))

  -- by the order of both
  pub run_order : (s t : List ℕ) (o : Ordering) → s ≡ read_back k v nodes strings c → t ≡ read_back k v nodes strings d → o ≡ order_of s t
      → by_order o later ≡ decided (read_back k v nodes strings c) (read_back k v nodes strings d) later
  run_order s t o p q e =
      rw (e, p, q) (sym (decided-order (read_back k v nodes strings c) (read_back k v nodes strings d) later (read_length v nodes strings k c ∙ sym (read_length v nodes strings k d))))

-- as many bytes before each of two cursors
pub run_decided : (v : ℕ) (nodes strings : List ℕ) (k left n : ℕ) (c d : Cursor) (later : Bool) → n ≡ left + k
    → decided (read_back n v nodes strings c) (read_back n v nodes strings d) later
    ≡ decided (read_back left v nodes strings (back k v nodes c)) (read_back left v nodes strings (back k v nodes d)) (decided (read_back k v nodes strings c) (read_back k v nodes strings d) later)
run_decided v nodes strings k left n c d later e =
    rw (read-split v nodes strings k left n c e, read-split v nodes strings k left n d e)
    (decided_append (read_back left v nodes strings (back k v nodes c)) (read_back left v nodes strings (back k v nodes d)) (read_back k v nodes strings c) (read_back k v nodes strings d) later
    (read_length v nodes strings left (back k v nodes c) ∙ sym (read_length v nodes strings left (back k v nodes d))))
