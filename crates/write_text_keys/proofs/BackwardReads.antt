-- Laws of reading backward: what is left after some bytes, whole pieces passed in one step, bytes written out from the last one on.
use Prim.Native.Nat.{ℕ, zero, suc, ◌+◌, ◌-◌, ◌≤◌, ◌<◌}
use mathlib.Core.Path.{◌≡◌, refl, sym, ap, ◌∙◌}
use mathlib.Core.List.{List, [], ◌∷◌, ◌++◌, append_assoc, append-nil}
use native.Mathlib.Omega.{arith}
use native.Mathlib.Nat.{le_refl}
use native.Mathlib.Numerals.{add-one}
use lib.ListN.{length, get_or, take, drop, set, length-append}
use lib.Seq.{take_all, take-suc, take-append-le, drop-cons, drop-set-lt, get_or-set_same, lt-length-set}
use borrow.Author.Tests.{eq-eqb, ne_eqb}
use Rattle.texts.specs.Dots.{dot}
use Rattle.write_text_keys.specs.declared.Cursor.{Cursor}
use Rattle.write_text_keys.specs.Keys.{at_end, piece_byte, last_byte, step_back, read_back, back}

-- ---- one step

-- the cursor with another number of bytes left
abbrev pub with_left : Cursor → ℕ → Cursor
with_left c n = record { named = c.named; at = c.at; left = n; above = c.above }

pub step_in : (v : ℕ) (nodes : List ℕ) (c : Cursor) (n : ℕ) → c.left ≡ suc n → step_back v nodes c ≡ with_left c n
unfolding step_back
step_in v nodes c n e =
    let p : c.left - 1 ≡ n = omega arith in
    rw (ne_eqb c.left 0 (λ z. omega arith)) (ap (with_left c) p)

pub step_up_lem : (v : ℕ) (nodes : List ℕ) (c : Cursor) → c.left ≡ 0 → step_back v nodes c ≡ at_end v nodes c.above
unfolding step_back
step_up_lem v nodes c e = rw (eq-eqb c.left 0 e)

pub dot_up : (strings : List ℕ) (c : Cursor) → c.left ≡ 0 → last_byte strings c ≡ dot
unfolding last_byte
dot_up strings c e = rw (eq-eqb c.left 0 e)

-- the byte before it is one of the piece
pub byte_in : (strings : List ℕ) (c : Cursor) (n : ℕ) → c.left ≡ suc n → last_byte strings c ≡ piece_byte strings c n
unfolding last_byte
byte_in strings c n e =
    let p : c.left - 1 ≡ n = omega arith in
    rw (ne_eqb c.left 0 (λ z. omega arith)) (ap (piece_byte strings c) p)

-- ---- many

module _ (v : ℕ) (nodes : List ℕ) where
  -- as many bytes as are left of a piece at most
  pub back_in : (n : ℕ) (c : Cursor) → n ≤ c.left → back n v nodes c ≡ with_left c (c.left - n)
  unfolding back
  back_in zero c h =
      let e : c.left ≡ c.left - 0 = omega arith in
      ap (with_left c) e
  back_in (suc n) c h =
      let l : c.left ≡ suc (c.left - 1) = omega arith in
      let e : c.left - 1 - n ≡ c.left - suc n = omega arith in
      ap (back n v nodes) (step_in v nodes c (c.left - 1) l)
      ∙ back_in n (with_left c (c.left - 1)) (omega arith)
      ∙ ap (with_left c) e

  back_more : (m n k : ℕ) (c : Cursor) → k ≡ m + n → back k v nodes c ≡ back n v nodes (back m v nodes c)
  unfolding back
  back_more zero n k c e =
      let p : k ≡ n = omega arith in
      ap (λ (j : ℕ). back j v nodes c) p
  back_more (suc m) n zero c e = absurd (omega arith)
  back_more (suc m) n (suc k) c e = back_more m n k (step_back v nodes c) (omega arith)

  -- a piece and the dot before it
  pub back_up : (n rest : ℕ) (c : Cursor) → n ≡ rest + (c.left + 1) → back n v nodes c ≡ back rest v nodes (at_end v nodes c.above)
  unfolding back
  back_up n rest c e =
      let z : c.left - c.left ≡ 0 = omega arith in
      back_more c.left (suc rest) n c (omega arith)
      ∙ ap (back (suc rest) v nodes) (back_in c.left c (le_refl c.left))
      ∙ ap (back rest v nodes) (step_up_lem v nodes (with_left c (c.left - c.left)) z)

  module _ (strings : List ℕ) where
    pub read_length : (n : ℕ) (c : Cursor) → length (read_back n v nodes strings c) ≡ n
    unfolding read_back
    read_length zero c = refl
    read_length (suc n) c = length-append (read_back n v nodes strings (step_back v nodes c)) (last_byte strings c ∷ []) ∙ omega (arith, read_length n (step_back v nodes c))

    -- what is left after the last bytes
    pub read-front : (n m k : ℕ) (c : Cursor) → k ≡ n + m → take m (read_back k v nodes strings c) ≡ read_back m v nodes strings (back n v nodes c)
    unfolding read_back back
    read-front zero m k c e =
        let p : k ≡ m = omega arith in
        rw p (take_all m (read_back m v nodes strings c) (omega (arith, read_length m c)))
    read-front (suc n) m zero c e = absurd (omega arith)
    read-front (suc n) m (suc k) c e =
        take-append-le m (read_back k v nodes strings (step_back v nodes c)) (last_byte strings c ∷ []) (omega (arith, read_length k (step_back v nodes c)))
        ∙ read-front n m k (step_back v nodes c) (omega arith)

    -- the last bytes behind those before them
    pub read-split : (k m n : ℕ) (c : Cursor) → n ≡ m + k → read_back n v nodes strings c ≡ read_back m v nodes strings (back k v nodes c) ++ read_back k v nodes strings c
    unfolding read_back back
    read-split zero m n c e =
        let p : n ≡ m = omega arith in
        rw p (sym (append-nil (read_back m v nodes strings c)))
    read-split (suc k) m zero c e = absurd (omega arith)
    read-split (suc k) m (suc n) c e =
        ap (λ (l : List ℕ). l ++ (last_byte strings c ∷ [])) (read-split k m n (step_back v nodes c) (omega arith))
        ∙ append_assoc (read_back m v nodes strings (back k v nodes (step_back v nodes c))) (read_back k v nodes strings (step_back v nodes c)) (last_byte strings c ∷ [])

    -- one byte
    pub read_one : (left n : ℕ) (c : Cursor) → n ≡ left + 1 → read_back n v nodes strings c ≡ read_back left v nodes strings (step_back v nodes c) ++ (last_byte strings c ∷ [])
    unfolding read_back
    read_one left n c e = rw (e, add-one)

    -- below one node what is left is one text
    pub read_alike : (n : ℕ) (c d : Cursor) → c.left ≡ 0 → d.left ≡ 0 → c.above ≡ d.above → read_back n v nodes strings c ≡ read_back n v nodes strings d
    unfolding read_back last_byte
    read_alike zero c d p q r = refl
    read_alike (suc n) c d p q r = rw (step_up_lem v nodes c p, step_up_lem v nodes d q, r, p, q)

    -- a piece, with m bytes before it
    pub piece-read : (p : List ℕ) (n m k : ℕ) (c : Cursor) → c.left ≡ n → n ≤ length p → ((i : ℕ) → i < n → piece_byte strings c i ≡ get_or p i 0) → k ≡ m + n
        → read_back k v nodes strings c ≡ read_back m v nodes strings (with_left c 0) ++ take n p
    piece-read p zero m k c l h bytes e =
        let q : k ≡ m = omega arith in
        rw q (ap (λ (d : Cursor). read_back m v nodes strings d) (ap (with_left c) l) ∙ sym (append-nil (read_back m v nodes strings (with_left c 0))))
    piece-read p (suc n) m zero c l h bytes e = absurd (omega arith)
    piece-read p (suc n) m (suc k) c l h bytes e =
        let front = read_back m v nodes strings (with_left c 0) in
        read_one k (suc k) c (omega arith)
        ∙ rw (step_in v nodes c n l, byte_in strings c n l ∙ bytes n (omega arith), piece-read p n m k (with_left c n) refl (omega arith) (λ i g. bytes i (omega arith)) (omega arith))
        (append_assoc front (take n p) (get_or p n 0 ∷ []) ∙ ap (λ (t : List ℕ). front ++ t) (sym (take-suc p n 0 (omega arith))))

    -- the last of n bytes is written, the others are left
    pub read_put : (left n b : ℕ) (c : Cursor) (out : List ℕ) → n ≡ left + 1 → left < length out → b ≡ last_byte strings c
        → read_back n v nodes strings c ++ drop n out ≡ read_back left v nodes strings (step_back v nodes c) ++ drop left (set out left b)
    read_put left n b c out e h q =
        rw (read_one left n c e, e, add-one, append_assoc, ← q)
        (ap (λ (l : List ℕ). read_back left v nodes strings (step_back v nodes c) ++ l) (sym placed))
      where
        placed : drop left (set out left b) ≡ b ∷ drop (suc left) out
        placed =
            drop-cons (set out left b) left 0 (lt-length-set out left b h)
            ∙ rw (get_or-set_same out left b 0 h, drop-set-lt (suc left) out left b (le_refl (suc left)))

    -- all are written
    pub read_none : (n : ℕ) (c : Cursor) (out : List ℕ) → n ≡ 0 → read_back n v nodes strings c ++ drop n out ≡ out
    unfolding read_back
    read_none n c out e = rw e
