-- Laws of words and their bytes: each gives back the other, lengths, ranges, words of a part.
use Prim.Native.Nat.{ℕ, zero, suc, ◌+◌, ◌*◌, ◌/◌, ◌%◌, ◌≤◌, ◌<◌, ◌^◌}
use mathlib.Core.Path.{◌≡◌, refl, sym, ap, ◌∙◌}
use mathlib.Core.List.{List, [], ◌∷◌, ◌++◌, append_assoc, append-nil}
use native.Mathlib.Omega.{arith}
use native.Mathlib.Nat.{suc-add, add_assoc}
use borrow.Author.Tests.{le-leb, lt-leb}
use lib.ListN.{length, get_or, take, drop}
use lib.Seq.{get_or-take, get_or-drop, get_or-append-add, length-take-le}
use Rattle.laws.specs.Lists.{Below}
use Rattle.laws.proofs.Lists.{below_none, below_cons, below-head, below_tail, below_at}
use Rattle.words.specs.Words.{word4, word_at, word_in, words_of, bytes4, put_in, bytes_of}

-- ---- a word and its four bytes

pub word_back : (w : ℕ) → w < 2 ^ 32 → word4 (w % 256) (w / 256 % 256) (w / 256 / 256 % 256) (w / 256 / 256 / 256 % 256) ≡ w
word_back w h = omega arith

pub word_small : (a b c d : ℕ) → a < 256 → b < 256 → c < 256 → d < 256 → word4 a b c d < 2 ^ 32
word_small a b c d h i j k = omega arith

-- the bytes of a word come before those of what follows
pub bytes4-below : (w : ℕ) (bs : List ℕ) → Below 256 bs → Below 256 (bytes4 w ++ bs)
bytes4-below w bs b =
    below_cons 256 (w % 256) _ (omega arith)
    (below_cons 256 (w / 256 % 256) _ (omega arith)
    (below_cons 256 (w / 256 / 256 % 256) _ (omega arith) (below_cons 256 (w / 256 / 256 / 256 % 256) _ (omega arith) b)))

-- ---- a word in bytes

pub word_below : (bs : List ℕ) (at : ℕ) → Below 256 bs → word_at bs at < 2 ^ 32
unfolding word_at
word_below bs at b =
    word_small (get_or bs at 0) (get_or bs (at + 1) 0) (get_or bs (at + 2) 0) (get_or bs (at + 3) 0)
    (below_at 256 at bs (omega arith) b) (below_at 256 (at + 1) bs (omega arith) b)
    (below_at 256 (at + 2) bs (omega arith) b) (below_at 256 (at + 3) bs (omega arith) b)

pub word-take : (n : ℕ) (bs : List ℕ) (at : ℕ) → at + 4 ≤ n → word_at (take n bs) at ≡ word_at bs at
unfolding word_at
word-take n bs at h =
    rw (get_or-take n bs at 0 (omega arith), get_or-take n bs (at + 1) 0 (omega arith), get_or-take n bs (at + 2) 0 (omega arith), get_or-take n bs (at + 3) 0 (omega arith))

pub word-drop : (n : ℕ) (bs : List ℕ) (at : ℕ) → word_at (drop n bs) at ≡ word_at bs (n + at)
unfolding word_at
word-drop n bs at = simp (get_or-drop, add_assoc)

pub word-part : (n m : ℕ) (bs : List ℕ) (at : ℕ) → at + 4 ≤ m → word_at (take m (drop n bs)) at ≡ word_at bs (n + at)
word-part n m bs at h = word-take m (drop n bs) at h ∙ word-drop n bs at

pub word_after : (p q : List ℕ) (at : ℕ) → word_at (p ++ q) (length p + at) ≡ word_at q at
unfolding word_at
word_after p q at = simp (add_assoc, get_or-append-add)

-- the word of four bytes that stand after p
pub word-behind : (p q : List ℕ) (w n : ℕ) → w < 2 ^ 32 → length p ≡ n → word_at (p ++ bytes4 w ++ q) n ≡ w
unfolding word_at
word-behind p q w n h e =
    let z : n ≡ length p + 0 = omega arith in
    rw (append_assoc p (bytes4 w) q, z) (word_after p (bytes4 w ++ q) 0 ∙ word_back w h)

-- a word that was put is found there
pub word_put : (bs : List ℕ) (at w : ℕ) → w < 2 ^ 32 → at ≤ length bs → word_at (take at bs ++ bytes4 w ++ drop (at + 4) bs) at ≡ w
word_put bs at w h k = word-behind (take at bs) (drop (at + 4) bs) w at h (length-take-le at bs k)

pub word_in_lem : (bs : List ℕ) (at : ℕ) → at + 4 ≤ length bs → word_in bs at ≡ word_at bs at
unfolding word_in
word_in_lem bs at h = rw (le-leb (at + 4) (length bs) h)

pub word_out : (bs : List ℕ) (at : ℕ) → length bs < at + 4 → word_in bs at ≡ 0
unfolding word_in
word_out bs at h = rw (lt-leb (at + 4) (length bs) h)

pub put_in_lem : (bs : List ℕ) (at w : ℕ) → at + 4 ≤ length bs → put_in bs at w ≡ take at bs ++ bytes4 w ++ drop (at + 4) bs
unfolding put_in
put_in_lem bs at w h = rw (le-leb (at + 4) (length bs) h)

pub put_out : (bs : List ℕ) (at w : ℕ) → length bs < at + 4 → put_in bs at w ≡ bs
unfolding put_in
put_out bs at w h = rw (lt-leb (at + 4) (length bs) h)

-- ---- words one after the other

pub length-bytes : (ws : List ℕ) → length (bytes_of ws) ≡ 4 * length ws
unfolding bytes_of
length-bytes [] = refl
length-bytes (w ∷ ws) = omega (arith, length-bytes ws)

pub length-words : (bs : List ℕ) → length (words_of bs) ≡ length bs / 4
unfolding words_of
length-words [] = refl
length-words (a ∷ []) = refl
length-words (a ∷ b ∷ []) = refl
length-words (a ∷ b ∷ c ∷ []) = refl
length-words (a ∷ b ∷ c ∷ d ∷ bs) = omega (arith, length-words bs)

pub bytes_append : (xs ys : List ℕ) → bytes_of (xs ++ ys) ≡ bytes_of xs ++ bytes_of ys
unfolding bytes_of
bytes_append [] ys = refl
bytes_append (x ∷ xs) ys = ap (λ (l : List ℕ). bytes4 x ++ l) (bytes_append xs ys) ∙ sym (append_assoc (bytes4 x) (bytes_of xs) (bytes_of ys))

pub bytes_below : (ws : List ℕ) → Below 256 (bytes_of ws)
unfolding bytes_of
bytes_below [] = below_none 256
bytes_below (w ∷ ws) = bytes4-below w (bytes_of ws) (bytes_below ws)

pub words-below : (bs : List ℕ) → Below 256 bs → Below (2 ^ 32) (words_of bs)
unfolding words_of
words-below [] b = below_none (2 ^ 32)
words-below (x ∷ []) b = below_none (2 ^ 32)
words-below (x ∷ y ∷ []) b = below_none (2 ^ 32)
words-below (x ∷ y ∷ z ∷ []) b = below_none (2 ^ 32)
words-below (x ∷ y ∷ z ∷ w ∷ bs) b =
    let b1 = below_tail 256 x (y ∷ z ∷ w ∷ bs) b in
    let b2 = below_tail 256 y (z ∷ w ∷ bs) b1 in
    let b3 = below_tail 256 z (w ∷ bs) b2 in
    below_cons (2 ^ 32) (word4 x y z w) (words_of bs)
    (word_small x y z w (below-head 256 x _ b) (below-head 256 y _ b1) (below-head 256 z _ b2) (below-head 256 w bs b3))
    (words-below bs (below_tail 256 w bs b3))

-- the words of a list's bytes, with bytes behind them
pub words_of_bytes-then : (ws bs : List ℕ) → Below (2 ^ 32) ws → words_of (bytes_of ws ++ bs) ≡ ws ++ words_of bs
unfolding bytes_of words_of
words_of_bytes-then [] bs b = refl
words_of_bytes-then (w ∷ ws) bs b = next (words_of_bytes-then ws bs (below_tail (2 ^ 32) w ws b))
  where
    next : words_of (bytes_of ws ++ bs) ≡ ws ++ words_of bs → words_of (bytes4 w ++ bytes_of ws ++ bs) ≡ w ∷ (ws ++ words_of bs)
    next e = λ i. word_back w (below-head (2 ^ 32) w ws b) i ∷ e i

pub words_of_bytes : (ws : List ℕ) → Below (2 ^ 32) ws → words_of (bytes_of ws) ≡ ws
words_of_bytes ws b = rw append-nil at (words_of_bytes-then ws [] b) ∙ unfold words_of in append-nil ws

-- word k of the list stands at byte 4 * k
pub word_at_lem : (bs : List ℕ) (k : ℕ) → 4 * k + 4 ≤ length bs → get_or (words_of bs) k 0 ≡ word_at bs (4 * k)
unfolding words_of word_at
word_at_lem [] k h = absurd (omega arith)
word_at_lem (a ∷ []) k h = absurd (omega arith)
word_at_lem (a ∷ b ∷ []) k h = absurd (omega arith)
word_at_lem (a ∷ b ∷ c ∷ []) k h = absurd (omega arith)
word_at_lem (a ∷ b ∷ c ∷ d ∷ bs) zero h = refl
word_at_lem (a ∷ b ∷ c ∷ d ∷ bs) (suc k) h = word_at_lem bs k (omega arith) ∙ sym (rw four (simp suc-add))
  where
    four : 4 * suc k ≡ suc (suc (suc (suc (4 * k))))
    four = omega arith
