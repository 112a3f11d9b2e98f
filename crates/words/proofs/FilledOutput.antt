-- An output that is filled from an offset on, run by run: what every loop that writes a section keeps.
use Prim.Native.Nat.{ℕ, ◌+◌, ◌*◌, ◌-◌, ◌≤◌, ◌<◌}
use mathlib.Core.Path.{◌≡◌, refl, sym, ap, ◌∙◌, subst}
use mathlib.Core.List.{List, [], ◌∷◌, ◌++◌, append_assoc, append-nil}
use native.Mathlib.Omega.{arith}
use native.Mathlib.Numerals.{add-one}
use lib.ListN.{length, get_or, take, drop, length-append, length-drop, take-append-drop}
use lib.Seq.{take-suc, take_all, take_at, drop-append-add, drop-drop, length-take-le}
use Rattle.laws.specs.Counted.{join_of}
use Rattle.words.specs.Words.{bytes4, bytes_of}
use Rattle.words.proofs.Words.{length-bytes, bytes_append}
use Rattle.words.specs.Output.{put_at, over}

-- from an offset on the output holds `done`, and is otherwise as it was
pub record Filled (at : ℕ) (done out₀ out : List ℕ) : Type 0 where
  pub room : at + length done ≤ length out₀
  pub long : length out ≡ length out₀
  pub is : out ≡ take at out₀ ++ done ++ drop (at + length done) out₀

-- the same of words
abbrev pub FilledWords : ℕ → List ℕ → List ℕ → List ℕ → Type 0
FilledWords at ws out₀ out = Filled at (bytes_of ws) out₀ out

-- nothing is written yet
pub start : (at : ℕ) (out : List ℕ) → at ≤ length out → Filled at [] out out
start at out h =
    let z : at + 0 ≡ at = omega arith in
    record { room = omega arith; long = refl; is = sym (rw (append-nil, z) (take-append-drop at out)) }

module _ (at : ℕ) (done out₀ out : List ℕ) (f : Filled at done out₀ out) where
  abbrev head : List ℕ
  head = take at out₀ ++ done

  head-length : length head ≡ at + length done
  head-length = omega (arith, length-append (take at out₀) done, length-take-le at out₀ (omega arith))

  take_head : (k : ℕ) → k ≡ at + length done → take k out ≡ head
  take_head k p = rw f.is (take_at head (drop (at + length done) out₀) k (head-length ∙ sym p))

  drop-rest : (n : ℕ) → at + length done ≤ n → drop n out ≡ drop n out₀
  drop-rest n h =
      let m : ℕ = n - (at + length done) in
      let e : n ≡ length head + m = omega (arith, head-length) in
      let d : at + length done + m ≡ n = omega arith in
      rw f.is
      (ap (λ (x : ℕ). drop x (head ++ drop (at + length done) out₀)) e
      ∙ drop-append-add head (drop (at + length done) out₀) m
      ∙ drop-drop m (at + length done) out₀
      ∙ ap (λ (x : ℕ). drop x out₀) d)

  -- the next run of bytes is written behind those that are there
  pub more : (next : List ℕ) (k n : ℕ) (out' : List ℕ) → k ≡ at + length done → n ≡ k + length next → n ≤ length out₀
      → out' ≡ take k out ++ next ++ drop n out → Filled at (done ++ next) out₀ out'
  more next k n out' p q h e = record { room = omega (arith, both); long = ap length whole ∙ size; is = whole }
    where
      both : length (done ++ next) ≡ length done + length next
      both = length-append done next

      whole : out' ≡ take at out₀ ++ (done ++ next) ++ drop (at + length (done ++ next)) out₀
      whole =
          let z : n ≡ at + length (done ++ next) = omega (arith, both) in
          e ∙ rw (take_head k p, drop-rest n (omega arith), z, append_assoc (take at out₀) done next) refl

      size : length (take at out₀ ++ (done ++ next) ++ drop (at + length (done ++ next)) out₀) ≡ length out₀
      size =
          omega (
            arith,
            both,
            length-append (take at out₀ ++ (done ++ next)) (drop (at + length (done ++ next)) out₀),
            length-append (take at out₀) (done ++ next),
            length-take-le at out₀ (omega arith),
            length-drop (at + length (done ++ next)) out₀,
          )

  -- the same, where the output was lent from k on
  pub more-part : (next : List ℕ) (k : ℕ) (out' : List ℕ) → k ≡ at + length done → k + length next ≤ length out₀
      → out' ≡ take k out ++ (next ++ drop (length next) (drop k out)) → Filled at (done ++ next) out₀ out'
  more-part next k out' p h e =
      more next k (k + length next) out' p refl h
      (e ∙ rw (drop-drop (length next) k out) (sym (append_assoc (take k out) next (drop (k + length next) out))))

-- the next of pieces, of which the j-th is g j
pub more-joined : (at : ℕ) (j : ℕ) (g : ℕ → List ℕ) (out₀ out : List ℕ) → Filled at (join_of j g) out₀ out → (next : List ℕ) (k n : ℕ) (out' : List ℕ)
    → next ≡ g j → k ≡ at + length (join_of j g) → n ≡ k + length next → n ≤ length out₀ → out' ≡ take k out ++ next ++ drop n out
    → Filled at (join_of (j + 1) g) out₀ out'
unfolding join_of
more-joined at j g out₀ out f next k n out' g-is p q h e = rw (add-one, ← g-is) (more at (join_of j g) out₀ out f next k n out' p q h e)

-- ---- words

-- the next words
pub more-words : (at : ℕ) (ws out₀ out : List ℕ) → FilledWords at ws out₀ out → (next : List ℕ) (k n : ℕ) (out' : List ℕ)
    → k ≡ at + 4 * length ws → n ≡ k + 4 * length next → n ≤ length out₀ → out' ≡ take k out ++ bytes_of next ++ drop n out
    → FilledWords at (ws ++ next) out₀ out'
more-words at ws out₀ out f next k n out' p q h e =
    subst (λ (bs : List ℕ). Filled at bs out₀ out') (sym (bytes_append ws next))
    (more at (bytes_of ws) out₀ out f (bytes_of next) k n out' (omega (arith, length-bytes ws)) (omega (arith, length-bytes next)) h e)

-- the next entry of a section whose entry j is g j
pub more-entries : (at : ℕ) (j : ℕ) (g : ℕ → List ℕ) (out₀ out : List ℕ) → FilledWords at (join_of j g) out₀ out → (next : List ℕ) (k n : ℕ) (out' : List ℕ)
    → next ≡ g j → k ≡ at + 4 * length (join_of j g) → n ≡ k + 4 * length next → n ≤ length out₀ → out' ≡ take k out ++ bytes_of next ++ drop n out
    → FilledWords at (join_of (j + 1) g) out₀ out'
unfolding join_of
more-entries at j g out₀ out f next k n out' g-is p q h e =
    rw (add-one, ← g-is) (more-words at (join_of j g) out₀ out f next k n out' p q h e)

-- what is written when the words are all there
pub put_is : (at : ℕ) (ws out₀ out : List ℕ) → FilledWords at ws out₀ out → out ≡ put_at out₀ at ws
put_is at ws out₀ out f =
    let z : at + length (bytes_of ws) ≡ at + 4 * length ws = omega (arith, length-bytes ws) in
    rw z at f.is

-- and at the start of the output
pub front_is : (done out₀ out : List ℕ) → Filled 0 done out₀ out → out ≡ over done out₀
front_is done out₀ out f =
    let z : 0 + length done ≡ length done = omega arith in
    rw z at f.is

pub filled-front : (done out₀ out : List ℕ) → length done ≤ length out₀ → out ≡ over done out₀ → Filled 0 done out₀ out
filled-front done out₀ out h e = more 0 [] out₀ out₀ (start 0 out₀ (omega arith)) done 0 (length done) out (omega arith) (omega arith) h e

-- ---- the words of a slice, one by one: the first i are written

pub record Putting (at : ℕ) (ws : List ℕ) (out₀ out : List ℕ) (i : ℕ) : Type 0 where
  pub within : i ≤ length ws
  pub fits : at + 4 * length ws ≤ length out₀
  pub filled : FilledWords at (take i ws) out₀ out

module _ (at : ℕ) (ws out₀ : List ℕ) (fits : at + 4 * length ws ≤ length out₀) where
  pub put_start : Putting at ws out₀ out₀ 0
  unfolding bytes_of
  put_start = record { within = omega arith; fits = fits; filled = start at out₀ (omega arith) }

  module _ (out : List ℕ) (i : ℕ) (p : Putting at ws out₀ out i) where
    pub put_next : (out' : List ℕ) → i < length ws → out' ≡ take (at + 4 * i) out ++ bytes4 (get_or ws i 0) ++ drop (at + 4 * i + 4) out
        → Putting at ws out₀ out' (i + 1)
    unfolding bytes_of
    put_next out' h e =
        let front = length-take-le i ws p.within in
        record {
          within = omega arith;
          fits = fits;
          filled =
              rw (add-one, take-suc ws i 0 h)
              (more-words at (take i ws) out₀ out p.filled (get_or ws i 0 ∷ []) (at + 4 * i) (at + 4 * i + 4) out' (omega arith) (omega arith) (omega arith) e);
        }

    pub put_end : length ws ≤ i → out ≡ put_at out₀ at ws
    put_end h = put_is at ws out₀ out (rw (take_all i ws h) at p.filled)
