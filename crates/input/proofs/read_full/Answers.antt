-- What the next read put behind the filled front is filled too.
use Rattle.std.proofs.Common.{◌≡◌, ℕ, ◌+◌, ◌-◌, ◌≤◌, List, ◌++◌, rules, length, take, ap, ◌∙◌, sym, subst, length-take-le}
use Rattle.std.specs.Io.KnownBytes.{Consumes}
use Rattle.std.proofs.KnownBytes.{Consumes-trans}
use borrow.Rule.Slice.PartMut.{put_mid, post_of}
use lib.Seq.{take-append-le, take-append-add}
use Rattle.input.proofs.read_full.Goals as goal

take_more : (a k n : ℕ) (xs ys : List ℕ) → a ≤ length xs → n ≤ length ys → take a xs ++ take n ys ≡ take (a + n) (put_mid a k xs ys)
take_more a k n xs ys within fits =
    let front = take a xs in
    let after = post_of a k xs in
    ap (λ (l : List ℕ). front ++ l) (sym (take-append-le n ys after fits))
    ∙ sym (take-append-add front (ys ++ after) n)
    ∙ ap (λ (m : ℕ). take (m + n) (put_mid a k xs ys)) (length-take-le a xs within)

pub loop-filled-preserved : goal.loop-filled-preserved
loop-filled-preserved g c =
    let a = c.loop-filled.filled in
    let more = take_more a (length c.loop-filled.buffer - a) c.in_ok-n.n c.loop-filled.buffer c.read.new.buf (search rules) c.in_ok-n.ensures.bound.0 in
    (search rules, subst (Consumes _ _) more (Consumes-trans _ _ _ _ _ c.loop-filled.invariant.1 c.in_ok-n.ensures.bytes.0))
