-- Sections written one behind the other, each into the part of the output that is lent from its start; the checksum last.
use Prim.Native.Nat.{ℕ, ◌+◌, ◌-◌, ◌≤◌}
use mathlib.Core.Path.{◌≡◌, ap, ◌∙◌}
use mathlib.Core.List.{List, ◌++◌}
use native.Mathlib.Omega.{arith}
use lib.ListN.{length, take, drop, length-append}
use borrow.Rule.Slice.PartMut.{put_mid}
use Rattle.laws.proofs.Lists.{to_end, part-back}
use Rattle.image.specs.Sections.{Sections}
use Rattle.draft_image.specs.Written.{written}
use Rattle.image.specs.Counted.{CountsOf}
use Rattle.words.specs.Output.{over}
use Rattle.words.proofs.FilledOutput.{filled-front, more-part, front_is}
use Rattle.write_text_uses.specs.Uses.{image_counts}
use Rattle.write_image.proofs.SectionLengths.{Sized}

-- the next section, written at the start of such a part
pub over-next : (out₀ out done next ys : List ℕ) (a : ℕ) → out ≡ over done out₀ → a ≡ length done → a + length next ≤ length out₀
    → ys ≡ over next (take (length out - a) (drop a out)) → put_mid a (length out - a) out ys ≡ over (done ++ next) out₀
over-next out₀ out done next ys a e p h y =
    let f = filled-front done out₀ out (omega arith) e in
    front_is (done ++ next) out₀ (put_mid a (length out - a) out ys)
    (more-part 0 done out₀ out f next a (put_mid a (length out - a) out ys) (omega arith) h
    (part-back a out ys ∙ ap (λ (z : List ℕ). take a out ++ z) (y ∙ ap (over next) (to_end a out))))

-- two and three sections, one behind the other
pub two_parts : (out₀ out a b ys : List ℕ) (at : ℕ) → length a + length b ≤ length out₀ → out ≡ over a out₀ → at ≡ length a
    → ys ≡ over b (take (length out - at) (drop at out)) → put_mid at (length out - at) out ys ≡ over (a ++ b) out₀
two_parts out₀ out a b ys at h e p y = over-next out₀ out a b ys at e p (omega arith) y

pub three-parts : (out₀ out₁ out₂ a b c ys zs : List ℕ) (at₁ at₂ : ℕ) → length a + length b + length c ≤ length out₀ → out₁ ≡ over a out₀
    → at₁ ≡ length a → ys ≡ over b (take (length out₁ - at₁) (drop at₁ out₁)) → out₂ ≡ put_mid at₁ (length out₁ - at₁) out₁ ys
    → at₂ ≡ length a + length b → zs ≡ over c (take (length out₂ - at₂) (drop at₂ out₂))
    → put_mid at₂ (length out₂ - at₂) out₂ zs ≡ over (a ++ b ++ c) out₀
three-parts out₀ out₁ out₂ a b c ys zs at₁ at₂ h e p y f q z =
    let two : out₂ ≡ over (a ++ b) out₀ = f ∙ two_parts out₀ out₁ a b ys at₁ (omega arith) e p y in
    over-next out₀ out₂ (a ++ b) c zs at₂ two (omega (arith, length-append a b)) (omega arith) z

-- the counts that the header says
pub counts-right : (s : Sections) → Sized s (written s) → CountsOf s.version (written s) (image_counts s)
counts-right s z =
    record {
      versioned = z.versioned;
      nodes = z.nodes;
      children = z.children;
      named = z.named;
      definitions = z.definitions;
      items = z.items;
      index = z.index;
      payload = z.payload;
      strings = ap length z.strings;
    }
