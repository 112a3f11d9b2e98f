-- The image that was planned is put into the output, or does not fit.
use Rattle.std.specs.Prelude.{None, Option, Some, ℕ}
use Prim.Native.Nat.{ℕ, ◌≤◌, ◌<◌}
use mathlib.Core.Path.{◌≡◌, ap, ◌∙◌}
use mathlib.Core.List.{List}
use native.Mathlib.Omega.{arith}
use lib.ListN.{length}
use Rattle.laws.specs.Refusal.{unless}
use Rattle.words.specs.Words.{NONE}
use Rattle.image.specs.Sections.{Sections}
use Rattle.image.specs.declared.EntryCounts.{EntryCounts}
use Rattle.image.specs.Counted.{length_by}
use Rattle.draft_image.specs.Encode.{image_for}
use Rattle.words.specs.Output.{over}
use Rattle.draft.specs.declared.layout.Layout.{Layout}
use Rattle.write_image.specs.Length.{size_of, image_length}
use Rattle.write_image.specs.Given.{Ready}
use Rattle.writer.specs.Encoded.{Written, Short, Refused}
use Rattle.writer.specs.Answer.{fits_output, EncodeAnswered}
use Rattle.writer.specs.Planned.{Drawn}
use Rattle.writer.proofs.PlanToImage.{rules, ready}
use Rattle.writer.proofs.Outcomes.{size-bytes, size-long, image-long, image-short, image_put}

module _ (ink : ℕ) (s : Sections) (w : List ℕ) (l : Layout) (c : EntryCounts) (d : Drawn s w l c) (out₀ : List ℕ) (a : Option ℕ) (e : a ≡ size_of (length_by s.version c)) where
  known : a ≡ size_of (image_length s)
  known = e ∙ ap (λ (x : EntryCounts). size_of (length_by s.version x)) d.counts

  pub put_long : a ≡ None → EncodeAnswered ink s (unless (fits_output ink s (length out₀)) 23) out₀ out₀ (Refused 23)
  put_long q = image-long ink s d.tables (rules s d.tables d.planned).0 out₀ (size-long (image_length s) a known q)

  module _ (m : ℕ) (q : a ≡ Some m) where
    sized : (m ≡ image_length s) × (image_length s ≤ NONE)
    sized = size-bytes (image_length s) m a known q

    pub put_short : length out₀ < m → EncodeAnswered ink s (unless (fits_output ink s (length out₀)) 23) out₀ out₀ (Short m)
    put_short h = image-short ink s d.tables (rules s d.tables d.planned).0 out₀ m sized.1 (omega (arith, sized.0)) sized.0

    module _ (h : m ≤ length out₀) where
      pub fill_asks : Ready s w l c × (image_length s ≤ length out₀)
      fill_asks = (rw (d.layout, d.counts) (ready s d.tables d.planned w d.long d.prepared sized.1), omega (arith, sized.0))

      pub put_done : (out : List ℕ) → out ≡ over (image_for ink s) out₀ → EncodeAnswered ink s (unless (fits_output ink s (length out₀)) 23) out₀ out (Written m)
      put_done out o = image_put ink s d.tables (rules s d.tables d.planned).0 out₀ m out sized.1 (omega (arith, sized.0)) sized.0 o
