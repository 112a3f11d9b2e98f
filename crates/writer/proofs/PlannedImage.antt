-- The plan of a draft, and the image by it.
use Rattle.std.specs.Prelude.{Result, Ok, Err}
use Prim.Native.Nat.{ℕ, ◌≤◌}
use mathlib.Core.Path.{◌≡◌, ◌∙◌, subst}
use mathlib.Core.List.{List}
use mathlib.Core.Bool.{true}
use native.Mathlib.Omega.{arith}
use lib.ListN.{length}
use Rattle.laws.specs.Refusal.{unless}
use Rattle.image.specs.Header.{ink_right}
use Rattle.image.specs.Sections.{Sections}
use Rattle.image.specs.declared.EntryCounts.{EntryCounts}
use Rattle.draft.specs.declared.layout.Layout.{Layout}
use Rattle.draft.specs.Needs.{draft_counts, words_for}
use Rattle.draft.specs.Source.{draft_of}
use Rattle.draft.specs.Draft.{tables_rule, write_words}
use Rattle.write_plan.specs.Planned.{layout_by, layout_of, PlanOf}
use Rattle.writer.specs.Encoded.{Encoded}
use Rattle.writer.specs.Encoded as encoded
use Rattle.writer.specs.Answer.{fits_output, EncodeAnswered, WrittenWith}
use Rattle.writer.specs.Planned.{Drawn}
use Rattle.writer.proofs.Outcomes.{plan_refused, plan_made}

module _ (ink : ℕ) (version : ℕ) (ns cs ms ds is ps ss : List ℕ) (i : ink_right ink ≡ true) (p : tables_rule (draft_of version ns cs ms ds is ps ss) ≡ 0) (out₀ w₀ : List ℕ)
    (long : length w₀ ≡ write_words (draft_of version ns cs ms ds is ps ss)) where
  abbrev s : Sections
  s = draft_of version ns cs ms ds is ps ss

  -- the work words are enough for the counts
  pub layout_asks : (c : EntryCounts) → c ≡ draft_counts s → words_for c ≤ length w₀
  layout_asks c e = rw e (omega (arith, long))

  module _ (c : EntryCounts) (e : c ≡ draft_counts s) (l : Layout) (laid : l ≡ layout_by c (length w₀)) where
    layout : l ≡ layout_of s
    layout = laid ∙ (λ t. layout_by (e t) (long t))

    pub prepare_asks : (tables_rule s ≡ 0) × (length w₀ ≡ write_words s) × (l ≡ layout_of s) × (c ≡ draft_counts s)
    prepare_asks = (p, long, layout, e)

    module _ (w : List ℕ) (kept : length w ≡ length w₀) (a : Result (Layout × EntryCounts) ℕ) (told : PlanOf s w a) where
      pub write-refused : (k : ℕ) → a ≡ Err k → WrittenWith ink s out₀ out₀ (encoded.Refused k)
      write-refused k q =
          let x = subst (λ (y : Result (Layout × EntryCounts) ℕ). PlanOf s w y) q told in
          plan_refused ink s p i out₀ k x.0 x.1

      module _ (m : Layout) (k : EntryCounts) (q : a ≡ Ok (m, k)) where
        made : PlanOf s w (Ok (m, k))
        made = subst (λ (y : Result (Layout × EntryCounts) ℕ). PlanOf s w y) q told

        pub image_asks : Drawn s w m k
        image_asks = record { tables = p; planned = made.0; long = kept ∙ long; layout = made.1; counts = made.2; prepared = made.3 }

        pub write-made : (out : List ℕ) (r : Encoded) → EncodeAnswered ink s (unless (fits_output ink s (length out₀)) 23) out₀ out r → WrittenWith ink s out₀ out r
        write-made out r x = plan_made ink s p i out₀ made.0 out r x
