-- From the plan to what writing the image asks for.
use Prim.Native.Nat.{ℕ, ◌+◌, ◌≤◌, ◌<◌}
use mathlib.Core.Path.{◌≡◌, refl, sym, ap, ◌∙◌}
use mathlib.Core.List.{List}
use native.Mathlib.Omega.{arith}
use lib.ListN.{length, get_or, drop}
use lib.Seq.{get_or-drop}
use Rattle.laws.proofs.First.{both}
use Rattle.words.specs.Words.{NONE}
use Rattle.image.specs.Sections.{Sections, node_count}
use Rattle.records.proofs.PassedRules.{within}
use Rattle.draft.proofs.Rules.{tables}
use Rattle.draft.specs.Draft.{tables_rule, write_words, reach_rule, shape_rule, paths_rule}
use Rattle.draft.specs.Numbering.{numbering, old_of}
use Rattle.draft_image.specs.Strings.{by_path, path_of, stored_texts}
use Rattle.written.proofs.Texts.{stored, offset_inside}
use Rattle.write_text_uses.specs.Uses.{uses_most, stored_bytes, image_counts}
use Rattle.write_text_uses.proofs.Bounds.{uses-bound}
use Rattle.write_plan.specs.Planned.{layout_of, planned_layout, plan_rule, Prepared}
use Rattle.write_plan.proofs.Premises.{once}
use Rattle.write_plan.proofs.UseTexts.{boxes-long, uses-long}
use Rattle.write_image.specs.Length.{image_length}
use Rattle.write_image.specs.Given.{DraftPlanned, Ready}

module _ (s : Sections) (p : tables_rule s ≡ 0) (e : plan_rule s ≡ 0) where
  -- the rules that the plan tests, one by one
  pub rules : (reach_rule s ≡ 0) × (shape_rule s ≡ 0) × (paths_rule s ≡ 0)
  unfolding plan_rule
  rules =
      let a = both _ _ e in
      let b = both _ _ a.1 in
      let c = both _ _ b.1 in
      (a.0, b.0, c.0)

  module _ (w : List ℕ) (long : length w ≡ write_words s) (known : Prepared s w) where
    abbrev order : List ℕ
    order = numbering s

    most : (planned_layout s).offsets ≤ uses_most s
    most = omega (arith, uses-bound s order p (once s p rules.0), boxes-long s p rules.0 rules.2)

    few : length (by_path s order) ≤ node_count s
    few = omega (arith, boxes-long s p rules.0 rules.2, (within s (node_count s) (tables s p).fields).containers)

    -- a stored path is no longer than all stored texts
    path-short : (k : ℕ) → k < length (by_path s order) → length (path_of s order (get_or (by_path s order) k 0)) ≤ length (stored_bytes s)
    path-short k h =
        omega (
          arith,
          offset_inside (stored_texts s order) (path_of s order (get_or (by_path s order) k 0)) ((stored s order).index k h),
        )

    module _ (fits_output : image_length s ≤ NONE) where
      told : DraftPlanned s w (planned_layout s)
      told =
          record {
            tables = p;
            reach = rules.0;
            shape = rules.1;
            long = fits_output;
            olds = known.olds;
            news = known.news;
            texts = refl;
            offsets = known.offsets;
            order_end = omega (arith, long);
            new_start = omega (arith, long);
            offsets_end = omega (arith, long, uses-long s, most);
          }

      word_low : (k : ℕ) → k < length (by_path s order)
          → get_or w ((layout_of s).at + (layout_of s).lengths + old_of order (get_or (by_path s order) k 0) + old_of order (get_or (by_path s order) k 0)) 0
          ≡ length (path_of s order (get_or (by_path s order) k 0))
      word_low k h =
          let x = old_of order (get_or (by_path s order) k 0) in
          let place : (layout_of s).at + ((layout_of s).lengths + x + x) ≡ (layout_of s).at + (layout_of s).lengths + x + x = omega arith in
          let both_words = known.lengths k h in
          let low : get_or (drop (layout_of s).at w) ((layout_of s).lengths + x + x) 0 ≡ length (path_of s order (get_or (by_path s order) k 0)) =
          omega (arith, both_words, path-short k h) in
          ap (λ (i : ℕ). get_or w i 0) (sym place) ∙ sym (get_or-drop (layout_of s).at w ((layout_of s).lengths + x + x) 0) ∙ low

      pub ready : Ready s w (planned_layout s) (image_counts s)
      ready =
          record {
            told = told;
            counts = refl;
            indexed =
                record {
                  all = refl;
                  boxes =
                      λ k h.
                      let place : (layout_of s).at + ((layout_of s).paths + k) ≡ (layout_of s).at + (layout_of s).paths + k = omega arith in
                      ap (λ (i : ℕ). get_or w i 0) (sym place) ∙ sym (get_or-drop (layout_of s).at w ((layout_of s).paths + k) 0)
                      ∙ known.boxes k h;
                  lengths = word_low;
                  boxes_end = omega (arith, long, few);
                  lengths-start = omega (arith, long);
                };
            keyed =
                record {
                  all = sym (uses-long s);
                  keys = known.keys;
                  behind = omega (arith, most);
                  placed = (omega (arith, long), omega (arith, long));
                };
          }
