-- What is handed from the plan to the writing of an image.
use Rattle.std.specs.Prelude.{ℕ, ◌≡◌, List, length}
use Rattle.image.specs.Sections.{Sections}
use Rattle.image.specs.declared.EntryCounts.{EntryCounts}
use Rattle.draft.specs.declared.layout.Layout.{Layout}
use Rattle.draft.specs.Draft.{tables_rule, write_words}
use Rattle.write_text_uses.specs.Uses.{image_counts}
use Rattle.write_plan.specs.Planned.{planned_layout, plan_rule, Prepared}

-- the tables of a draft are right, the plan passed, and layout, counts and work words are as planned
pub record Drawn (s : Sections) (w : List ℕ) (l : Layout) (c : EntryCounts) : Type 0 where
  pub tables : tables_rule s ≡ 0
  pub planned : plan_rule s ≡ 0
  pub long : length w ≡ write_words s
  pub layout : l ≡ planned_layout s
  pub counts : c ≡ image_counts s
  pub prepared : Prepared s w
