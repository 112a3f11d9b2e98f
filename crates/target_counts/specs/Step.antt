-- The step of the loops that count: one target.
use Rattle.std.specs.Prelude.{ℕ, ◌+◌, List, cond, get_or, set, ltb}
use Rattle.words.specs.Words.{is_none}

-- among n words that of the target goes up by 1
unfoldable pub counted_one : List ℕ → ℕ → ℕ → List ℕ
counted_one w n target = cond (is_none target) w (cond (ltb target n) (set w target (get_or w target 0 + 1)) w)
