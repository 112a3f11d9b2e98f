-- Work words in which texts that are alike may be taken from one place of the strings.
use Rattle.std.specs.Prelude.{ℕ, ◌+◌, ◌≤◌, ◌<◌, ◌≡◌, List, get_or, drop}
use Rattle.write_text_keys.specs.Keys.{used_text}

-- two words a text from `at` on: each use keeps its text, and what lies behind them stays
pub record SameTexts (strings : List ℕ) (at texts : ℕ) (w₀ w : List ℕ) : Type 0 where
  pub text : (a : ℕ) → a < texts → used_text strings (drop at w) a ≡ used_text strings (drop at w₀) a
  pub behind : (i : ℕ) → at + texts + texts ≤ i → get_or w i 0 ≡ get_or w₀ i 0
