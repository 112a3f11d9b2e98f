-- What the header's constructor and the load answer, by number and value: their numbers are those of their rules.
use Rattle.std.specs.Prelude.{Err, Ok, Result, ℕ}
use Prim.Native.Nat.{ℕ, zero, suc}
use mathlib.Core.Path.{◌≡◌, refl, ap}
use mathlib.Core.List.{List}
use Rattle.std.proofs.lemmas.Option.{none-some}
use Rattle.image.specs.declared.ImageView.{ImageView}
use Rattle.image.specs.Header.{view_of, header_rule, opened_by, opened_of}
use Rattle.load.specs.Load.{load_rule, loaded_by, loaded_of}
use Rattle.promises.specs.Answers.{Answer, given, of_opened, of_loaded}
pub use Rattle.views.proofs.Given.{given-equal, given-refused}

pub loaded-given : (r : Result ImageView ℕ) (v : ImageView) → of_loaded r ≡ given v → r ≡ Ok v
loaded-given (Ok w) v e = ap Ok (given-equal w v e)
loaded-given (Err n) v e = absurd (none-some v (ap (λ (a : Answer ImageView). a.value) e))

opened_by_lem : (n : ℕ) (v : ImageView) → (of_opened (opened_by n v)).number ≡ n
unfolding opened_by
opened_by_lem zero v = refl
opened_by_lem (suc n) v = refl

pub opened-number : (bs : List ℕ) → (of_opened (opened_of bs)).number ≡ header_rule bs
unfolding opened_of
opened-number bs = opened_by_lem (header_rule bs) (view_of bs)

loaded_by_lem : (n : ℕ) (v : ImageView) → (of_loaded (loaded_by n v)).number ≡ n
loaded_by_lem zero v = refl
loaded_by_lem (suc n) v = refl

pub loaded-number : (bs : List ℕ) (work : ℕ) → (of_loaded (loaded_of bs work)).number ≡ load_rule bs work
unfolding loaded_of
loaded-number bs work = loaded_by_lem (load_rule bs work) (view_of bs)
