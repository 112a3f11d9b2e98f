-- The entries of a list of paths that is right.
use Prim.Native.Nat.{ℕ, ◌+◌, ◌%◌, ◌≤◌, ◌<◌}
use mathlib.Core.Path.{◌≡◌, sym, ap, ◌∙◌}
use mathlib.Core.List.{List}
use mathlib.Core.Bool.{true, ◌&&◌, not, true≢false}
use lib.ListN.{length}
use lib.Dec.{leb, eqb}
use borrow.Author.Tests.{eq-eqb, leb-true}
use Rattle.laws.proofs.Flags.{both_true, all_at}
use Rattle.image.specs.Sections.{inside_among}
use Rattle.image.proofs.Tests.{inside-true}
use Rattle.draft.specs.PathList.{path_entry_words, new_origin, path_count, path_word, path_origin, path_right, list_right}
use Rattle.target_finding.specs.Finding.{OriginsInside, OriginsApart}

pub record EntryRight (n m : ℕ) (entries : List ℕ) (k : ℕ) : Type 0 where
  pub inside : path_origin entries k < n
  pub new : (j : ℕ) → j < k → path_origin entries j ≡ path_origin entries k → ⊥
  pub components : path_word entries k 2 + path_word entries k 3 ≤ m

pub entry-right : (n m : ℕ) (entries : List ℕ) → list_right n m entries ≡ true → (k : ℕ) → k < path_count entries → EntryRight n m entries k
unfolding list_right path_right new_origin
entry-right n m entries h k l =
    let right = both_true (eqb (length entries % path_entry_words) 0) _ h in
    let each = all_at (path_count entries) (path_right n m entries) right.1 k l in
    let fits = both_true (inside_among n (path_origin entries k) && new_origin entries k && leb (path_word entries k 1) 1) (leb (path_word entries k 2 + path_word entries k 3) m) each in
    let flag = both_true (inside_among n (path_origin entries k) && new_origin entries k) (leb (path_word entries k 1) 1) fits.0 in
    let node = both_true (inside_among n (path_origin entries k)) (new_origin entries k) flag.0 in
    record {
      inside = (inside-true n (path_origin entries k) node.0).0;
      new = λ j b e. true≢false (sym (all_at k (λ y. not (eqb (path_origin entries y) (path_origin entries k))) node.1 j b) ∙ ap not (eq-eqb _ _ e));
      components = leb-true _ _ fits.1;
    }

pub origins-inside : (n m : ℕ) (entries : List ℕ) → list_right n m entries ≡ true → OriginsInside n entries
origins-inside n m entries h k l = (entry-right n m entries h k l).inside

pub origins-apart : (n m : ℕ) (entries : List ℕ) → list_right n m entries ≡ true → OriginsApart entries
origins-apart n m entries h j k b l = (entry-right n m entries h k l).new j b
