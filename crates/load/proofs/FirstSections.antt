-- The first three sections of an image: nodes have their common words or more, children and named entries their words.
use Prim.Native.Nat.{ℕ, ◌+◌, ◌*◌, ◌≤◌}
use mathlib.Core.Path.{◌≡◌, refl}
use mathlib.Core.List.{List}
use native.Mathlib.Omega.{arith}
use Rattle.laws.specs.Counted.{sum_of}
use Rattle.words.specs.Words.{word_at}
use Rattle.image.specs.Sections.{common_words, node_words, child_size, text_entry_size}
use Rattle.image.specs.Header.{header_length, section_at, view_of, sizes, start_by, version_at}
use Rattle.image.proofs.Widths.{least_size}
use Rattle.image.proofs.Rows.{start-next}

start_first : (bs : List ℕ) → start_by bs 0 ≡ header_length
unfolding start_by sum_of
start_first bs = refl

pub first-sections : (bs : List ℕ)
    → (view_of bs).nodes.count * (4 * common_words) + (view_of bs).children.count * child_size + (view_of bs).named.count * text_entry_size + header_length ≤ start_by bs 3
unfolding view_of sizes
first-sections bs =
    let first = start_first bs in
    let nodes : start_by bs 1 ≡ start_by bs 0 + (section_at bs 0).count * (4 * node_words (word_at bs version_at)) = start-next bs 0 in
    let children : start_by bs 2 ≡ start_by bs 1 + (section_at bs 1).count * child_size = start-next bs 1 in
    let named : start_by bs 3 ≡ start_by bs 2 + (section_at bs 2).count * text_entry_size = start-next bs 2 in
    omega (arith, least_size (section_at bs 0).count (word_at bs version_at), first)
