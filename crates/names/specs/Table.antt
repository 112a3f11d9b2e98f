-- Names that lie one after the other in one text, with where each starts; by hash, the number of each name.
use Rattle.std.specs.Prelude.{ℕ, ◌+◌, ◌-◌, ◌%◌, List, Bool, ◌&&◌, length, get_or, map, slice_range, eqb, leb, ltb}
use Rattle.std.specs.List.{range_with_len}
use Rattle.laws.specs.Counted.{all_of}
use Rattle.names.specs.Spelling.{hash_of}

-- name k lies from its start to the next one's
abbrev pub name_at : List ℕ → List ℕ → ℕ → List ℕ
name_at names starts k = slice_range names (get_or starts k 0) (get_or starts (k + 1) 0)

-- the names
unfoldable pub listed : List ℕ → List ℕ → List (List ℕ)
listed names starts = map (name_at names starts) (range_with_len 0 (length starts - 1))

-- name k lies inside, and has at most the bytes that a `Name` holds
abbrev pub lies : List ℕ → List ℕ → ℕ → Bool
lies names starts k =
    let start = get_or starts k 0 in
    let end = get_or starts (k + 1) 0 in
    leb start end && leb end (length names) && leb (end - start) 11

-- the entry at the hash of name k is k
abbrev pub leads : List ℕ → List ℕ → List ℕ → ℕ → Bool
leads names starts by_hash k = eqb (get_or by_hash (hash_of (name_at names starts k) % length by_hash) 0) k

-- each name lies inside, its hash leads to it alone, and each hash leads to a name
unfoldable pub is_table : List ℕ → List ℕ → List ℕ → Bool
is_table names starts by_hash =
    let count = length starts - 1 in
    all_of count (lies names starts) && all_of count (leads names starts by_hash)
    && (ltb 0 (length by_hash) && all_of (length by_hash) (λ i. ltb (get_or by_hash i 0) count))

-- names on an `unfolding` line what a computation with this module needs
unfoldable pub tables : Unit {0}
unfolding listed is_table
tables = tt
