-- What the code keeps of a list of paths in any order: a bit for each node of a window, set where the list has an entry of this node.
use Rattle.std.specs.Prelude.{ℕ, ◌/◌, ◌%◌, ◌^◌, ◌≡◌, List, Bool, false, cond, not, ◌||◌, get_or, eqb}
use Rattle.draft.specs.PathList.{path_count, path_origin, listed, new_origin}
use Rattle.laws.specs.Counted.{all_of}

-- nodes of a window; the windows lie one after the other, each with its number
abbrev pub window_nodes : ℕ
window_nodes = 32768

-- words of a window
abbrev pub window_words : ℕ
window_words = 1024

-- the bit of node i, in the window that has it, is set
unfoldable pub marked : List ℕ → ℕ → Bool
marked window i = eqb (get_or window (i % window_nodes / 32) 0 / 2 ^ (i % 32) % 2) 1

-- of the nodes of the window of this number exactly those are marked that have an entry
abbrev pub Marks : List ℕ → ℕ → List ℕ → Type 0
Marks entries number window = (i : ℕ) → i / window_nodes ≡ number → marked window i ≡ listed entries i

-- where the list does not rise, the window of node i is at hand; and the same before it is filled, but where node i is its first
abbrev pub Windowed : List ℕ → ℕ → Bool → List ℕ → Type 0
Windowed entries i rises window = rises ≡ false → Marks entries (i / window_nodes) window

abbrev pub Ready : List ℕ → ℕ → Bool → List ℕ → Type 0
Ready entries i rises window = (i % window_nodes ≡ 0 → ⊥) → Windowed entries i rises window

-- entry k is of no node of the window of this number, or no entry before it is of the same node
unfoldable pub new_within : ℕ → List ℕ → ℕ → Bool
new_within number entries k = not (eqb (path_origin entries k / window_nodes) number) || new_origin entries k

-- no two entries are of one node of the window of this number
unfoldable pub once_within : ℕ → List ℕ → Bool
once_within number entries = all_of (path_count entries) (new_within number entries)

-- the bit of a node in its word, where the node is one of the window of this number; else no bit
unfoldable pub mask_in : ℕ → ℕ → ℕ
mask_in number i = cond (eqb (i / window_nodes) number) (2 ^ (i % 32)) 0
