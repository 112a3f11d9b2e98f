-- The containers of a draft as the code lists them: words of nodes in the image's order.
use Rattle.std.specs.Prelude.{ℕ, zero, suc, ◌+◌, ◌<◌, ◌≡◌, List, [], ◌∷◌, ◌++◌, Bool, cond, ◌||◌, not, get_or, eqb}
use Rattle.laws.specs.Counted.{those}
use Rattle.laws.specs.Lists.{place_in}
use Rattle.image.specs.declared.NodeRecord.{NodeRecord}
use Rattle.image.specs.Sections.{Sections, node_count, is_container}
use Rattle.image.specs.Tags.{container_tag}
use Rattle.index.specs.Paths.{name_or_place_by}
use Rattle.draft.specs.Source.{word_of}
use Rattle.draft.specs.Numbering.{old_of}

-- node i is the root, no container, or a container that has a name or a place, by its record
unfoldable pub placed_in : NodeRecord → ℕ → Bool
placed_in r i = not (eqb r.tag container_tag) || eqb i 0 || name_or_place_by r.place r.f0 r.f1

-- the tag of a node, in the nodes' words
abbrev pub tag_at : ℕ → List ℕ → ℕ → ℕ
tag_at version nodes x = word_of version nodes x 2

-- the containers among the n words from `at` on
unfoldable pub containers_in : ℕ → List ℕ → List ℕ → ℕ → ℕ → List ℕ
containers_in version nodes w at zero = []
containers_in version nodes w at (suc n) =
    containers_in version nodes w at n ++ cond (eqb (tag_at version nodes (get_or w (at + n) 0)) container_tag) (get_or w (at + n) 0 ∷ []) []

-- word k from `at` on names a node whose parent is a container that an earlier one names
pub record ParentListed (version : ℕ) (nodes w : List ℕ) (at k : ℕ) : Type 0 where
  pub place : ℕ
  pub earlier : place < k
  pub parent : get_or w (at + place) 0 ≡ word_of version nodes (get_or w (at + k) 0) 0
  pub container : tag_at version nodes (get_or w (at + place) 0) ≡ container_tag

-- each of the n words from `at` on does, or names the root
abbrev pub ParentsFirst : ℕ → List ℕ → List ℕ → ℕ → ℕ → Type 0
ParentsFirst version nodes w at n = (k : ℕ) → k < n → (get_or w (at + k) 0 ≡ 0 → ⊥) → ParentListed version nodes w at k

-- the image's containers, by their numbers
abbrev pub containers : Sections → List ℕ → List ℕ
containers s order = those (node_count s) (λ j. is_container s (old_of order j))

-- order has each number below n once
pub record Permutation (n : ℕ) (order : List ℕ) : Type 0 where
  pub old_inside : (j : ℕ) → j < n → old_of order j < n
  pub new_inside : (i : ℕ) → i < n → place_in order i < n
  pub old_new : (i : ℕ) → i < n → old_of order (place_in order i) ≡ i
  pub new_old : (j : ℕ) → j < n → place_in order (old_of order j) ≡ j
