-- The width of a node: what proofs know of it. No other file unfolds `node_words`.
use Prim.Native.Nat.{ℕ, ◌+◌, ◌*◌, ◌/◌, ◌≤◌, ◌<◌}
use mathlib.Core.Path.{◌≡◌, refl, sym, ap, ◌∙◌}
use mathlib.Core.List.{List}
use native.Mathlib.Omega.{arith}
use native.Mathlib.Nat.{mul_comm, mul_assoc, mul-le-mul_left}
use lib.ListN.{length}
use Rattle.words.specs.Words.{words_of, NONE}
use Rattle.words.proofs.Words.{length-words}
use Rattle.image.specs.Sections.{common_words, most_words, node_words, node_size}

pub record Width (w : ℕ) : Type 0 where
  pub least : common_words ≤ w
  pub most : w ≤ most_words

pub width : (version : ℕ) → Width (node_words version)
unfolding node_words
width version = record { least = omega arith; most = omega arith }

pub words-some : (version : ℕ) → common_words ≤ node_words version
words-some version = (width version).least

-- a node has the common words and no others: for the code that reads, writes or counts those alone
pub only-common : (version : ℕ) → node_words version ≡ common_words
unfolding node_words
only-common version = refl

-- ---- numbers of nodes and of words

-- n nodes in bytes
pub size-words : (n version : ℕ) → n * (4 * node_words version) ≡ 4 * (n * node_words version)
size-words n version = sym (mul_assoc n 4 (node_words version)) ∙ ap (λ (x : ℕ). x * node_words version) (mul_comm n 4) ∙ mul_assoc 4 n (node_words version)

-- n nodes have at least the bytes of their common words
pub least_size : (n version : ℕ) → n * (4 * common_words) ≤ n * node_size version
least_size n version = mul-le-mul_left n (omega (arith, words-some version))

-- a node has two bytes at least
pub nodes-fewer : (n version : ℕ) → n + n ≤ n * (4 * node_words version)
nodes-fewer n version = omega (arith, size-words n version, mul-le-mul_left n (words-some version))

-- the words before a node whose number is a word
pub number-words : (i version : ℕ) → i ≤ NONE → i * node_words version ≤ NONE * most_words
unfolding node_words
number-words i version h = omega arith

-- the node behind another begins where that ends
pub next-node : (i version : ℕ) → (i + 1) * node_words version ≡ i * node_words version + node_words version
unfolding node_words
next-node i version = omega arith

-- a later node begins behind the words of an earlier one
pub later-node : (i j version : ℕ) → i < j → i * node_words version + node_words version ≤ j * node_words version
unfolding node_words
later-node i j version h = omega arith

-- n nodes have n times the words
pub whole-count : (n version : ℕ) → n * node_words version / node_words version ≡ n
unfolding node_words
whole-count n version = omega arith

pub count_of_lem : (ws : List ℕ) (n version : ℕ) → length ws ≡ n * node_words version → length ws / node_words version ≡ n
count_of_lem ws n version e = ap (λ (x : ℕ). x / node_words version) e ∙ whole-count n version

-- ---- nodes below the count

-- the words of a node below the count lie among the words
pub record NodeWithin (ws : List ℕ) (version i : ℕ) : Type 0 where
  pub words : i * node_words version + node_words version ≤ length ws
  pub least : common_words ≤ node_words version
  pub most : node_words version ≤ most_words

pub node-within : (ws : List ℕ) (version i : ℕ) → i < length ws / node_words version → NodeWithin ws version i
unfolding node_words
node-within ws version i h = record { words = omega arith; least = omega arith; most = omega arith }

-- its bytes lie in the nodes' bytes
pub record NodeInside (part : List ℕ) (version i : ℕ) : Type 0 where
  pub bytes : 4 * (i * node_words version) + 4 * node_words version ≤ length part
  pub least : common_words ≤ node_words version
  pub most : node_words version ≤ most_words

pub node-inside : (part : List ℕ) (version i : ℕ) → i < length (words_of part) / node_words version → NodeInside part version i
node-inside part version i h =
    let n = node-within (words_of part) version i h in
    record { bytes = omega (arith, n.words, length-words part); least = n.least; most = n.most }

-- how many nodes there are, by the bytes
pub count-bytes : (part : List ℕ) (version : ℕ) → length part / (4 * common_words) ≡ length (words_of part) / node_words version
unfolding node_words
count-bytes part version = rw (length-words part) (omega arith)

-- and that there are no more than words
pub count_most : (ws : List ℕ) (version : ℕ) → length ws / node_words version * node_words version ≤ length ws
unfolding node_words
count_most ws version = omega arith
