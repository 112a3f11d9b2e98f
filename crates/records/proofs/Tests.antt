-- Tests of a field, by the test that the code made.
use Prim.Native.Nat.{ℕ, ◌+◌, ◌≤◌, ◌<◌}
use mathlib.Core.Path.{◌≡◌, sym, ◌∙◌}
use mathlib.Core.Bool.{Bool, true, false, ◌||◌}
use lib.Dec.{leb, eqb}
use borrow.Author.Tests.{le-leb, lt-leb, eq-eqb, ne_eqb}
use Rattle.laws.specs.Refusal.{unless}
use Rattle.laws.proofs.First.{pass, fail}
use Rattle.laws.proofs.Chains.{stop, go, stop-last, go_last}
use Rattle.laws.proofs.Flags.{false-and, true-and}
use Rattle.words.specs.Words.{NONE, is_none}
use Rattle.image.specs.Sections.{inside_among}
use Rattle.image.specs.Tags.{container_tag}
use Rattle.records.specs.Shown.{container_among, starts_next}

pub ruleset test_rules = (stop, go, stop-last, go_last)

-- ---- words

pub at_most : (w m : ℕ) → w ≤ m → 0 ≡ unless (leb w m) 12
at_most w m h = sym (pass (leb w m) 12 (le-leb w m h))

pub above : (w m : ℕ) → m < w → 12 ≡ unless (leb w m) 12
above w m h = sym (fail (leb w m) 12 (lt-leb w m h))

-- ---- node numbers

pub none-optional : (n : ℕ) (b : Bool) → n ≡ NONE → true ≡ (is_none n || b)
none-optional n b h = rw (eq-eqb n NONE h)

pub some-optional : (n : ℕ) (v b : Bool) → (n ≡ NONE → ⊥) → v ≡ b → v ≡ (is_none n || b)
some-optional n v b h q = rw (ne_eqb n NONE h) q

pub other_tag : (nodes n tag : ℕ) → (tag ≡ container_tag → ⊥) → false ≡ container_among nodes n tag
other_tag nodes n tag h = rw (ne_eqb tag container_tag h) (false-and (inside_among nodes n))

pub that_tag : (nodes n tag : ℕ) (v : Bool) → tag ≡ container_tag → v ≡ inside_among nodes n → v ≡ container_among nodes n tag
that_tag nodes n tag v h q = rw (eq-eqb tag container_tag h) (q ∙ true-and (inside_among nodes n))

-- ---- ranges

pub past_end : (start count before all : ℕ) → all < start + count → false ≡ starts_next start count before all
past_end start count before all h = rw (lt-leb (start + count) all h)

pub in_end : (start count before all : ℕ) → start + count ≤ all → eqb start before ≡ starts_next start count before all
in_end start count before all h = rw (le-leb (start + count) all h)
