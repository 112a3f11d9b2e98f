-- Marks of listed nodes: how they come about, and what they tell.
use Prim.Native.Nat.{ℕ, ◌+◌, ◌*◌, ◌/◌, ◌≤◌, ◌<◌}
use mathlib.Core.Path.{◌≡◌, refl, sym, ap, subst, ◌∙◌}
use mathlib.Core.Logic.{inl, inr, ◌↔◌}
use mathlib.Core.List.{List, [], ◌++◌}
use mathlib.Core.Bool.{Bool, true}
use native.Mathlib.Omega.{arith}
use native.Mathlib.Decide.{ℕ_discrete}
use lib.ListN.{length, get_or, set, drop, replicate, length-set, length-replicate, length-append, length-drop}
use lib.Seq.{get_or-set_same, get_or-set_other}
use Rattle.image.specs.Sections.{Sections, text_entry_words, node_words, child_word, named_word}
use Rattle.tree.proofs.LoadWalk.{cleared-zero}
use Rattle.draft.specs.Source.{draft_of}
use Rattle.draft_tree.specs.Standing.{Listed, MarkedAmong, child, named}
use Rattle.draft_tree.specs.Listing.{Markable, AllListed}

-- ---- one after another

pub none-marked : (f : ℕ → ℕ) (w : List ℕ) → MarkedAmong 0 f w w
none-marked f w = record { long = refl; made = λ j h. absurd (omega arith); rest = λ k. inl refl }

pub one_marked : (n : ℕ) (f : ℕ → ℕ) (w₀ w : List ℕ) → MarkedAmong n f w₀ w → (m x : ℕ) → m ≡ n + 1 → f n ≡ x → x < length w → MarkedAmong m f w₀ (set w x 1)
one_marked n f w₀ w g m x q e low =
    record {
      long = length-set w x 1 ∙ g.long;
      made = λ j h. elim (ℕ_discrete (f j) x) [
        | yes p ↦ ap (λ (k : ℕ). get_or (set w x 1) k 0) p ∙ get_or-set_same w x 1 0 low
        | no d ↦ get_or-set_other w x (f j) 1 0 d ∙ g.made j (before j h (λ p. d (ap f p ∙ e)))
      ];
      rest = λ k. elim (ℕ_discrete k x) [
        | yes p ↦ inr (n, omega arith, e ∙ sym p)
        | no d ↦ elim (g.rest k) [ inl a ↦ inl (get_or-set_other w x k 1 0 d ∙ a) | inr b ↦ inr (b.0, omega (arith, b.1), b.2) ]
      ];
    }
  where
    before : (j : ℕ) → j < m → (j ≡ n → ⊥) → j < n
    before j h d = omega (arith, q, d)

-- ---- words that are all 1, the first one aside

module _ (w : List ℕ) (i : ℕ) (g : (k : ℕ) → 0 < k → k < i → get_or w k 0 ≡ 1) where
  pub ones-more : get_or w i 0 ≡ 1 → (k : ℕ) → 0 < k → k < i + 1 → get_or w k 0 ≡ 1
  ones-more e k h l =
      elim (ℕ_discrete k i) [
        | yes p ↦ ap (λ (x : ℕ). get_or w x 0) p ∙ e
        | no d ↦ g k h (omega arith)
      ]

  pub ones_all : (n : ℕ) → n ≤ i → (k : ℕ) → 0 < k → k < n → get_or w k 0 ≡ 1
  ones_all n q k h l = g k h (omega arith)

-- ---- all of them

-- the first n words cleared
module _ (n : ℕ) (w₀ w : List ℕ) (h : n ≤ length w₀) (e : w ≡ replicate n 0 ++ drop n w₀) where
  pub clear-long : length w ≡ length w₀
  clear-long = rw e (length-append (replicate n 0) (drop n w₀) ∙ rw (length-replicate {A = ℕ} n 0, length-drop n w₀) (omega arith))

module _ {v : ℕ} (ns cs ms w₀ : List ℕ) (g : Markable (draft_of v ns cs ms [] [] [] []) w₀) (n : ℕ) (c : n ≡ length ns / node_words v) where
  abbrev s : Sections
  s = draft_of v ns cs ms [] [] [] []

  pub enough-words : n ≤ length w₀
  enough-words = subst (λ (k : ℕ). k ≤ length w₀) (sym c) g.enough

  module _ (w₁ : List ℕ) (e : w₁ ≡ replicate n 0 ++ drop n w₀) where
    pub children-inside : (j : ℕ) → j < length cs → get_or cs j 0 < length w₁
    unfolding child_word
    children-inside j h = let at = g.children j h in omega (arith, g.enough, clear-long n w₀ w₁ enough-words e)

    module _ (w₂ : List ℕ) (a : MarkedAmong (length cs) (λ j. get_or cs j 0) w₁ w₂) where
      pub named-inside : (j : ℕ) → j < length ms / text_entry_words → get_or ms (j * text_entry_words + 2) 0 < length w₂
      unfolding named_word
      named-inside j h = let at = g.named j h in omega (arith, g.enough, clear-long n w₀ w₁ enough-words e, a.long)

      module _ (w : List ℕ) (b : MarkedAmong (length ms / text_entry_words) (λ j. get_or ms (j * text_entry_words + 2) 0) w₂ w) where
        pub all_long : length w ≡ length w₀
        all_long = b.long ∙ a.long ∙ clear-long n w₀ w₁ enough-words e

        marked-listed : (k : ℕ) → k < n → get_or w k 0 ≡ 1 → Listed s k
        unfolding child_word named_word
        marked-listed k h p =
            elim (b.rest k) [
              | inr x ↦ named x.0 x.1 x.2
              | inl q ↦ elim (a.rest k) [
                | inr x ↦ child x.0 x.1 x.2
                | inl z ↦ absurd (omega (arith, p, q, z, ap (λ (l : List ℕ). get_or l k 0) e, cleared-zero n w₀ k h))
              ]
            ]

        -- a child's mark stays when the named entries are marked
        listed-marked : (k : ℕ) → Listed s k → get_or w k 0 ≡ 1
        unfolding child_word named_word
        listed-marked k (child j h p) =
            elim (b.rest k) [
              | inl q ↦ q ∙ ap (λ (x : ℕ). get_or w₂ x 0) (sym p) ∙ a.made j h
              | inr x ↦ ap (λ (y : ℕ). get_or w y 0) (sym x.2) ∙ b.made x.0 x.1
            ]
        listed-marked k (named j h p) = ap (λ (x : ℕ). get_or w x 0) (sym p) ∙ b.made j h

        pub all_told : (r : Bool) → ((r ≡ true) ↔ ((i : ℕ) → 0 < i → i < n → get_or w i 0 ≡ 1)) → AllListed s w₀ w r
        all_told r t =
            record {
              long = all_long;
              marks = λ i h. (marked-listed i (subst (λ (x : ℕ). i < x) (sym c) h), listed-marked i);
              answer = (
                λ q i h k. let at = subst (λ (x : ℕ). i < x) (sym c) k in marked-listed i at (t.0 q i h at),
                λ l. t.1 (λ i h k. listed-marked i (l i h (subst (λ (x : ℕ). i < x) c k))),
              );
            }
