-- Texts taken from one place: every use keeps its text.
use Prim.Native.Nat.{ℕ, ◌+◌, ◌-◌, ◌*◌, ◌^◌, ◌≤◌, ◌<◌}
use mathlib.Core.Path.{◌≡◌, refl, sym, ap, ◌∙◌}
use mathlib.Core.List.{List}
use mathlib.Core.Bool.{Bool, true, false, cond}
use native.Mathlib.Omega.{arith}
use lib.ListN.{length, get_or, drop, set}
use lib.Seq.{get_or-drop, get_or-set_same, get_or-set_other}
use lib.Dec.{ltb, eqb}
use borrow.Author.Tests.{ltb-true, eqb-true, eqb-false}
use Rattle.image.specs.Sections.{text_or_empty}
use Rattle.write_text_keys.specs.Keys.{used_text, node_of, long_of, key_of, at_end, read_back}
use Rattle.write_plan.specs.Shared.{SameTexts}

-- ---- from step to step

pub same_none : (strings : List ℕ) (at texts : ℕ) (w : List ℕ) → SameTexts strings at texts w w
same_none strings at texts w = record { text = λ a h. refl; behind = λ i h. refl }

pub same_next : (strings : List ℕ) (at texts : ℕ) (w₀ w₁ w₂ : List ℕ) → SameTexts strings at texts w₀ w₁ → SameTexts strings at texts w₁ w₂
    → SameTexts strings at texts w₀ w₂
same_next strings at texts w₀ w₁ w₂ p q =
    record { text = λ a h. q.text a h ∙ p.text a h; behind = λ i h. q.behind i h ∙ p.behind i h }

-- the tables stay
pub same_kept : (strings : List ℕ) (at texts : ℕ) (w₀ w : List ℕ) → drop at w ≡ drop at w₀ → SameTexts strings at texts w₀ w
same_kept strings at texts w₀ w e =
    record {
      text = λ a h. ap (λ (tab : List ℕ). used_text strings tab a) e;
      behind =
          λ i h.
          let back : at + (i - at) ≡ i = omega arith in
          let there : (l : List ℕ) → get_or l i 0 ≡ get_or (drop at l) (i - at) 0 = λ l. sym (get_or-drop at l (i - at) 0 ∙ ap (λ (k : ℕ). get_or l k 0) back) in
          there w ∙ ap (λ (l : List ℕ). get_or l (i - at) 0) e ∙ sym (there w₀);
    }

-- ---- one text takes another's place

module _ (strings : List ℕ) (at texts : ℕ) (w : List ℕ) (i : ℕ) (below : i < texts) (room : at + texts + texts ≤ length w) (offset : ℕ)
    (alike : text_or_empty strings offset (get_or w (at + i + i + 1) 0) ≡ text_or_empty strings (get_or w (at + i + i) 0) (get_or w (at + i + i + 1) 0)) where
  abbrev there : ℕ
  there = at + i + i

  abbrev w' : List ℕ
  w' = set w there offset

  read : (l : List ℕ) (k : ℕ) → get_or (drop at l) k 0 ≡ get_or l (at + k) 0
  read l k = get_or-drop at l k 0

  other : (k : ℕ) → (k ≡ there → ⊥) → get_or w' k 0 ≡ get_or w k 0
  other k h = get_or-set_other w there k offset 0 h

  text-kept : (a : ℕ) (b : Bool) → eqb a i ≡ b → used_text strings (drop at w') a ≡ used_text strings (drop at w) a
  text-kept a true e =
      let same : a ≡ i = eqb-true a i e in
      let first : get_or (drop at w') (a + a) 0 ≡ offset = read w' (a + a) ∙ ap (λ (k : ℕ). get_or w' k 0) (omega (arith, same)) ∙ get_or-set_same w there offset 0 (omega arith) in
      let second : get_or (drop at w') (a + a + 1) 0 ≡ get_or w (there + 1) 0 =
      read w' (a + a + 1) ∙ ap (λ (k : ℕ). get_or w' k 0) (omega (arith, same)) ∙ other (there + 1) (λ q. omega (arith, q)) in
      let old : get_or w there 0 ≡ get_or (drop at w) (a + a) 0 = ap (λ (k : ℕ). get_or w k 0) (omega (arith, same)) ∙ sym (read w (a + a)) in
      let len : get_or w (there + 1) 0 ≡ get_or (drop at w) (a + a + 1) 0 = ap (λ (k : ℕ). get_or w k 0) (omega (arith, same)) ∙ sym (read w (a + a + 1)) in
      (λ t. text_or_empty strings (first t) (second t)) ∙ alike ∙ (λ t. text_or_empty strings (old t) (len t))
  text-kept a false e =
      let apart : a ≡ i → ⊥ = eqb-false a i e in
      let first : get_or (drop at w') (a + a) 0 ≡ get_or (drop at w) (a + a) 0 =
      read w' (a + a) ∙ other (at + (a + a)) (λ q. apart (omega (arith, q))) ∙ sym (read w (a + a)) in
      let second : get_or (drop at w') (a + a + 1) 0 ≡ get_or (drop at w) (a + a + 1) 0 =
      read w' (a + a + 1) ∙ other (at + (a + a + 1)) (λ q. omega (arith, q)) ∙ sym (read w (a + a + 1)) in
      λ t. text_or_empty strings (first t) (second t)

  pub same_put : SameTexts strings at texts w w'
  same_put =
      record { text = λ a h. text-kept a (eqb a i) refl; behind = λ k h. other k (λ q. omega (arith, q)) }

-- ---- what the tables say of it

module _ (strings : List ℕ) (at texts paths lengths : ℕ) (w₀ w : List ℕ) (below : texts + texts ≤ paths) (behind : paths ≤ lengths)
    (s : SameTexts strings at texts w₀ w) where
  pub table_same : (k : ℕ) → texts + texts ≤ k → get_or (drop at w) k 0 ≡ get_or (drop at w₀) k 0
  table_same k h = get_or-drop at w k 0 ∙ s.behind (at + k) (omega arith) ∙ sym (get_or-drop at w₀ k 0)

  pub long_same : (x : ℕ) → long_of lengths (drop at w) x ≡ long_of lengths (drop at w₀) x
  long_same x =
      let low = table_same (lengths + x + x) (omega arith) in
      let high = table_same (lengths + x + x + 1) (omega arith) in
      λ t. low t + 2 ^ 32 * high t

  pub key_same : (version : ℕ) (nodes : List ℕ) (a : ℕ) → key_of version nodes strings texts paths lengths (drop at w) a ≡ key_of version nodes strings texts paths lengths (drop at w₀) a
  unfolding key_of
  key_same version nodes a = by (ltb a texts) refl
    where
      node : node_of texts paths (drop at w) a ≡ node_of texts paths (drop at w₀) a
      node = table_same (paths + (a - texts)) (omega arith)

      path : (tab : List ℕ) → List ℕ
      path tab = read_back (long_of lengths tab (node_of texts paths tab a)) version nodes strings (at_end version nodes (node_of texts paths tab a))

      path-same : path (drop at w) ≡ path (drop at w₀)
      path-same =
          ap (λ (x : ℕ). read_back (long_of lengths (drop at w) x) version nodes strings (at_end version nodes x)) node
          ∙ ap (λ (n : ℕ). read_back n version nodes strings (at_end version nodes (node_of texts paths (drop at w₀) a))) (long_same (node_of texts paths (drop at w₀) a))

      by : (b : Bool) → ltb a texts ≡ b → cond b (used_text strings (drop at w) a) (path (drop at w)) ≡ cond b (used_text strings (drop at w₀) a) (path (drop at w₀))
      by true e = s.text a (ltb-true a texts e)
      by false e = path-same

  pub keys-same : (version : ℕ) (nodes : List ℕ) → ◌≡◌ {A = ℕ → List ℕ} (key_of version nodes strings texts paths lengths (drop at w)) (key_of version nodes strings texts paths lengths (drop at w₀))
  keys-same version nodes = λ t a. key_same version nodes a t
