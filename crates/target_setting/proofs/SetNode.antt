-- The words of one node, set in place.
use Prim.Native.Nat.{ℕ, ◌+◌, ◌≤◌, ◌<◌}
use mathlib.Core.Path.{◌≡◌, refl, sym, ap, ◌∙◌}
use mathlib.Core.List.{List}
use mathlib.Core.Bool.{Bool, true, false, cond, ◌||◌, true≢false}
use native.Mathlib.Omega.{arith}
use native.Mathlib.Decide.{ℕ_discrete}
use lib.ListN.{length, get_or, set, length-set}
use lib.Dec.{eqb}
use lib.Seq.{get_or-set_same, get_or-set_other}
use borrow.Author.Tests.{eq-eqb, ne_eqb}
use Rattle.words.specs.Words.{NONE}
use Rattle.image.specs.Sections.{common_words}
use Rattle.records.specs.Fields.{schema}
use Rattle.target_finding.specs.Targets.{is_path_text, followed_word}
use Rattle.target_setting.specs.Setting.{follower_tag, set_word, NodeSet}

-- ---- words that are set, each told by its number

got : (l : List ℕ) (a x m : ℕ) → a < length l → get_or (set l a x) m 0 ≡ cond (eqb m a) x (get_or l m 0)
got l a x m h = go (ℕ_discrete m a)
  where
    go : Dec (m ≡ a) → get_or (set l a x) m 0 ≡ cond (eqb m a) x (get_or l m 0)
    go (yes e) = rw (eq-eqb m a e, e) (get_or-set_same l a x 0 h)
    go (no d) = rw (ne_eqb m a d) (get_or-set_other l a m x 0 d)

beside : (at k j : ℕ) → eqb (at + k) (at + j) ≡ eqb k j
beside at k j = go (ℕ_discrete k j)
  where
    go : Dec (k ≡ j) → eqb (at + k) (at + j) ≡ eqb k j
    go (yes e) = eq-eqb (at + k) (at + j) (ap (λ (x : ℕ). at + x) e) ∙ sym (eq-eqb k j e)
    go (no d) = ne_eqb (at + k) (at + j) (λ e. d (omega arith)) ∙ sym (ne_eqb k j d)

got_at : (l : List ℕ) (at j x k : ℕ) → at + j < length l → get_or (set l (at + j) x) (at + k) 0 ≡ cond (eqb k j) x (get_or l (at + k) 0)
got_at l at j x k h = got l (at + j) x (at + k) h ∙ ap (λ (b : Bool). cond b x (get_or l (at + k) 0)) (beside at k j)

-- three words of a node: two of its path text, then its target
module _ (l : List ℕ) (at a b c target : ℕ) (ha : at + a < length l) (hb : at + b < length l) (hc : at + c < length l) where
  abbrev three : List ℕ
  three = set (set (set l (at + a) NONE) (at + b) NONE) (at + c) target

  three-long : length three ≡ length l
  three-long = simp length-set refl

  three_at : (k : ℕ) → get_or three (at + k) 0 ≡ cond (eqb k c) target (cond (eqb k a || eqb k b) NONE (get_or l (at + k) 0))
  three_at k =
      got_at (set (set l (at + a) NONE) (at + b) NONE) at c target k (simp length-set hc)
      ∙ ap (λ (w : ℕ). cond (eqb k c) target w)
      (got_at (set l (at + a) NONE) at b NONE k (simp length-set hb)
      ∙ ap (λ (w : ℕ). cond (eqb k b) NONE w) (got_at l at a NONE k ha) ∙ either (eqb k a) (eqb k b) (get_or l (at + k) 0))
    where
      either : (x y : Bool) (w : ℕ) → cond y NONE (cond x NONE w) ≡ cond (x || y) NONE w
      either true true w = refl
      either true false w = refl
      either false true w = refl
      either false false w = refl

  three-before : (m : ℕ) → m < at → get_or three m 0 ≡ get_or l m 0
  three-before m h =
      get_or-set_other (set (set l (at + a) NONE) (at + b) NONE) (at + c) m target 0 (λ e. omega arith)
      ∙ get_or-set_other (set l (at + a) NONE) (at + b) m NONE 0 (λ e. omega arith) ∙ get_or-set_other l (at + a) m NONE 0 (λ e. omega arith)

-- ---- by tag

reference-word : (tag target k w : ℕ) → tag ≡ 17 → followed_word tag target k w ≡ cond (eqb k 7) target (cond (eqb k 5 || eqb k 6) NONE w)
unfolding followed_word is_path_text schema
reference-word tag target k w e = rw e refl

value-word : (tag target k w : ℕ) → tag ≡ 13 → followed_word tag target k w ≡ cond (eqb k 5) target w
unfolding followed_word is_path_text schema
value-word tag target k w e = rw e refl

either-text : (a b c : Bool) (target w : ℕ) → cond a target (cond ((b || c) || false) NONE w) ≡ cond a target (cond (b || c) NONE w)
either-text a true c target w = refl
either-text a false true target w = refl
either-text a false false target w = refl

-- a choice or a divert
other_word : (tag target k w : ℕ) → follower_tag tag ≡ true → (tag ≡ 17 → ⊥) → (tag ≡ 13 → ⊥)
    → followed_word tag target k w ≡ cond (eqb k 5) target (cond (eqb k 3 || eqb k 4) NONE w)
unfolding followed_word is_path_text schema follower_tag
other_word tag target k w f r v = go (ℕ_discrete tag 2) (ℕ_discrete tag 4)
  where
    go : Dec (tag ≡ 2) → Dec (tag ≡ 4) → followed_word tag target k w ≡ cond (eqb k 5) target (cond (eqb k 3 || eqb k 4) NONE w)
    go (yes e) d = rw e (either-text (eqb k 5) (eqb k 3) (eqb k 4) target w)
    go (no c) (yes e) = rw e (either-text (eqb k 5) (eqb k 3) (eqb k 4) target w)
    go (no c) (no d) =
        let z : false ≡ true = rw (ne_eqb tag 2 c, ne_eqb tag 4 d, ne_eqb tag 13 v, ne_eqb tag 17 r) at f in absurd (true≢false (sym z))

-- ---- the node

set-some : (tag target k w : ℕ) → (target ≡ NONE → ⊥) → set_word tag target k w ≡ followed_word tag target k w
unfolding set_word
set-some tag target k w d = rw (ne_eqb target NONE d) refl

-- NONE is no target
pub none-word : (tag target k w : ℕ) → target ≡ NONE → set_word tag target k w ≡ w
unfolding set_word
none-word tag target k w e = rw (eq-eqb target NONE e) refl

pub node_kept : (at target : ℕ) (nodes : List ℕ) → target ≡ NONE → NodeSet at target nodes nodes
node_kept at target nodes e = record { long = refl; here = λ k. sym (none-word (get_or nodes (at + 2) 0) target k _ e); before = λ m h. refl }

module _ (at target : ℕ) (nodes : List ℕ) (h : at + common_words ≤ length nodes) (d : target ≡ NONE → ⊥) where
  abbrev tag : ℕ
  tag = get_or nodes (at + 2) 0

  pub reference-set : tag ≡ 17 → NodeSet at target nodes (set (set (set nodes (at + 5) NONE) (at + 6) NONE) (at + 7) target)
  reference-set e =
      let a : at + 5 < length nodes = omega arith in
      let b : at + 6 < length nodes = omega arith in
      let c : at + 7 < length nodes = omega arith in
      record {
        long = three-long nodes at 5 6 7 target a b c;
        here = λ k. three_at nodes at 5 6 7 target a b c k ∙ sym (set-some tag target k _ d ∙ reference-word tag target k _ e);
        before = three-before nodes at 5 6 7 target a b c;
      }

  pub value_set : tag ≡ 13 → NodeSet at target nodes (set nodes (at + 5) target)
  value_set e =
      record {
        long = length-set nodes (at + 5) target;
        here = λ k. got_at nodes at 5 target k (omega arith) ∙ sym (set-some tag target k _ d ∙ value-word tag target k _ e);
        before = λ m l. get_or-set_other nodes (at + 5) m target 0 (λ q. omega arith);
      }

  pub other-set : follower_tag tag ≡ true → (tag ≡ 17 → ⊥) → (tag ≡ 13 → ⊥)
      → NodeSet at target nodes (set (set (set nodes (at + 3) NONE) (at + 4) NONE) (at + 5) target)
  other-set f r v =
      let a : at + 3 < length nodes = omega arith in
      let b : at + 4 < length nodes = omega arith in
      let c : at + 5 < length nodes = omega arith in
      record {
        long = three-long nodes at 3 4 5 target a b c;
        here = λ k. three_at nodes at 3 4 5 target a b c k ∙ sym (set-some tag target k _ d ∙ other_word tag target k _ f r v);
        before = three-before nodes at 3 4 5 target a b c;
      }

-- ---- past the fields that are set

pub later-word : (tag target k w : ℕ) → 8 ≤ k → ((target ≡ NONE → ⊥) → follower_tag tag ≡ true) → set_word tag target k w ≡ w
unfolding set_word
later-word tag target k w h f = go (ℕ_discrete target NONE) (ℕ_discrete tag 17) (ℕ_discrete tag 13)
  where
    none : (j : ℕ) → j < 8 → eqb k j ≡ false
    none j l = ne_eqb k j (λ e. omega arith)

    go : Dec (target ≡ NONE) → Dec (tag ≡ 17) → Dec (tag ≡ 13) → set_word tag target k w ≡ w
    go (yes e) r v = rw (eq-eqb target NONE e) refl
    go (no d) (yes e) v = set-some tag target k w d ∙ reference-word tag target k w e ∙ rw (none 5 (omega arith), none 6 (omega arith), none 7 (omega arith)) refl
    go (no d) (no r) (yes e) = set-some tag target k w d ∙ value-word tag target k w e ∙ rw (none 5 (omega arith)) refl
    go (no d) (no r) (no v) =
        set-some tag target k w d ∙ other_word tag target k w (f d) r v ∙ rw (none 3 (omega arith), none 4 (omega arith), none 5 (omega arith)) refl
