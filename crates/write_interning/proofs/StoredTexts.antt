-- Laws of texts stored once.
use Prim.Native.Nat.{ℕ, zero, suc, ◌+◌, ◌-◌, ◌≤◌, ◌<◌}
use mathlib.Core.Path.{◌≡◌, refl, sym, ap, ◌∙◌}
use mathlib.Core.List.{List, [], ◌∷◌, ◌++◌, append_assoc, append-nil}
use mathlib.Core.Bool.{true, false, cond}
use native.Mathlib.Nat.{add-zero, add-suc}
use native.Mathlib.Omega.{arith}
use borrow.Author.Tests.{ltb-true, ltb-false}
use lib.Dec.{ltb}
use lib.ListN.{length, length-append}
use Rattle.laws.specs.Counted.{join_of}
use Rattle.laws.specs.Lists.{flat_map}
use Rattle.texts.specs.Text.{same, holds}
use Rattle.texts.proofs.Text.{same_self, same-equal}
use Rattle.draft_image.proofs.HeldTexts.{in_left}
use Rattle.draft_image.specs.Strings.{distinct, offset_of}
use Rattle.write_sorting.proofs.Laws.{cases, differ}
use Rattle.write_interning.specs.Uses.{texts_of, stored_of, texts_joined, First}

-- ---- what is held

pub holds_new : (ss : List (List ℕ)) (t : List ℕ) → holds (ss ++ (t ∷ [])) t ≡ true
unfolding holds
holds_new [] t = rw same_self
holds_new (s ∷ ss) t = cases (same t s) (λ f. rw f) (λ f. rw f (holds_new ss t))

-- what is held after one more is that one, or was held
holds-either : {P : Type 0} (ss : List (List ℕ)) (u t : List ℕ) → holds (ss ++ (u ∷ [])) t ≡ true → (holds ss t ≡ true → P) → (u ≡ t → P) → P
unfolding holds
holds-either [] u t e f g = cases (same t u) (λ h. g (sym (same-equal t u h))) (λ h. differ (sym (rw h at e)))
holds-either (s ∷ ss) u t e f g = cases (same t s) (λ h. f (rw h)) (λ h. holds-either ss u t (rw h at e) (λ k. f (rw h k)) g)

-- ---- offsets

pub offset_old : (ss rs : List (List ℕ)) (t : List ℕ) → holds ss t ≡ true → offset_of (ss ++ rs) t ≡ offset_of ss t
unfolding holds offset_of
offset_old [] rs t e = differ (sym e)
offset_old (s ∷ ss) rs t e = cases (same t s) (λ f. rw f) (λ f. rw (f, offset_old ss rs t (rw f at e)))

pub offset_new : (ss : List (List ℕ)) (t : List ℕ) → holds ss t ≡ false → offset_of (ss ++ (t ∷ [])) t ≡ length (texts_joined ss)
unfolding holds offset_of flat_map
offset_new [] t e = rw same_self
offset_new (s ∷ ss) t e = cases (same t s) (λ f. differ (rw f at e)) (λ f. rw (f, offset_new ss t (rw f at e)) (sym (length-append s (texts_joined ss))))

pub joined_snoc : (ss : List (List ℕ)) (t : List ℕ) → texts_joined (ss ++ (t ∷ [])) ≡ texts_joined ss ++ t
unfolding flat_map
joined_snoc [] t = append-nil t
joined_snoc (s ∷ ss) t = ap (λ (l : List ℕ). s ++ l) (joined_snoc ss t) ∙ sym (append_assoc s (texts_joined ss) t)

-- a text that is held ends within what is stored
pub offset_end : (ss : List (List ℕ)) (t : List ℕ) → holds ss t ≡ true → offset_of ss t + length t ≤ length (texts_joined ss)
unfolding holds offset_of flat_map
offset_end [] t e = differ (sym e)
offset_end (s ∷ ss) t e =
    cases (same t s)
    (λ f. let q : t ≡ s = same-equal t s f in rw f (omega (arith, length-append s (texts_joined ss), ap length q)))
    (λ f. rw f (omega (arith, offset_end ss t (rw f at e), length-append s (texts_joined ss))))

-- ---- one use more

stored_snoc : (ss us : List (List ℕ)) (u : List ℕ) → distinct ss (us ++ (u ∷ [])) ≡ cond (holds (distinct ss us) u) (distinct ss us) (distinct ss us ++ (u ∷ []))
unfolding distinct
stored_snoc ss [] u = refl
stored_snoc ss (v ∷ us) u = stored_snoc (cond (holds ss v) ss (ss ++ (v ∷ []))) us u

module _ (key : ℕ → List ℕ) where
  -- the stored texts, where the texts of the uses are known as a list
  pub stored_of_lem : (n : ℕ) (us : List (List ℕ)) → texts_of key n ≡ us → stored_of key n ≡ distinct [] us
  unfolding stored_of
  stored_of_lem n us e = ap (distinct []) e

  stored-suc : (k : ℕ) → stored_of key (suc k) ≡ cond (holds (stored_of key k) (key k)) (stored_of key k) (stored_of key k ++ (key k ∷ []))
  unfolding stored_of join_of
  stored-suc k = stored_snoc [] (texts_of key k) (key k)

  -- of a text that is held, and of one that is not
  pub stored_old : (k : ℕ) → holds (stored_of key k) (key k) ≡ true → stored_of key (suc k) ≡ stored_of key k
  stored_old k e = stored-suc k ∙ rw e

  pub stored_new : (k : ℕ) → holds (stored_of key k) (key k) ≡ false → stored_of key (suc k) ≡ stored_of key k ++ (key k ∷ [])
  stored_new k e = stored-suc k ∙ rw e

  -- the stored texts are those of the uses, and no others
  pub stored-holds : (k p : ℕ) → p < k → holds (stored_of key k) (key p) ≡ true
  stored-holds zero p h = absurd (omega arith)
  stored-holds (suc k) p h =
      cases (holds (stored_of key k) (key k))
      (λ e.
      rw (stored_old k e)
      (cases (ltb p k) (λ f. stored-holds k p (ltb-true p k f)) (λ f. let q : p ≡ k = omega (arith, ltb-false p k f) in rw q e)))
      (λ e.
      rw (stored_new k e)
      (cases (ltb p k)
      (λ f. in_left (stored_of key k) (key k ∷ []) (key p) (stored-holds k p (ltb-true p k f)))
      (λ f. let q : p ≡ k = omega (arith, ltb-false p k f) in rw q (holds_new (stored_of key k) (key k)))))

  none : {P : Type 0} (t : List ℕ) → holds (stored_of key 0) t ≡ true → P
  unfolding stored_of join_of distinct holds
  none t e = differ (sym e)

  stored-from : (k : ℕ) (t : List ℕ) → holds (stored_of key k) t ≡ true → (p : ℕ) × (p < k) × (key p ≡ t)
  stored-from zero t e = none t e
  stored-from (suc k) t e =
      cases (holds (stored_of key k) (key k))
      (λ f. let w = stored-from k t (rw (stored_old k f) at e) in (w.0, omega (arith, w.1), w.2))
      (λ f.
      holds-either (stored_of key k) (key k) t (rw (stored_new k f) at e)
      (λ h. let w = stored-from k t h in (w.0, omega (arith, w.1), w.2))
      (λ q. (k, omega arith, q)))

  -- where k is the first use of its text, the text is new; else it is held
  pub first_new : (k : ℕ) → First key k k → holds (stored_of key k) (key k) ≡ false
  first_new k F =
      cases (holds (stored_of key k) (key k))
      (λ e. let w = stored-from k (key k) e in absurd (F.least w.0 w.1 w.2))
      (λ e. e)

  pub first_old : (k r : ℕ) → First key k r → (r ≡ k → ⊥) → holds (stored_of key k) (key k) ≡ true
  first_old k r F n = let h : r < k = omega arith in rw (← F.alike) (stored-holds k r h)

  -- ---- how long the stored texts are

  pub length_new : (k : ℕ) → holds (stored_of key k) (key k) ≡ false → length (texts_joined (stored_of key (suc k))) ≡ length (texts_joined (stored_of key k)) + length (key k)
  length_new k e = rw (stored_new k e, joined_snoc) (length-append (texts_joined (stored_of key k)) (key k))

  length_more : (k : ℕ) → length (texts_joined (stored_of key k)) ≤ length (texts_joined (stored_of key (suc k)))
  length_more k = cases (holds (stored_of key k) (key k)) (λ e. rw (stored_old k e) (omega arith)) (λ e. omega (arith, length_new k e))

  pub length_grows : (k d : ℕ) → length (texts_joined (stored_of key k)) ≤ length (texts_joined (stored_of key (k + d)))
  length_grows k zero = rw add-zero (omega arith)
  length_grows k (suc d) = rw add-suc (omega (arith, length_grows k d, length_more (k + d)))

  -- later uses leave what is held, and its offset
  later : (k d : ℕ) (t : List ℕ) → holds (stored_of key k) t ≡ true
      → (holds (stored_of key (k + d)) t ≡ true) × (offset_of (stored_of key (k + d)) t ≡ offset_of (stored_of key k) t)
  later k zero t e = rw add-zero (e, refl)
  later k (suc d) t e =
      let h = later k d t e in
      rw add-suc
      (cases (holds (stored_of key (k + d)) (key (k + d)))
      (λ f. rw (stored_old (k + d) f) h)
      (λ f.
      rw (stored_new (k + d) f) (
        in_left (stored_of key (k + d)) (key (k + d) ∷ []) t h.0,
        offset_old (stored_of key (k + d)) (key (k + d) ∷ []) t h.0 ∙ h.1,
      )))

  -- a use whose text is new is stored at the end
  pub offset_first : (n k : ℕ) → k < n → holds (stored_of key k) (key k) ≡ false → offset_of (stored_of key n) (key k) ≡ length (texts_joined (stored_of key k))
  offset_first n k h f =
      let q : suc k + (n - suc k) ≡ n = omega arith in
      let g : holds (stored_of key (suc k)) (key k) ≡ true = stored-holds (suc k) k (omega arith) in
      let m = rw q at (later (suc k) (n - suc k) (key k) g).1 in
      m ∙ rw (stored_new k f) (offset_new (stored_of key k) (key k) f)

  -- one whose text is held ends before it, or is empty
  pub offset_before : (n k : ℕ) → k < n → holds (stored_of key k) (key k) ≡ true → offset_of (stored_of key n) (key k) + length (key k) ≤ length (texts_joined (stored_of key k))
  offset_before n k h f =
      let q : k + (n - k) ≡ n = omega arith in
      let m : offset_of (stored_of key n) (key k) ≡ offset_of (stored_of key k) (key k) = rw q at (later k (n - k) (key k) f).1 in
      rw m (offset_end (stored_of key k) (key k) f)
