-- A comparison of recorded words, word by word, and what a record says by it.
use Rattle.std.specs.Prelude.{None, Option, Some, Result, Ok, Err}
use Prim.Native.Nat.{ℕ, ◌+◌, ◌<◌, ◌/◌}
use mathlib.Core.Path.{◌≡◌, refl, sym, ap, subst, ◌∙◌}
use mathlib.Core.List.{List, [], ◌∷◌}
use mathlib.Core.Bool.{Bool, true, false}
use native.Mathlib.Nat.{not-suc-le-zero}
use lib.ListN.{length, get_or, take}
use lib.Seq.{ext_get_or}
use lib.Dec.{eqb}
use borrow.Author.Count.{below_more}
use Rattle.laws.proofs.Cases.{eq_yes, eq_no}
use Rattle.words.specs.Words.{word_in, words_of}
use Rattle.words.proofs.Words.{length-words}
use Rattle.texts.specs.Text.{same}
use Rattle.texts.proofs.Text.{equal-same, unlike-same, length-same}
use Rattle.image.specs.Header.{section_bytes}
use Rattle.answers.specs.AnswerWords.{found_answer}
use Rattle.image.specs.declared.ImageView.{ImageView}
use Rattle.load.specs.Load.{loaded_of}
use Rattle.image.specs.Refusals.{refusal_number}
use Rattle.image.specs.declared.refusal.Refusal.{Refusal}
use Rattle.writer.specs.declared.EncodeError.{EncodeError}
use Rattle.writer.specs.declared.EncodeError.TheVariants as error
use Rattle.promises.specs.Answers.{of_loaded}
use Rattle.image.specs.Sections.{Sections}
use Rattle.target_finding.specs.Targets.{PathList, resolve_rule, nodes_after}
use Rattle.writer.specs.Encoded.{Encoded, Written, encoded_in}
use Rattle.replay.specs.Recorded.{recorded, recorded_load, refused_alike, same_written, same_nodes, recorded_targets}

-- ---- word by word

module _ (part ws : List ℕ) where
  -- the words below i agree
  unfoldable pub Agree : ℕ → Type 0
  Agree i = (k : ℕ) → k < i → get_or (words_of part) k 0 ≡ get_or ws k 0

  pub agree-none : Agree 0
  unfolding Agree
  agree-none k l = absurd (not-suc-le-zero l)

  pub agree-more : (i x : ℕ) → x ≡ get_or (words_of part) i 0 → x ≡ get_or ws i 0 → Agree i → Agree (i + 1)
  unfolding Agree
  agree-more i x e h all = below_more (λ (k : ℕ). get_or (words_of part) k 0 ≡ get_or ws k 0) i all (sym e ∙ h)

  pub agree_all : (i : ℕ) → length part / 4 ≡ length ws → i ≡ length ws → Agree i → true ≡ same (words_of part) ws
  unfolding Agree
  agree_all i e l all =
      let n = length-words part ∙ e in
      sym (equal-same (words_of part) ws (ext_get_or 0 (words_of part) ws n (λ k b. all k (subst (λ (m : ℕ). k < m) (n ∙ sym l) b))))

  pub unlike-word : (i x : ℕ) → x ≡ get_or (words_of part) i 0 → (x ≡ get_or ws i 0 → ⊥) → false ≡ same (words_of part) ws
  unlike-word i x e d = sym (unlike-same (words_of part) ws (λ q. d (e ∙ ap (λ (l : List ℕ). get_or l i 0) q)))

  pub unlike-length : (length part / 4 ≡ length ws → ⊥) → false ≡ same (words_of part) ws
  unlike-length d = sym (length-same (words_of part) ws (λ e. d (sym (length-words part) ∙ e)))

-- ---- what a record says; x is its word at `at`

module _ (f : List ℕ) (at x : ℕ) (e : x ≡ word_in f at) where
  pub other-number : (count : ℕ) (ws : List ℕ) → (x ≡ 0 → ⊥) → false ≡ recorded f at count (Some ws)
  unfolding recorded
  other-number count ws d = eq_no (word_in f at) 0 _ _ false (λ q. d (e ∙ q)) refl

  pub words-then : (count : ℕ) (ws part : List ℕ) (r : Bool) → x ≡ 0 → part ≡ section_bytes f (record { offset = at + 4; count = count }) 4 → r ≡ same (words_of part) ws → r ≡ recorded f at count (Some ws)
  unfolding recorded
  words-then count ws part r z p h = eq_yes (word_in f at) 0 _ _ r (sym e ∙ z) (h ∙ ap (λ (l : List ℕ). same (words_of l) ws) p)

  pub number-alone : (r : Bool) → r ≡ eqb x 18 → r ≡ recorded f at 0 None
  unfolding recorded
  number-alone r h = h ∙ ap (λ (y : ℕ). eqb y 18) e

module _ (f : List ℕ) (at : ℕ) (a : Option ℕ) (r : Bool) where
  pub node-found : (n : ℕ) → a ≡ Some n → r ≡ recorded f at 1 (Some (n ∷ [])) → r ≡ recorded f at 1 (found_answer a)
  node-found n e h = rw e h

  pub node-none : a ≡ None → r ≡ recorded f at 0 None → r ≡ recorded f at 1 (found_answer a)
  unfolding recorded
  node-none e h = rw e h

-- ---- a load

module _ (a : Result ImageView ℕ) (n : ℕ) (bs : List ℕ) where
  pub view-number : (v : ImageView) → a ≡ loaded_of bs n → a ≡ Ok v → 0 ≡ (of_loaded (loaded_of bs n)).number
  view-number v e q = ap (λ (x : Result ImageView ℕ). (of_loaded x).number) (sym q ∙ e)

  pub refused-number : (k : ℕ) → a ≡ loaded_of bs n → a ≡ Err k → k ≡ (of_loaded (loaded_of bs n)).number
  refused-number k e q = ap (λ (x : Result ImageView ℕ). (of_loaded x).number) (sym q ∙ e)

pub load-recorded : (f : List ℕ) (a : Result ImageView ℕ) (x y : ℕ) → x ≡ (of_loaded a).number → y ≡ word_in f 0 → eqb x y ≡ recorded_load f a
unfolding recorded_load
load-recorded f a x y e h = rw (e, h) refl

-- ---- a draft

pub none_alike : (ours theirs : ℕ) → theirs ≡ 0 → false ≡ refused_alike ours theirs
unfolding refused_alike
none_alike ours theirs e = eq_yes theirs 0 _ _ false e refl

pub any_alike : (ours theirs : ℕ) → (theirs ≡ 0 → ⊥) → theirs ≡ 21 → true ≡ refused_alike ours theirs
unfolding refused_alike
any_alike ours theirs d e = eq_no theirs 0 _ _ true d (eq_yes theirs 21 _ _ true e refl)

pub this_alike : (ours theirs : ℕ) → (theirs ≡ 0 → ⊥) → (theirs ≡ 21 → ⊥) → eqb ours theirs ≡ refused_alike ours theirs
unfolding refused_alike
this_alike ours theirs d e = eq_no theirs 0 _ _ (eqb ours theirs) d (eq_no theirs 21 _ _ (eqb ours theirs) e refl)

module _ (a : Encoded) (out image : List ℕ) (number : ℕ) where
  pub number-unlike : (n : ℕ) → a ≡ Written n → (number ≡ 0 → ⊥) → false ≡ same_written a out number image
  unfolding same_written
  number-unlike n e d = rw e (eq_no number 0 _ _ false d refl)

  pub image_compared : (n : ℕ) (part : List ℕ) (r : Bool) → a ≡ Written n → number ≡ 0 → part ≡ take n out → r ≡ same part image → r ≡ same_written a out number image
  unfolding same_written
  image_compared n part r e z p h = rw e (eq_yes number 0 _ _ r z (h ∙ ap (λ (l : List ℕ). same l image) p))

module _ (a : Result ℕ EncodeError) (out image : List ℕ) (number : ℕ) (e : EncodeError) where
  pub short_compared : (n : ℕ) (r : Bool) → a ≡ Err e → e ≡ error.Short n → r ≡ refused_alike 23 number → r ≡ same_written (encoded_in a) out number image
  unfolding same_written
  short_compared n r is short h = rw (is, short) h

  pub refusal_compared : (k : Refusal) (ours : ℕ) (r : Bool) → a ≡ Err e → e ≡ error.Refused k → ours ≡ refusal_number k → r ≡ refused_alike ours number
      → r ≡ same_written (encoded_in a) out number image
  unfolding same_written
  refusal_compared k ours r is refused number_is h = rw (is, refused, ← number_is) h

-- ---- targets found from paths

module _ (ours number : ℕ) (nodes part : List ℕ) where
  pub answer-unlike : (ours ≡ number → ⊥) → false ≡ same_nodes ours nodes number part
  unfolding same_nodes
  answer-unlike d = eq_no ours number _ _ false d refl

  pub nodes_compared : (r : Bool) → ours ≡ number → r ≡ same (words_of part) nodes → r ≡ same_nodes ours nodes number part
  unfolding same_nodes
  nodes_compared r e h = eq_yes ours number _ _ r e h

pub targets-recorded : (ink : ℕ) (s : Sections) (p : PathList) (work number ours : ℕ) (nodes part : List ℕ) (r : Bool) → ours ≡ resolve_rule ink s p work → nodes ≡ nodes_after (resolve_rule ink s p work) s p → r ≡ same_nodes ours nodes number part → r ≡ recorded_targets ink s p work number part
unfolding recorded_targets
targets-recorded ink s p work number ours nodes part r e n h = h ∙ (λ i. same_nodes (e i) (n i) number part)
