-- Laws of the code that changes a target: what may stand there, the steps of the summary, the word that is written.
use Prim.Native.Nat.{ℕ, ◌+◌, ◌-◌, ◌<◌}
use mathlib.Core.Path.{◌≡◌, refl, sym, ap, ◌∙◌}
use mathlib.Core.Bool.{Bool, true, false, cond, ◌||◌, not, false≢true}
use mathlib.Core.List.{List}
use native.Mathlib.Omega.{arith}
use native.Mathlib.Decide.{ℕ_discrete, dec_lt}
use lib.Dec.{eqb}
use lib.ListN.{length, get_or, set, length-set}
use lib.Seq.{get_or-set_other}
use borrow.Author.Tests.{eq-eqb, ne_eqb, not-true, not-false, ltb-true, eqb-false}
use Rattle.laws.specs.Refusal.{unless, first_of, ◌▸◌}
use Rattle.laws.proofs.First.{passed, first_all}
use Rattle.laws.proofs.Flags.{both_true}
use Rattle.words.specs.Words.{NONE, is_none}
use Rattle.image.specs.Sections.{Sections, node_count, inside_among}
use Rattle.records.specs.Fields.{Kind, Container, Choice, Command, Divert, Glue, Operator, Tag, BoolValue, IntValue, FloatValue, StringValue, ListValue, TargetValue, PointerValue, Assignment, Reference, Void, Unknown, kind_of, kinds, fields, target_place, schema}
use Rattle.records.specs.Shown.{container_among, tag_in}
use Rattle.records.proofs.ByKind.{tag_told, past-kinds}
use Rattle.target_changes.specs.Change.{allowed, allowed_among, can_fall, can_rise, step_rule, fallen, risen, stepped}
use Rattle.target_changes.specs.Steps.{allowed_by, place_by, Falls, Rises, Steps}

-- ---- tests

pub or_yes : (n : ℕ) (x : Bool) → n ≡ NONE → true ≡ (is_none n || x)
or_yes n x h = rw (eq-eqb n NONE h)

pub or_no : (n : ℕ) (x v : Bool) → (n ≡ NONE → ⊥) → v ≡ x → v ≡ (is_none n || x)
or_no n x v d e = rw (ne_eqb n NONE d) e

-- ---- what may stand there

pub allowed-choice : (tag n t g : ℕ) (v : Bool) → tag ≡ 2 → v ≡ container_among n t g → v ≡ allowed_by (kind_of tag) n t g
unfolding allowed_by kinds
allowed-choice tag n t g v e h = rw e h

pub allowed-divert : (tag n t g : ℕ) (v : Bool) → tag ≡ 4 → v ≡ (is_none t || inside_among n t) → v ≡ allowed_by (kind_of tag) n t g
unfolding allowed_by kinds
allowed-divert tag n t g v e h = rw e h

pub allowed-value : (tag n t g : ℕ) (v : Bool) → tag ≡ 13 → v ≡ inside_among n t → v ≡ allowed_by (kind_of tag) n t g
unfolding allowed_by kinds
allowed-value tag n t g v e h = rw e h

pub allowed-reference : (tag n t g : ℕ) (v : Bool) → tag ≡ 17 → v ≡ (is_none t || container_among n t g) → v ≡ allowed_by (kind_of tag) n t g
unfolding allowed_by kinds
allowed-reference tag n t g v e h = rw e h

-- a kind that has a target
abbrev aimed : Kind → Bool
aimed Choice = true
aimed Divert = true
aimed TargetValue = true
aimed Reference = true
aimed Container = false
aimed Command = false
aimed Glue = false
aimed Operator = false
aimed Tag = false
aimed BoolValue = false
aimed IntValue = false
aimed FloatValue = false
aimed StringValue = false
aimed ListValue = false
aimed PointerValue = false
aimed Assignment = false
aimed Void = false
aimed Unknown = false

four_or_not : ℕ → Bool
four_or_not t = eqb t 2 || eqb t 4 || eqb t 13 || eqb t 17 || not (aimed (kind_of t))

four_or_not_lem : first_of 19 (λ t. unless (four_or_not t) 1) ≡ 0
unfolding four_or_not kinds first_of unless ◌▸◌
four_or_not_lem = refl

not-aimed : (t : ℕ) → (t ≡ 2 → ⊥) → (t ≡ 4 → ⊥) → (t ≡ 13 → ⊥) → (t ≡ 17 → ⊥) → aimed (kind_of t) ≡ false
not-aimed t a b c d = side (dec_lt t 19)
  where
    side : Dec (t < 19) → aimed (kind_of t) ≡ false
    side (yes l) = below (passed (four_or_not t) 0 (first_all 19 (λ x. unless (four_or_not x) 1) four_or_not_lem t l))
      where
        below : four_or_not t ≡ true → aimed (kind_of t) ≡ false
        below p = unfold four_or_not in not-true (aimed (kind_of t)) (rw (ne_eqb t 2 a, ne_eqb t 4 b, ne_eqb t 13 c, ne_eqb t 17 d) at p)
    side (no l) = ap aimed (past-kinds t (omega arith))

aimless : (K : Kind) (n t g : ℕ) → aimed K ≡ false → false ≡ allowed_by K n t g
unfolding allowed_by
aimless Choice n t g e = absurd (false≢true (sym e))
aimless Divert n t g e = absurd (false≢true (sym e))
aimless TargetValue n t g e = absurd (false≢true (sym e))
aimless Reference n t g e = absurd (false≢true (sym e))
aimless Container n t g e = refl
aimless Command n t g e = refl
aimless Glue n t g e = refl
aimless Operator n t g e = refl
aimless Tag n t g e = refl
aimless BoolValue n t g e = refl
aimless IntValue n t g e = refl
aimless FloatValue n t g e = refl
aimless StringValue n t g e = refl
aimless ListValue n t g e = refl
aimless PointerValue n t g e = refl
aimless Assignment n t g e = refl
aimless Void n t g e = refl
aimless Unknown n t g e = refl

pub allowed-none : (tag n t g : ℕ) → (tag ≡ 2 → ⊥) → (tag ≡ 4 → ⊥) → (tag ≡ 13 → ⊥) → (tag ≡ 17 → ⊥) → false ≡ allowed_by (kind_of tag) n t g
allowed-none tag n t g a b c d = aimless (kind_of tag) n t g (not-aimed tag a b c d)

pub allowed-told : (s : Sections) (K : Kind) (t : ℕ) → allowed_by K (node_count s) t (tag_in s t) ≡ allowed s K t
unfolding allowed_by fields allowed_among
allowed-told s Choice t = tag_told s t
allowed-told s Divert t = refl
allowed-told s TargetValue t = refl
allowed-told s Reference t = rw (tag_told s t)
allowed-told s Container t = refl
allowed-told s Command t = refl
allowed-told s Glue t = refl
allowed-told s Operator t = refl
allowed-told s Tag t = refl
allowed-told s BoolValue t = refl
allowed-told s IntValue t = refl
allowed-told s FloatValue t = refl
allowed-told s StringValue t = refl
allowed-told s ListValue t = refl
allowed-told s PointerValue t = refl
allowed-told s Assignment t = refl
allowed-told s Void t = refl
allowed-told s Unknown t = refl

-- the place of the target by the tag
pub place_by_lem : (s : Sections) (tag t : ℕ) → allowed s (kind_of tag) t ≡ true → target_place (kind_of tag) ≡ place_by tag
unfolding schema
place_by_lem s tag t h = by (ℕ_discrete tag 2) (ℕ_discrete tag 4) (ℕ_discrete tag 13) (ℕ_discrete tag 17)
  where
    by : Dec (tag ≡ 2) → Dec (tag ≡ 4) → Dec (tag ≡ 13) → Dec (tag ≡ 17) → target_place (kind_of tag) ≡ place_by tag
    by (yes e) b c d = rw e
    by (no a) (yes e) c d = rw e
    by (no a) (no b) (yes e) d = rw e
    by (no a) (no b) (no c) (yes e) = rw e
    by (no a) (no b) (no c) (no d) = absurd (false≢true (allowed-none tag (node_count s) t (tag_in s t) a b c d ∙ allowed-told s (kind_of tag) t ∙ h))

-- ---- steps

pub step_same : (w : List ℕ) (old new : ℕ) → old ≡ new → 0 ≡ step_rule w old new
unfolding step_rule
step_same w old new e = rw (eq-eqb old new e)

module _ (w : List ℕ) (old new : ℕ) (d : old ≡ new → ⊥) (b : Bool) (f : b ≡ can_fall w old) where
  pub step_low : not b ≡ true → 27 ≡ step_rule w old new
  unfolding step_rule unless
  step_low h = rw (ne_eqb old new d, ← f, not-true b h)

  pub step_goes : not b ≡ false → (r : Bool) → r ≡ can_rise w new → r ≡ true → 0 ≡ step_rule w old new
  unfolding step_rule unless
  step_goes h r e q = rw (ne_eqb old new d, ← f, not-false b h, ← e, q)

  pub step-high : not b ≡ false → (r : Bool) → r ≡ can_rise w new → r ≡ false → 27 ≡ step_rule w old new
  unfolding step_rule unless
  step-high h r e q = rw (ne_eqb old new d, ← f, not-false b h, ← e, q)

pub fall_none : (w : List ℕ) (n : ℕ) → n ≡ NONE → w ≡ fallen w n
unfolding fallen
fall_none w n e = rw (eq-eqb n NONE e)

pub fall_one : (w : List ℕ) (n : ℕ) → (n ≡ NONE → ⊥) → set w n (get_or w n 0 - 1) ≡ fallen w n
unfolding fallen
fall_one w n d = rw (ne_eqb n NONE d)

pub rise-none : (w : List ℕ) (n : ℕ) → n ≡ NONE → w ≡ risen w n
unfolding risen
rise-none w n e = rw (eq-eqb n NONE e)

pub rise_one : (w : List ℕ) (n : ℕ) → (n ≡ NONE → ⊥) → set w n (get_or w n 0 + 1) ≡ risen w n
unfolding risen
rise_one w n d = rw (ne_eqb n NONE d)

pub steps-none : (w : List ℕ) (old new : ℕ) → old ≡ new → w ≡ stepped w old new
unfolding stepped
steps-none w old new e = rw (eq-eqb old new e)

pub steps_two : (w : List ℕ) (old new : ℕ) → (old ≡ new → ⊥) → risen (fallen w old) new ≡ stepped w old new
unfolding stepped
steps_two w old new d = rw (ne_eqb old new d)

module _ (w : List ℕ) (old new : ℕ) (p : Steps w old new) (d : old ≡ new → ⊥) where
  can_both : (can_fall w old ≡ true) × (can_rise w new ≡ true)
  unfolding step_rule
  can_both = both_true (can_fall w old) (can_rise w new) (passed _ 26 (rw (ne_eqb old new d) at p.rule))

  pub falls : Falls w old
  falls =
      record {
        there = p.old_there;
        can = λ q. low q (eqb-false (get_or w old 0) 0 (not-true (eqb (get_or w old 0) 0) (rw (ne_eqb old NONE q) at can_both.0)));
      }
    where
      low : (old ≡ NONE → ⊥) → (get_or w old 0 ≡ 0 → ⊥) → 0 < get_or w old 0
      low q z = omega arith

  pub rises : (w' : List ℕ) → w' ≡ fallen w old → Rises w' new
  unfolding fallen
  rises w' e =
      record {
        there = λ q. rw (e, by_length (is_none old)) (p.new_there q);
        can = λ q. rw (e, by_word (is_none old)) (ltb-true _ _ (rw (ne_eqb new NONE q) at can_both.1));
      }
    where
      by_length : (b : Bool) → length (cond b w (set w old (get_or w old 0 - 1))) ≡ length w
      by_length true = refl
      by_length false = length-set w old (get_or w old 0 - 1)

      by_word : (b : Bool) → get_or (cond b w (set w old (get_or w old 0 - 1))) new 0 ≡ get_or w new 0
      by_word true = refl
      by_word false = get_or-set_other w old new (get_or w old 0 - 1) 0 (λ q. d (sym q))

-- ---- the word written

pub put_fourth : (ws : List ℕ) (at tag t : ℕ) → tag ≡ 17 → set ws (at + 7) t ≡ set ws (at + (3 + place_by tag)) t
put_fourth ws at tag t e = rw (eq-eqb tag 17 e)

pub put_second : (ws : List ℕ) (at tag t : ℕ) → (tag ≡ 17 → ⊥) → set ws (at + 5) t ≡ set ws (at + (3 + place_by tag)) t
put_second ws at tag t d = rw (ne_eqb tag 17 d)
