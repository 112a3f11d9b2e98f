-- The work words suffice for every image that is read, so that a load answers by the image alone.
use Rattle.std.specs.Prelude.{Result, Ok, Err}
use Prim.Native.Nat.{ℕ, zero, suc, ◌≤◌, ◌<◌}
use mathlib.Core.Path.{◌≡◌, refl, sym, ap, ◌∙◌}
use mathlib.Core.List.{List}
use mathlib.Core.Bool.{Bool, cond}
use native.Mathlib.Omega.{arith}
use lib.ListN.{length}
use lib.Dec.{leb}
use borrow.Author.Tests.{le-leb, lt-leb}
use Rattle.laws.specs.Refusal.{unless, ◌▸◌}
use Rattle.laws.proofs.First.{first, second, pass}
use Rattle.image.specs.declared.ImageView.{ImageView}
use Rattle.image.specs.Header.{header_rule, view_of, sections_of}
use Rattle.image.proofs.OpenedHeader.{opens}
use Rattle.load.proofs.FirstSections.{first-sections}
use Rattle.load.specs.Load.{checksum_rule, sections_rule, load_rule, load_words, loaded_by, loaded_of}
use Rattle.load.proofs.Answers.{needed_is}
use Rattle.image_answer.specs.declared.Answer.TheVariants.{Accepted, Refused, Long}
use Rattle.image_answer.specs.Answer.{limit, most_work_words, image_rule, answer_by, answer_of}

-- there is a node
node_due : (bs : List ℕ) → header_rule bs ≡ 0 → 0 < (view_of bs).nodes.count
unfolding view_of
node_due bs h = (opens bs h).node

words-enough : (bs : List ℕ) → length bs ≤ limit → header_rule bs ≡ 0 → load_words (sections_of bs) ≤ most_work_words
words-enough bs l h =
    let o = opens bs h in
    let e = o.ends 2 (omega arith) in
    let f = first-sections bs in
    let n = needed_is bs (view_of bs) h refl in
    let d = node_due bs h in
    omega arith

enough : (bs : List ℕ) (work : ℕ) → length bs ≤ limit → most_work_words ≤ work → load_rule bs work ≡ image_rule bs
unfolding load_rule image_rule
enough bs work l w = by (header_rule bs) refl
  where
    rest : ℕ
    rest = sections_rule (sections_of bs)

    by : (r : ℕ) → header_rule bs ≡ r → (header_rule bs ▸ checksum_rule bs ▸ unless (leb (load_words (sections_of bs)) work) 7 ▸ rest) ≡ (header_rule bs ▸ checksum_rule bs ▸ rest)
    by zero e =
        let q = words-enough bs l e in
        ap (λ (x : ℕ). header_rule bs ▸ checksum_rule bs ▸ x) (second _ rest (pass _ 7 (le-leb (load_words (sections_of bs)) work (omega arith))))
    by (suc r) e = first _ _ r e ∙ sym (first _ _ r e)

-- ---- the answer

short : (bs : List ℕ) → length bs ≤ limit → answer_of bs ≡ answer_by (image_rule bs) (view_of bs)
unfolding answer_of
short bs l = ap (λ (b : Bool). cond b (answer_by (image_rule bs) (view_of bs)) Long) (le-leb (length bs) limit l)

pub long : (bs : List ℕ) → limit < length bs → Long ≡ answer_of bs
unfolding answer_of
long bs l = sym (ap (λ (b : Bool). cond b (answer_by (image_rule bs) (view_of bs)) Long) (lt-leb (length bs) limit l))

viewed_by : (r : ℕ) (u v : ImageView) → loaded_by r v ≡ Ok u → Accepted u.ink_version u.nodes.count ≡ answer_by r v
viewed_by zero u v e = let q : v ≡ u = cc in rw q refl
viewed_by (suc r) u v e = let z : ◌≡◌ {A = ℕ} 0 1 = cc in absurd (omega arith)

refused_by : (r k : ℕ) (v : ImageView) → loaded_by r v ≡ Err k → Refused k ≡ answer_by r v
refused_by zero k v e = let z : ◌≡◌ {A = ℕ} 0 1 = cc in absurd (omega arith)
refused_by (suc r) k v e = let q : suc r ≡ k = cc in rw q refl

by_image : (bs : List ℕ) (work : ℕ) (a : Result ImageView ℕ) → length bs ≤ limit → most_work_words ≤ work → a ≡ loaded_of bs work → loaded_by (image_rule bs) (view_of bs) ≡ a
unfolding loaded_of
by_image bs work a l w e = ap (λ (r : ℕ). loaded_by r (view_of bs)) (sym (enough bs work l w)) ∙ sym e

pub viewed : (bs : List ℕ) (work : ℕ) (a : Result ImageView ℕ) (u : ImageView) → length bs ≤ limit → most_work_words ≤ work → a ≡ loaded_of bs work → a ≡ Ok u → Accepted u.ink_version u.nodes.count ≡ answer_of bs
viewed bs work a u l w e q = viewed_by (image_rule bs) u (view_of bs) (by_image bs work a l w e ∙ q) ∙ sym (short bs l)

pub refused : (bs : List ℕ) (work : ℕ) (a : Result ImageView ℕ) (k : ℕ) → length bs ≤ limit → most_work_words ≤ work → a ≡ loaded_of bs work → a ≡ Err k → Refused k ≡ answer_of bs
refused bs work a k l w e q = refused_by (image_rule bs) k (view_of bs) (by_image bs work a l w e ∙ q) ∙ sym (short bs l)
