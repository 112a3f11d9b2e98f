-- The part of the image that a text's words bound is the text.
use Rattle.std.specs.Prelude.{None, Some}
use Prim.Native.Nat.{ℕ, ◌+◌, ◌*◌, ◌≤◌}
use mathlib.Core.Path.{◌≡◌, refl, sym, ◌∙◌}
use mathlib.Core.List.{List, [], ◌∷◌}
use mathlib.Core.Bool.{Bool, true, false, cond}
use Rattle.std.proofs.lemmas.Option.{none-some}
use native.Mathlib.Omega.{arith}
use lib.ListN.{length}
use lib.Dec.{leb}
use borrow.Author.Tests.{leb-true, leb-false}
use Rattle.laws.proofs.Flags.{both_true}
use Rattle.words.specs.Words.{NONE}
use Rattle.image.specs.declared.ImageView.{ImageView}
use Rattle.image.specs.Sections.{part_at, present}
use Rattle.image.specs.Header.{section_bytes, sections_by}
use Rattle.image.proofs.Parts.{part_of_part, section-inside, section-outside, section-length}
use Rattle.views.specs.declared.Span.{Span}
use Rattle.views.specs.View.{shown}
use Rattle.views.specs.Children.{text_query, shown_text}
use Rattle.answers.specs.AnswerWords.{part_answer}

empty : (l m : List ℕ) (a b len : ℕ) → len ≡ 0 → part_at l a len ≡ part_at m b len
unfolding part_at
empty l m a b len e = rw e

module _ (bs : List ℕ) (v : ImageView) (t : Span) where
  abbrev start : ℕ
  start = v.strings.offset + t.offset

  abbrev section : List ℕ
  section = section_bytes bs v.strings 1

  held_by : (b : Bool) → leb (v.strings.offset + v.strings.count * 1) (length bs) ≡ b → t.offset + t.len ≤ length section
      → part_at bs start t.len ≡ part_at section t.offset t.len
  held_by true e h =
      let k = leb-true (v.strings.offset + v.strings.count * 1) (length bs) e in
      let q : t.offset + t.len ≤ v.strings.count * 1 = rw (section-length bs v.strings 1 k) at h in
      rw (section-inside bs v.strings 1 k) (sym (part_of_part bs v.strings.offset (v.strings.count * 1) t.offset t.len q))
  held_by false e h =
      let k = leb-false (v.strings.offset + v.strings.count * 1) (length bs) e in
      let q : t.offset + t.len ≤ 0 = rw (section-outside bs v.strings 1 k) at h in
      let None : t.len ≡ 0 = omega arith in
      empty bs section start t.offset t.len None

  held : shown (length section) t.offset t.len ≡ true → part_at bs start t.len ≡ shown_text section t.offset t.len
  unfolding shown_text
  held h =
      let inside = leb-true (t.offset + t.len) (length section) (both_true (present t.offset t.len) _ h).1 in
      rw h (held_by (leb (v.strings.offset + v.strings.count * 1) (length bs)) refl inside)

  -- what a query for a text hands over bounds the text's part of the image
  pub text-held : (from len : ℕ) → part_answer (length bs) v.strings.offset (text_query (sections_by bs v) t) ≡ Some (from ∷ len ∷ [])
      → part_at bs from len ≡ shown_text (sections_by bs v).strings t.offset t.len
  unfolding text_query sections_by
  text-held from len e = shown_by (shown (length section) t.offset t.len) refl e
    where
      same : Some (start ∷ t.len ∷ []) ≡ Some (from ∷ len ∷ []) → part_at bs start t.len ≡ part_at bs from len
      same e =
          let one : start ≡ from = cc in
          let two : t.len ≡ len = cc in
          rw (one, two)

      fits_by : (a b : Bool) → cond a (cond b (Some (start ∷ t.len ∷ [])) None) None ≡ Some (from ∷ len ∷ []) → part_at bs start t.len ≡ part_at bs from len
      fits_by true true e = same e
      fits_by true false e = absurd (none-some _ e)
      fits_by false b e = absurd (none-some _ e)

      shown_by : (b : Bool) → shown (length section) t.offset t.len ≡ b
          → part_answer (length bs) v.strings.offset (cond b (Some t) None) ≡ Some (from ∷ len ∷ [])
          → part_at bs from len ≡ shown_text section t.offset t.len
      shown_by true h e = sym (fits_by (leb (start + t.len) (length bs)) (leb start NONE) e) ∙ held h
      shown_by false h e = absurd (none-some _ e)
