-- What the code reads out of the bytes of nodes and index, in the terms of the rules.
use Prim.Native.Nat.{ℕ, ◌/◌}
use mathlib.Core.Path.{◌≡◌, refl, ap, ◌∙◌}
use mathlib.Core.List.{List}
use mathlib.Core.Bool.{Bool, true, false, ◌&&◌, ◌||◌, or-true}
use native.Mathlib.Omega.{arith}
use native.Mathlib.Nat.{zero-add}
use lib.ListN.{length}
use borrow.Author.Tests.{eq-eqb, ne_eqb}
use Rattle.laws.specs.Refusal.{unless, ◌▸◌, first_of}
use Rattle.words.specs.Words.{NONE, is_none}
use Rattle.words.proofs.Words.{length-words}
use Rattle.texts.specs.Text.{rising}
use Rattle.image.specs.declared.TextEntry.{TextEntry}
use Rattle.image.specs.Sections.{Sections, text_entry_size, part_at, good_in, inside_container}
use Rattle.image.specs.Entries.{text_entry_of, entry_text_from}
use Rattle.image.proofs.Entries.{index-entry}
use Rattle.index.specs.Paths.{no_name, fits}
use Rattle.index.specs.Index.{index_text, index_entry_rule, index_rule}
use Rattle.index.specs.Parts.{index_parts}
use Rattle.image.proofs.RisingTexts.{rising-like}

-- ---- names

pub name-empty : (at len : ℕ) → len ≡ 0 → no_name at len ≡ true
name-empty at len h = rw (eq-eqb len 0 h) (or-true (is_none at && is_none len))

pub name-none : (at len : ℕ) → len ≡ NONE → no_name at len ≡ is_none at
name-none at len h = rw h (by (is_none at))
  where
    by : (a : Bool) → ((a && true) || false) ≡ a
    by true = refl
    by false = refl

pub name-there : (at len : ℕ) → (len ≡ 0 → ⊥) → (len ≡ NONE → ⊥) → no_name at len ≡ false
name-there at len h g = rw (ne_eqb len 0 h, ne_eqb len NONE g) (by (is_none at))
  where
    by : (a : Bool) → ((a && false) || false) ≡ false
    by true = refl
    by false = refl

-- ---- entries

module _ (s : Sections) (ws : List ℕ) where
  pub index-texts : s.index ≡ ws → (j : ℕ) → rising (entry_text_from ws s.strings 0) j ≡ rising (index_text s) j
  unfolding entry_text_from
  index-texts e j = rising-like (entry_text_from ws s.strings 0) (index_text s) (λ k. rw (zero-add, index-entry s ws k e)) j

-- ---- rules by the answers of their tests

pub index_by : (s : Sections) (ws : List ℕ) (j : ℕ) (e : TextEntry) (good there rises fitting : Bool) → s.index ≡ ws → e ≡ text_entry_of ws j
    → good ≡ good_in s.strings e.offset e.len → there ≡ inside_container s e.value → rises ≡ rising (entry_text_from ws s.strings 0) j
    → fitting ≡ fits s e.value (part_at s.strings e.offset e.len)
    → index_entry_rule s j ≡ (unless good 10 ▸ unless there 9 ▸ unless rises 16 ▸ unless fitting 16)
unfolding index_entry_rule
index_by s ws j e good there rises fitting q r g t u m = rw (g, t, m, r, index-entry s ws j q, u, index-texts s ws q j)

-- an entry whose text is good and whose target is a container
pub index-past : (s : Sections) (ws : List ℕ) (j : ℕ) (e : TextEntry) (good there : Bool) → s.index ≡ ws → e ≡ text_entry_of ws j
    → good ≡ good_in s.strings e.offset e.len → there ≡ inside_container s e.value → good ≡ true → there ≡ true
    → index_entry_rule s j ≡ (unless (rising (entry_text_from ws s.strings 0) j) 16 ▸ unless (fits s e.value (part_at s.strings e.offset e.len)) 16)
unfolding unless ◌▸◌
index-past s ws j e good there q r g t x y =
    index_by s ws j e good there (rising (entry_text_from ws s.strings 0) j) (fits s e.value (part_at s.strings e.offset e.len)) q r g t refl refl ∙ rw (x, y)

-- ---- runs by the lengths of the bytes

pub index_run : (version : ℕ) (nodes index strings : List ℕ)
    → index_rule (index_parts version nodes index strings) ≡ first_of (length index / text_entry_size) (index_entry_rule (index_parts version nodes index strings))
unfolding index_rule
index_run version nodes index strings =
    ap (λ (n : ℕ). first_of n (index_entry_rule (index_parts version nodes index strings))) (omega (arith, length-words index))
