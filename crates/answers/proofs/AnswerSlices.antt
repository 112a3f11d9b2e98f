-- Words put one by one into a lent slice.
use Rattle.std.specs.Prelude.{None, Option, Some}
use Prim.Native.Nat.{ℕ, ◌+◌, ◌≤◌, ◌<◌}
use mathlib.Core.Path.{◌≡◌, sym, ap, ◌∙◌}
use mathlib.Core.List.{List, [], ◌∷◌, ◌++◌}
use mathlib.Core.Bool.{Bool, cond}
use lib.ListN.{length, drop}
use borrow.Author.Tests.{le-leb, lt-leb}
use lib.Signed.{mag}
use mir.Val.{to_z, of_z}
use mir.Syntax.{w32}
use Rattle.words.specs.Words.{NONE, word_at}
use Rattle.views.specs.declared.Span.{Span}
use Rattle.lookups.specs.declared.ListItem.{ListItem}
use Rattle.answers.specs.AnswerWords.{Answered, number_of, answer_after, unsigned, count_words, found_item_words, part_words, list_count_words}
use Rattle.answers.proofs.Bits.{field_bits}

-- ---- an answer in a lent slice

module _ (ws xs : List ℕ) where
  pub fitting : length ws ≤ length xs → (now : List ℕ) → now ≡ ws ++ drop (length ws) xs → Answered (Some ws) xs now 0
  unfolding number_of answer_after
  fitting h now e =
      let t = le-leb (length ws) (length xs) h in
      record {
        number = sym (ap (λ (b : Bool). cond b 0 18) t);
        written = e ∙ sym (ap (λ (b : Bool). cond b (ws ++ drop (length ws) xs) xs) t);
      }

  pub too_short : length xs < length ws → Answered (Some ws) xs xs 18
  unfolding number_of answer_after
  too_short h =
      let t = lt-leb (length ws) (length xs) h in
      record { number = sym (ap (λ (b : Bool). cond b 0 18) t); written = sym (ap (λ (b : Bool). cond b (ws ++ drop (length ws) xs) xs) t) }

-- no words: 18, and the slice as it was
pub unanswered : (o : Option (List ℕ)) (xs : List ℕ) → None ≡ o → Answered o xs xs 18
unfolding number_of answer_after
unanswered o xs e =
    record { number = ap (λ (p : Option (List ℕ)). number_of p (length xs)) e; written = ap (λ (p : Option (List ℕ)). answer_after p xs) e }

-- an answer is that of equal words
pub answered_as : (p o : Option (List ℕ)) (xs now : List ℕ) (r : ℕ) → p ≡ o → Answered p xs now r → Answered o xs now r
answered_as p o xs now r e h =
    record {
      number = h.number ∙ ap (λ (q : Option (List ℕ)). number_of q (length xs)) e;
      written = h.written ∙ ap (λ (q : Option (List ℕ)). answer_after q xs) e;
    }

-- ---- numbers that a word holds

pub past-none : (n : ℕ) → NONE < n → None ≡ count_words n
past-none n h = sym (ap (λ (b : Bool). cond b (Some (n ∷ [])) None) (lt-leb n NONE h))

pub count-some : (n : ℕ) → n ≤ NONE → Some (n ∷ []) ≡ count_words n
count-some n h = sym (ap (λ (b : Bool). cond b (Some (n ∷ [])) None) (le-leb n NONE h))

module _ (i : ListItem) where
  pub definition-past : NONE < i.definition → None ≡ found_item_words i
  definition-past h = rw (lt-leb i.definition NONE h)

  pub item-past : i.definition ≤ NONE → NONE < i.item → None ≡ found_item_words i
  item-past k h = rw (le-leb i.definition NONE k, lt-leb i.item NONE h)

  pub item-some : i.definition ≤ NONE → i.item ≤ NONE → (v : ℕ) → mag i.value < 2147483648 → v ≡ unsigned (to_z w32 (of_z w32 i.value))
      → Some (i.definition ∷ i.item ∷ v ∷ []) ≡ found_item_words i
  item-some k h v small e = rw (le-leb i.definition NONE k, le-leb i.item NONE h, field_bits i.value v small e)

module _ (bytes section : ℕ) (t : Span) where
  pub outside : bytes < section + t.offset + t.len → None ≡ part_words bytes section t
  outside h = rw (lt-leb (section + t.offset + t.len) bytes h)

  pub past : section + t.offset + t.len ≤ bytes → NONE < section + t.offset → None ≡ part_words bytes section t
  past h k = rw (le-leb (section + t.offset + t.len) bytes h, lt-leb (section + t.offset) NONE k)

  pub part-some : section + t.offset + t.len ≤ bytes → section + t.offset ≤ NONE → Some ((section + t.offset) ∷ t.len ∷ []) ≡ part_words bytes section t
  part-some h k = rw (le-leb (section + t.offset + t.len) bytes h, le-leb (section + t.offset) NONE k)

-- ---- counts of a list value

module _ (payload : List ℕ) where
  pub no_counts : length payload < 8 → None ≡ list_count_words payload
  no_counts h = rw (lt-leb 8 (length payload) h)

  pub counts_some : 8 ≤ length payload → (a b : ℕ) → a ≡ word_at payload 0 → b ≡ word_at payload 4 → Some (a ∷ b ∷ []) ≡ list_count_words payload
  counts_some h a b p q = rw (le-leb 8 (length payload) h, p, q)
