-- The list values of a written image are those of its draft.
use Rattle.std.specs.Prelude.{Some}
use Prim.Native.Nat.{ℕ, ◌+◌, ◌*◌, ◌<◌}
use mathlib.Core.Path.{◌≡◌, refl, sym, ap, ◌∙◌, subst}
use mathlib.Core.List.{List, [], ◌∷◌}
use mathlib.Core.Bool.{true}
use native.Mathlib.Omega.{arith}
use lib.ListN.{length}
use lib.Dec.{eqb}
use borrow.Author.Tests.{le-leb, lt-ltb}
use Rattle.laws.specs.Counted.{sum_of}
use Rattle.words.specs.Words.{word_at}
use Rattle.texts.specs.Text.{holds}
use Rattle.image.specs.Sections.{Sections, node_count, tag_of, f, text_at}
use Rattle.records.specs.Records.{payload_length_of, list_items, list_origins, list_item_word, list_origin_word}
use Rattle.draft.specs.Numbering.{old_of}
use Rattle.draft_image.specs.Strings.{text_if, list_texts}
use Rattle.draft_image.specs.Written.{list_item_out, list_origin_out}
use Rattle.views.specs.declared.Span.{Span}
use Rattle.views.specs.declared.ListEntry.{ListEntry}
use Rattle.views.specs.View.{signed, span, shown, optional_text}
use Rattle.views.specs.Lists.{list_part, item_entry_word, origin_entry_word, list_entry, list_origin}
use Rattle.promises.specs.Rules.{PayloadRight}
use Rattle.promises.proofs.Fields.{payload-right, right-text, right-optional}
use Rattle.promises.proofs.Views.{shown-right}
use Rattle.promises.proofs.Whole.{part-long, items_are, origins_are, item-word, origin-word}
use Rattle.draft_image.proofs.HeldTexts.{in_left, in_right, in_one}
use Rattle.draft_image.proofs.Blocks.{w}
use Rattle.written.proofs.Fields.{Given, old_in}
use Rattle.written.proofs.Payload.{list_right_lem}
use Rattle.written.proofs.Rules.{items-same, origins-same, item-words, origin-words, item-text, origin-text, list-kept}
use Rattle.written_views.specs.Views.{SameEntry, SameOrigin, SameList}
use Rattle.written_views.proofs.Texts.{text_same, optional-same}

-- ---- what the queries answer of a right payload

module _ (s : Sections) (at len : ℕ) (r : PayloadRight s at len) where
  abbrev part : List ℕ
  part = list_part s (span at len)

  abbrev entry_at : ℕ → ListEntry
  entry_at k =
      record {
        origin = optional_text (length s.strings) (list_item_word s at k 0) (list_item_word s at k 1);
        name = span (list_item_word s at k 2) (list_item_word s at k 3);
        value = signed (list_item_word s at k 4);
      }

  entry_found : (k : ℕ) → k < list_items s at → list_entry part s.strings k ≡ Some (entry_at k)
  unfolding list_entry
  entry_found k h =
      let word : (m : ℕ) → m < 5 → item_entry_word part k m ≡ list_item_word s at k m = λ m l. item-word s at len r k m h l in
      let shows : shown (length s.strings) (item_entry_word part k 2) (item_entry_word part k 3) ≡ true
      = rw (word 2 (omega arith), word 3 (omega arith)) (shown-right s _ _ (r.item-name k h)) in
      rw (
        le-leb (8 + k * 20 + 20) (length part) (omega (arith, part-long s at len r, r.exact)),
        lt-ltb k (word_at part 0) (omega (arith, items_are s at len r)),
        shows,
      )
      (λ u. Some
      (record {
        origin = optional_text (length s.strings) (word 0 (omega arith) u) (word 1 (omega arith) u);
        name = span (word 2 (omega arith) u) (word 3 (omega arith) u);
        value = signed (word 4 (omega arith) u);
      }))

  abbrev origin_at : ℕ → Span
  origin_at k = span (list_origin_word s at k 0) (list_origin_word s at k 1)

  origin-found : (k : ℕ) → k < list_origins s at → list_origin part s.strings k ≡ Some (origin_at k)
  unfolding list_origin
  origin-found k h =
      let word : (m : ℕ) → m < 2 → origin_entry_word part k m ≡ list_origin_word s at k m = λ m l. origin-word s at len r k m h l in
      let shows : shown (length s.strings) (origin_entry_word part k 0) (origin_entry_word part k 1) ≡ true
      = rw (word 0 (omega arith), word 1 (omega arith)) (shown-right s _ _ (r.origin k h)) in
      rw (
        le-leb (8 + word_at part 0 * 20 + k * 8 + 8) (length part) (omega (arith, part-long s at len r, r.exact, items_are s at len r)),
        lt-ltb k (word_at part 4) (omega (arith, origins_are s at len r)),
        shows,
      )
      (λ u. Some (span (word 0 (omega arith) u) (word 1 (omega arith) u)))

-- ---- the list value of the image's node j

module _ {s : Sections} {order : List ℕ} {kept : List (List ℕ)} (g : Given s order kept) (j : ℕ) (h : j < node_count s)
    (e : eqb (tag_of s (old_of order j)) 12 ≡ true) where
  abbrev t : Sections
  t = w s order kept

  -- where its payload starts in the draft, and in the image, and how long it is
  abbrev from : ℕ
  from = f s (old_of order j) 0

  abbrev to : ℕ
  to = sum_of j (λ m. payload_length_of s (old_of order m))

  abbrev size : ℕ
  size = f s (old_of order j) 1

  module _ (k : (x : List ℕ) → holds (list_texts s from) x ≡ true → holds kept x ≡ true) where
    draft-right : PayloadRight s from size
    draft-right = payload-right s from size (list_right_lem g (old_of order j) (old_in g j h) e)

    image-right : PayloadRight t to size
    image-right = payload-right t to size (list-kept g j h e k)

    entry-same : (m : ℕ) → m < list_items s from → SameEntry s t (span from size) (span to size) m
    unfolding list_item_out
    entry-same m q =
        let origin = text_if s (list_item_word s from m 0) (list_item_word s from m 1) in
        let name = text_at s (list_item_word s from m 2) (list_item_word s from m 3) in
        record {
          draft = entry_at s from size draft-right m;
          image = entry_at t to size image-right m;
          drafted = entry_found s from size draft-right m q;
          written = entry_found t to size image-right m (omega (arith, items-same g j h e));
          origin = optional-same g (list_item_word s from m 0) (list_item_word s from m 1) (list_item_word t to m 0) (list_item_word t to m 1)
              (right-optional s _ _ (draft-right.item-origin m q)) (λ x z. item-text g j h e k m q x (in_left origin (name ∷ []) x z))
              (item-words g j h e m 0 q (omega arith)) (item-words g j h e m 1 q (omega arith));
          name = text_same g (list_item_word s from m 2) (list_item_word s from m 3) (list_item_word t to m 2) (list_item_word t to m 3)
              (right-text s _ _ (draft-right.item-name m q)) (item-text g j h e k m q name (in_right origin (name ∷ []) name (in_one name)))
              (item-words g j h e m 2 q (omega arith)) (item-words g j h e m 3 q (omega arith));
          value = ap signed (item-words g j h e m 4 q (omega arith));
        }

    origin-same : (m : ℕ) → m < list_origins s from → SameOrigin s t (span from size) (span to size) m
    unfolding list_origin_out
    origin-same m q =
        record {
          draft = origin_at s from size draft-right m;
          image = origin_at t to size image-right m;
          drafted = origin-found s from size draft-right m q;
          written = origin-found t to size image-right m (omega (arith, origins-same g j h e));
          name = text_same g (list_origin_word s from m 0) (list_origin_word s from m 1) (list_origin_word t to m 0) (list_origin_word t to m 1)
              (right-text s _ _ (draft-right.origin m q)) (origin-text g j h e k m q)
              (origin-words g j h e m 0 q (omega arith)) (origin-words g j h e m 1 q (omega arith));
        }

    whole_same : SameList s t (span from size) (span to size)
    whole_same =
        record {
          drafted = draft-right.inside;
          written = image-right.inside;
          len = refl;
          items = items_are t to size image-right ∙ items-same g j h e ∙ sym (items_are s from size draft-right);
          origins = origins_are t to size image-right ∙ origins-same g j h e ∙ sym (origins_are s from size draft-right);
          item = λ m q. entry-same m (omega (arith, items_are s from size draft-right));
          origin = λ m q. origin-same m (omega (arith, origins_are s from size draft-right));
        }

    -- by the words that the node holds
    pub list_same : (a n : ℕ) → a ≡ to → n ≡ size → SameList s t (span from size) (span a n)
    list_same a n p q = subst (λ (x : Span). SameList s t (span from size) x) (λ u. span (sym p u) (sym q u)) whole_same
