-- The fields of each node of a written image are those of the draft's node.
use Prim.Native.Nat.{ℕ, ◌+◌, ◌<◌}
use mathlib.Core.Path.{◌≡◌, sym, ◌∙◌, subst}
use mathlib.Core.Logic.{⊎_elim}
use mathlib.Core.List.Memᴰ
use mathlib.Core.List.{List, [], ◌∷◌, Memᴰ}
use mathlib.Core.Bool.{true}
use native.Mathlib.Omega.{arith}
use Rattle.laws.specs.Lists.{flat_map}
use Rattle.laws.proofs.First.{both, passed}
use Rattle.laws.proofs.Flags.{both_true}
use Rattle.texts.specs.Text.{holds}
use Rattle.image.specs.Sections.{Sections, node_count, tag_of, f}
use Rattle.records.specs.Fields.{Field, text, optional, command, operator, node, optionalNode, container, optionalContainer, plain, at_most, children, named, payload, wrong}
use Rattle.records.specs.Records.{fields_at, payload_length_of, field_rule, first_field}
use Rattle.draft.specs.Numbering.{old_of}
use Rattle.draft_image.specs.Strings.{field_texts}
use Rattle.draft_image.specs.Written.{field_start, field_words}
use Rattle.draft_image.proofs.HeldTexts.{in_left, in_right, in_one}
use Rattle.draft_image.proofs.Blocks.{w}
use Rattle.written.proofs.Fields.{Given, old_in, Reads, ReadsAll, reads, start_is}
use Rattle.written.proofs.Rules.{suits, all_suit, suited}
use Rattle.written_views.specs.Views.{SameField}
use Rattle.written_views.proofs.Texts.{text_same, optional-same}
use Rattle.written_views.proofs.ByKind.{SameAll}
use Rattle.written_views.proofs.Lists.{list_same}

module _ {s : Sections} {order : List ℕ} {kept : List (List ℕ)} (g : Given s order kept) (j : ℕ) (h : j < node_count s) where
  abbrev t : Sections
  t = w s order kept

  abbrev i : ℕ
  i = old_of order j

  -- a field as it is written, of texts that are stored, where the draft's rule passes
  field_same : (x : Field) → suits (tag_of s i) x ≡ true → Reads g j (field_start x) (field_words s order kept i x)
      → ((y : List ℕ) → holds (field_texts s i x) y ≡ true → holds kept y ≡ true) → field_rule s i x ≡ 0 → SameField s t order i j x
  unfolding suits field_words field_texts field_rule
  field_same (text k) z r l p = text_same g (f s i k) (f s i (k + 1)) (f t j k) (f t j (k + 1)) (passed _ 9 p) (l _ (in_one _)) r.0 r.1.0
  field_same (optional k) z r l p = optional-same g (f s i k) (f s i (k + 1)) (f t j k) (f t j (k + 1)) (passed _ 9 p) l r.0 r.1.0
  field_same (command k) z r l p =
      text_same g (f s i k) (f s i (k + 1)) (f t j k) (f t j (k + 1)) (passed _ 9 (both _ _ p).0) (l _ (in_one _)) r.0 r.1.0
  field_same (operator k) z r l p =
      text_same g (f s i k) (f s i (k + 1)) (f t j k) (f t j (k + 1)) (passed _ 9 (both _ _ p).0) (l _ (in_one _)) r.0 r.1.0
  field_same (node k) z r l p = r.0
  field_same (optionalNode k) z r l p = r.0
  field_same (container k) z r l p = r.0
  field_same (optionalContainer k) z r l p = r.0
  field_same (plain k) z r l p = r.0
  field_same (at_most k n) z r l p = r.0
  field_same children z r l p = r.1.0
  field_same named z r l p = r.1.0
  field_same payload z r l p = list_same g j h z l (f t j 0) (f t j 1) (r.0 ∙ start_is g (payload_length_of s) j h) r.1.0
  field_same wrong z r l p = let q : ◌≡◌ {A = ℕ} 12 0 = p in omega arith

  all_same : (xs : List Field) → all_suit (tag_of s i) xs ≡ true → ReadsAll g j i xs
      → ((y : List ℕ) → holds (flat_map (field_texts s i) xs) y ≡ true → holds kept y ≡ true) → first_field s i xs ≡ 0
      → SameAll s t order i j xs
  unfolding all_suit flat_map first_field
  all_same [] z r l p = tt
  all_same (x ∷ xs) z r l p =
      let y = both_true (suits (tag_of s i) x) (all_suit (tag_of s i) xs) z in
      let q = both (field_rule s i x) (first_field s i xs) p in (
        field_same x y.0 r.0 (λ u m. l u (in_left (field_texts s i x) (flat_map (field_texts s i) xs) u m)) q.0,
        all_same xs y.1 r.1 (λ u m. l u (in_right (field_texts s i x) (flat_map (field_texts s i) xs) u m)) q.1,
      )

  pub fields-same : SameAll s t order i j (fields_at s i)
  fields-same = all_same (fields_at s i) (suited (tag_of s i)) (reads g j h) (g.stored.nodes j h) (g.taken.tables.fields i (old_in g j h))

  each_same : (xs : List Field) → SameAll s t order i j xs → (x : Field) → Memᴰ x xs → SameField s t order i j x
  each_same [] a x m = absurd (Memᴰ.not-nil m)
  each_same (y ∷ ys) a x m =
      ⊎_elim (λ e. subst (λ (z : Field). SameField s t order i j z) (sym e) a.0) (λ q. each_same ys a.1 x q) (Memᴰ.cases_cons m)

  pub each_field_same : (x : Field) → Memᴰ x (fields_at s i) → SameField s t order i j x
  each_field_same = each_same (fields_at s i) fields-same
