-- How long the header, the image, and a node's payload are.
use Prim.Native.Nat.{ℕ, ◌+◌, ◌*◌}
use mathlib.Core.Path.{◌≡◌, refl, ◌∙◌}
use mathlib.Core.List.{List, []}
use mathlib.Core.Bool.{Bool, true, false, cond}
use native.Mathlib.Omega.{arith}
use lib.ListN.{length, length-append}
use lib.Dec.{eqb}
use borrow.Author.Tests.{eqb-true}
use Rattle.laws.specs.Counted.{join_of}
use Rattle.words.specs.Words.{bytes_of}
use Rattle.words.proofs.Words.{length-bytes}
use Rattle.texts.specs.Text.{ascii}
use Rattle.image.specs.Header.{header_length, magic}
use Rattle.image.specs.Sections.{Sections, tag_of, f}
use Rattle.image.specs.Encoding.{section_out, start_of, body_of, header_with, image_of}
use Rattle.records.specs.Records.{payload_length_of, list_items, list_origins, fields_rule}
use Rattle.records.proofs.PassedRules.{payload-range}
use Rattle.draft_image.specs.Written.{list_item_out, list_origin_out, list_out, payload_out}
use Rattle.draft_image.proofs.Joins.{join_length, even_len}

-- ---- the header

pub head-length : (ink : ℕ) (v : Sections) (c : ℕ) → length (header_with ink v c) ≡ header_length
unfolding header_with magic ascii bytes_of join_of
head-length ink v c = refl

pub image-length : (ink : ℕ) (v : Sections) → length (image_of ink v) ≡ start_of v 8
unfolding image_of body_of start_of
image-length ink v =
    length-append (header_with ink v _) (join_of 8 (section_out v)) ∙ rw (head-length ink v _, join_length 8 (section_out v)) refl

-- ---- a list's payload

module _ (s : Sections) (order : List ℕ) (kept : List (List ℕ)) where
  pub list_length : (at : ℕ) → length (list_out s order kept at) ≡ 2 + list_items s at * 5 + list_origins s at * 2
  unfolding list_out
  list_length at =
      omega (
        arith,
        length-append (join_of (list_items s at) (list_item_out s order kept at)) (join_of (list_origins s at) (list_origin_out s order kept at)),
        even_len (list_items s at) 5 (list_item_out s order kept at) (λ m h. unfold list_item_out in refl),
        even_len (list_origins s at) 2 (list_origin_out s order kept at) (λ m h. unfold list_origin_out in refl),
      )

  -- as long as the node says, where its rules passed
  pub payload-length : (i : ℕ) → fields_rule s i ≡ 0 → length (payload_out s order kept i) ≡ payload_length_of s i
  unfolding payload_out payload_length_of
  payload-length i p = go (eqb (tag_of s i) 12) refl
    where
      go : (b : Bool) → eqb (tag_of s i) 12 ≡ b → length (cond b (bytes_of (list_out s order kept (f s i 0))) []) ≡ cond b (f s i 1) 0
      go true e =
          omega (
            arith,
            length-bytes (list_out s order kept (f s i 0)),
            list_length (f s i 0),
            (payload-range s i (eqb-true (tag_of s i) 12 e) p).1.exact,
          )
      go false e = refl
