-- Every draft that the writer takes is written as an image that a load accepts, and what that image holds.
use Prim.Native.Nat.{ℕ, ◌^◌, ◌≤◌, ◌<◌}
use mathlib.Core.Path.{◌≡◌, refl, sym, ap, ◌∙◌, subst}
use mathlib.Core.List.{List}
use mathlib.Core.Bool.{true}
use native.Mathlib.Omega.{arith}
use lib.ListN.{length}
use lib.Dec.{leb}
use borrow.Author.Tests.{eq-eqb, le-leb, leb-true}
use Rattle.laws.proofs.First.{pass, then, first_of_lem}
use Rattle.laws.proofs.Flags.{both_true}
use Rattle.laws.proofs.Members.{and-true}
use Rattle.words.specs.Words.{NONE}
use Rattle.image.specs.Sections.{Sections, node_count}
use Rattle.image.specs.Header.{version, ink_right, header_rule, sections_of, first_ink_version, last_ink_version}
use Rattle.image.specs.Encoding.{image_of}
use Rattle.records.specs.Records.{node_rule}
use Rattle.index.specs.Paths.{canonical_path}
use Rattle.load.specs.Load.{checksum_rule, leftover_rule, records_rule, sections_rule, load_words, load_rule}
use Rattle.draft.specs.Numbering.{numbering}
use Rattle.draft_image.specs.Strings.{stored_texts}
use Rattle.draft_image.specs.Written.{written}
use Rattle.draft_image.specs.Encode.{image_for, encode_rule}
use Rattle.written.specs.Written.{DraftWords, WrittenLoads, WrittenAccepted, HeaderPasses, RoundTrip, SamePaths}
use Rattle.draft_image.proofs.Lengths.{image-length}
use Rattle.written.proofs.Header.{WholeSections, round_trip, header-passes, checksum-passes}
use Rattle.written.proofs.Draft.{taken, numbered, ink_taken, image-fits}
use Rattle.written.proofs.Texts.{stored}
use Rattle.draft_image.proofs.Blocks.{w}
use Rattle.written.proofs.Fields.{Given, roomy, counted}
use Rattle.written.proofs.Rules.{root_kept, node_kept, used_up_lem}
use Rattle.written.proofs.Tree.{tree-kept}
use Rattle.written.proofs.Paths.{path-same}
use Rattle.written.proofs.Index.{index-passes, containers-kept}
use Rattle.written.proofs.Definitions.{definitions-pass}
use Rattle.written.proofs.Words.{whole}

module _ {s : Sections} {order : List ℕ} {kept : List (List ℕ)} (g : Given s order kept) where
  abbrev v : Sections
  v = w s order kept

  -- ---- rows 8 to 17

  pub sections-pass : sections_rule v ≡ 0
  unfolding sections_rule records_rule leftover_rule
  sections-pass =
      then _ _
      (then _ _ (pass _ 8 (root_kept g))
      (then _ _ (first_of_lem (node_count v) (node_rule v) (λ j h. node_kept g j (omega (arith, counted g))))
      (pass _ 13 (and-true _ _ (used_up_lem g) (eq-eqb _ _ (containers-kept g))))))
      (then _ _ (tree-kept g) (then _ _ (index-passes g) (definitions-pass g)))

-- ---- the theorems

module _ (ink : ℕ) (s : Sections) (work room : ℕ) (two : s.version ≡ version) (words : DraftWords s) (p : encode_rule ink s work room ≡ 0) where
  abbrev order : List ℕ
  order = numbering s

  abbrev kept : List (List ℕ)
  kept = stored_texts s order

  same_one : written s ≡ w s order kept
  unfolding written w
  same_one = refl

  image : image_for ink s ≡ image_of ink (w s order kept)
  unfolding image_for
  image = ap (image_of ink) same_one

  fits : length (image_of ink (w s order kept)) ≤ NONE
  fits = subst (λ (bs : List ℕ). length bs ≤ NONE) image (image-fits ink s work room p)

  pub given : Given s order kept
  given =
      let t = taken ink s work room p in
      record {
        words = words;
        taken = t;
        numbered = numbered ink s work room p;
        stored = stored s order;
        room = roomy ink (w s order kept) fits;
      }

  right : ink_right ink ≡ true
  right = ink_taken ink s work room p

  small : ink < 2 ^ 32
  small = omega (arith, leb-true ink last_ink_version (both_true (leb first_ink_version ink) (leb ink last_ink_version) right).1)

  all_whole : WholeSections (w s order kept)
  all_whole = whole given two (omega (arith, image-length ink (w s order kept), fits))

  pub back : sections_of (image_for ink s) ≡ w s order kept
  back = ap sections_of image ∙ round_trip ink (w s order kept) all_whole small

  header : header_rule (image_for ink s) ≡ 0
  header = ap header_rule image ∙ header-passes ink (w s order kept) all_whole small right

  checksum : checksum_rule (image_for ink s) ≡ 0
  checksum = ap checksum_rule image ∙ checksum-passes ink (w s order kept) all_whole small

  sections : sections_rule (sections_of (image_for ink s)) ≡ 0
  sections = ap sections_rule back ∙ sections-pass given

pub written-loads : WrittenLoads
unfolding load_rule
written-loads ink s work room two words p enough h =
    then _ _ (header ink s work room two words p)
    (then _ _ (checksum ink s work room two words p) (then _ _ (pass _ 7 (le-leb (load_words (sections_of (image_for ink s))) enough h)) (sections ink s work room two words p)))

pub written-accepted : WrittenAccepted
written-accepted ink s work room two words p =
    then _ _ (header ink s work room two words p) (then _ _ (checksum ink s work room two words p) (sections ink s work room two words p))

pub header-right : HeaderPasses
header-right ink s work room two words p = header ink s work room two words p

pub sections-back : RoundTrip
sections-back ink s work room two words p = back ink s work room two words p ∙ sym (same_one ink s work room two words p)

pub same-paths : SamePaths
same-paths ink s work room two words p j h c =
    ap (λ (v : Sections). canonical_path v j) (back ink s work room two words p) ∙ path-same (given ink s work room two words p) j h c
