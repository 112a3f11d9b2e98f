-- The bytes of an image give back its sections, and break none of the rules 1 to 6.
use Prim.Native.Nat.{ℕ, zero, suc, ◌+◌, ◌*◌, ◌^◌, ◌≤◌, ◌<◌}
use mathlib.Core.Path.{◌≡◌, refl, sym, ap, ◌∙◌}
use mathlib.Core.List.{List, ◌++◌}
use mathlib.Core.Bool.{true}
use native.Mathlib.Omega.{arith}
use native.Mathlib.Nat.{le_trans, mul-le-mul_left}
use lib.ListN.{length, get_or, take}
use lib.Seq.{drop-append-add}
use borrow.Author.Tests.{eq-eqb, le-leb, ne_eqb}
use Rattle.laws.specs.Counted.{sum_of, join_of}
use Rattle.laws.specs.Lists.{Below}
use Rattle.laws.proofs.First.{pass, then}
use Rattle.laws.proofs.Flags.{all_of_lem}
use Rattle.laws.proofs.Members.{and-true, sum_ext}
use Rattle.words.specs.Words.{word_at, words_of, bytes_of}
use Rattle.words.proofs.Words.{word_back, words_of_bytes, length-bytes}
use Rattle.texts.specs.Text.{ascii, order_of, same}
use Rattle.checksum.specs.Crc.{checksum_of}
use Rattle.checksum.proofs.Checksums.{checksum_lt}
use Rattle.image.specs.Sections.{Sections, node_words, text_entry_words, definition_words, part_at, node_count, named_count, definition_count, item_count, index_count}
use Rattle.image.specs.Header.{magic, header_length, version, section_at, view_of, section_bytes, sections_by, sections_of, sizes, start_by, section_right, laid_out, ink_right, header_rule, checksum_at, ink_version_at, length_at, version_at}
use Rattle.image.specs.Encoding.{count_of, section_out, start_of, body_of, header_with, image_of}
use Rattle.image.proofs.Widths.{words-some, size-words}
use Rattle.load.specs.Load.{checksum_rule}
use Rattle.draft_image.proofs.Joins.{sum_below, join_part}
use Rattle.draft_image.proofs.Lengths.{head-length, image-length}
use Rattle.written.proofs.Lists.{not_of}

-- one of eight
pub eight : (P : ℕ → Type 0) → P 0 → P 1 → P 2 → P 3 → P 4 → P 5 → P 6 → P 7 → (k : ℕ) → k < 8 → P k
eight P a b c d e f g h zero q = a
eight P a b c d e f g h (suc zero) q = b
eight P a b c d e f g h (suc (suc zero)) q = c
eight P a b c d e f g h (suc (suc (suc zero))) q = d
eight P a b c d e f g h (suc (suc (suc (suc zero)))) q = e
eight P a b c d e f g h (suc (suc (suc (suc (suc zero))))) q = f
eight P a b c d e f g h (suc (suc (suc (suc (suc (suc zero)))))) q = g
eight P a b c d e f g h (suc (suc (suc (suc (suc (suc (suc zero))))))) q = h
eight P a b c d e f g h (suc (suc (suc (suc (suc (suc (suc (suc k)))))))) q = absurd (omega arith)

-- sections of whole entries, whose words are words and whose bytes fit an image
pub record WholeSections (s : Sections) : Type 0 where
  pub versioned : s.version ≡ version
  pub some : zero < node_count s
  pub nodes : length s.nodes ≡ node_count s * node_words s.version
  pub named : length s.named ≡ named_count s * text_entry_words
  pub definitions : length s.definitions ≡ definition_count s * definition_words
  pub items : length s.items ≡ item_count s * text_entry_words
  pub index : length s.index ≡ index_count s * text_entry_words
  pub node-words : Below (2 ^ 32) s.nodes
  pub child-words : Below (2 ^ 32) s.children
  pub named-words : Below (2 ^ 32) s.named
  pub definition-words : Below (2 ^ 32) s.definitions
  pub item-words : Below (2 ^ 32) s.items
  pub index-words : Below (2 ^ 32) s.index
  pub fits : start_of s 8 < 2 ^ 32

-- ---- lengths

module _ (ink : ℕ) (s : Sections) (o : WholeSections s) (small : ink < 2 ^ 32) where
  section-size : (k : ℕ) → k < 8 → count_of s k * get_or (sizes s.version) k 0 ≡ length (section_out s k)
  unfolding count_of section_out sizes
  section-size =
      eight (λ k. count_of s k * get_or (sizes s.version) k 0 ≡ length (section_out s k))
      (omega (arith, length-bytes s.nodes, o.nodes, size-words (node_count s) s.version)) (omega (arith, length-bytes s.children))
      (omega (arith, length-bytes s.named, o.named)) (omega (arith, length-bytes s.definitions, o.definitions))
      (omega (arith, length-bytes s.items, o.items)) (omega (arith, length-bytes s.index, o.index)) (omega arith) (omega arith)

  section_end : (k : ℕ) → k < 8 → start_of s k + length (section_out s k) ≤ start_of s 8
  unfolding start_of
  section_end k h = omega (arith, sum_below k 8 (λ j. length (section_out s j)) h)

  start_small : (k : ℕ) → k < 8 → start_of s k < 2 ^ 32
  start_small k h = omega (arith, section_end k h, o.fits)

  count_small : (k : ℕ) → k < 8 → count_of s k < 2 ^ 32
  unfolding sizes
  count_small =
      eight (λ k. count_of s k < 2 ^ 32)
      (omega (
        arith,
        section-size 0 (omega arith),
        section_end 0 (omega arith),
        o.fits,
        size-words (count_of s 0) s.version,
        mul-le-mul_left (count_of s 0) (words-some s.version),
      ))
      (omega (arith, section-size 1 (omega arith), section_end 1 (omega arith), o.fits))
      (omega (arith, section-size 2 (omega arith), section_end 2 (omega arith), o.fits))
      (omega (arith, section-size 3 (omega arith), section_end 3 (omega arith), o.fits))
      (omega (arith, section-size 4 (omega arith), section_end 4 (omega arith), o.fits))
      (omega (arith, section-size 5 (omega arith), section_end 5 (omega arith), o.fits))
      (omega (arith, section-size 6 (omega arith), section_end 6 (omega arith), o.fits))
      (omega (arith, section-size 7 (omega arith), section_end 7 (omega arith), o.fits))

  -- ---- the header's words, whatever checksum c and bytes b follow

  module _ (c : ℕ) (b : List ℕ) where
    abbrev bytes : List ℕ
    bytes = header_with ink s c ++ b

    offset_with : (k : ℕ) → k < 8 → word_at bytes (20 + 8 * k) ≡ start_of s k
    unfolding word_at header_with magic ascii bytes_of join_of
    offset_with =
        eight (λ k. word_at bytes (20 + 8 * k) ≡ start_of s k)
        (word_back (start_of s 0) (start_small 0 (omega arith))) (word_back (start_of s 1) (start_small 1 (omega arith)))
        (word_back (start_of s 2) (start_small 2 (omega arith))) (word_back (start_of s 3) (start_small 3 (omega arith)))
        (word_back (start_of s 4) (start_small 4 (omega arith))) (word_back (start_of s 5) (start_small 5 (omega arith)))
        (word_back (start_of s 6) (start_small 6 (omega arith))) (word_back (start_of s 7) (start_small 7 (omega arith)))

    count_with : (k : ℕ) → k < 8 → word_at bytes (24 + 8 * k) ≡ count_of s k
    unfolding word_at header_with magic ascii bytes_of join_of
    count_with =
        eight (λ k. word_at bytes (24 + 8 * k) ≡ count_of s k)
        (word_back (count_of s 0) (count_small 0 (omega arith))) (word_back (count_of s 1) (count_small 1 (omega arith)))
        (word_back (count_of s 2) (count_small 2 (omega arith))) (word_back (count_of s 3) (count_small 3 (omega arith)))
        (word_back (count_of s 4) (count_small 4 (omega arith))) (word_back (count_of s 5) (count_small 5 (omega arith)))
        (word_back (count_of s 6) (count_small 6 (omega arith))) (word_back (count_of s 7) (count_small 7 (omega arith)))

    -- magic, version, ink version, total length, checksum
    words_with : c < 2 ^ 32
        → (same (take 8 bytes) magic ≡ true) × (word_at bytes version_at ≡ s.version) × (word_at bytes ink_version_at ≡ ink) × (word_at bytes length_at ≡ start_of s 8) × (word_at bytes 84 ≡ c)
    unfolding word_at header_with magic ascii bytes_of join_of order_of same
    words_with q = (refl, word_back s.version (omega (arith, o.versioned)), word_back ink small, word_back (start_of s 8) o.fits, word_back c q)

    -- the checksum does not see itself
    sum_with : checksum_of bytes ≡ checksum_of (header_with ink s 0 ++ b)
    unfolding checksum_of header_with magic ascii bytes_of join_of
    sum_with = refl

  -- section k stands behind the header and the sections before it
  found_with : (c k : ℕ) → k < 8 → part_at (header_with ink s c ++ body_of s) (start_of s k) (length (section_out s k)) ≡ section_out s k
  unfolding start_of body_of part_at
  found_with c k h =
      ap (take (length (section_out s k))) (rw (← head-length ink s c) (drop-append-add (header_with ink s c) (join_of 8 (section_out s)) (sum_of k (λ j. length (section_out s j)))))
      ∙ join_part 8 k (section_out s) h

  -- ---- the words of the image

  offset_is : (k : ℕ) → k < 8 → (section_at (image_of ink s) k).offset ≡ start_of s k
  unfolding image_of
  offset_is k h = offset_with _ (body_of s) k h

  count_is : (k : ℕ) → k < 8 → (section_at (image_of ink s) k).count ≡ count_of s k
  unfolding image_of
  count_is k h = count_with _ (body_of s) k h

  image-words : (same (take 8 (image_of ink s)) magic ≡ true) × (word_at (image_of ink s) 8 ≡ s.version) × (word_at (image_of ink s) 12 ≡ ink)
      × (word_at (image_of ink s) length_at ≡ start_of s 8) × (word_at (image_of ink s) checksum_at ≡ checksum_of (image_of ink s))
  unfolding image_of
  image-words =
      let c = checksum_of (header_with ink s 0 ++ body_of s) in
      let ws = words_with c (body_of s) (checksum_lt (header_with ink s 0 ++ body_of s)) in
      (ws.0, ws.1, ws.2, ws.3, ws.4 ∙ sym (sum_with c (body_of s)))

  -- ---- the sections of the image

  section-found : (k : ℕ) → k < 8 → part_at (image_of ink s) (start_of s k) (length (section_out s k)) ≡ section_out s k
  unfolding image_of
  section-found k h = found_with _ k h

  section-bytes : (k : ℕ) → k < 8 → section_bytes (image_of ink s) (section_at (image_of ink s) k) (get_or (sizes (word_at (image_of ink s) 8)) k 0) ≡ section_out s k
  unfolding section_bytes
  section-bytes k h =
      rw (
        image-words.1,
        offset_is k h,
        count_is k h,
        section-size k h,
        le-leb (start_of s k + length (section_out s k)) (length (image_of ink s)) (omega (arith, section_end k h, image-length ink s)),
      )
      (section-found k h)

  pub round_trip : sections_of (image_of ink s) ≡ s
  round_trip =
      unfold sections_by view_of section_out sizes in (λ i. record {
        version = image-words.1 i;
        nodes = (ap words_of (section-bytes 0 (omega arith)) ∙ words_of_bytes s.nodes o.node-words) i;
        children = (ap words_of (section-bytes 1 (omega arith)) ∙ words_of_bytes s.children o.child-words) i;
        named = (ap words_of (section-bytes 2 (omega arith)) ∙ words_of_bytes s.named o.named-words) i;
        definitions = (ap words_of (section-bytes 3 (omega arith)) ∙ words_of_bytes s.definitions o.definition-words) i;
        items = (ap words_of (section-bytes 4 (omega arith)) ∙ words_of_bytes s.items o.item-words) i;
        index = (ap words_of (section-bytes 5 (omega arith)) ∙ words_of_bytes s.index o.index-words) i;
        payload = section-bytes 6 (omega arith) i;
        strings = section-bytes 7 (omega arith) i;
      })

  -- ---- the rules

  start_by_lem : (k : ℕ) → k ≤ 8 → start_by (image_of ink s) k ≡ start_of s k
  unfolding start_by start_of
  start_by_lem k h =
      ap (λ (n : ℕ). header_length + n)
      (sum_ext k (λ j. (section_at (image_of ink s) j).count * get_or (sizes (word_at (image_of ink s) 8)) j 0) (λ j. length (section_out s j))
      (λ j q. rw (image-words.1, count_is j (le_trans q h)) (section-size j (le_trans q h))))

  start-next : (k : ℕ) → start_of s (suc k) ≡ start_of s k + length (section_out s k)
  unfolding start_of sum_of
  start-next k = omega arith

  first_count : count_of s 0 ≡ node_count s
  unfolding count_of
  first_count = refl

  laid_out_lem : laid_out (image_of ink s) ≡ true
  unfolding laid_out section_right
  laid_out_lem =
      and-true _ _
      (and-true _ _
      (all_of_lem 8 _ (λ k h. and-true _ _ (eq-eqb _ _ (offset_is k h ∙ sym (start_by_lem k (omega arith))))
      (le-leb (start_by (image_of ink s) (suc k)) (length (image_of ink s)) (omega (arith, start_by_lem (suc k) h, start-next k, section_end k h, image-length ink s)))))
      (eq-eqb _ _ (start_by_lem 8 (omega arith) ∙ sym (image-length ink s))))
      (not_of _ (ne_eqb (section_at (image_of ink s) 0).count 0 (λ e. omega (arith, count_is 0 (omega arith), first_count, o.some))))

  pub header-passes : ink_right ink ≡ true → header_rule (image_of ink s) ≡ 0
  unfolding header_rule
  header-passes h =
      then _ _ (pass _ _ (and-true _ _ (le-leb header_length (length (image_of ink s)) (omega (arith, image-length ink s, over))) image-words.0))
      (then _ _ (pass _ _ (eq-eqb _ _ (image-words.1 ∙ o.versioned)))
      (then _ _ (pass _ _ (ap ink_right image-words.2 ∙ h))
      (then _ _ (pass _ _ (eq-eqb _ _ (image-words.3 ∙ sym (image-length ink s))))
      (pass _ _ laid_out_lem))))
    where
      over : header_length ≤ start_of s 8
      over = unfold start_of in omega arith

  pub checksum-passes : checksum_rule (image_of ink s) ≡ 0
  unfolding checksum_rule
  checksum-passes = pass _ _ (eq-eqb _ _ image-words.4)
