-- The bytes of a header, by counts; the checksum put into an image; sections one after the other are the image's body.
use Prim.Native.Nat.{ℕ, suc, ◌+◌, ◌*◌, ◌≤◌, ◌<◌}
use mathlib.Core.Path.{◌≡◌, refl, sym, ap, ◌∙◌}
use mathlib.Core.List.{List, [], ◌∷◌, ◌++◌, append_assoc}
use native.Mathlib.Omega.{arith}
use native.Mathlib.Numerals.{add-one}
use mir.Syntax.{w32}
use mir.Val.{Fits}
use lib.ListN.{length, get_or, take, drop, set, length-set}
use lib.Seq.{take-suc, drop-cons, set_at, append_snoc, length-take-le}
use Rattle.laws.specs.Counted.{join_of, sum_of}
use Rattle.words.specs.Words.{bytes4, bytes_of, NONE}
use Rattle.words.proofs.Words.{length-bytes}
use Rattle.texts.specs.Text.{ascii}
use Rattle.checksum.specs.Crc.{checksum_of}
use Rattle.image.specs.Header.{magic, header_length, version_at, checksum_at}
use Rattle.image.specs.Sections.{Sections, node_size, node_count, child_size, text_entry_size, definition_size}
use Rattle.image.specs.Encoding.{count_of, section_out, start_of, body_of, header_with, image_of}
use Rattle.words.specs.Output.{over, put_at}
use Rattle.words.proofs.FilledOutput.{more, front_is, filled-front}
use Rattle.image.specs.declared.EntryCounts.{EntryCounts}
use Rattle.image.specs.Counted.{length_by, CountsOf}
use Rattle.image.proofs.Widths.{size-words, nodes-fewer, count_of_lem}

-- ---- a list that is copied over the start of another

pub copy_next : (m o : List ℕ) (i : ℕ) → i < length m → i < length o → set (take i m ++ drop i o) i (get_or m i 0) ≡ take (i + 1) m ++ drop (i + 1) o
copy_next m o i h k =
    rw (add-one, drop-cons o i 0 k, take-suc m i 0 h)
    (set_at (take i m) (get_or o i 0) (drop (suc i) o) (get_or m i 0) i (length-take-le i m (omega arith)) ∙ sym (append_snoc (take i m) (get_or m i 0) (drop (suc i) o)))

-- the magic, byte by byte
pub record Copying (m out₀ out : List ℕ) (i : ℕ) : Type 0 where
  pub within : i ≤ 8
  pub room : header_length ≤ length out₀
  pub long : length out ≡ length out₀
  pub source : m ≡ magic
  pub is : out ≡ take i m ++ drop i out₀

pub copy_start : (m out : List ℕ) → header_length ≤ length out → m ≡ magic → Copying m out out 0
copy_start m out h e = record { within = omega arith; room = h; long = refl; source = e; is = refl }

module _ (m out₀ out : List ℕ) (i : ℕ) (c : Copying m out₀ out i) where
  pub copy_more : i < 8 → Copying m out₀ (set out i (get_or m i 0)) (i + 1)
  unfolding magic ascii
  copy_more h =
      let size : length m ≡ 8 = ap length c.source in
      record {
        within = omega arith;
        room = c.room;
        long = simp length-set c.long;
        source = c.source;
        is = rw c.is (copy_next m out₀ i (omega arith) (omega arith));
      }

  pub copy_end : 8 ≤ i → out ≡ over magic out₀
  unfolding magic ascii
  copy_end h =
      let e : i ≡ 8 = omega arith in
      c.is ∙ (λ t. take (e t) (c.source t) ++ drop (e t) out₀)

-- ---- the header

-- where each section starts by the length of the nodes and the counts, as the code adds them up
module _ (long : ℕ) (c : EntryCounts) where
  abbrev start1 : ℕ
  start1 = header_length + long

  abbrev start2 : ℕ
  start2 = start1 + c.children * child_size

  abbrev start3 : ℕ
  start3 = start2 + c.named * text_entry_size

  abbrev start4 : ℕ
  start4 = start3 + c.definitions * definition_size

  abbrev start5 : ℕ
  start5 = start4 + c.items * text_entry_size

  abbrev start6 : ℕ
  start6 = start5 + c.index * text_entry_size

  abbrev start7 : ℕ
  start7 = start6 + c.payload

  abbrev start8 : ℕ
  start8 = start7 + c.strings

  -- the words behind the magic
  abbrev pub header_words : ℕ → ℕ → List ℕ
  header_words version ink =
      version ∷ ink ∷ start8 ∷ header_length ∷ c.nodes ∷ start1 ∷ c.children ∷ start2 ∷ c.named ∷ start3 ∷ c.definitions ∷ start4 ∷ c.items ∷ start5 ∷ c.index
      ∷ start6 ∷ c.payload ∷ start7 ∷ c.strings ∷ 0 ∷ []

-- a word can say each count and each start, if it can say how long the image is
module _ (version long : ℕ) (c : EntryCounts) (e : long ≡ c.nodes * node_size version) (h : length_by version c ≤ NONE) where
  pub counts_fit : Fits w32 c.nodes × Fits w32 c.children × Fits w32 c.named × Fits w32 c.definitions × Fits w32 c.items × Fits w32 c.index × Fits w32 c.payload
      × Fits w32 c.strings
  counts_fit =
      (omega (arith, nodes-fewer c.nodes version), omega arith, omega arith, omega arith, omega arith, omega arith, omega arith, omega arith)

  pub starts_fit : Fits w32 (start1 long c) × Fits w32 (start2 long c) × Fits w32 (start3 long c) × Fits w32 (start4 long c) × Fits w32 (start5 long c) × Fits w32 (start6 long c)
      × Fits w32 (start7 long c) × Fits w32 (start8 long c)
  starts_fit = (omega arith, omega arith, omega arith, omega arith, omega arith, omega arith, omega arith, omega arith)

module _ (version long : ℕ) (s : Sections) (c : EntryCounts) (e : long ≡ c.nodes * node_size version) (k : CountsOf version s c) where
  nodes-count : c.nodes ≡ node_count s
  nodes-count = rw k.versioned (sym (count_of_lem s.nodes c.nodes version k.nodes))

  nodes-long : long ≡ 4 * length s.nodes
  nodes-long = e ∙ size-words c.nodes version ∙ ap (λ (x : ℕ). 4 * x) (sym k.nodes)

  starts : (header_length ≡ start_of s 0) × (start1 long c ≡ start_of s 1) × (start2 long c ≡ start_of s 2) × (start3 long c ≡ start_of s 3) × (start4 long c ≡ start_of s 4)
      × (start5 long c ≡ start_of s 5) × (start6 long c ≡ start_of s 6) × (start7 long c ≡ start_of s 7) × (start8 long c ≡ start_of s 8)
  unfolding start_of sum_of section_out
  starts =
      let n = nodes-long in
      let a = length-bytes s.nodes in
      let b = length-bytes s.children in
      let d = length-bytes s.named in
      let e' = length-bytes s.definitions in
      let f = length-bytes s.items in
      let g = length-bytes s.index in
      (omega arith, omega arith, omega arith, omega arith, omega arith, omega arith, omega arith, omega arith, omega arith)

  counts : (c.nodes ≡ count_of s 0) × (c.children ≡ count_of s 1) × (c.named ≡ count_of s 2) × (c.definitions ≡ count_of s 3) × (c.items ≡ count_of s 4)
      × (c.index ≡ count_of s 5) × (c.payload ≡ count_of s 6) × (c.strings ≡ count_of s 7)
  unfolding count_of
  counts = (nodes-count, omega arith, omega arith, omega arith, omega arith, omega arith, omega arith, omega arith)

  header-words : (ink : ℕ) → header_words long c version ink ≡ s.version ∷ ink ∷ start_of s 8 ∷ join_of 8 (λ j. start_of s j ∷ count_of s j ∷ []) ++ (0 ∷ [])
  unfolding join_of
  header-words ink =
      let x = starts in
      let n = counts in
      λ t. sym k.versioned t ∷ ink ∷ x.8 t ∷ x.0 t ∷ n.0 t ∷ x.1 t ∷ n.1 t ∷ x.2 t ∷ n.2 t ∷ x.3 t ∷ n.3 t ∷ x.4 t ∷ n.4 t ∷ x.5 t ∷ n.5 t ∷ x.6 t ∷ n.6 t
      ∷ x.7 t ∷ n.7 t ∷ 0 ∷ []

  -- magic, then words
  pub header_put : (ink : ℕ) (out₀ out₁ out₂ : List ℕ) → header_length ≤ length out₀ → out₁ ≡ over magic out₀ → out₂ ≡ put_at out₁ version_at (header_words long c version ink)
      → out₂ ≡ over (header_with ink s 0) out₀
  unfolding header_with magic ascii bytes_of
  header_put ink out₀ out₁ out₂ h p q =
      front_is (magic ++ bytes_of (header_words long c version ink)) out₀ out₂
      (more 0 magic out₀ out₁ (filled-front magic out₀ out₁ (omega arith) p) (bytes_of (header_words long c version ink)) version_at header_length out₂ refl refl h q)
      ∙ ap (λ (ws : List ℕ). over (magic ++ bytes_of ws) out₀) (header-words ink)

-- ---- the checksum

pub sum_put : (ink : ℕ) (s : Sections) (image image' : List ℕ) (sum : ℕ) → image ≡ header_with ink s 0 ++ body_of s → sum ≡ checksum_of image
    → image' ≡ take checksum_at image ++ bytes4 sum ++ drop (checksum_at + 4) image → image' ≡ image_of ink s
unfolding header_with magic ascii bytes_of join_of image_of
sum_put ink s image image' sum p q z =
    z ∙ (λ t. take checksum_at (p t) ++ bytes4 ((q ∙ ap checksum_of p) t) ++ drop header_length (p t))

-- ---- sections one after the other behind the header

pub body_is : (s : Sections) (head : List ℕ)
    → head ++ section_out s 0 ++ section_out s 1 ++ section_out s 2 ++ section_out s 3 ++ section_out s 4 ++ section_out s 5 ++ section_out s 6 ++ section_out s 7
    ≡ head ++ body_of s
unfolding body_of join_of
body_is s head = simp append_assoc
