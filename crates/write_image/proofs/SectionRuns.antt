-- The three runs of sections, and header, sections and checksum: what each writer asks, and what they give together.
use Prim.Native.Nat.{ℕ, ◌+◌, ◌*◌, ◌-◌, ◌≤◌}
use mathlib.Core.Path.{◌≡◌, refl, sym, ap, ◌∙◌, subst}
use mathlib.Core.List.{List, ◌++◌, append_assoc}
use native.Mathlib.Omega.{arith}
use lib.ListN.{length, take, drop, length-append}
use lib.Seq.{take_at, drop_at}
use borrow.Rule.Slice.PartMut.{put_mid}
use Rattle.laws.specs.Counted.{join_of}
use Rattle.words.specs.Words.{NONE}
use Rattle.image.specs.Header.{header_length}
use Rattle.image.specs.Sections.{Sections, node_size, child_size, text_entry_size, definition_size, node_count, child_count, named_count, definition_count, item_count}
use Rattle.image.specs.Encoding.{body_of, header_with, image_of}
use Rattle.draft.specs.Source.{draft_of}
use Rattle.draft.specs.Numbering.{numbering}
use Rattle.draft_image.specs.Strings.{by_path}
use Rattle.draft_image.specs.Written.{written}
use Rattle.draft_image.specs.Encode.{image_for}
use Rattle.words.specs.Output.{over}
use Rattle.draft.specs.declared.layout.Layout.{Layout}
use Rattle.image.specs.declared.EntryCounts.{EntryCounts}
use Rattle.image.specs.Counted.{length_by, CountsOf}
use Rattle.write_image.specs.declared.Places.{Places}
use Rattle.write_text_uses.specs.Uses.{image_counts}
use Rattle.write_image.specs.Length.{places_by}
use Rattle.write_image.specs.Given.{tree_out, TreeReady, definitions_at, lists_out, ListsReady, texts_out, TextsReady, Ready, Sectioned}
use Rattle.draft_image.proofs.Lengths.{head-length}
use Rattle.write_image.proofs.SectionLengths.{sized}
use Rattle.write_image.proofs.Premises.{tree-length, lists_length, texts-length}
use Rattle.write_image.proofs.SectionLayers.{over-next, three-parts, counts-right}

-- ---- the sections

-- the runs are the body
runs : (s : Sections) → tree_out s ++ lists_out s ++ texts_out s ≡ body_of (written s)
unfolding body_of join_of
runs s = simp append_assoc

module _ (version : ℕ) (nodes children named definitions items payload strings w : List ℕ) (l : Layout) (count : ℕ) (q : Places) (room : ℕ) where
  abbrev s : Sections
  s = draft_of version nodes children named definitions items payload strings

  module _ (r : Sectioned s w l count q room) where
    lists-place : q.lists ≡ node_count s * node_size s.version + child_count s * child_size + named_count s * text_entry_size
    lists-place = ap (λ (x : Places). x.lists) r.places

    texts-place : q.texts
        ≡ node_count s * node_size s.version + child_count s * child_size + named_count s * text_entry_size + definition_count s * definition_size + item_count s * text_entry_size + length (by_path s (numbering s)) * text_entry_size
    texts-place = ap (λ (x : Places). x.texts) r.places

    -- where each run begins, and that they fit
    pub run_tree : length (tree_out s) ≡ q.lists
    run_tree = omega (arith, tree-length s w l r.told, lists-place)

    pub run_lists : length (tree_out s) + length (lists_out s) ≡ q.texts
    run_lists = omega (arith, tree-length s w l r.told, lists_length s w l r.told, texts-place)

    pub run_texts : length (tree_out s) + length (lists_out s) + length (texts_out s) ≤ room
    run_texts = omega (arith, tree-length s w l r.told, lists_length s w l r.told, texts-length s w l r.told, r.fits)

    pub tree-ready : TreeReady version nodes children named payload w l room
    tree-ready = record { definitions = definitions; items = items; strings = strings; told = r.told; fits = omega (arith, run_texts) }

    pub lists-ready : (text part : ℕ) → text ≡ definitions_at s l → q.lists + part ≡ room → ListsReady definitions items w l text count part
    lists-ready text part a h =
        record {
          version = version;
          nodes = nodes;
          children = children;
          named = named;
          payload = payload;
          strings = strings;
          told = r.told;
          at = a;
          indexed = r.indexed;
          fits = omega (arith, run_tree, run_texts);
        }

    pub texts-ready : (part : ℕ) → q.texts + part ≡ room → TextsReady version nodes payload strings w l part
    texts-ready part h =
        record {
          children = children;
          named = named;
          definitions = definitions;
          items = items;
          told = r.told;
          keyed = r.keyed;
          fits = omega (arith, run_lists, run_texts);
        }

    pub runs_put : (out₀ out₁ out₂ ys zs : List ℕ) → length out₀ ≡ room → out₁ ≡ over (tree_out s) out₀
        → ys ≡ over (lists_out s) (take (length out₁ - q.lists) (drop q.lists out₁)) → out₂ ≡ put_mid q.lists (length out₁ - q.lists) out₁ ys
        → zs ≡ over (texts_out s) (take (length out₂ - q.texts) (drop q.texts out₂))
        → put_mid q.texts (length out₂ - q.texts) out₂ zs ≡ over (body_of (written s)) out₀
    runs_put out₀ out₁ out₂ ys zs h e y f z =
        three-parts out₀ out₁ out₂ (tree_out s) (lists_out s) (texts_out s) ys zs q.lists q.texts (omega (arith, run_texts)) e (sym run_tree) y f (sym run_lists) z
        ∙ ap (λ (bs : List ℕ). over bs out₀) (runs s)

-- ---- header, sections, checksum

image-long : (ink : ℕ) (v : Sections) → length (image_of ink v) ≡ header_length + length (body_of v)
unfolding image_of
image-long ink v = length-append (header_with ink v _) (body_of v) ∙ ap (λ (m : ℕ). m + length (body_of v)) (head-length ink v _)

module _ (s : Sections) (w : List ℕ) (l : Layout) (e : EntryCounts) (r : Ready s w l e) where
  -- the length that the counts say is the image's
  pub long-enough : length_by s.version e ≤ NONE
  long-enough = omega (arith, ap (length_by s.version) r.counts, r.told.long)

  pub body_end : (q : Places) → q ≡ places_by s.version e → header_length + q.end ≡ length_by s.version (image_counts s)
  body_end q k = omega (arith, ap (λ (x : Places). x.end) k, ap (length_by s.version) r.counts)

  pub sectioned : (q : Places) (room : ℕ) → q ≡ places_by s.version e → q.end ≤ room → Sectioned s w l e.index q room
  sectioned q room k h =
      record {
        told = r.told;
        indexed = r.indexed;
        keyed = r.keyed;
        places = k ∙ ap (places_by s.version) r.counts;
        fits = omega (arith, ap (λ (x : Places). x.end) (k ∙ ap (places_by s.version) r.counts));
      }

  body_length : header_length + length (body_of (written s)) ≡ length_by s.version (image_counts s)
  body_length =
      omega (
        arith,
        ap length (runs s),
        length-append (tree_out s ++ lists_out s) (texts_out s),
        length-append (tree_out s) (lists_out s),
        tree-length s w l r.told,
        lists_length s w l r.told,
        texts-length s w l r.told,
      )

  pub image_put : (ink : ℕ) (q : Places) (out₀ out₁ out₂ ys zs : List ℕ) → q ≡ places_by s.version e → length_by s.version (image_counts s) ≤ length out₀
      → ((v : Sections) → CountsOf s.version v e → out₁ ≡ over (header_with ink v 0) out₀)
      → ys ≡ over (body_of (written s)) (take (length out₁ - header_length) (drop header_length out₁)) → out₂ ≡ put_mid header_length (length out₁ - header_length) out₁ ys
      → ((i : ℕ) (v : Sections) → take (header_length + q.end) out₂ ≡ header_with i v 0 ++ body_of v → zs ≡ image_of i v)
      → zs ++ drop (header_length + q.end) out₂ ≡ over (image_for ink s) out₀
  image_put ink q out₀ out₁ out₂ ys zs p h put y f sum =
      let v = written s in
      let head = header_with ink v 0 in
      let size : length (head ++ body_of v) ≡ header_length + q.end =
      omega (arith, length-append head (body_of v), head-length ink v 0, body_length, body_end q p) in
      let first : out₁ ≡ over head out₀ = put v (subst (CountsOf s.version v) (sym r.counts) (counts-right s (sized s r.told.tables r.told.reach))) in
      let both : out₂ ≡ over (head ++ body_of v) out₀ =
      f ∙ over-next out₀ out₁ head (body_of v) ys header_length first (sym (head-length ink v 0)) (omega (arith, body_length)) y in
      let image : zs ≡ image_of ink v = sum ink v (ap (take (header_length + q.end)) both ∙ take_at (head ++ body_of v) (drop (length (head ++ body_of v)) out₀) (header_length + q.end) size) in
      let rest : drop (header_length + q.end) out₂ ≡ drop (length (head ++ body_of v)) out₀ =
      ap (drop (header_length + q.end)) both ∙ drop_at (head ++ body_of v) (drop (length (head ++ body_of v)) out₀) (header_length + q.end) size in
      let long : length (head ++ body_of v) ≡ length (image_of ink v) = omega (arith, size, body_end q p, length-append head (body_of v), head-length ink v 0, image-long ink (written s)) in
      (λ i. image i ++ rest i) ∙ ap (λ (m : ℕ). image_of ink v ++ drop m out₀) long ∙ (unfold image_for in refl)
