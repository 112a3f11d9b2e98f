-- The words of the index are those of the written section.
use Prim.Native.Nat.{ℕ, zero, suc, ◌+◌, ◌*◌, ◌≤◌, ◌<◌}
use mathlib.Core.Path.{◌≡◌, refl, ap, ◌∙◌, subst}
use mathlib.Core.List.{List, [], ◌∷◌, map}
use native.Mathlib.Omega.{arith}
use native.Mathlib.Nat.{not-suc-le-zero, le_of_suc-le-suc}
use lib.ListN.{length, get_or}
use Rattle.laws.specs.Counted.{join_of}
use Rattle.laws.specs.Lists.{place_in}
use Rattle.words.specs.Words.{bytes_of}
use Rattle.image.specs.Sections.{Sections, text_entry_size, node_count}
use Rattle.draft.specs.Numbering.{old_of}
use Rattle.draft_image.specs.Strings.{by_path, path_of, offset_of}
use Rattle.draft_image.specs.Written.{index_out}
use Rattle.draft_image.specs.Ready.{NewsAt, OffsetsAt}
use Rattle.draft_image.proofs.Joins.{even_len, join_same}
use Rattle.draft_image.proofs.IndexOrder.{path-node}
use Rattle.words.specs.Output.{over}
use Rattle.words.proofs.EntryLoop.{Running, run_start, run_front}
use Rattle.draft.specs.declared.layout.Layout.{Layout}
use Rattle.write_paths.specs.PathIndex.{PathsAt, LengthsAt, index_words}

pub begin : (w : List ℕ) (l : Layout) (count : ℕ) (out : List ℕ) → text_entry_size * count ≤ length out → Running 0 count (index_words w l) out out 0 0
begin w l count out h = run_start 0 count (index_words w l) out (omega (arith, even_len count 3 (index_words w l) (λ m q. refl))) 0 refl

map_at : (g : ℕ → List ℕ) (xs : List ℕ) (k : ℕ) → k < length xs → (get_or (map g xs) k [] ≡ g (get_or xs k 0)) × (k < length (map g xs))
map_at g [] k h = absurd (not-suc-le-zero h)
map_at g (x ∷ xs) zero h = (refl, omega arith)
map_at g (x ∷ xs) (suc k) h = let r = map_at g xs k (le_of_suc-le-suc h) in (r.0, omega arith)

module _ (s : Sections) (order : List ℕ) (kept : List (List ℕ)) (w : List ℕ) (l : Layout) (count : ℕ) (all : count ≡ length (by_path s order))
    (below : (j : ℕ) → j < node_count s → old_of order j < node_count s) (place : (j : ℕ) → j < node_count s → place_in order (old_of order j) ≡ j)
    (news : NewsAt order w (node_count s) l.new) (paths : PathsAt s order w (l.at + l.paths)) (lengths : LengthsAt s order w (l.at + l.lengths))
    (offs : OffsetsAt kept (map (path_of s order) (by_path s order)) w (l.offsets + l.texts)) where
  entry_is : (k : ℕ) → k < length (by_path s order) → index_words w l k ≡ index_out s order kept (get_or (by_path s order) k 0)
  unfolding index_out
  entry_is k h =
      let j = get_or (by_path s order) k 0 in
      let text = map_at (path_of s order) (by_path s order) k h in
      let offset : get_or w (l.offsets + l.texts + k) 0 ≡ offset_of kept (path_of s order j) = offs k text.1 ∙ ap (offset_of kept) text.0 in
      let size : get_or w (l.at + l.lengths + get_or w (l.at + l.paths + k) 0 + get_or w (l.at + l.paths + k) 0) 0 ≡ length (path_of s order j) =
      (λ t. get_or w (l.at + l.lengths + paths k h t + paths k h t) 0) ∙ lengths k h in
      let node : get_or w (l.new + get_or w (l.at + l.paths + k) 0) 0 ≡ j =
      (λ t. get_or w (l.new + paths k h t) 0) ∙ news (old_of order j) (below j (path-node s order k h).0) ∙ place j (path-node s order k h).0 in
      λ t. offset t ∷ size t ∷ node t ∷ []

  pub finish : (out₀ out : List ℕ) (k at : ℕ) → Running 0 count (index_words w l) out₀ out k at → count ≤ k
      → out ≡ over (bytes_of (join_of (length (by_path s order)) (λ m. index_out s order kept (get_or (by_path s order) m 0)))) out₀
  finish out₀ out k at r h =
      subst (λ (ws : List ℕ). out ≡ over (bytes_of ws) out₀)
      (ap (λ (m : ℕ). join_of m (index_words w l)) all ∙ join_same (length (by_path s order)) _ _ entry_is)
      (run_front count (index_words w l) out₀ out k at r h)
