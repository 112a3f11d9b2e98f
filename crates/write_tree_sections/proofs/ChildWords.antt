-- The words of the ordered children are those of the written section.
use Prim.Native.Nat.{ℕ, ◌+◌, ◌*◌, ◌/◌, ◌≤◌, ◌<◌}
use mathlib.Core.Path.{◌≡◌, refl, sym, ap, ◌∙◌, subst}
use mathlib.Core.List.{List, [], ◌∷◌}
use native.Mathlib.Omega.{arith}
use lib.ListN.{length, get_or}
use lib.Dec.{eqb}
use mathlib.Core.Bool.{cond}
use Rattle.image.specs.declared.NodeRecord.{NodeRecord}
use Rattle.image.specs.Entries.{record_of}
use Rattle.laws.specs.Counted.{join_of}
use Rattle.laws.proofs.Members.{length_join}
use Rattle.words.specs.Words.{bytes_of}
use Rattle.image.specs.Sections.{Sections, node_words, node_count, node_word, child_word, f}
use Rattle.records.specs.Records.{number_of_children}
use Rattle.tree.specs.Tree.{child_at}
use Rattle.draft.specs.Draft.{tables_rule}
use Rattle.draft.specs.Source.{nodes_only}
use Rattle.draft.specs.Numbering.{old_of}
use Rattle.draft.proofs.Rules.{tables, child_at_lem}
use Rattle.draft_image.specs.Written.{children_out}
use Rattle.draft_image.specs.Ready.{OldsAt, NewsAt}
use Rattle.draft_image.proofs.Joins.{join_len, join_same}
use Rattle.words.specs.Output.{put_at, over}
use Rattle.words.proofs.EntryLoop.{Running, run_start, run_room, run_next, run_front}
use Rattle.write_tree_sections.specs.Held.{child_words, child_words_of, children_in_order}
use Rattle.write_numbering.specs.Numbers.{new_in}
use Rattle.write_numbering.proofs.DraftWords.{retold, told, new_is}

pub child-words-length : (children w : List ℕ) (new first count : ℕ) → length (child_words children w new first count) ≡ count
child-words-length children w new first count = length_join count (λ j. new_in w new (get_or children (first + j) 0))

pub words_of_length : (version : ℕ) (nodes children w : List ℕ) (new i : ℕ) → length (child_words_of version nodes children w new i) ≡ number_of_children (nodes_only version nodes []) i
unfolding child_words_of
words_of_length version nodes children w new i = child-words-length children w new (f (nodes_only version nodes []) i 3) (number_of_children (nodes_only version nodes []) i)

-- the section over plain lists
abbrev pub entry : ℕ → List ℕ → List ℕ → List ℕ → ℕ → ℕ → ℕ → List ℕ
entry version nodes children w order new j = child_words_of version nodes children w new (get_or w (order + j) 0)

pub section-length : (version : ℕ) (nodes children w : List ℕ) (order new : ℕ) → length (join_of (length nodes / node_words version) (entry version nodes children w order new)) ≡ children_in_order version nodes w order (length nodes / node_words version)
section-length version nodes children w order new =
    join_len (length nodes / node_words version) (entry version nodes children w order new) (λ j. number_of_children (nodes_only version nodes []) (get_or w (order + j) 0))
    (λ j h. words_of_length version nodes children w new (get_or w (order + j) 0))

-- the entry that is written for a node's record
pub entry_of : (version : ℕ) (nodes children w : List ℕ) (new i : ℕ) (r : NodeRecord) (count : ℕ) → r ≡ record_of version nodes i → count ≡ cond (eqb r.tag 1) r.f4 0
    → child_words children w new r.f3 count ≡ child_words_of version nodes children w new i
unfolding child_words_of number_of_children node_word record_of
entry_of version nodes children w new i r count e q =
    ap (child_words children w new r.f3) q ∙ (λ t. child_words children w new (e t).f3 (cond (eqb (e t).tag 1) (e t).f4 0))

-- ---- the loop over the image's nodes

pub begin : (version : ℕ) (nodes children w : List ℕ) (order new : ℕ) (out : List ℕ) → 4 * children_in_order version nodes w order (length nodes / node_words version) ≤ length out
    → Running 0 (length nodes / node_words version) (entry version nodes children w order new) out out 0 0
begin version nodes children w order new out h =
    run_start 0 (length nodes / node_words version) (entry version nodes children w order new) out (omega (arith, section-length version nodes children w order new)) 0 refl

module _ (version : ℕ) (nodes children w : List ℕ) (order new : ℕ) (out₀ out : List ℕ) (j at : ℕ) (inv : Running 0 (length nodes / node_words version) (entry version nodes children w order new) out₀ out j at)
    (h : j < length nodes / node_words version) (i : ℕ) (p : i ≡ get_or w (order + j) 0) (r : NodeRecord) (e : r ≡ record_of version nodes i) (count : ℕ)
    (q : count ≡ cond (eqb r.tag 1) r.f4 0) where
  here : child_words children w new r.f3 count ≡ entry version nodes children w order new j
  here = entry_of version nodes children w new i r count e q ∙ ap (child_words_of version nodes children w new) p

  pub step_room : at + 4 * count ≤ length out
  step_room =
      omega (
        arith,
        run_room 0 (length nodes / node_words version) (entry version nodes children w order new) out₀ out j at inv h,
        ap length here,
        child-words-length children w new r.f3 count,
      )

  pub step-next : (out' : List ℕ) → out' ≡ put_at out at (child_words children w new r.f3 count)
      → Running 0 (length nodes / node_words version) (entry version nodes children w order new) out₀ out' (j + 1) (at + 4 * count)
  step-next out' z =
      run_next 0 (length nodes / node_words version) (entry version nodes children w order new) out₀ out j at inv (child_words children w new r.f3 count) out' (at + 4 * count) h here z
      (omega (arith, child-words-length children w new r.f3 count))

-- ---- the section is the written one

-- the children of one node
module _ (s : Sections) (version : ℕ) (nodes children : List ℕ) (order w : List ℕ) (kept : List (List ℕ)) (new : ℕ) where
  abbrev r : Sections
  r = retold s version nodes children s.named s.payload

  one : (i : ℕ) → tables_rule r ≡ 0 → i < node_count r → NewsAt order w (node_count r) new → child_words_of version nodes children w new i ≡ children_out r order kept i
  unfolding child_words_of children_out number_of_children node_word child_word
  one i p h q =
      join_same (number_of_children r i) _ _ (λ j k. ap (λ (x : ℕ). x ∷ []) (new_is order w (node_count r) new (child_at r i j) q (child_at_lem r (tables r p) i h j k).below))

  all : (m : ℕ) → tables_rule r ≡ 0 → ((j : ℕ) → j < node_count r → get_or w (m + j) 0 < node_count r) → OldsAt order w (node_count r) m → NewsAt order w (node_count r) new
      → join_of (length nodes / node_words version) (entry version nodes children w m new) ≡ join_of (node_count r) (λ j. children_out r order kept (old_of order j))
  all m p b o q =
      join_same (node_count r) _ _ (λ j h. one (get_or w (m + j) 0) p (b j h) q ∙ ap (children_out r order kept) (o j h))

  section_is : (m : ℕ) → s.nodes ≡ nodes → s.version ≡ version → s.children ≡ children → tables_rule s ≡ 0
      → ((j : ℕ) → j < length nodes / node_words version → get_or w (m + j) 0 < length nodes / node_words version) → OldsAt order w (node_count s) m → NewsAt order w (node_count s) new
      → join_of (length nodes / node_words version) (entry version nodes children w m new) ≡ join_of (node_count s) (λ j. children_out s order kept (old_of order j))
  section_is m e d c p b =
      subst
      (λ (x : Sections). OldsAt order w (node_count x) m → NewsAt order w (node_count x) new
      → join_of (length nodes / node_words version) (entry version nodes children w m new) ≡ join_of (node_count x) (λ j. children_out x order kept (old_of order j)))
      (sym path) (all m (subst (λ (x : Sections). tables_rule x ≡ 0) path p) b)
    where
      path : s ≡ r
      path = told s version nodes children s.named s.payload d e c refl refl

  pub finish : (out₀ out : List ℕ) (m j at : ℕ) → Running 0 (length nodes / node_words version) (entry version nodes children w m new) out₀ out j at → length nodes / node_words version ≤ j
      → ((x : ℕ) → x < length nodes / node_words version → get_or w (m + x) 0 < length nodes / node_words version) → s.nodes ≡ nodes → s.version ≡ version → s.children ≡ children → tables_rule s ≡ 0
      → OldsAt order w (node_count s) m → NewsAt order w (node_count s) new
      → out ≡ over (bytes_of (join_of (node_count s) (λ x. children_out s order kept (old_of order x)))) out₀
  finish out₀ out m j at inv h b e d c p o q =
      subst (λ (ws : List ℕ). out ≡ over (bytes_of ws) out₀) (section_is m e d c p b o q)
      (run_front (length nodes / node_words version) (entry version nodes children w m new) out₀ out j at inv h)
