-- The words of the named children are those of the written section.
use Prim.Native.Nat.{ℕ, ◌+◌, ◌*◌, ◌/◌, ◌≤◌, ◌<◌}
use mathlib.Core.Path.{◌≡◌, refl, sym, ap, ◌∙◌, subst}
use mathlib.Core.Bool.{cond}
use mathlib.Core.List.{List, [], ◌∷◌}
use native.Mathlib.Omega.{arith}
use native.Mathlib.Nat.{add-zero}
use native.Mathlib.Numerals.{add-one}
use lib.ListN.{length, get_or}
use lib.Dec.{eqb}
use Rattle.laws.specs.Counted.{join_of, sum_of}
use Rattle.laws.proofs.Members.{sum_ext}
use Rattle.words.specs.Words.{bytes_of}
use Rattle.image.specs.declared.NodeRecord.{NodeRecord}
use Rattle.image.specs.Entries.{record_of}
use Rattle.image.specs.Sections.{Sections, node_words, text_entry_words, text_entry_size, node_count, node_word, named_word, f}
use Rattle.records.specs.Records.{number_of_named}
use Rattle.tree.specs.Tree.{named_at, named_text}
use Rattle.draft.specs.Draft.{tables_rule}
use Rattle.draft.specs.Source.{nodes_only}
use Rattle.draft.specs.Numbering.{old_of, new_of}
use Rattle.draft.proofs.Rules.{tables, named_at_lem, named-text_at}
use Rattle.draft_image.specs.Strings.{named_texts, offset_of}
use Rattle.draft_image.specs.Written.{named_out}
use Rattle.draft_image.specs.Ready.{OldsAt, NewsAt, OffsetsAt, named_uses}
use Rattle.draft_image.proofs.Joins.{join_len, join_length, even_len, sum_const, sum_scale, sum_below, join_same}
use Rattle.draft_image.proofs.Offsets.{offsets-part, offsets-each}
use Rattle.words.specs.Output.{over, put_at}
use Rattle.words.proofs.EntryLoop.{Running, run_start, run_room, run_next, run_front}
use Rattle.write_tree_sections.specs.Held.{named_words, named_words_of, named_in_order, NamedFit}
use Rattle.write_numbering.specs.Numbers.{new_in}
use Rattle.draft.specs.declared.layout.Layout.{Layout}
use Rattle.write_numbering.proofs.DraftWords.{retold, told, new_is, text-length}

-- entry j of one node
abbrev pub named-entry : List ℕ → List ℕ → ℕ → ℕ → ℕ → ℕ → List ℕ
named-entry named w new text first j =
    get_or w (text + j) 0 ∷ get_or named ((first + j) * text_entry_words + 1) 0 ∷ new_in w new (get_or named ((first + j) * text_entry_words + 2) 0) ∷ []

pub named-words-length : (named w : List ℕ) (new text first count : ℕ) → length (named_words named w new text first count) ≡ count * text_entry_words
named-words-length named w new text first count = even_len count text_entry_words (named-entry named w new text first) (λ m h. refl)

words_of_length : (version : ℕ) (nodes named w : List ℕ) (new text i : ℕ) → length (named_words_of version nodes named w new text i) ≡ number_of_named (nodes_only version nodes []) i * text_entry_words
unfolding named_words_of
words_of_length version nodes named w new text i = named-words-length named w new text (f (nodes_only version nodes []) i 5) (number_of_named (nodes_only version nodes []) i)

-- the section over plain lists
abbrev pub entry : ℕ → List ℕ → List ℕ → List ℕ → ℕ → ℕ → ℕ → ℕ → List ℕ
entry version nodes named w order new offsets j = named_words_of version nodes named w new (offsets + named_in_order version nodes w order j) (get_or w (order + j) 0)

section-length : (version : ℕ) (nodes named w : List ℕ) (order new offsets : ℕ)
    → length (join_of (length nodes / node_words version) (entry version nodes named w order new offsets)) ≡ named_in_order version nodes w order (length nodes / node_words version) * text_entry_words
section-length version nodes named w order new offsets =
    join_len (length nodes / node_words version) (entry version nodes named w order new offsets) (λ j. number_of_named (nodes_only version nodes []) (get_or w (order + j) 0) * text_entry_words)
    (λ j h. words_of_length version nodes named w new (offsets + named_in_order version nodes w order j) (get_or w (order + j) 0))
    ∙ sum_scale (length nodes / node_words version) text_entry_words (λ j. number_of_named (nodes_only version nodes []) (get_or w (order + j) 0))

entry_of : (version : ℕ) (nodes named w : List ℕ) (new text i : ℕ) (r : NodeRecord) (count : ℕ) → r ≡ record_of version nodes i → count ≡ cond (eqb r.tag 1) r.f6 0
    → named_words named w new text r.f5 count ≡ named_words_of version nodes named w new text i
unfolding named_words_of number_of_named node_word record_of
entry_of version nodes named w new text i r count e q =
    ap (named_words named w new text r.f5) q ∙ (λ t. named_words named w new text (e t).f5 (cond (eqb (e t).tag 1) (e t).f6 0))

-- ---- the loop over the image's nodes

pub record Naming (version : ℕ) (nodes named w : List ℕ) (l : Layout) (offsets : ℕ) (out₀ out : List ℕ) (text at j : ℕ) : Type 0 where
  pub running : Running 0 (length nodes / node_words version) (entry version nodes named w l.order l.new offsets) out₀ out j at
  pub texts : text ≡ offsets + named_in_order version nodes w l.order j

module _ (version : ℕ) (nodes named w : List ℕ) (l : Layout) (offsets : ℕ) (fit : NamedFit version nodes w l offsets) (out₀ : List ℕ) where
  pub begin : text_entry_size * named_in_order version nodes w l.order (length nodes / node_words version) ≤ length out₀ → Naming version nodes named w l offsets out₀ out₀ offsets 0 0
  unfolding sum_of
  begin h =
      record {
        running =
            run_start 0 (length nodes / node_words version) (entry version nodes named w l.order l.new offsets) out₀ (omega (arith, section-length version nodes named w l.order l.new offsets)) 0 refl;
        texts = sym (add-zero offsets);
      }

  module _ (out : List ℕ) (text at j : ℕ) (g : Naming version nodes named w l offsets out₀ out text at j) (h : j < length nodes / node_words version) (i : ℕ)
      (p : i ≡ get_or w (l.order + j) 0) (r : NodeRecord) (e : r ≡ record_of version nodes i) (count : ℕ) (q : count ≡ cond (eqb r.tag 1) r.f6 0) where
    here : named_words named w l.new text r.f5 count ≡ entry version nodes named w l.order l.new offsets j
    here = entry_of version nodes named w l.new text i r count e q ∙ (λ t. named_words_of version nodes named w l.new (g.texts t) (p t))

    count_is : count ≡ number_of_named (nodes_only version nodes []) (get_or w (l.order + j) 0)
    unfolding number_of_named node_word record_of
    count_is = q ∙ (λ t. cond (eqb (e t).tag 1) (e t).f6 0) ∙ ap (number_of_named (nodes_only version nodes [])) p

    -- the entries fit, and the offsets of their texts are there
    pub step_room : at + text_entry_size * count ≤ length out
    step_room =
        omega (
          arith,
          run_room 0 (length nodes / node_words version) (entry version nodes named w l.order l.new offsets) out₀ out j at g.running h,
          ap length here,
          named-words-length named w l.new text r.f5 count,
        )

    pub step-text : text + count ≤ length w
    step-text = omega (arith, fit.texts, g.texts, count_is, sum_below j (length nodes / node_words version) (λ m. number_of_named (nodes_only version nodes []) (get_or w (l.order + m) 0)) h)

    pub step-next : (out' : List ℕ) → out' ≡ put_at out at (named_words named w l.new text r.f5 count)
        → Naming version nodes named w l offsets out₀ out' (text + count) (at + text_entry_size * count) (j + 1)
    unfolding sum_of
    step-next out' z =
        record {
          running =
              run_next 0 (length nodes / node_words version) (entry version nodes named w l.order l.new offsets) out₀ out j at g.running (named_words named w l.new text r.f5 count) out'
              (at + text_entry_size * count) h here z (omega (arith, named-words-length named w l.new text r.f5 count));
          texts = rw add-one (omega (arith, g.texts, count_is));
        }

-- ---- the section is the written one

module _ (s : Sections) (version : ℕ) (nodes named : List ℕ) (order w : List ℕ) (kept : List (List ℕ)) (l : Layout) where
  abbrev r : Sections
  r = retold s version nodes s.children named s.payload

  -- the named children of one node
  one : (i text : ℕ) → tables_rule r ≡ 0 → i < node_count r → NewsAt order w (node_count r) l.new → OffsetsAt kept (named_texts r i) w text
      → named_words_of version nodes named w l.new text i ≡ named_out r order kept i
  unfolding named_words_of named_out named_texts number_of_named node_word named_word
  one i text p h q o = join_same (number_of_named r i) _ _ each
    where
      each : (j : ℕ) → j < number_of_named r i
          → named-entry named w l.new text (f r i 5) j ≡ offset_of kept (named_text r i j) ∷ length (named_text r i j) ∷ new_of order (named_at r i j 2) ∷ []
      each j k =
          let offset = offsets-each kept w text (number_of_named r i) (named_text r i) o j k in
          let size = text-length r (named_at r i j 0) (named_at r i j 1) (named-text_at r (tables r p) i h j k) in
          let node = new_is order w (node_count r) l.new (named_at r i j 2) q (named_at_lem r (tables r p) i h j k).below in
          λ t. offset t ∷ size t ∷ node t ∷ []

  texts-length : (i : ℕ) → length (named_texts r i) ≡ number_of_named r i
  unfolding named_texts
  texts-length i = omega (arith, join_length (number_of_named r i) (λ j. named_text r i j ∷ []), sum_const (number_of_named r i) 1)

  all : (m offsets : ℕ) → tables_rule r ≡ 0 → ((j : ℕ) → j < node_count r → get_or w (m + j) 0 < node_count r) → OldsAt order w (node_count r) m
      → NewsAt order w (node_count r) l.new → OffsetsAt kept (named_uses r order) w offsets
      → join_of (length nodes / node_words version) (entry version nodes named w m l.new offsets) ≡ join_of (node_count r) (λ j. named_out r order kept (old_of order j))
  unfolding number_of_named node_word
  all m offsets p b o q u = join_same (node_count r) _ _ each
    where
      before : (j : ℕ) → j ≤ node_count r → sum_of j (λ k. length (named_texts r (old_of order k))) ≡ named_in_order version nodes w m j
      before j h =
          sum_ext j (λ k. length (named_texts r (old_of order k))) (λ k. number_of_named (nodes_only version nodes []) (get_or w (m + k) 0))
          (λ k l. texts-length (old_of order k) ∙ ap (number_of_named r) (sym (o k (omega arith))))

      each : (j : ℕ) → j < node_count r → entry version nodes named w m l.new offsets j ≡ named_out r order kept (old_of order j)
      each j h =
          one (get_or w (m + j) 0) (offsets + named_in_order version nodes w m j) p (b j h) q
          (subst (λ (i : ℕ). OffsetsAt kept (named_texts r i) w (offsets + named_in_order version nodes w m j)) (sym (o j h))
          (subst (λ (k : ℕ). OffsetsAt kept (named_texts r (old_of order j)) w (offsets + k)) (before j (omega arith))
          (offsets-part kept w offsets (node_count r) (λ k. named_texts r (old_of order k)) u j h)))
          ∙ ap (named_out r order kept) (o j h)

  abbrev NamedSection : List ℕ → List ℕ → ℕ → ℕ → Sections → Type 0
  NamedSection out₀ out m offsets x =
      tables_rule x ≡ 0 → OldsAt order w (node_count x) m → NewsAt order w (node_count x) l.new → OffsetsAt kept (named_uses x order) w offsets
      → out ≡ over (bytes_of (join_of (node_count x) (λ j. named_out x order kept (old_of order j)))) out₀

  pub finish : (offsets : ℕ) (fit : NamedFit version nodes w l offsets) (out₀ out : List ℕ) (text at j : ℕ) → Naming version nodes named w l offsets out₀ out text at j → length nodes / node_words version ≤ j
      → s.nodes ≡ nodes → s.version ≡ version → s.named ≡ named → NamedSection out₀ out l.order offsets s
  finish offsets fit out₀ out text at j g h e d c =
      subst (NamedSection out₀ out l.order offsets) (sym (told s version nodes s.children named s.payload d e refl c refl))
      (λ p o q u. subst (λ (ws : List ℕ). out ≡ over (bytes_of ws) out₀) (all l.order offsets p fit.order.olds o q u)
      (run_front (length nodes / node_words version) (entry version nodes named w l.order l.new offsets) out₀ out j at g.running h))
