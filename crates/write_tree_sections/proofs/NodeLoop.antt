-- The loop over the image's nodes: what is written, the starts and the texts used so far; and that the section is the written one.
use Prim.Native.Nat.{ℕ, ◌+◌, ◌*◌, ◌/◌, ◌≤◌, ◌<◌}
use mathlib.Core.Path.{◌≡◌, refl, sym, ap, ◌∙◌, subst}
use mathlib.Core.Bool.{false}
use mathlib.Core.List.{List, [], ◌∷◌, ◌++◌, append-nil}
use native.Mathlib.Omega.{arith}
use native.Mathlib.Nat.{add-zero}
use native.Mathlib.Numerals.{add-one}
use native.Mathlib.Decide.{ℕ_discrete}
use lib.ListN.{length, get_or, replicate}
use lib.Dec.{eqb}
use borrow.Author.Tests.{eq-eqb, ne_eqb}
use Rattle.laws.specs.Counted.{join_of, sum_of}
use Rattle.laws.specs.Lists.{place_in}
use Rattle.laws.proofs.Members.{sum_ext}
use Rattle.words.specs.Words.{NONE, bytes_of}
use Rattle.image.specs.declared.NodeRecord.{NodeRecord}
use Rattle.image.specs.Entries.{record_of, node_in}
use Rattle.image.specs.Sections.{Sections, node_words, node_size, node_count, node_word, parent_of, tag_of, place_of}
use Rattle.image.proofs.Entries.{node_record}
use Rattle.image.proofs.Widths.{size-words}
use Rattle.records.specs.Fields.{kind_of}
use Rattle.records.specs.Records.{number_of_children, number_of_named, payload_length_of, fields_at}
use Rattle.records.proofs.PassedRules.{root}
use Rattle.draft.specs.Draft.{tables_rule, shape_rule}
use Rattle.draft.specs.Source.{nodes_only}
use Rattle.draft.specs.Numbering.{old_of, new_of}
use Rattle.draft.proofs.Rules.{tables, parent-node, shape}
use Rattle.draft_image.specs.Strings.{node_texts}
use Rattle.draft_image.specs.Written.{start_in, node_out, put_fields}
use Rattle.draft_image.specs.Ready.{OldsAt, NewsAt, OffsetsAt, node_uses}
use Rattle.draft_image.proofs.Joins.{sum_below, join_length, even_len, join_same}
use Rattle.draft_image.proofs.Offsets.{offsets-part}
use Rattle.words.specs.Output.{over, put_at}
use Rattle.words.proofs.EntryLoop.{Running, run_start, run_room, run_next, run_front}
use Rattle.draft.specs.declared.layout.Layout.{Layout}
use Rattle.write_numbering.specs.Numbers.{new_in}
use Rattle.write_numbering.proofs.DraftWords.{retold, told, new_is, new_none}
use Rattle.write_tree_sections.specs.declared.kinds.Starts.{Starts}
use Rattle.write_tree_sections.specs.Encoded.{record_words, record_by_kind, texts_by}
use Rattle.write_tree_sections.specs.Summed.{child_count_in, named_count_in, payload_length_in, StartsFit, starts_after, texts_at, starts_by, used_by, NodesFit}
use Rattle.write_tree_sections.proofs.RecordWidth.{record_length, more-none}
use Rattle.write_tree_sections.proofs.FieldWords.{fielded, texts_at_lem}

-- ---- the starts after a node

module _ (st : Starts) (r : NodeRecord) where
  pub container-fits : StartsFit st r → r.tag ≡ 1 → (st.children + r.f4 ≤ NONE) × (st.named + r.f6 ≤ NONE)
  container-fits h e = (rw (eq-eqb r.tag 1 e) at h.children, rw (eq-eqb r.tag 1 e) at h.named)

  pub list-fits : StartsFit st r → r.tag ≡ 12 → st.payload + r.f1 ≤ NONE
  list-fits h e = rw (eq-eqb r.tag 12 e) at h.payload

  pub after-container : r.tag ≡ 1
      → record { children = st.children + r.f4; named = st.named + r.f6; payload = st.payload } ≡ starts_after st r
  after-container e =
      let other : eqb r.tag 12 ≡ false = ne_eqb r.tag 12 (λ q. omega arith) in
      rw (eq-eqb r.tag 1 e, other, add-zero st.payload) refl

  pub after_list : r.tag ≡ 12
      → record { children = st.children; named = st.named; payload = st.payload + r.f1 } ≡ starts_after st r
  after_list e =
      let other : eqb r.tag 1 ≡ false = ne_eqb r.tag 1 (λ q. omega arith) in
      rw (eq-eqb r.tag 12 e, other, add-zero st.children, add-zero st.named) refl

  pub after-other : (r.tag ≡ 1 → ⊥) → (r.tag ≡ 12 → ⊥) → st ≡ starts_after st r
  after-other d e = rw (ne_eqb r.tag 1 d, ne_eqb r.tag 12 e, add-zero st.children, add-zero st.named, add-zero st.payload) refl

-- ---- the loop

-- the record that is written for the image's node j
abbrev record_at : ℕ → List ℕ → List ℕ → List ℕ → Layout → ℕ → NodeRecord
record_at version nodes payload w l j =
    record_by_kind w l.new (l.offsets + used_by version nodes w l.order payload j) (starts_by version nodes w l.order j)
    (record_of version nodes (get_or w (l.order + j) 0)) (kind_of (record_of version nodes (get_or w (l.order + j) 0)).tag)

-- its words
abbrev pub entry : ℕ → List ℕ → List ℕ → List ℕ → Layout → ℕ → List ℕ
entry version nodes payload w l j = record_words version (record_at version nodes payload w l j)

pub record NodesSoFar (version : ℕ) (nodes payload w : List ℕ) (l : Layout) (out₀ out : List ℕ) (text : ℕ) (st : Starts) (at j : ℕ) : Type 0 where
  pub running : Running 0 (length nodes / node_words version) (entry version nodes payload w l) out₀ out j at
  pub texts : text ≡ l.offsets + used_by version nodes w l.order payload j
  pub starts : st ≡ starts_by version nodes w l.order j

module _ (version : ℕ) (nodes payload w : List ℕ) (l : Layout) (fit : NodesFit version nodes payload w l) (out₀ : List ℕ) where
  pub begin : length nodes / node_words version * node_size version ≤ length out₀ → NodesSoFar version nodes payload w l out₀ out₀ l.offsets (record { children = 0; named = 0; payload = 0 }) 0 0
  unfolding sum_of
  begin h =
      record {
        running =
            run_start 0 (length nodes / node_words version) (entry version nodes payload w l) out₀
            (omega (
              arith,
              size-words (length nodes / node_words version) version,
              even_len (length nodes / node_words version) (node_words version) (entry version nodes payload w l) (λ m q. record_length version (record_at version nodes payload w l m)),
            )) 0 refl;
        texts = sym (add-zero l.offsets);
        starts = refl;
      }

  module _ (out : List ℕ) (text : ℕ) (st : Starts) (at j : ℕ) (g : NodesSoFar version nodes payload w l out₀ out text st at j) (h : j < length nodes / node_words version) where
    -- the record's words fit
    pub step_room : at + node_size version ≤ length out
    step_room =
        omega (
          arith,
          record_length version (record_at version nodes payload w l j),
          run_room 0 (length nodes / node_words version) (entry version nodes payload w l) out₀ out j at g.running h,
        )

    -- so does the offset of its first text
    pub step-text : text ≤ length w
    step-text = omega (arith, g.texts, fit.texts, sum_below j (length nodes / node_words version) (λ m. texts_at version nodes payload (get_or w (l.order + m) 0)) h)

    -- the draft's number of the node, and its record
    module _ (i : ℕ) (p : i ≡ get_or w (l.order + j) 0) (r : NodeRecord) (e : r ≡ record_of version nodes i) where
      here : r ≡ record_of version nodes (get_or w (l.order + j) 0)
      here = e ∙ ap (record_of version nodes) p

      more : (count : ℕ) → count ≡ texts_by payload r (kind_of r.tag) → count ≡ texts_at version nodes payload (get_or w (l.order + j) 0)
      unfolding texts_at
      more count q = q ∙ ap (λ (x : NodeRecord). texts_by payload x (kind_of x.tag)) here

      children_is : child_count_in r ≡ number_of_children (nodes_only version nodes []) (get_or w (l.order + j) 0)
      unfolding number_of_children node_word record_of
      children_is = λ t. child_count_in (here t)

      named_is : named_count_in r ≡ number_of_named (nodes_only version nodes []) (get_or w (l.order + j) 0)
      unfolding number_of_named node_word record_of
      named_is = λ t. named_count_in (here t)

      payload_is : payload_length_in r ≡ payload_length_of (nodes_only version nodes []) (get_or w (l.order + j) 0)
      unfolding payload_length_of node_word record_of
      payload_is = λ t. payload_length_in (here t)

      pub step-texts : (count : ℕ) → count ≡ texts_by payload r (kind_of r.tag) → text + count ≤ length w
      step-texts count q =
          omega (arith, g.texts, fit.texts, more count q, sum_below j (length nodes / node_words version) (λ m. texts_at version nodes payload (get_or w (l.order + m) 0)) h)

      pub step-starts : StartsFit st r
      step-starts =
          record {
            children =
                omega (
                  arith,
                  ap (λ (x : Starts). x.children) g.starts,
                  children_is,
                  fit.children,
                  sum_below j (length nodes / node_words version) (λ m. number_of_children (nodes_only version nodes []) (get_or w (l.order + m) 0)) h,
                );
            named =
                omega (
                  arith,
                  ap (λ (x : Starts). x.named) g.starts,
                  named_is,
                  fit.named,
                  sum_below j (length nodes / node_words version) (λ m. number_of_named (nodes_only version nodes []) (get_or w (l.order + m) 0)) h,
                );
            payload =
                omega (
                  arith,
                  ap (λ (x : Starts). x.payload) g.starts,
                  payload_is,
                  fit.bytes,
                  sum_below j (length nodes / node_words version) (λ m. payload_length_of (nodes_only version nodes []) (get_or w (l.order + m) 0)) h,
                );
          }

      -- the next node
      pub step-next : (d : NodeRecord) → d ≡ record_by_kind w l.new text st r (kind_of r.tag) → (out' : List ℕ) → out' ≡ put_at out at (record_words version d)
          → (count : ℕ) → count ≡ texts_by payload r (kind_of r.tag) → (st' : Starts) → st' ≡ starts_after st r
          → (at' : ℕ) → at' ≡ at + node_size version → NodesSoFar version nodes payload w l out₀ out' (text + count) st' at' (j + 1)
      unfolding sum_of
      step-next d made out' z count q st' a at' b =
          record {
            running =
                run_next 0 (length nodes / node_words version) (entry version nodes payload w l) out₀ out j at g.running (record_words version d) out' at' h
                (ap (record_words version)
                (made ∙ (λ t. record_by_kind w l.new (g.texts t) (g.starts t) (here t) (kind_of (here t).tag))))
                z (b ∙ ap (λ (k : ℕ). at + 4 * k) (sym (record_length version d)));
            texts = rw add-one (omega (arith, g.texts, more count q));
            starts =
                rw add-one
                (a
                ∙ (λ t. record { children = (g.starts t).children + children_is t; named = (g.starts t).named + named_is t; payload = (g.starts t).payload + payload_is t }));
          }

-- ---- the section is the written one

module _ (s : Sections) (version : ℕ) (nodes payload w : List ℕ) (l : Layout) (order : List ℕ) (kept : List (List ℕ)) where
  abbrev r : Sections
  r = retold s version nodes s.children s.named payload

  module _ (below : (j : ℕ) → j < length nodes / node_words version → get_or w (l.order + j) 0 < length nodes / node_words version) (p : tables_rule r ≡ 0) (q : shape_rule r ≡ 0)
      (place : (j : ℕ) → j < node_count r → place_in order (old_of order j) ≡ j) (olds : OldsAt order w (node_count r) l.order)
      (news : NewsAt order w (node_count r) l.new) where
    old_below : (j : ℕ) → j < node_count r → old_of order j < node_count r
    old_below j h = subst (λ (x : ℕ). x < node_count r) (olds j h) (below j h)

    -- a start is the sum over the nodes before
    start_is : (a b : ℕ → ℕ) → ((x : ℕ) → a x ≡ b x) → (j : ℕ) → j < node_count r → sum_of j (λ m. a (get_or w (l.order + m) 0)) ≡ start_in b order (old_of order j)
    unfolding start_in
    start_is a b e j h =
        sum_ext j (λ m. a (get_or w (l.order + m) 0)) (λ m. b (old_of order m)) (λ m k. e (get_or w (l.order + m) 0) ∙ ap b (olds m (omega arith)))
        ∙ ap (λ (k : ℕ). sum_of k (λ m. b (old_of order m))) (sym (place j h))

    used_is : (j : ℕ) → j ≤ node_count r → used_by version nodes w l.order payload j ≡ sum_of j (λ m. length (node_texts r (old_of order m)))
    used_is j h =
        sum_ext j (λ m. texts_at version nodes payload (get_or w (l.order + m) 0)) (λ m. length (node_texts r (old_of order m)))
        (λ m k. texts_at_lem r (get_or w (l.order + m) 0) ((tables r p).fields _ (below m (omega arith))) ∙ ap (λ (x : ℕ). length (node_texts r x)) (olds m (omega arith)))

    -- the root has no parent, and every other node's is a node
    parent_is : (i : ℕ) → i < node_count r → new_in w l.new (parent_of r i) ≡ new_of order (parent_of r i)
    parent_is i h = by (ℕ_discrete i 0)
      where
        by : Dec (i ≡ 0) → new_in w l.new (parent_of r i) ≡ new_of order (parent_of r i)
        by (yes e) = new_none order w l.new (parent_of r i) (ap (parent_of r) e ∙ (root r (shape r q).root).parent)
        by (no d) = new_is order w (node_count r) l.new (parent_of r i) news (parent-node r (tables r p) i h (omega arith)).below

    module _ (offs : OffsetsAt kept (node_uses r order) w l.offsets) where
      entry_is : (j : ℕ) → j < node_count r → entry version nodes payload w l j ≡ node_out r order kept (old_of order j)
      unfolding node_out number_of_children number_of_named payload_length_of node_word
      entry_is j h =
          let i = old_of order j in
          let text = l.offsets + used_by version nodes w l.order payload j in
          let st = starts_by version nodes w l.order j in
          let same : record_of version nodes (get_or w (l.order + j) 0) ≡ node_in r i = node_record r version nodes (get_or w (l.order + j) 0) refl refl ∙ ap (node_in r) (olds j h) in
          let own : OffsetsAt kept (node_texts r i) w text =
          subst (λ (m : ℕ). OffsetsAt kept (node_texts r i) w (l.offsets + m)) (sym (used_is j (omega arith)))
          (offsets-part kept w l.offsets (node_count r) (λ m. node_texts r (old_of order m)) offs j h) in
          (λ t. record_words version (record_by_kind w l.new text st (same t) (kind_of (same t).tag)))
          ∙ fielded r order w l.new news kept text st i (parent_is i (old_below j h)) (start_is (number_of_children (nodes_only version nodes [])) (number_of_children r) (λ x. refl) j h)
          (start_is (number_of_named (nodes_only version nodes [])) (number_of_named r) (λ x. refl) j h) (start_is (payload_length_of (nodes_only version nodes [])) (payload_length_of r) (λ x. refl) j h) (kind_of (tag_of r i))
          ((tables r p).fields i (old_below j h)) own
          ∙ ap (λ (l : List ℕ). new_of order (parent_of r i) ∷ place_of r i ∷ tag_of r i ∷ l) (sym (append-nil (put_fields r order kept i (replicate 7 NONE) (fields_at r i)))
          ∙ ap (λ (l : List ℕ). put_fields r order kept i (replicate 7 NONE) (fields_at r i) ++ l) (sym (more-none r order kept i)))

  -- what the section's writer says of sections that have these nodes and this payload
  abbrev NodeSection : List ℕ → List ℕ → ℕ → Sections → Type 0
  NodeSection out₀ out text x =
      tables_rule x ≡ 0 → shape_rule x ≡ 0 → ((j : ℕ) → j < node_count x → place_in order (old_of order j) ≡ j) → OldsAt order w (node_count x) l.order
      → NewsAt order w (node_count x) l.new → OffsetsAt kept (node_uses x order) w l.offsets
      → (out ≡ over (bytes_of (join_of (node_count x) (λ j. node_out x order kept (old_of order j)))) out₀) × (text ≡ l.offsets + length (node_uses x order))

  pub finish : (fit : NodesFit version nodes payload w l) (out₀ out : List ℕ) (text : ℕ) (st : Starts) (at j : ℕ) → NodesSoFar version nodes payload w l out₀ out text st at j
      → length nodes / node_words version ≤ j → s.nodes ≡ nodes → s.version ≡ version → s.payload ≡ payload → NodeSection out₀ out text s
  finish fit out₀ out text st at j g h e d b =
      subst (NodeSection out₀ out text) (sym (told s version nodes s.children s.named payload d e refl refl b))
      (λ p q place olds news offs. (
        subst (λ (ws : List ℕ). out ≡ over (bytes_of ws) out₀)
            (join_same (node_count r) _ _ (λ m k. entry_is fit.order.olds p q place olds news offs m k))
            (run_front (length nodes / node_words version) (entry version nodes payload w l) out₀ out j at g.running h),
        all p q place olds news,
      ))
    where
      all : tables_rule r ≡ 0 → shape_rule r ≡ 0 → ((m : ℕ) → m < node_count r → place_in order (old_of order m) ≡ m) → OldsAt order w (node_count r) l.order
          → NewsAt order w (node_count r) l.new → text ≡ l.offsets + length (node_uses r order)
      all p q place olds news =
          let last : j ≡ node_count r = omega (arith, g.running.within) in
          g.texts
          ∙ ap (λ (m : ℕ). l.offsets + m)
          (ap (used_by version nodes w l.order payload) last ∙ used_is fit.order.olds p q place olds news (node_count r) (omega arith)
          ∙ sym (join_length (node_count r) (λ m. node_texts r (old_of order m))))
