-- The loop that writes the payload, node by node, and that what it writes is the written section.
use Prim.Native.Nat.{ℕ, zero, suc, ◌+◌, ◌*◌, ◌/◌, ◌≤◌, ◌<◌}
use mathlib.Core.Path.{◌≡◌, refl, sym, ap, ◌∙◌, subst}
use mathlib.Core.List.{List, ◌++◌}
use native.Mathlib.Omega.{arith}
use native.Mathlib.Numerals.{add-one}
use lib.ListN.{length, get_or}
use Rattle.laws.specs.Counted.{sum_of, join_of}
use Rattle.laws.proofs.Members.{sum_ext}
use Rattle.words.specs.Words.{bytes_of}
use Rattle.words.proofs.Words.{bytes_append, length-bytes}
use Rattle.image.specs.declared.NodeRecord.{NodeRecord}
use Rattle.image.specs.Entries.{record_of, node_in}
use Rattle.image.specs.Sections.{Sections, node_words, node_count}
use Rattle.image.proofs.Entries.{node_record}
use Rattle.records.specs.Fields.{kind_of}
use Rattle.draft.specs.Draft.{tables_rule}
use Rattle.draft.specs.Numbering.{old_of}
use Rattle.draft.proofs.Rules.{tables}
use Rattle.draft_image.specs.Strings.{node_texts}
use Rattle.draft_image.specs.Ready.{OldsAt, OffsetsAt, node_uses}
use Rattle.draft_image.specs.Written.{payload_out}
use Rattle.draft_image.proofs.Joins.{sum_below, join_same, join_length}
use Rattle.draft_image.proofs.Offsets.{offsets-part}
use Rattle.words.specs.Output.{over}
use Rattle.words.proofs.EntryLoop.{Running, run_start, run_room, run_next, run_front}
use Rattle.write_numbering.proofs.DraftWords.{retold, told}
use Rattle.write_tree_sections.specs.Encoded.{texts_by}
use Rattle.write_tree_sections.specs.Summed.{texts_at, used_by}
use Rattle.write_tree_sections.proofs.FieldWords.{texts_at_lem}
use Rattle.write_list_sections.specs.Entered.{node_list_words, payload_words, PayloadFits, PutAsBytes}
use Rattle.write_list_sections.proofs.ListWords.{node-written}

-- j nodes are passed: the next list goes to `at`, and the offset of the next node's first text is word `text`
pub record ListsSoFar (version : ℕ) (nodes payload w : List ℕ) (order offsets : ℕ) (out₀ out : List ℕ) (text at j : ℕ) : Type 0 where
  pub long : length out ≡ length out₀
  pub fits : PayloadFits version nodes payload w order offsets
  pub word : text ≡ offsets + used_by version nodes w order payload j
  pub running : Running 0 (length nodes / node_words version) (payload_words version nodes payload w order offsets) out₀ out j at

module _ (version : ℕ) (nodes payload w : List ℕ) (order offsets : ℕ) (out₀ : List ℕ) where
  pub pay_start : PayloadFits version nodes payload w order offsets → 4 * length (join_of (length nodes / node_words version) (payload_words version nodes payload w order offsets)) ≤ length out₀
      → ListsSoFar version nodes payload w order offsets out₀ out₀ offsets 0 0
  pay_start p h =
      record {
        long = refl;
        fits = p;
        word = unfold sum_of in omega arith;
        running = run_start 0 (length nodes / node_words version) (payload_words version nodes payload w order offsets) out₀ (omega arith) 0 refl;
      }

  module _ (out : List ℕ) (text at j : ℕ) (p : ListsSoFar version nodes payload w order offsets out₀ out text at j) (h : j < length nodes / node_words version) where
    pub pay_order : order + j < length w
    pay_order = omega (arith, p.fits.order_end)

    pub pay_node : (x : ℕ) → x ≡ get_or w (order + j) 0 → x < length nodes / node_words version
    pay_node x e = omega (arith, p.fits.olds j h)

    module _ (x : ℕ) (q : x ≡ get_or w (order + j) 0) (r : NodeRecord) (e : r ≡ record_of version nodes x) where
      here : r ≡ record_of version nodes (get_or w (order + j) 0)
      here = e ∙ ap (record_of version nodes) q

      texts-here : texts_by payload r (kind_of r.tag) ≡ texts_at version nodes payload (get_or w (order + j) 0)
      unfolding texts_at
      texts-here = ap (λ (y : NodeRecord). texts_by payload y (kind_of y.tag)) here

      words-here : node_list_words payload w text r ≡ payload_words version nodes payload w order offsets j
      unfolding payload_words
      words-here = λ t. node_list_words payload w (p.word t) (here t)

      pub pay_texts : (c : ℕ) → c ≡ texts_by payload r (kind_of r.tag) → text + c ≤ length w
      pay_texts c z =
          omega (arith, p.word, texts-here, p.fits.texts, sum_below j (length nodes / node_words version) (λ m. texts_at version nodes payload (get_or w (order + m) 0)) h)

      pub pay_asked : (text + texts_by payload r (kind_of r.tag) ≤ length w) × (at + 4 * length (node_list_words payload w text r) ≤ length out)
      pay_asked = (
        pay_texts (texts_by payload r (kind_of r.tag)) refl,
        omega (arith, run_room 0 (length nodes / node_words version) (payload_words version nodes payload w order offsets) out₀ out j at p.running h, ap length words-here),
      )

      pub pay_next : (out' : List ℕ) (at' : ℕ) → PutAsBytes (node_list_words payload w text r) out out' at at' → (c : ℕ) → c ≡ texts_by payload r (kind_of r.tag)
          → ListsSoFar version nodes payload w order offsets out₀ out' (text + c) at' (j + 1)
      pay_next out' at' z c y =
          let next = run_next 0 (length nodes / node_words version) (payload_words version nodes payload w order offsets) out₀ out j at p.running (node_list_words payload w text r) out' at' h
          words-here z.is z.end in
          record { long = next.long; fits = p.fits; word = unfold sum_of in rw add-one (omega (arith, p.word, texts-here)); running = next }

-- ---- the section is the written one

bytes_join : (n : ℕ) (g : ℕ → List ℕ) → bytes_of (join_of n g) ≡ join_of n (λ j. bytes_of (g j))
unfolding join_of
bytes_join zero g = unfold bytes_of in refl
bytes_join (suc n) g = bytes_append (join_of n g) (g n) ∙ ap (λ (l : List ℕ). l ++ bytes_of (g n)) (bytes_join n g)

module _ (s : Sections) (version : ℕ) (nodes payload w : List ℕ) (order offsets : ℕ) (olds : List ℕ) (kept : List (List ℕ)) where
  abbrev r : Sections
  r = retold s version nodes s.children s.named payload

  module _ (fits : PayloadFits version nodes payload w order offsets) (p : tables_rule r ≡ 0) (q : OldsAt olds w (node_count r) order)
      (o : OffsetsAt kept (node_uses r olds) w offsets) where
    old_below : (j : ℕ) → j < node_count r → old_of olds j < node_count r
    old_below j h = subst (λ (x : ℕ). x < node_count r) (q j h) (fits.olds j h)

    used_is : (j : ℕ) → j ≤ node_count r → sum_of j (λ m. length (node_texts r (old_of olds m))) ≡ used_by version nodes w order payload j
    used_is j h =
        sum_ext j (λ m. length (node_texts r (old_of olds m))) (λ m. texts_at version nodes payload (get_or w (order + m) 0))
        (λ m k. sym (ap (texts_at version nodes payload) (q m (omega arith)) ∙ texts_at_lem r (old_of olds m) ((tables r p).fields _ (old_below m (omega arith)))))

    part_is : (j : ℕ) → j < node_count r → bytes_of (payload_words version nodes payload w order offsets j) ≡ payload_out r olds kept (old_of olds j)
    unfolding payload_words
    part_is j h =
        let i = old_of olds j in
        let text = offsets + used_by version nodes w order payload j in
        let same : record_of version nodes (get_or w (order + j) 0) ≡ node_in r i = node_record r version nodes (get_or w (order + j) 0) refl refl ∙ ap (node_in r) (q j h) in
        let own : OffsetsAt kept (node_texts r i) w text =
        subst (λ (m : ℕ). OffsetsAt kept (node_texts r i) w (offsets + m)) (used_is j (omega arith))
        (offsets-part kept w offsets (node_count r) (λ m. node_texts r (old_of olds m)) o j h) in
        ap (λ (x : NodeRecord). bytes_of (node_list_words payload w text x)) same
        ∙ node-written r olds kept w text i ((tables r p).fields i (old_below j h)) own

    section_is : bytes_of (join_of (length nodes / node_words version) (payload_words version nodes payload w order offsets)) ≡ join_of (node_count r) (λ j. payload_out r olds kept (old_of olds j))
    section_is =
        bytes_join (length nodes / node_words version) (payload_words version nodes payload w order offsets)
        ∙ join_same (node_count r) (λ j. bytes_of (payload_words version nodes payload w order offsets j)) (λ j. payload_out r olds kept (old_of olds j)) part_is

  -- what the section's writer says of sections that have these nodes and this payload
  abbrev Paid : List ℕ → List ℕ → Sections → Type 0
  Paid out₀ out x =
      tables_rule x ≡ 0 → OldsAt olds w (node_count x) order → OffsetsAt kept (node_uses x olds) w offsets
      → out ≡ over (join_of (node_count x) (λ j. payload_out x olds kept (old_of olds j))) out₀

  pub pay_end : (out₀ out : List ℕ) (text at j : ℕ) → ListsSoFar version nodes payload w order offsets out₀ out text at j → length nodes / node_words version ≤ j
      → s.nodes ≡ nodes → s.version ≡ version → s.payload ≡ payload → Paid out₀ out s
  pay_end out₀ out text at j g h e d b =
      subst (Paid out₀ out) (sym (told s version nodes s.children s.named payload d e refl refl b))
      (λ p q o.
      run_front (length nodes / node_words version) (payload_words version nodes payload w order offsets) out₀ out j at g.running h
      ∙ ap (λ (bs : List ℕ). over bs out₀) (section_is g.fits p q o))

  -- ---- what the writer asks for, out of the rules

  -- how much room the section takes
  pub pay_room : PayloadFits version nodes payload w order offsets → s.nodes ≡ nodes → s.version ≡ version → s.payload ≡ payload → tables_rule s ≡ 0
      → OldsAt olds w (node_count s) order → OffsetsAt kept (node_uses s olds) w offsets
      → 4 * length (join_of (length nodes / node_words version) (payload_words version nodes payload w order offsets)) ≡ length (join_of (node_count s) (λ j. payload_out s olds kept (old_of olds j)))
  pay_room fits e d b =
      subst
      (λ (x : Sections). tables_rule x ≡ 0 → OldsAt olds w (node_count x) order → OffsetsAt kept (node_uses x olds) w offsets
      → 4 * length (join_of (length nodes / node_words version) (payload_words version nodes payload w order offsets)) ≡ length (join_of (node_count x) (λ j. payload_out x olds kept (old_of olds j))))
      (sym (told s version nodes s.children s.named payload d e refl refl b))
      (λ p q o. sym (length-bytes (join_of (length nodes / node_words version) (payload_words version nodes payload w order offsets))) ∙ ap length (section_is fits p q o))

  -- the numbers are nodes, and there is an offset for each text
  pub pay_fits : s.nodes ≡ nodes → s.version ≡ version → s.payload ≡ payload → tables_rule s ≡ 0 → OldsAt olds w (node_count s) order
      → ((j : ℕ) → j < node_count s → old_of olds j < node_count s) → order + node_count s ≤ length w → offsets + length (node_uses s olds) ≤ length w
      → PayloadFits version nodes payload w order offsets
  pay_fits e d b =
      subst
      (λ (x : Sections). tables_rule x ≡ 0 → OldsAt olds w (node_count x) order → ((j : ℕ) → j < node_count x → old_of olds j < node_count x)
      → order + node_count x ≤ length w → offsets + length (node_uses x olds) ≤ length w → PayloadFits version nodes payload w order offsets)
      (sym (told s version nodes s.children s.named payload d e refl refl b))
      (λ p q below h t.
      record {
        olds = λ j k. subst (λ (x : ℕ). x < node_count r) (sym (q j k)) (below j k);
        order_end = h;
        texts =
            omega (
              arith,
              join_length (node_count r) (λ m. node_texts r (old_of olds m)),
              sum_ext (node_count r) (λ m. length (node_texts r (old_of olds m))) (λ m. texts_at version nodes payload (get_or w (order + m) 0))
                  (λ m k. sym (ap (texts_at version nodes payload) (q m k) ∙ texts_at_lem r (old_of olds m) ((tables r p).fields _ (below m k)))),
            );
      })
