-- The loops that write definitions and items.
use Prim.Native.Nat.{ℕ, ◌+◌, ◌*◌, ◌/◌, ◌≤◌, ◌<◌}
use mathlib.Core.Path.{◌≡◌, refl, sym, ap, ◌∙◌, subst}
use mathlib.Core.List.{List, [], ◌∷◌}
use native.Mathlib.Omega.{arith}
use native.Mathlib.Numerals.{add-one}
use lib.ListN.{length, get_or}
use Rattle.laws.specs.Counted.{sum_of, join_of}
use Rattle.words.specs.Words.{bytes_of}
use Rattle.image.specs.declared.Definition.{Definition}
use Rattle.image.specs.Entries.{definition_of}
use Rattle.image.specs.Sections.{Sections, text_entry_size, definition_size, text_entry_words, definition_words, definition_count, item_count, definition_word}
use Rattle.draft.specs.Draft.{tables_rule}
use Rattle.draft_image.specs.Ready.{OffsetsAt, definition_uses}
use Rattle.draft_image.specs.Written.{definition_out, item_out}
use Rattle.draft_image.proofs.Joins.{sum_below, sum_scale, join_len, even_len}
use Rattle.words.specs.Output.{over, put_at}
use Rattle.words.proofs.EntryLoop.{Running, run_start, run_room, run_next, run_front}
use Rattle.write_list_sections.specs.Entered.{texts_before, items_before_in, definition_entry, item_words, items_words}
use Rattle.write_list_sections.proofs.DefinitionWords.{definitions_are, items_are}

-- the use of one definition after another
before-next : (definitions : List ℕ) (d : ℕ) → texts_before definitions (d + 1) ≡ texts_before definitions d + 1 + get_or definitions (d * definition_words + 3) 0
unfolding texts_before sum_of
before-next definitions d = rw add-one (omega arith)

before-below : (definitions : List ℕ) (n d : ℕ) → d < n → texts_before definitions d + 1 + get_or definitions (d * definition_words + 3) 0 ≤ texts_before definitions n
unfolding texts_before
before-below definitions n d h = omega (arith, sum_below d n (λ e. 1 + get_or definitions (e * definition_words + 3) 0) h)

-- d of n definitions are passed, and the offset of the next one's text is word k
pub record Passing (definitions w : List ℕ) (offsets n k d : ℕ) : Type 0 where
  pub text : k ≡ offsets + texts_before definitions d
  pub enough : offsets + texts_before definitions n ≤ length w

module _ (definitions w : List ℕ) (offsets n : ℕ) where
  pub pass-start : offsets + texts_before definitions n ≤ length w → Passing definitions w offsets n offsets 0
  pass-start h = record { text = unfold texts_before sum_of in omega arith; enough = h }

  module _ (k d : ℕ) (p : Passing definitions w offsets n k d) (h : d < n) (r : Definition) (e : r ≡ definition_of definitions d) where
    count_is : r.count ≡ get_or definitions (d * definition_words + 3) 0
    unfolding definition_of
    count_is = ap (λ (x : Definition). x.count) e

    -- the texts of the definition and its items are inside
    pub pass-inside : k + 1 + r.count ≤ length w
    pass-inside = omega (arith, p.text, p.enough, count_is, before-below definitions n d h)

    pub pass-next : (k' : ℕ) → k' ≡ k + (1 + r.count) → Passing definitions w offsets n k' (d + 1)
    pass-next k' q = record { text = omega (arith, p.text, count_is, before-next definitions d); enough = p.enough }

-- ---- definitions

module _ (definitions w : List ℕ) (offsets : ℕ) where
  definition-words : (d k x : ℕ) (r : Definition) → k ≡ offsets + texts_before definitions d → x ≡ get_or w k 0 → r ≡ definition_of definitions d
      → x ∷ r.len ∷ r.first ∷ r.count ∷ [] ≡ definition_entry definitions w offsets d
  unfolding definition_entry definition_of
  definition-words d k x r p q e =
      let offset = q ∙ ap (λ (m : ℕ). get_or w m 0) p in
      λ j. offset j ∷ (e j).len ∷ (e j).first ∷ (e j).count ∷ []

  sized : (d : ℕ) → length (definition_entry definitions w offsets d) ≡ 4
  unfolding definition_entry
  sized d = refl

-- d definitions are written, and the next one goes to `at`
pub record Defining (definitions w : List ℕ) (offsets n : ℕ) (out₀ out : List ℕ) (k at d : ℕ) : Type 0 where
  pub long : length out ≡ length out₀
  pub passing : Passing definitions w offsets n k d
  pub running : Running 0 n (definition_entry definitions w offsets) out₀ out d at

module _ (definitions w : List ℕ) (offsets n : ℕ) (out₀ : List ℕ) where
  pub define_start : offsets + texts_before definitions n ≤ length w → definition_size * n ≤ length out₀ → Defining definitions w offsets n out₀ out₀ offsets 0 0
  define_start h q =
      record {
        long = refl;
        passing = pass-start definitions w offsets n h;
        running =
            run_start 0 n (definition_entry definitions w offsets) out₀
            (omega (arith, even_len n 4 (definition_entry definitions w offsets) (λ m z. sized definitions w offsets m))) 0 refl;
      }

  module _ (out : List ℕ) (k at d : ℕ) (p : Defining definitions w offsets n out₀ out k at d) (h : d < n) where
    pub define_room : at + 16 ≤ length out
    define_room = omega (arith, run_room 0 n (definition_entry definitions w offsets) out₀ out d at p.running h, sized definitions w offsets d)

    pub define_next : (r : Definition) → r ≡ definition_of definitions d → (x : ℕ) → x ≡ get_or w k 0 → (out' : List ℕ)
        → out' ≡ put_at out at (x ∷ r.len ∷ r.first ∷ r.count ∷ []) → (k' at' : ℕ) → k' ≡ k + (1 + r.count) → at' ≡ at + 16
        → Defining definitions w offsets n out₀ out' k' at' (d + 1)
    define_next r e x q out' put k' at' u v =
        let next = run_next 0 n (definition_entry definitions w offsets) out₀ out d at p.running (x ∷ r.len ∷ r.first ∷ r.count ∷ []) out' at' h
        (definition-words definitions w offsets d k x r p.passing.text q e) put (omega arith) in
        record { long = next.long; passing = pass-next definitions w offsets n k d p.passing h r e k' u; running = next }

pub define_end : (definitions w : List ℕ) (offsets : ℕ) (out₀ out : List ℕ) (k at d : ℕ) → Defining definitions w offsets (length definitions / definition_words) out₀ out k at d
    → length definitions / definition_words ≤ d → (s : Sections) (order : List ℕ) (kept : List (List ℕ)) → s.definitions ≡ definitions → tables_rule s ≡ 0
    → OffsetsAt kept (definition_uses s) w offsets → out ≡ over (bytes_of (join_of (definition_count s) (definition_out s order kept))) out₀
define_end definitions w offsets out₀ out k at d p h s order kept e q o =
    run_front (length definitions / definition_words) (definition_entry definitions w offsets) out₀ out d at p.running h
    ∙ ap (λ (ws : List ℕ). over (bytes_of ws) out₀) (subst (λ (ds : List ℕ). join_of (length ds / definition_words) (definition_entry ds w offsets) ≡ join_of (definition_count s) (definition_out s order kept)) e (definitions_are s order kept w offsets q o))

-- ---- items

module _ (items w : List ℕ) (text first : ℕ) where
  pub item-words : (i x y z : ℕ) → x ≡ get_or w (text + i) 0 → y ≡ get_or items ((first + i) * text_entry_words + 1) 0 → z ≡ get_or items ((first + i) * text_entry_words + 2) 0
      → x ∷ y ∷ z ∷ [] ≡ item_words items w text first i
  unfolding item_words
  item-words i x y z p q r = λ j. p j ∷ q j ∷ r j ∷ []

  item-sized : (i : ℕ) → length (item_words items w text first i) ≡ 3
  unfolding item_words
  item-sized i = refl

  pub items-start : (count at : ℕ) (out : List ℕ) → at + text_entry_size * count ≤ length out → Running at count (item_words items w text first) out out 0 at
  items-start count at out h =
      run_start at count (item_words items w text first) out (omega (arith, even_len count 3 (item_words items w text first) (λ m z. item-sized m))) at refl

  pub items-room : (at count : ℕ) (out₀ out : List ℕ) (i place : ℕ) → Running at count (item_words items w text first) out₀ out i place → i < count → place + 12 ≤ length out
  items-room at count out₀ out i place p h = omega (arith, run_room at count (item_words items w text first) out₀ out i place p h, item-sized i)

-- the items of definition d, as they are read
module _ (definitions items w : List ℕ) (offsets : ℕ) where
  items_of : (d k : ℕ) (r : Definition) → k ≡ offsets + texts_before definitions d → r ≡ definition_of definitions d
      → join_of r.count (item_words items w (k + 1) r.first) ≡ items_words definitions items w offsets d
  unfolding items_words definition_of
  items_of d k r p e = λ j. join_of (e j).count (item_words items w (p j + 1) (e j).first)

  items-length : (d : ℕ) → length (items_words definitions items w offsets d) ≡ get_or definitions (d * definition_words + 3) 0 * text_entry_words
  unfolding items_words
  items-length d = even_len (get_or definitions (d * definition_words + 3) 0) 3 (item_words items w (offsets + texts_before definitions d + 1) (get_or definitions (d * definition_words + 2) 0)) (λ m z. item-sized items w _ _ m)

  all_length : (n : ℕ) → length (join_of n (items_words definitions items w offsets)) ≡ items_before_in definitions n * text_entry_words
  unfolding items_before_in definition_word
  all_length n =
      join_len n (items_words definitions items w offsets) (λ d. get_or definitions (d * definition_words + 3) 0 * text_entry_words) (λ m z. items-length m)
      ∙ sum_scale n 3 (λ d. get_or definitions (d * definition_words + 3) 0)

-- the items of d definitions are written, and the next ones go to `at`
pub record Itemizing (definitions items w : List ℕ) (offsets n : ℕ) (out₀ out : List ℕ) (k at d : ℕ) : Type 0 where
  pub long : length out ≡ length out₀
  pub passing : Passing definitions w offsets n k d
  pub running : Running 0 n (items_words definitions items w offsets) out₀ out d at

module _ (definitions items w : List ℕ) (offsets n : ℕ) (out₀ : List ℕ) where
  pub itemize_start : offsets + texts_before definitions n ≤ length w → text_entry_size * items_before_in definitions n ≤ length out₀
      → Itemizing definitions items w offsets n out₀ out₀ offsets 0 0
  itemize_start h q =
      record {
        long = refl;
        passing = pass-start definitions w offsets n h;
        running = run_start 0 n (items_words definitions items w offsets) out₀ (omega (arith, all_length definitions items w offsets n)) 0 refl;
      }

  module _ (out : List ℕ) (k at d : ℕ) (p : Itemizing definitions items w offsets n out₀ out k at d) (h : d < n) (r : Definition) (e : r ≡ definition_of definitions d) where
    -- the items have room, and so have their offsets
    pub itemize_room : (k + 1 + r.count ≤ length w) × (at + text_entry_size * r.count ≤ length out)
    itemize_room = (
      pass-inside definitions w offsets n k d p.passing h r e,
      omega (
        arith,
        run_room 0 n (items_words definitions items w offsets) out₀ out d at p.running h,
        items-length definitions items w offsets d,
        count_is definitions w offsets n k d p.passing h r e,
      ),
    )

    pub itemize_next : (out' : List ℕ) → out' ≡ put_at out at (join_of r.count (item_words items w (k + 1) r.first)) → (k' at' : ℕ)
        → k' ≡ k + (1 + r.count) → at' ≡ at + text_entry_size * r.count → Itemizing definitions items w offsets n out₀ out' k' at' (d + 1)
    itemize_next out' put k' at' u v =
        let size = ap length (items_of definitions items w offsets d k r p.passing.text e) in
        let next = run_next 0 n (items_words definitions items w offsets) out₀ out d at p.running (join_of r.count (item_words items w (k + 1) r.first)) out' at' h
        (items_of definitions items w offsets d k r p.passing.text e) put
        (omega (arith, size, items-length definitions items w offsets d, count_is definitions w offsets n k d p.passing h r e)) in
        record { long = next.long; passing = pass-next definitions w offsets n k d p.passing h r e k' u; running = next }

pub itemize_end : (definitions items w : List ℕ) (offsets : ℕ) (out₀ out : List ℕ) (k at d : ℕ)
    → Itemizing definitions items w offsets (length definitions / definition_words) out₀ out k at d → length definitions / definition_words ≤ d
    → (s : Sections) (order : List ℕ) (kept : List (List ℕ)) → s.definitions ≡ definitions → s.items ≡ items → tables_rule s ≡ 0
    → OffsetsAt kept (definition_uses s) w offsets → out ≡ over (bytes_of (join_of (item_count s) (item_out s order kept))) out₀
itemize_end definitions items w offsets out₀ out k at d p h s order kept e i q o =
    run_front (length definitions / definition_words) (items_words definitions items w offsets) out₀ out d at p.running h
    ∙ ap (λ (ws : List ℕ). over (bytes_of ws) out₀)
    ((λ j. join_of (length (sym e j) / definition_words) (items_words (sym e j) (sym i j) w offsets)) ∙ items_are s order kept w offsets q o)
