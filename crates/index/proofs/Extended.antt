-- An entry that goes on after that of its target's parent: its text, its fit and its order by those of the parent.
use Prim.Native.Nat.{ℕ, zero, suc, ◌+◌, ◌%◌, ◌≤◌, ◌<◌}
use mathlib.Core.Path.{◌≡◌, refl, sym, ap, ◌∙◌, subst}
use mathlib.Core.Logic.{◌≢◌}
use mathlib.Core.List.{List, [], ◌∷◌, ◌++◌, append-nil}
use mathlib.Core.Bool.{Bool, true, false, cond, ◌&&◌, not}
use native.Mathlib.Omega.{arith}
use native.Mathlib.Decide.{ℕ_discrete}
use lib.Dec.{leb, ltb, eqb}
use lib.ListN.{length, get_or, set, take, drop, take-append-drop, length-take, length-set}
use lib.Seq.{get_or-set_same, get_or-set_other}
use borrow.Author.Tests.{ltb-true, lt-ltb, eqb-true, eqb-false, eq-eqb, ne_eqb, not-true}
use Rattle.laws.specs.Refusal.{unless, ◌▸◌, first_of}
use Rattle.laws.proofs.First.{first_all}
use Rattle.laws.proofs.Flags.{both_true}
use Rattle.laws.proofs.Members.{and-true}
use Rattle.laws.proofs.Lists.{below_none, below_cons, drop-next, part_of_first}
use Rattle.words.specs.Words.{NONE, words_of}
use Rattle.texts.specs.Text.{order_of, before, same, rising}
use Rattle.texts.specs.Dots.{dot}
use Rattle.texts.proofs.Text.{order-front, less-before, same-equal}
use Rattle.image.specs.declared.TextEntry.{TextEntry}
use Rattle.image.specs.Sections.{Sections, node_count, index_word, parent_of, part_at, present, good_bytes, good_in, good_text, text_or_empty, inside, is_container, inside_container}
use Rattle.image.specs.Tags.{container_tag}
use Rattle.image.specs.Entries.{text_entry_of, index_in}
use Rattle.image.proofs.Entries.{index-entry}
use Rattle.image.proofs.Tests.{inside-true}
use Rattle.image.proofs.RisingTexts.{rising-once}
use Rattle.image.proofs.GoodBytes.{good_append, good-ascii}
use Rattle.tree.specs.Parts.{parts_of}
use Rattle.tree.specs.Reach.{climb, Climbs, AllClimb}
use Rattle.index.specs.declared.PathNode.{PathNode}
use Rattle.index.specs.Paths.{piece_of, piece, canonical_path, name_or_place, name_or_place_on_way, fits}
use Rattle.index.specs.Index.{index_text, index_entry_rule}
use Rattle.index.specs.Parts.{index_parts, path_node_of}
use Rattle.index.specs.Extended.{Tested, word_values, Filed, parent_entry, extends_by, extended_entry}
use Rattle.index.proofs.Paths.{joined-below, path-child, way_child, fits_one, path-fits}
use Rattle.index.proofs.Index.{Entry, entry-passed, word-like, count-like, container-like, name_or_place-like, path-node-like}

-- ---- a text that extends another

-- a text is that of the entry above, a dot and the piece of a node, and good if that one is
pub record Extends (strings : List ℕ) (above entry : TextEntry) (node : PathNode) : Type 0 where
  pub good : good_in strings above.offset above.len ≡ true → good_in strings entry.offset entry.len ≡ true
  pub text : part_at strings entry.offset entry.len ≡ part_at strings above.offset above.len ++ dot ∷ piece_of strings node.place node.offset node.len

-- the tests but for the last one are passed: the text is present, goes on after as many bytes as `above` has with a dot, and then with the piece
pub record Seen (strings : List ℕ) (above entry : TextEntry) (node : PathNode) (text : List ℕ) : Type 0 where
  pub given : present entry.offset entry.len ≡ true
  pub read : text ≡ text_or_empty strings entry.offset entry.len
  pub longer : above.len < length text
  pub dotted : get_or text above.len 0 ≡ dot
  pub like : same (drop (above.len + 1) text) (piece_of strings node.place node.offset node.len) ≡ true
  pub good : good_bytes (drop (above.len + 1) text) ≡ true

-- the answer by the tests of a text that was read
module _ (strings : List ℕ) (above entry : TextEntry) (node : PathNode) (text : List ℕ) (read : text ≡ text_or_empty strings entry.offset entry.len) where
  pub extends_tests : (given longer dotted like good front : Bool) → given ≡ present entry.offset entry.len → longer ≡ ltb above.len (length text)
      → dotted ≡ eqb (get_or text above.len 0) dot → like ≡ same (drop (above.len + 1) text) (piece_of strings node.place node.offset node.len)
      → good ≡ good_bytes (drop (above.len + 1) text) → front ≡ same (take above.len text) (part_at strings above.offset above.len)
      → (given && longer && dotted && like && good && front) ≡ extends_by strings above entry node
  unfolding extends_by
  extends_tests given longer dotted like good front a b c d e f = rw (a, b, c, d, e, f, read)

-- a text that is absent, and one that is present
pub extends_absent : (strings : List ℕ) (above entry : TextEntry) (node : PathNode) → present entry.offset entry.len ≡ false → false ≡ extends_by strings above entry node
extends_absent strings above entry node e = extends_tests strings above entry node _ refl false _ _ _ _ _ (sym e) refl refl refl refl refl

pub text-given : (at size : ℕ) → (at ≡ NONE → ⊥) → (size ≡ NONE → ⊥) → present at size ≡ true
text-given at size a b = rw (ne_eqb at NONE a, ne_eqb size NONE b)

-- the last test decides
pub seen-decides : {strings : List ℕ} {above entry : TextEntry} {node : PathNode} {text : List ℕ} → Seen strings above entry node text → (front : Bool)
    → front ≡ same (take above.len text) (part_at strings above.offset above.len) → front ≡ extends_by strings above entry node
seen-decides {strings} {above} {entry} {node} {text} seen front f =
    extends_tests strings above entry node text seen.read true true true true true front (sym seen.given) (sym (lt-ltb above.len (length text) seen.longer)) (sym (eq-eqb (get_or text above.len 0) dot seen.dotted))
    (sym seen.like) (sym seen.good) f

module _ {strings : List ℕ} {above entry : TextEntry} {node : PathNode} {text : List ℕ} (seen : Seen strings above entry node text) where
  abbrev at : ℕ
  at = entry.offset

  abbrev size : ℕ
  size = entry.len

  -- it is inside the strings
  inside-text : (leb (at + size) (length strings) ≡ true) × (text ≡ part_at strings at size)
  unfolding text_or_empty
  inside-text = by (leb (at + size) (length strings)) refl seen.read
    where
      by : (b : Bool) → leb (at + size) (length strings) ≡ b → text ≡ cond b (part_at strings at size) [] → (leb (at + size) (length strings) ≡ true) × (text ≡ part_at strings at size)
      by true e r = (e, r)
      by false e r = absurd (let long = seen.longer in omega (arith, ap length r))

  -- its end
  text_end : text ≡ take above.len text ++ dot ∷ drop (above.len + 1) text
  text_end =
      sym (take-append-drop above.len text)
      ∙ ap (λ (l : List ℕ). take above.len text ++ l)
      (drop-next text above.len (above.len + 1) refl seen.longer ∙ ap (λ (b : ℕ). b ∷ drop (above.len + 1) text) seen.dotted)

  module _ (front : take above.len text ≡ part_at strings above.offset above.len) where
    whole-text : part_at strings at size ≡ part_at strings above.offset above.len ++ dot ∷ piece_of strings node.place node.offset node.len
    whole-text =
        sym inside-text.1
        ∙ text_end
        ∙ ap (λ (l : List ℕ). take above.len text ++ dot ∷ l) (same-equal _ _ seen.like)
        ∙ ap (λ (l : List ℕ). l ++ dot ∷ piece_of strings node.place node.offset node.len) front

    good-whole : good_bytes (part_at strings above.offset above.len) ≡ true → good_bytes (part_at strings at size) ≡ true
    good-whole g =
        rw (← inside-text.1, text_end, front)
        (good_append (part_at strings above.offset above.len) (dot ∷ drop (above.len + 1) text) g
        (good_append (dot ∷ []) (drop (above.len + 1) text) (good-ascii (dot ∷ []) (below_cons 128 dot [] (omega arith) (below_none 128))) seen.good))

    seen_extends : Extends strings above entry node
    unfolding good_in
    seen_extends =
        record {
          good = λ g.
              let a = above.offset in
              let n = above.len in
              let bytes = (both_true (present a n && leb (a + n) (length strings)) (good_bytes (part_at strings a n)) g).1 in
              and-true _ _ (and-true _ _ seen.given inside-text.0) (good-whole bytes);
          text = whole-text;
        }

  -- the front where both texts have one offset
  pub front_shared : above.offset ≡ entry.offset → take above.len text ≡ part_at strings above.offset above.len
  unfolding part_at
  front_shared e =
      let long = seen.longer in
      let less : above.len ≤ size = omega (arith, ap length inside-text.1, length-take size (drop at strings)) in
      ap (take above.len) inside-text.1 ∙ part_of_first (drop at strings) size 0 above.len (omega arith) ∙ ap (λ (n : ℕ). take above.len (drop n strings)) (sym e)

-- where the answer is true, the text extends the other
pub extends_true : (strings : List ℕ) (above entry : TextEntry) (node : PathNode) → extends_by strings above entry node ≡ true → Extends strings above entry node
unfolding extends_by
extends_true strings above entry node e =
    let text = text_or_empty strings entry.offset entry.len in
    let rest = drop (above.len + 1) text in
    let given = present entry.offset entry.len in
    let longer = ltb above.len (length text) in
    let dotted = eqb (get_or text above.len 0) dot in
    let like = same rest (piece_of strings node.place node.offset node.len) in
    let good = good_bytes rest in
    let front = same (take above.len text) (part_at strings above.offset above.len) in
    let f = both_true (given && longer && dotted && like && good) front e in
    let g = both_true (given && longer && dotted && like) good f.0 in
    let p = both_true (given && longer && dotted) like g.0 in
    let d = both_true (given && longer) dotted p.0 in
    let l = both_true given longer d.0 in
    let seen : Seen strings above entry node text =
    record {
      given = l.0;
      read = refl;
      longer = ltb-true above.len (length text) l.1;
      dotted = eqb-true (get_or text above.len 0) dot d.1;
      like = p.1;
      good = g.1;
    } in
    seen_extends seen (same-equal _ _ f.1)

-- ---- the entry of the parent

-- entry j passes its rules but for the order, and its text goes on after that of entry k
pub record Extended (s : Sections) (j k : ℕ) : Type 0 where
  pub text : good_text s (index_word s j 0) (index_word s j 1) ≡ true
  pub target : inside_container s (index_word s j 2) ≡ true
  pub fit : fits s (index_word s j 2) (index_text s j) ≡ true
  pub rest : List ℕ
  pub longer : index_text s j ≡ index_text s k ++ dot ∷ rest

-- what a test with the answer j for no chooses, where it is below j
chosen : (b : Bool) (x j k : ℕ) → k ≡ cond b x j → k < j → (b ≡ true) × (k ≡ x)
chosen true x j k e h = (refl, e)
chosen false x j k e h = absurd (omega arith)

-- the parent's entry that is answered has the parent as its target
parent-target : (index work : List ℕ) (parent j : ℕ) → parent_entry index work parent j < j → (text_entry_of index (parent_entry index work parent j)).value ≡ parent
unfolding parent_entry
parent-target index work parent j h =
    let k = get_or work parent 0 in
    let a = ltb parent (length work) && ltb k j in
    let b = eqb (text_entry_of index k).value parent in
    let c = chosen (a && b) k j (cond (a && b) k j) refl h in
    ap (λ (n : ℕ). (text_entry_of index n).value) c.1 ∙ eqb-true (text_entry_of index k).value parent (both_true a b c.0).1

-- the answer by its tests
pub parent-tests : (index work : List ℕ) (parent j : ℕ) (inside low there : Bool) → inside ≡ ltb parent (length work) → low ≡ ltb (get_or work parent 0) j
    → there ≡ eqb (text_entry_of index (get_or work parent 0)).value parent → cond (inside && low && there) (get_or work parent 0) j ≡ parent_entry index work parent j
unfolding parent_entry
parent-tests index work parent j inside low there a b c = rw (a, b, c)

-- an entry before j whose target is the parent is the one that is answered
parent-found : (index work : List ℕ) (parent j : ℕ) → Filed index work j → (k : ℕ) → k < j → k < word_values → (text_entry_of index k).value ≡ parent → parent_entry index work parent j ≡ k
unfolding parent_entry
parent-found index work parent j filed k h l e =
    let number : get_or work parent 0 ≡ k = ap (λ (x : ℕ). get_or work x 0) (sym e) ∙ filed.number k h ∙ omega arith in
    rw (number, lt-ltb parent (length work) (subst (λ (x : ℕ). x < length work) e (filed.inside k h)), lt-ltb k j h, eq-eqb (text_entry_of index k).value parent e)

-- so an answer that is right by the words is right
pub parent-answer : (index work : List ℕ) (parent j r : ℕ) → Filed index work j → r ≡ parent_entry index work parent j
    → (r ≡ parent_entry index work parent j) × ((k : ℕ) → k < j → k < word_values → (text_entry_of index k).value ≡ parent → r ≡ k)
parent-answer index work parent j r filed e = (e, λ k h l q. e ∙ parent-found index work parent j filed k h l q)

-- a container is below the node count
below-count : (s : Sections) (i : ℕ) → inside_container s i ≡ true → i < node_count s
below-count s i p = (inside-true (node_count s) i (both_true (inside s i) (is_container s i) p).0).0

module _ (s : Sections) (j : ℕ) (tested : Tested s j) where
  earlier : (k : ℕ) → k < j → Entry s k
  earlier k h = entry-passed s k (first_all j (index_entry_rule s) tested.passed k h)

  module _ (k : ℕ) (low : k < j) (target : inside_container s (index_word s j 2) ≡ true) (away : index_word s j 2 ≡ 0 → ⊥)
      (has : name_or_place s (index_word s j 2) ≡ true) (below : parent_of s (index_word s j 2) ≡ 0 → ⊥) (parent : index_word s k 2 ≡ parent_of s (index_word s j 2))
      (longer : Extends s.strings (index_in s k) (index_in s j) (path_node_of s (index_word s j 2))) where
    abbrev i : ℕ
    i = index_word s j 2

    climbs : Climbs s (node_count s) i
    climbs = tested.climbs i (below-count s i target)

    above : (name_or_place_on_way s (parent_of s i) ≡ true) × (index_text s k ≡ canonical_path s (parent_of s i))
    above = let r = fits_one s (index_word s k 2) (index_text s k) (earlier k low).fit in (
      ap (name_or_place_on_way s) (sym parent) ∙ r.0,
      r.1 ∙ ap (canonical_path s) parent,
    )

    piece_of_lem : piece_of s.strings (path_node_of s i).place (path_node_of s i).offset (path_node_of s i).len ≡ piece s i
    unfolding piece
    piece_of_lem = refl

    extended-text : index_text s j ≡ index_text s k ++ dot ∷ piece s i
    extended-text = longer.text ∙ ap (λ (l : List ℕ). index_text s k ++ dot ∷ l) piece_of_lem

    extended_fit : fits s i (index_text s j) ≡ true
    extended_fit =
        path-fits s i (index_text s j) (way_child s i away climbs ∙ and-true _ _ has above.0)
        (extended-text
        ∙ ap (λ (l : List ℕ). l ++ dot ∷ piece s i) above.1
        ∙ sym (path-child s i away climbs ∙ joined-below (parent_of s i) (canonical_path s (parent_of s i)) (piece s i) below))

    extended : Extended s j k
    extended =
        record {
          text = longer.good (earlier k low).text;
          target = target;
          fit = extended_fit;
          rest = piece s i;
          longer = extended-text;
        }

  -- an entry before j that is answered
  pub extended-found : (work : List ℕ) (k : ℕ) → k ≡ extended_entry s work j → k < j → Extended s j k
  unfolding extended_entry
  extended-found work k e low =
      let i = index_word s j 2 in
      let at = parent_entry s.index work (parent_of s i) j in
      let away = not (eqb i 0) in
      let target = inside_container s i in
      let has = name_or_place s i in
      let below = not (eqb (parent_of s i) 0) in
      let longer = extends_by s.strings (index_in s at) (index_in s j) (path_node_of s i) in
      let t = chosen (away && target && has && below && ltb at j && longer) at j k e low in
      let l = both_true (away && target && has && below && ltb at j) longer t.0 in
      let b = both_true (away && target && has && below) (ltb at j) l.0 in
      let p = both_true (away && target && has) below b.0 in
      let h = both_true (away && target) has p.0 in
      let a = both_true away target h.0 in
      subst (Extended s j) (sym t.1)
      (extended at (ltb-true at j b.1) a.1 (eqb-false i 0 (not-true (eqb i 0) a.0)) h.1 (eqb-false (parent_of s i) 0 (not-true (eqb (parent_of s i) 0) p.1))
      (sym (ap (λ (x : TextEntry). x.value) (index-entry s s.index at refl)) ∙ parent-target s.index work (parent_of s i) j (ltb-true at j b.1))
      (extends_true s.strings (index_in s at) (index_in s j) (path_node_of s i) l.1))

-- the answer by the tests of what the code has read
module _ (version : ℕ) (nodes index strings work : List ℕ) (j : ℕ) where
  abbrev whole : Sections
  whole = index_parts version nodes index strings

  abbrev bare : Sections
  bare = index_parts version nodes [] []

  abbrev to : ℕ
  to = index_word whole j 2

  whole-tests : (k : ℕ) (away target has below low longer : Bool) → k ≡ parent_entry (words_of index) work (parent_of whole to) j → away ≡ not (eqb to 0) → target ≡ inside_container whole to
      → has ≡ name_or_place whole to → below ≡ not (eqb (parent_of whole to) 0) → low ≡ ltb k j → longer ≡ extends_by strings (index_in whole k) (index_in whole j) (path_node_of whole to)
      → cond (away && target && has && below && low && longer) k j ≡ extended_entry whole work j
  unfolding extended_entry
  whole-tests k away target has below low longer p a t h b l x = rw (x, l, b, h, t, a, p)

  pub extended-tests : (entry : TextEntry) (node : PathNode) (k : ℕ) (away target has below low longer : Bool) → entry ≡ text_entry_of (words_of index) j → node ≡ path_node_of bare entry.value
      → k ≡ parent_entry (words_of index) work node.parent j → away ≡ not (eqb entry.value 0) → target ≡ inside_container (parts_of version nodes [] [] []) entry.value
      → has ≡ name_or_place bare entry.value → below ≡ not (eqb node.parent 0) → low ≡ ltb k j → longer ≡ extends_by strings (text_entry_of (words_of index) k) entry node
      → cond (away && target && has && below && low && longer) k j ≡ extended_entry whole work j
  extended-tests entry node k away target has below low longer e n p a t h b l x =
      let e' : entry ≡ index_in whole j = e ∙ index-entry whole (words_of index) j refl in
      let v : entry.value ≡ to = ap (λ (y : TextEntry). y.value) e' in
      let n' : node ≡ path_node_of whole to = n ∙ path-node-like bare whole refl refl entry.value ∙ ap (path_node_of whole) v in
      let up : node.parent ≡ parent_of whole to = ap (λ (y : PathNode). y.parent) n' in
      whole-tests k away target has below low longer (p ∙ ap (λ (m : ℕ). parent_entry (words_of index) work m j) up) (a ∙ ap (λ (m : ℕ). not (eqb m 0)) v)
      (t ∙ container-like (parts_of version nodes [] [] []) whole refl refl entry.value ∙ ap (inside_container whole) v)
      (h ∙ name_or_place-like bare whole refl refl entry.value ∙ ap (name_or_place whole) v) (b ∙ ap (λ (m : ℕ). not (eqb m 0)) up) l
      (x
      ∙ ap (λ (y : TextEntry). extends_by strings y entry node) (index-entry whole (words_of index) k refl)
      ∙ ap (λ (y : TextEntry). extends_by strings (index_in whole k) y node) e'
      ∙ ap (λ (y : PathNode). extends_by strings (index_in whole k) (index_in whole j) y) n')

-- ---- sections with the same nodes

module _ (s r : Sections) (versioned : s.version ≡ r.version) (nodes : s.nodes ≡ r.nodes) where
  climb-like : (k i : ℕ) → climb s k i ≡ climb r k i
  unfolding climb
  climb-like zero i = refl
  climb-like (suc k) i = climb-like k (parent_of s i) ∙ ap (climb r k) (word-like s r versioned nodes i 0)

  pub climbs-like : AllClimb s → AllClimb r
  climbs-like c i h =
      let x = c i (rw (count-like s r versioned nodes) h) in
      record {
        steps = x.steps;
        few = rw (← count-like s r versioned nodes) x.few;
        arrives = sym (climb-like x.steps i) ∙ x.arrives;
        containers = λ k l. sym (ap (is_container s) (climb-like (suc k) i) ∙ ap (λ (w : ℕ). eqb w container_tag) (word-like s r versioned nodes (climb r (suc k) i) 2)) ∙ x.containers k l;
      }

-- the target of an entry that passes is one of the nodes
pub target_below : (version : ℕ) (nodes index strings : List ℕ) (j : ℕ) (entry : TextEntry) → index_entry_rule (index_parts version nodes index strings) j ≡ 0
    → entry ≡ text_entry_of (words_of index) j → entry.value < node_count (index_parts version nodes [] [])
target_below version nodes index strings j entry p e =
    let s = index_parts version nodes index strings in
    let v : entry.value ≡ index_word s j 2 = ap (λ (x : TextEntry). x.value) (e ∙ index-entry s (words_of index) j refl) in
    subst (λ (n : ℕ). n < node_count s) (sym v) (below-count s (index_word s j 2) (entry-passed s j p).target)

-- ---- the numbers of entries in the work words

pub none-filed : (index work : List ℕ) → Filed index work 0
none-filed index work = record { inside = λ k h. absurd (omega arith); number = λ k h. absurd (omega arith) }

-- an entry that passes is filed: no entry before it has its target
module _ (version : ℕ) (nodes index strings : List ℕ) (j : ℕ) (passed : first_of (j + 1) (index_entry_rule (index_parts version nodes index strings)) ≡ 0) where
  abbrev all : Sections
  all = index_parts version nodes index strings

  abbrev target : ℕ → ℕ
  target k = (text_entry_of (words_of index) k).value

  entry_of : (k : ℕ) → k < j + 1 → Entry all k
  entry_of k h = entry-passed all k (first_all (j + 1) (index_entry_rule all) passed k h)

  path_of_lem : (k : ℕ) → k < j + 1 → index_text all k ≡ canonical_path all (target k)
  path_of_lem k h =
      (fits_one all (index_word all k 2) (index_text all k) (entry_of k h).fit).1 ∙ ap (canonical_path all) (sym (ap (λ (x : TextEntry). x.value) (index-entry all (words_of index) k refl)))

  other-target : (k : ℕ) → k < j → target k ≢ target j
  other-target k h e =
      let one = rising-once (index_text all) (j + 1) (λ n l. (entry_of n l).order) k j (omega arith) (omega arith) (path_of_lem k (omega arith) ∙ ap (canonical_path all) e ∙ sym (path_of_lem j (omega arith))) in
      omega arith

  pub entry-filed : (work : List ℕ) (entry : TextEntry) → entry ≡ text_entry_of (words_of index) j → entry.value < length work → Filed (words_of index) work j
      → Filed (words_of index) (set work entry.value (j % word_values)) (j + 1)
  entry-filed work entry e low filed =
      let is : entry.value ≡ target j = ap (λ (x : TextEntry). x.value) e in
      record {
        inside = λ k h. rw (length-set work entry.value (j % word_values)) (elim (ℕ_discrete k j) [
          | yes q ↦ subst (λ (n : ℕ). n < length work) (is ∙ ap target (sym q)) low
          | no d ↦ filed.inside k (omega arith)
        ]);
        number = λ k h. elim (ℕ_discrete k j) [
          | yes q ↦ ap (λ (n : ℕ). get_or (set work entry.value (j % word_values)) n 0) (ap target q ∙ sym is) ∙ get_or-set_same work entry.value (j % word_values) 0 low ∙ ap (λ (n : ℕ). n % word_values) (sym q)
          | no d ↦ get_or-set_other work entry.value (target k) (j % word_values) 0 (λ q. other-target k (omega arith) (q ∙ is)) ∙ filed.number k (omega arith)
        ];
      }

-- ---- its refusal

before-longer : (s t : List ℕ) (b : ℕ) → before s (s ++ b ∷ t) ≡ true
unfolding order_of
before-longer s t b = less-before s (s ++ b ∷ t) (ap (λ (l : List ℕ). order_of l (s ++ b ∷ t)) (sym (append-nil s)) ∙ order-front s [] (b ∷ t))

module _ {s : Sections} {j k : ℕ} (f : Extended s j k) where
  -- by the order
  pub extended-rule : index_entry_rule s j ≡ unless (rising (index_text s) j) 16
  unfolding index_entry_rule unless ◌▸◌
  extended-rule = rw (f.text, f.target, f.fit) (by (rising (index_text s) j))
    where
      by : (b : Bool) → (unless b 16 ▸ 0) ≡ unless b 16
      by true = refl
      by false = refl

  -- right behind the parent's it comes after it
  pub extended-next : k + 1 ≡ j → index_entry_rule s j ≡ 0
  unfolding unless
  extended-next e = extended-rule ∙ ap (λ (b : Bool). unless b 16) (risen j e f.longer)
    where
      risen : (m : ℕ) → k + 1 ≡ m → index_text s m ≡ index_text s k ++ dot ∷ f.rest → rising (index_text s) m ≡ true
      risen zero q l = absurd (omega arith)
      risen (suc m) q l =
          let n : m ≡ k = omega arith in
          ap (λ (t : List ℕ). before (index_text s m) t) l
          ∙ ap (λ (x : ℕ). before (index_text s x) (index_text s k ++ dot ∷ f.rest)) n
          ∙ before-longer (index_text s k) f.rest dot
