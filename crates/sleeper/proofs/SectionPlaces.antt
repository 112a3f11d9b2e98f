-- Where sections lie by the counts, as the code adds them up.
use Prim.Native.Nat.{ℕ, ◌+◌, ◌*◌, ◌-◌, ◌/◌, ◌≤◌, ◌<◌}
use mathlib.Core.Path.{◌≡◌, refl, sym, ap, ◌∙◌, subst}
use mathlib.Core.List.{List}
use mathlib.Core.Bool.{Bool, true, false, cond, ◌&&◌}
use native.Mathlib.Omega.{arith}
use lib.ListN.{length}
use lib.Dec.{leb}
use borrow.Author.Tests.{leb-true, le-leb, lt-leb}
use Rattle.laws.specs.Counted.{sum_of}
use Rattle.laws.proofs.Flags.{both_true}
use Rattle.words.specs.Words.{NONE, words_of}
use Rattle.image.specs.declared.Section.{Section}
use Rattle.image.specs.declared.ImageView.{ImageView}
use Rattle.image.specs.Sections.{node_words, node_size, most_node_size, child_size, text_entry_size, definition_size}
use Rattle.image.specs.Header.{header_length, sizes, section_bytes}
use Rattle.image.proofs.Widths.{words-some, size-words, number-words}
use Rattle.image.proofs.Views.{Within, Inside, section-count}
use Rattle.sleeper.specs.declared.SleeperView.{SleeperView}
use Rattle.sleeper.specs.Reader.{start_of, section_by, fits, placed, unplaced, with_places}

-- so many nodes in bytes
pub nodes-most : (n version size : ℕ) → n ≤ NONE → size ≡ 4 * node_words version → n * size ≤ NONE * most_node_size
nodes-most n version size h e = rw (e, size-words n version) (omega (arith, number-words n version h))

-- where sections 0 to 6 end
module _ (n : ℕ) (v : SleeperView) (a : ℕ) (pa : a ≡ header_length + v.nodes * node_size v.version) (b : ℕ) (pb : b ≡ a + v.children * child_size)
    (c : ℕ) (pc : c ≡ b + v.named * text_entry_size) (d : ℕ) (pd : d ≡ c + v.definitions * definition_size) (e : ℕ) (pe : e ≡ d + v.items * text_entry_size)
    (f : ℕ) (pf : f ≡ e + v.index * text_entry_size) (g : ℕ) (pg : g ≡ f + v.payload * 1) where
  starts : (a ≡ start_of v 1) × (b ≡ start_of v 2) × (c ≡ start_of v 3) × (d ≡ start_of v 4) × (e ≡ start_of v 5) × (f ≡ start_of v 6) × (g ≡ start_of v 7)
  unfolding start_of sum_of sizes
  starts = (omega arith, omega arith, omega arith, omega arith, omega arith, omega arith, omega arith)

  first : header_length ≡ start_of v 0
  unfolding start_of sum_of
  first = refl

  pub placed-there : n ≤ NONE → g ≤ n → (nodes children named definitions items index payload strings : Section)
      → nodes ≡ section_by header_length v.nodes → children ≡ section_by a v.children → named ≡ section_by b v.named
      → definitions ≡ section_by c v.definitions → items ≡ section_by d v.items → index ≡ section_by e v.index → payload ≡ section_by f v.payload
      → strings ≡ section_by g (n - g)
      → record {
        version = v.version;
        ink_version = v.ink_version;
        nodes = nodes;
        children = children;
        named = named;
        definitions = definitions;
        items = items;
        index = index;
        payload = payload;
        strings = strings;
      } ≡ with_places n v
  unfolding with_places fits
  placed-there h l nodes children named definitions items index payload strings p0 p1 p2 p3 p4 p5 p6 p7 =
      let s = starts in
      rw (le-leb n NONE h, le-leb (start_of v 7) n (rw (← s.6) l))
      (λ t. record {
        version = v.version;
        ink_version = v.ink_version;
        nodes = (p0 ∙ ap (λ (x : ℕ). section_by x v.nodes) first) t;
        children = (p1 ∙ ap (λ (x : ℕ). section_by x v.children) s.0) t;
        named = (p2 ∙ ap (λ (x : ℕ). section_by x v.named) s.1) t;
        definitions = (p3 ∙ ap (λ (x : ℕ). section_by x v.definitions) s.2) t;
        items = (p4 ∙ ap (λ (x : ℕ). section_by x v.items) s.3) t;
        index = (p5 ∙ ap (λ (x : ℕ). section_by x v.index) s.4) t;
        payload = (p6 ∙ ap (λ (x : ℕ). section_by x v.payload) s.5) t;
        strings = (p7 ∙ ap (λ (x : ℕ). section_by x (n - x)) s.6) t;
      })

  pub past_end : n ≤ NONE → n < g → (r : ImageView) → r ≡ unplaced v → r ≡ with_places n v
  unfolding with_places fits
  past_end h l r q = rw (le-leb n NONE h, ← starts.6, lt-leb g n l) q

pub too_long : (n : ℕ) (v : SleeperView) → NONE < n → (r : ImageView) → r ≡ unplaced v → r ≡ with_places n v
unfolding with_places fits
too_long n v h r q = rw (lt-leb n NONE h) q

-- ---- all sections lie inside the bytes, also where they do not fit and are empty

module _ (bs : List ℕ) (v : SleeperView) where
  inside-placed : start_of v 7 ≤ length bs → Inside bs (placed (length bs) v)
  unfolding start_of sum_of sizes
  inside-placed h =
      record {
        nodes = omega arith;
        children = omega arith;
        named = omega arith;
        definitions = omega arith;
        items = omega arith;
        index = omega arith;
        payload = omega arith;
        strings = omega arith;
      }

  inside-unplaced : Inside bs (unplaced v)
  inside-unplaced =
      record {
        nodes = omega arith;
        children = omega arith;
        named = omega arith;
        definitions = omega arith;
        items = omega arith;
        index = omega arith;
        payload = omega arith;
        strings = omega arith;
      }

  places-inside : Inside bs (with_places (length bs) v)
  unfolding with_places fits
  places-inside = by (leb (length bs) NONE && leb (start_of v 7) (length bs)) refl
    where
      by : (b : Bool) → (leb (length bs) NONE && leb (start_of v 7) (length bs)) ≡ b → Inside bs (cond b (placed (length bs) v) (unplaced v))
      by true e = inside-placed (leb-true (start_of v 7) (length bs) (both_true (leb (length bs) NONE) (leb (start_of v 7) (length bs)) e).1)
      by false e = inside-unplaced

  pub view-inside : (u : ImageView) → u ≡ with_places (length bs) v → Inside bs u
  view-inside u e = subst (λ (w : ImageView). Inside bs w) (sym e) places-inside

-- the nodes of a view, where they lie inside: as many as the view counts
module _ (bs : List ℕ) (u : ImageView) (size : ℕ) (q : size ≡ node_size u.version) (part : List ℕ) (e : part ≡ section_bytes bs u.nodes size) where
  pub nodes-there : part ≡ section_bytes bs u.nodes (node_size u.version)
  nodes-there = e ∙ ap (section_bytes bs u.nodes) q

  pub nodes-counted : Within bs u.nodes (node_size u.version) → u.nodes.count ≡ length (words_of part) / node_words u.version
  nodes-counted w =
      sym (section-count bs u.nodes (node_words u.version) (omega (arith, words-some u.version)) w)
      ∙ ap (λ (x : List ℕ). length (words_of x) / node_words u.version) (sym nodes-there)
