-- Climbs by parents: a node that has the climb's own mark leads to where the climb is, any other that is not marked 1 was known before. A climb that
-- comes to its own mark goes round in a circle without the root.
use Prim.Native.Nat.{ℕ, ◌+◌, ◌*◌, ◌≤◌, ◌<◌}
use mathlib.Core.Path.{◌≡◌, refl, sym, ap, ◌∙◌, subst}
use mathlib.Core.Logic.{◌≢◌, ◌⊎◌, inl, inr}
use mathlib.Core.List.{List}
use mathlib.Core.Bool.{Bool, true, false, cond, not, ◌&&◌, true≢false}
use native.Mathlib.Omega.{arith}
use native.Mathlib.Decide.{ℕ_discrete}
use lib.Dec.{eqb}
use lib.ListN.{length, get_or, set, length-set}
use lib.Seq.{get_or-set_same, get_or-set_other}
use borrow.Author.Tests.{eqb-true, eqb-false, eq-eqb, ne_eqb, not-true, not-false}
use Rattle.laws.specs.Counted.{sum_of}
use Rattle.laws.proofs.Flags.{both_true}
use Rattle.laws.proofs.Members.{sum_point}
use Rattle.image.specs.Sections.{Sections, node_words, node_count, node_word, parent_of, tag_of, is_container}
use Rattle.draft_tree.specs.Standing.{Rooted, root, up, RootedMarks, MarksUpTo, Climbable, Climbed, ClimbAnswer}
use Rattle.draft_tree.specs.Climbing.{AllMarked}

-- ---- sections that have the same nodes

pub rooted-same : (s t : Sections) → s.version ≡ t.version → s.nodes ≡ t.nodes → (i : ℕ) → Rooted s i → Rooted t i
unfolding node_word
rooted-same s t v n i root = root
rooted-same s t v n i (up r) =
    let e : parent_of s i ≡ parent_of t i = rw v (rw n refl) in
    up (subst (Rooted t) e (rooted-same s t v n (parent_of s i) r))

-- ---- one climb, from node i, that has come to node `at`

-- how many words are 1
abbrev pub ones : List ℕ → ℕ
ones w = sum_of (length w) (λ k. cond (eqb (get_or w k 0) 1) 1 0)

pub one_fewer : (w : List ℕ) (at x : ℕ) → at < length w → get_or w at 0 ≡ 1 → (x ≡ 1 → ⊥) → ones w ≡ ones (set w at x) + 1
one_fewer w at x h e d =
    let one : ℕ → List ℕ → ℕ = λ k l. cond (eqb (get_or l k 0) 1) 1 0 in
    let now : one at w ≡ 1 = rw (eq-eqb (get_or w at 0) 1 e) in
    let then : one at (set w at x) ≡ 0 = rw (get_or-set_same w at x 0 h, ne_eqb x 1 d) in
    let point = sum_point (length w) at (λ k. one k w) (λ k. one k (set w at x)) h (λ j l q. ap (λ (y : ℕ). cond (eqb y 1) 1 0) (sym (get_or-set_other w at j x 0 q))) in
    let same : sum_of (length (set w at x)) (λ k. one k (set w at x)) ≡ sum_of (length w) (λ k. one k (set w at x)) = ap (λ (n : ℕ). sum_of n (λ k. one k (set w at x))) (length-set w at x) in
    omega (arith, point, now, then, same)

pub record Climbing (s : Sections) (i : ℕ) (w₀ w : List ℕ) (at : ℕ) : Type 0 where
  pub long : length w ≡ length w₀
  pub inside : at < node_count s
  pub begun : at ≢ i → get_or w i 0 ≡ i + 1
  pub kept : (k : ℕ) → get_or w₀ k 0 ≢ 1 → get_or w k 0 ≡ get_or w₀ k 0
  pub before : (j : ℕ) → get_or w j 0 ≢ 1 → get_or w j 0 ≢ i + 1 → get_or w₀ j 0 ≢ 1
  pub leads : Rooted s at → RootedMarks s w
  -- a node that has the climb's mark is below one that has it, or below `at`
  pub chained : (k : ℕ) → k < node_count s → get_or w k 0 ≡ i + 1 → (get_or w (parent_of s k) 0 ≡ i + 1) ⊎ (parent_of s k ≡ at)
  pub upto : MarksUpTo s (i + 1) w

module _ (s : Sections) (i : ℕ) (w₀ : List ℕ) (can : Climbable s i w₀) (low : 0 < i) where
  own_new : (k : ℕ) → k < node_count s → get_or w₀ k 0 ≢ i + 1
  own_new k h e =
      let d : get_or w₀ k 0 ≢ 1 = λ q. omega (arith, q, e) in
      omega (arith, can.earlier k h d, e)

  pub climb-start : i < node_count s → Climbing s i w₀ w₀ i
  climb-start h =
      record {
        long = refl;
        inside = h;
        begun = λ d. absurd (d refl);
        kept = λ k d. refl;
        before = λ j d e. d;
        leads = λ r. can.marks;
        chained = λ k l e. absurd (own_new k l e);
        upto = λ k l d. omega (arith, can.earlier k l d);
      }

  module _ (w : List ℕ) (at : ℕ) (c : Climbing s i w₀ w at) where
    -- the climb is at a node that an earlier one has come to
    climb_end : get_or w at 0 ≢ 1 → get_or w at 0 ≢ i + 1 → Climbable s (i + 1) w × Climbed i w₀ w
    climb_end d e = (climbable, climbed)
      where
        climbable : Climbable s (i + 1) w
        climbable =
            record {
              some = can.some;
              parents = can.parents;
              enough = omega (arith, can.enough, c.long);
              marks = c.leads (can.marks at c.inside (c.before at d e));
              earlier = c.upto;
              root = λ q. can.root (sym (c.kept 0 can.root) ∙ q);
            }

        here-not : get_or w i 0 ≢ 1
        here-not = elim (ℕ_discrete at i) [ yes q ↦ subst (λ (x : ℕ). get_or w x 0 ≢ 1) q d | no q ↦ λ z. omega (arith, z, c.begun q) ]

        climbed : Climbed i w₀ w
        climbed = record { long = c.long; here = here-not; kept = c.kept }

    -- it is at a node that it has come to itself: from its nodes parents lead to its nodes, and the root is none of them
    module _ (e : get_or w at 0 ≡ i + 1) where
      none-rooted : (k : ℕ) → k < node_count s → get_or w k 0 ≡ i + 1 → Rooted s k → ⊥
      none-rooted k h q root = own_new k h (sym (c.kept k can.root) ∙ q)
      none-rooted k h q (up r) =
          elim (ℕ_discrete k 0) [
            | yes z ↦ own_new 0 can.some (sym (c.kept 0 can.root) ∙ subst (λ (x : ℕ). get_or w x 0 ≡ i + 1) z q)
            | no z ↦ none-rooted (parent_of s k) (can.parents k h (omega (arith, z)))
                (elim (c.chained k h q) [ inl a ↦ a | inr a ↦ subst (λ (x : ℕ). get_or w x 0 ≡ i + 1) (sym a) e ]) r
          ]

      start-marked : get_or w i 0 ≡ i + 1
      start-marked = elim (ℕ_discrete at i) [ yes q ↦ subst (λ (x : ℕ). get_or w x 0 ≡ i + 1) q e | no q ↦ c.begun q ]

    -- the climb's answer
    pub climb-answer : i < node_count s → get_or w at 0 ≢ 1 → (r : Bool) → r ≡ not (eqb (get_or w at 0) (i + 1)) → ClimbAnswer s i w₀ w r
    climb-answer h d r e =
        record {
          rooted = λ q. climb_end d (eqb-false (get_or w at 0) (i + 1) (not-true (eqb (get_or w at 0) (i + 1)) (sym e ∙ q)));
          circle = λ q. let own = eqb-true (get_or w at 0) (i + 1) (not-false (eqb (get_or w at 0) (i + 1)) (sym e ∙ q)) in none-rooted own i h (start-marked own);
        }

    module _ (h : get_or w at 0 ≡ 1) where
      above_root : 0 < at
      above_root =
          elim (ℕ_discrete at 0) [
            | yes q ↦ absurd (can.root (sym (c.kept 0 can.root) ∙ subst (λ (x : ℕ). get_or w x 0 ≡ 1) q h))
            | no q ↦ omega (arith, q)
          ]

      at_word : at < length w
      at_word = omega (arith, c.inside, c.long, can.enough)

      here_is : get_or (set w at (i + 1)) at 0 ≡ i + 1
      here_is = get_or-set_same w at (i + 1) 0 at_word

      elsewhere : (j : ℕ) → j ≢ at → get_or (set w at (i + 1)) j 0 ≡ get_or w j 0
      elsewhere j d = get_or-set_other w at j (i + 1) 0 d

      marked : get_or (set w at (i + 1)) at 0 ≢ 1
      marked q = omega (arith, q, here_is)

      pub climb-less : ones w ≡ ones (set w at (i + 1)) + 1
      climb-less = one_fewer w at (i + 1) at_word h (λ q. omega (arith, q))

      -- the node is marked, and the climb is at its parent
      pub climb-next : (next : ℕ) → next ≡ parent_of s at → Climbing s i w₀ (set w at (i + 1)) next
      climb-next next e =
          record {
            long = length-set w at (i + 1) ∙ c.long;
            inside = subst (λ (x : ℕ). x < node_count s) (sym e) (can.parents at c.inside above_root);
            begun = λ d. own_marked;
            kept = λ k d. elsewhere k (λ q. d (sym (c.kept k d) ∙ subst (λ (x : ℕ). get_or w x 0 ≡ 1) (sym q) h)) ∙ c.kept k d;
            before = earlier;
            leads = λ r. all_lead (subst (Rooted s) e r);
            chained = chain;
            upto = λ k l d. elim (ℕ_discrete k at) [
              | yes q ↦ omega (arith, ap (λ (x : ℕ). get_or (set w at (i + 1)) x 0) q, here_is)
              | no q ↦ omega (arith, elsewhere k q, c.upto k l (λ z. d (elsewhere k q ∙ z)))
            ];
          }
        where
          own_marked : get_or (set w at (i + 1)) i 0 ≡ i + 1
          own_marked =
              elim (ℕ_discrete i at) [
                | yes q ↦ subst (λ (x : ℕ). get_or (set w at (i + 1)) x 0 ≡ i + 1) (sym q) here_is
                | no q ↦ elsewhere i q ∙ c.begun (λ p. q (sym p))
              ]

          earlier : (j : ℕ) → get_or (set w at (i + 1)) j 0 ≢ 1 → get_or (set w at (i + 1)) j 0 ≢ i + 1 → get_or w₀ j 0 ≢ 1
          earlier j d e =
              elim (ℕ_discrete j at) [
                | yes q ↦ absurd (e (subst (λ (x : ℕ). get_or (set w at (i + 1)) x 0 ≡ i + 1) (sym q) here_is))
                | no q ↦ c.before j (λ p. d (elsewhere j q ∙ p)) (λ p. e (elsewhere j q ∙ p))
              ]

          all_lead : Rooted s (parent_of s at) → RootedMarks s (set w at (i + 1))
          all_lead r j l d =
              elim (ℕ_discrete j at) [
                | yes q ↦ subst (Rooted s) (sym q) (up r)
                | no q ↦ c.leads (up r) j l (λ p. d (elsewhere j q ∙ p))
              ]

          -- a word that has the mark keeps it
          stays : (k : ℕ) → get_or w k 0 ≡ i + 1 → get_or (set w at (i + 1)) k 0 ≡ i + 1
          stays k q = elim (ℕ_discrete k at) [ yes p ↦ subst (λ (x : ℕ). get_or (set w at (i + 1)) x 0 ≡ i + 1) (sym p) here_is | no p ↦ elsewhere k p ∙ q ]

          chain : (k : ℕ) → k < node_count s → get_or (set w at (i + 1)) k 0 ≡ i + 1 → (get_or (set w at (i + 1)) (parent_of s k) 0 ≡ i + 1) ⊎ (parent_of s k ≡ next)
          chain k l q =
              elim (ℕ_discrete k at) [
                | yes p ↦ inr (ap (parent_of s) p ∙ sym e)
                | no p ↦ elim (c.chained k l (sym (elsewhere k p) ∙ q)) [
                  | inl a ↦ inl (stays (parent_of s k) a)
                  | inr a ↦ inl (subst (λ (x : ℕ). get_or (set w at (i + 1)) x 0 ≡ i + 1) (sym a) here_is)
                ]
              ]

-- ---- containers that no climb has come to, by the tag that is read

module _ (s : Sections) (w : List ℕ) (i tag : ℕ) (e : tag ≡ get_or s.nodes (i * node_words s.version + 2) 0) where
  pub no_container_lem : (tag ≡ 1 → ⊥) → false ≡ (is_container s i && eqb (get_or w i 0) 1)
  unfolding node_word
  no_container_lem d = sym (rw (ne_eqb (tag_of s i) 1 (λ q. d (e ∙ q))) refl)

  pub container_open : tag ≡ 1 → (b : Bool) → b ≡ eqb (get_or w i 0) 1 → b ≡ (is_container s i && eqb (get_or w i 0) 1)
  unfolding node_word
  container_open q b h = rw (eq-eqb (tag_of s i) 1 (sym e ∙ q)) h

-- ---- all climbs: containers before i are known to lead to the root

pub record ClimbedSoFar (s : Sections) (w₀ w : List ℕ) (i : ℕ) : Type 0 where
  pub within : i ≤ node_count s
  pub long : length w ≡ length w₀
  pub can : Climbable s i w
  pub known : (k : ℕ) → k < i → is_container s k ≡ true → get_or w k 0 ≢ 1

module _ (s : Sections) (w₀ : List ℕ) where
  -- the root's word is taken from the marks
  pub climbs-start : AllMarked s w₀ → ClimbedSoFar s (set w₀ 0 0) (set w₀ 0 0) 0
  climbs-start m =
      record {
        within = omega arith;
        long = refl;
        can =
            record {
              some = m.some;
              parents = m.parents;
              enough = omega (arith, m.enough, length-set w₀ 0 0);
              marks = λ j l d. elim (ℕ_discrete j 0) [ yes q ↦ subst (Rooted s) (sym q) root | no q ↦ absurd (d (other_is j l q)) ];
              earlier = λ j l d. elim (ℕ_discrete j 0) [
                | yes q ↦ omega (arith, ap (λ (x : ℕ). get_or (set w₀ 0 0) x 0) q, root_is)
                | no q ↦ absurd (d (other_is j l q))
              ];
              root = root-not;
            };
        known = λ k h b. absurd (omega arith);
      }
    where
      root_is : get_or (set w₀ 0 0) 0 0 ≡ 0
      root_is = get_or-set_same w₀ 0 0 0 (omega (arith, m.some, m.enough))

      root-not : get_or (set w₀ 0 0) 0 0 ≢ 1
      root-not q = omega (arith, q, root_is)

      other_is : (j : ℕ) → j < node_count s → j ≢ 0 → get_or (set w₀ 0 0) j 0 ≡ 1
      other_is j l d = get_or-set_other w₀ 0 j 0 0 d ∙ m.marked j l (omega (arith, d))

  module _ (w : List ℕ) (i : ℕ) (c : ClimbedSoFar s w₀ w i) where
    known_next : (x : List ℕ) → (is_container s i ≡ true → get_or x i 0 ≢ 1) → ((k : ℕ) → get_or w k 0 ≢ 1 → get_or x k 0 ≡ get_or w k 0)
        → (k : ℕ) → k < i + 1 → is_container s k ≡ true → get_or x k 0 ≢ 1
    known_next x here kept k h b =
        elim (ℕ_discrete k i) [
          | yes q ↦ subst (λ (y : ℕ). get_or x y 0 ≢ 1) (sym q) (here (subst (λ (y : ℕ). is_container s y ≡ true) q b))
          | no q ↦ λ e. c.known k (omega (arith, q)) b (sym (kept k (c.known k (omega (arith, q)) b)) ∙ e)
        ]

    later : Climbable s (i + 1) w
    later =
        record {
          some = c.can.some;
          parents = c.can.parents;
          enough = c.can.enough;
          marks = c.can.marks;
          earlier = λ j l d. omega (arith, c.can.earlier j l d);
          root = c.can.root;
        }

    pub climbs-skip : i < node_count s → (is_container s i && eqb (get_or w i 0) 1) ≡ false → ClimbedSoFar s w₀ w (i + 1)
    climbs-skip h q =
        let d : is_container s i ≡ true → get_or w i 0 ≢ 1 = λ b e. true≢false (sym (rw (b, eq-eqb (get_or w i 0) 1 e)) ∙ q) in record { within = omega arith; long = c.long; can = later; known = known_next w d (λ k q. refl) }

    pub climbs-next : i < node_count s → (x : List ℕ) → Climbable s (i + 1) x × Climbed i w x → ClimbedSoFar s w₀ x (i + 1)
    climbs-next h x (can, done) =
        record { within = omega arith; long = done.long ∙ c.long; can = can; known = known_next x (λ b. done.here) done.kept }

    pub climbs_end : node_count s ≤ i → (j : ℕ) → j < node_count s → is_container s j ≡ true → Rooted s j
    climbs_end h j l b = c.can.marks j l (c.known j (omega arith) b)

    -- a container that no climb has come to is not the root
    pub open_above : (is_container s i && eqb (get_or w i 0) 1) ≡ true → (is_container s i ≡ true) × (0 < i)
    open_above q =
        let b = both_true (is_container s i) (eqb (get_or w i 0) 1) q in (
          b.0,
          elim (ℕ_discrete i 0) [
            | yes z ↦ absurd (c.can.root (subst (λ (x : ℕ). get_or w x 0 ≡ 1) z (eqb-true (get_or w i 0) 1 b.1)))
            | no z ↦ omega (arith, z)
          ],
        )
