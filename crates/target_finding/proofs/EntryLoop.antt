-- The loop over the entries of the list, in any order: the lowest node that has failed so far and its number, the targets that were found in the
-- work words, and NONE in those of the other nodes.
use Rattle.std.specs.Prelude.{None, Option, Some, Err, Ok, Result, ℕ}
use Prim.Native.Nat.{ℕ, ◌+◌, ◌/◌, ◌≤◌, ◌<◌}
use mathlib.Core.Path.{◌≡◌, refl, sym, ap, ◌∙◌}
use mathlib.Core.List.{List}
use native.Mathlib.Omega.{arith}
use native.Mathlib.Decide.{ℕ_discrete, dec_lt}
use lib.ListN.{length, get_or, set, length-set}
use lib.Seq.{get_or-set_same, get_or-set_other}
use Rattle.laws.proofs.First.{first_of_lem}
use Rattle.laws.proofs.Chains.{first-broken}
use Rattle.words.specs.Words.{NONE}
use Rattle.image.specs.Sections.{Sections, node_words, node_count}
use Rattle.draft.specs.declared.path_list.PathEntry.{PathEntry}
use Rattle.draft.specs.PathList.{path_count, path_origin, path_of}
use Rattle.draft.specs.PathEntries.{path_entry}
use Rattle.draft.specs.Source.{draft_of}
use Rattle.target_finding.specs.Targets.{PathList, target_rule, target_found, path_list}
use Rattle.target_finding.specs.Finding.{OriginsInside, OriginsApart, NoneBelow, target_by, entry_answer, AllFound}
use Rattle.target_finding.proofs.Finding.{by_at, by_refused, path-there, path-nowhere, not_listed, by_entry}

-- ---- words that are NONE

pub none-start : (work : List ℕ) → NoneBelow work 0
none-start work i h = absurd (omega arith)

pub none_more : (work : List ℕ) (n : ℕ) → n < length work → NoneBelow work n → NoneBelow (set work n NONE) (n + 1)
none_more work n h so i l = go (ℕ_discrete i n)
  where
    go : Dec (i ≡ n) → get_or (set work n NONE) i 0 ≡ NONE
    go (yes e) = rw e (get_or-set_same work n NONE 0 h)
    go (no d) = get_or-set_other work n i NONE 0 d ∙ so i (omega arith)

pub none_end : (work : List ℕ) (at n : ℕ) → n ≤ at → NoneBelow work at → NoneBelow work n
none_end work at n h so i l = so i (omega arith)

-- ---- a list whose entries are of different nodes

-- entry k is the entry of its node
path_is : (entries : List ℕ) → OriginsApart entries → (k : ℕ) → k < path_count entries → path_of entries (path_origin entries k) ≡ Some k
path_is entries apart k h = go (path_of entries (path_origin entries k)) refl
  where
    one : (j : ℕ) → j < path_count entries → path_origin entries j ≡ path_origin entries k → Dec (j ≡ k) → Dec (j < k) → j ≡ k
    one j l e (yes z) b = z
    one j l e (no d) (yes b) = absurd (apart j k b h e)
    one j l e (no d) (no b) = absurd (apart k j (omega arith) l (sym e))

    go : (x : Option ℕ) → path_of entries (path_origin entries k) ≡ x → path_of entries (path_origin entries k) ≡ Some k
    go None e = absurd (path-nowhere entries (path_origin entries k) e k h refl)
    go (Some j) e =
        let there = path-there entries (path_origin entries k) j e in
        e ∙ ap Some (one j there.0 there.1 (ℕ_discrete j k) (dec_lt j k))

-- ---- of a draft

-- of the entries before k, those of nodes below `failing` have passed, and what was found stands in the work words. `failing` is one of them that
-- has not, and the answer its number; or the answer is 0 and none has failed
pub record FoundByEntry (s : Sections) (p : PathList) (work : List ℕ) (failing answer k : ℕ) : Type 0 where
  pub passed : (j : ℕ) → j < k → path_origin p.entries j < failing → target_rule s p (path_origin p.entries j) ≡ 0
  pub found : (j : ℕ) → j < k → target_rule s p (path_origin p.entries j) ≡ 0
      → get_or work (path_origin p.entries j) 0 ≡ target_found s p (path_origin p.entries j)
  pub none_failed : answer ≡ 0 → failing ≡ node_count s
  pub one_failed : (answer ≡ 0 → ⊥) → (failing < node_count s) × (answer ≡ target_rule s p failing)

module _ (s : Sections) (entries lent names work : List ℕ) (failing answer : ℕ) where
  abbrev p : PathList
  p = path_list entries lent names

  unlisted : (i : ℕ) → path_of entries i ≡ None → (target_rule s p i ≡ 0) × (NONE ≡ target_found s p i)
  unlisted i e = by_at (target_rule s p i) (target_found s p i) NONE (Ok NONE) (not_listed s entries lent names i e) refl

  found-start : failing ≡ node_count s → answer ≡ 0 → FoundByEntry s p work failing answer 0
  found-start e z =
      record { passed = λ j h. absurd (omega arith); found = λ j h. absurd (omega arith); none_failed = λ y. e; one_failed = λ d. absurd (d z) }

  module _ (k : ℕ) (so : FoundByEntry s p work failing answer k) where
    -- all entries are before k
    module _ (all : path_count entries ≤ k) where
      node-passes : (i : ℕ) → i < failing → target_rule s p i ≡ 0
      node-passes i l = go (path_of entries i) refl
        where
          go : (x : Option ℕ) → path_of entries i ≡ x → target_rule s p i ≡ 0
          go None e = (unlisted i e).0
          go (Some j) e =
              let there = path-there entries i j e in
              rw (← there.1) (so.passed j (omega (arith, there.0)) (omega (arith, there.1)))

      found-done : k ≤ path_count entries → ((i : ℕ) → i < node_count s → ((j : ℕ) → j < k → path_origin entries j ≡ i → ⊥) → get_or work i 0 ≡ NONE)
          → AllFound s p work answer
      found-done w rest = go (ℕ_discrete answer 0)
        where
          word : failing ≡ node_count s → (i : ℕ) → i < node_count s → (x : Option ℕ) → path_of entries i ≡ x → get_or work i 0 ≡ target_found s p i
          word n i l None e = rest i l (λ j b. path-nowhere entries i e j (omega arith)) ∙ (unlisted i e).1
          word n i l (Some j) e =
              let there = path-there entries i j e in
              rw (← there.1) (so.found j (omega (arith, there.0)) (rw there.1 (node-passes i (omega (arith, n)))))

          go : Dec (answer ≡ 0) → AllFound s p work answer
          go (yes z) =
              let n = so.none_failed z in
              record {
                answer = z ∙ sym (first_of_lem (node_count s) (target_rule s p) (λ i l. node-passes i (omega (arith, n))));
                words = λ y i l. word n i l (path_of entries i) refl;
              }
          go (no d) =
              let is = so.one_failed d in
              record {
                answer = first-broken (node_count s) failing answer (target_rule s p) is.0 (first_of_lem failing (target_rule s p) node-passes) is.1 d;
                words = λ z. absurd (d z);
              }

    -- at entry k, which was read
    module _ (apart : OriginsApart entries) (h : k < path_count entries) (entry : PathEntry) (e : entry ≡ path_entry entries k)
        (a : Result ℕ ℕ) (q : a ≡ entry_answer s lent names entry) where
      abbrev own : ℕ
      own = path_origin entries k

      is_answer : a ≡ target_by (target_rule s p own) (target_found s p own)
      is_answer = by_entry s entries lent names own k (path_is entries apart k h) entry e a q

      module _ (number : ℕ) (z : a ≡ Err number) where
        broken : (number ≡ target_rule s p own) × (number ≡ 0 → ⊥)
        broken = by_refused (target_rule s p own) (target_found s p own) number a is_answer z

        kept : (j : ℕ) → j < k + 1 → target_rule s p (path_origin entries j) ≡ 0 → Dec (j ≡ k)
            → get_or work (path_origin entries j) 0 ≡ target_found s p (path_origin entries j)
        kept j b r (yes y) = absurd (broken.1 (broken.0 ∙ ap (λ (x : ℕ). target_rule s p (path_origin entries x)) (sym y) ∙ r))
        kept j b r (no d) = so.found j (omega arith) r

        found-lower : own < node_count s → own < failing → FoundByEntry s p work own number (k + 1)
        found-lower l c =
            record {
              passed = λ j b m. pass j b m (ℕ_discrete j k);
              found = λ j b r. kept j b r (ℕ_discrete j k);
              none_failed = λ y. absurd (broken.1 y);
              one_failed = λ d. (l, broken.0);
            }
          where
            pass : (j : ℕ) → j < k + 1 → path_origin entries j < own → Dec (j ≡ k) → target_rule s p (path_origin entries j) ≡ 0
            pass j b m (yes y) = let w : path_origin entries j ≡ own = ap (path_origin entries) y in absurd (omega arith)
            pass j b m (no d) = so.passed j (omega arith) (omega arith)

        found_higher : failing ≤ own → FoundByEntry s p work failing answer (k + 1)
        found_higher c =
            record {
              passed = λ j b m. pass j b m (ℕ_discrete j k);
              found = λ j b r. kept j b r (ℕ_discrete j k);
              none_failed = so.none_failed;
              one_failed = so.one_failed;
            }
          where
            pass : (j : ℕ) → j < k + 1 → path_origin entries j < failing → Dec (j ≡ k) → target_rule s p (path_origin entries j) ≡ 0
            pass j b m (yes y) = let w : path_origin entries j ≡ own = ap (path_origin entries) y in absurd (omega arith)
            pass j b m (no d) = so.passed j (omega arith) m

      found-next : own < length work → (target : ℕ) → a ≡ Ok target → FoundByEntry s p (set work own target) failing answer (k + 1)
      found-next l target z =
          record {
            passed = λ j b m. pass j b m (ℕ_discrete j k);
            found = λ j b r. find j b r (ℕ_discrete j k);
            none_failed = so.none_failed;
            one_failed = so.one_failed;
          }
        where
          is : (target_rule s p own ≡ 0) × (target ≡ target_found s p own)
          is = by_at (target_rule s p own) (target_found s p own) target a is_answer z

          pass : (j : ℕ) → j < k + 1 → path_origin entries j < failing → Dec (j ≡ k) → target_rule s p (path_origin entries j) ≡ 0
          pass j b m (yes y) = rw y is.0
          pass j b m (no d) = so.passed j (omega arith) m

          find : (j : ℕ) → j < k + 1 → target_rule s p (path_origin entries j) ≡ 0 → Dec (j ≡ k)
              → get_or (set work own target) (path_origin entries j) 0 ≡ target_found s p (path_origin entries j)
          find j b r (yes y) = rw y (get_or-set_same work own target 0 l ∙ is.1)
          find j b r (no d) =
              get_or-set_other work own (path_origin entries j) target 0 (apart j k (omega arith) h) ∙ so.found j (omega arith) r

-- ---- of every draft with these words: its definitions, items and payload do not matter

pub record EntriesSoFar (version : ℕ) (ns cs ms ss entries lent names work₀ work : List ℕ) (failing answer k : ℕ) : Type 0 where
  pub within : k ≤ path_count entries
  pub long : length work ≡ length work₀
  pub enough : length ns / node_words version ≤ length work
  pub rest : (i : ℕ) → i < length ns / node_words version → ((j : ℕ) → j < k → path_origin entries j ≡ i → ⊥) → get_or work i 0 ≡ NONE
  pub found : (ds is ps : List ℕ) → FoundByEntry (draft_of version ns cs ms ds is ps ss) (path_list entries lent names) work failing answer k

module _ (version : ℕ) (ns cs ms ss entries lent names work₀ : List ℕ) where
  abbrev Answers : PathEntry → Result ℕ ℕ → Type 0
  Answers entry a = (ds is ps : List ℕ) → a ≡ entry_answer (draft_of version ns cs ms ds is ps ss) lent names entry

  abbrev SoFar : List ℕ → ℕ → ℕ → ℕ → Type 0
  SoFar work failing answer k = EntriesSoFar version ns cs ms ss entries lent names work₀ work failing answer k

  -- the words are those that were lent, and the first n are NONE
  pub entries-start : (given : List ℕ) → length ns / node_words version ≤ length given → length work₀ ≡ length given
      → (n : ℕ) → n ≡ length ns / node_words version → NoneBelow work₀ n → SoFar work₀ n 0 0
  entries-start given enough long n e all =
      record {
        within = omega arith;
        long = refl;
        enough = omega arith;
        rest = λ i h d. all i (omega (arith, e));
        found = λ ds is ps. found-start (draft_of version ns cs ms ds is ps ss) entries lent names work₀ n 0 e refl;
      }

  module _ (work : List ℕ) (failing answer k : ℕ) (so : SoFar work failing answer k) where
    pub entries_end : (count : ℕ) → count ≡ path_count entries → count ≤ k
        → (ds is ps : List ℕ) → AllFound (draft_of version ns cs ms ds is ps ss) (path_list entries lent names) work answer
    entries_end count e h ds is ps =
        found-done (draft_of version ns cs ms ds is ps ss) entries lent names work failing answer k (so.found ds is ps) (omega (arith, e)) so.within so.rest

    -- at entry k, which was read
    module _ (inside : OriginsInside (length ns / node_words version) entries) (h : k < path_count entries) (entry : PathEntry) (e : entry ≡ path_entry entries k) where
      origin : entry.node ≡ path_origin entries k
      origin = ap (λ (x : PathEntry). x.node) e

      pub entry-among : entry.node < length ns / node_words version
      entry-among = rw origin (inside k h)

      pub entry-room : entry.node < length work
      entry-room = omega (arith, entry-among, so.enough)

      module _ (apart : OriginsApart entries) (a : Result ℕ ℕ) (q : Answers entry a) where
        module _ (number : ℕ) (z : a ≡ Err number) where
          pub entries-lower : entry.node < failing → SoFar work entry.node number (k + 1)
          entries-lower l =
              rw origin
              (record {
                within = omega arith;
                long = so.long;
                enough = so.enough;
                rest = λ i b d. so.rest i b (λ j c. d j (omega arith));
                found = λ ds is ps.
                    found-lower (draft_of version ns cs ms ds is ps ss) entries lent names work failing answer k (so.found ds is ps) apart h entry e a (q ds is ps) number z
                    (inside k h) (omega (arith, origin));
              })

          pub entries_higher : failing ≤ entry.node → SoFar work failing answer (k + 1)
          entries_higher l =
              record {
                within = omega arith;
                long = so.long;
                enough = so.enough;
                rest = λ i b d. so.rest i b (λ j c. d j (omega arith));
                found = λ ds is ps.
                    found_higher (draft_of version ns cs ms ds is ps ss) entries lent names work failing answer k (so.found ds is ps) apart h entry e a (q ds is ps) number z
                    (omega (arith, origin));
              }

        pub entries_next : (target : ℕ) → a ≡ Ok target → SoFar (set work entry.node target) failing answer (k + 1)
        entries_next target z =
            rw origin
            (record {
              within = omega arith;
              long = length-set work (path_origin entries k) target ∙ so.long;
              enough = simp length-set so.enough;
              rest = λ i b d.
                  get_or-set_other work (path_origin entries k) i target 0 (λ y. d k (omega arith) (sym y)) ∙ so.rest i b (λ j c. d j (omega arith));
              found = λ ds is ps.
                  found-next (draft_of version ns cs ms ds is ps ss) entries lent names work failing answer k (so.found ds is ps) apart h entry e a (q ds is ps)
                  (omega (arith, inside k h, so.enough)) target z;
            })
