-- What the code reads of the list of paths: an entry, where the entry of the next node lies; and what it tests of a node's record.
use Rattle.std.specs.Prelude.{ℕ, suc, ◌+◌, ◌-◌, ◌≤◌, ◌<◌, ◌≡◌, List, Bool, true, cond, ◌&&◌, leb, ltb, eqb}
use Rattle.laws.specs.Refusal.{passes}
use Rattle.laws.specs.Counted.{all_of}
use Rattle.image.specs.declared.NodeRecord.{NodeRecord}
use Rattle.image.specs.declared.EntryCounts.{EntryCounts}
use Rattle.image.specs.Sections.{inside_among, good_in, optional_in}
use Rattle.image.specs.Tags.{choice_tag, divert_tag, reference_tag}
use Rattle.records.specs.declared.Sums.{Sums}
use Rattle.records.specs.Fields.{kind_of}
use Rattle.records.specs.Shown.{fields_by}
use Rattle.draft.specs.declared.path_list.PathEntry.{PathEntry}
use Rattle.draft.specs.declared.path_list.Hint.{Hint}
use Rattle.draft.specs.PathList.{path_count, path_word, path_origin}

-- ---- entries

-- entry k
abbrev pub path_entry : List ℕ → ℕ → PathEntry
path_entry entries k =
    record {
      node = path_word entries k 0;
      relative = path_word entries k 1;
      first = path_word entries k 2;
      count = path_word entries k 3;
    }

-- entry k is of a node, says 0 or 1, and has its components inside, whatever the other entries are
unfoldable pub entry_right : ℕ → ℕ → List ℕ → ℕ → Bool
entry_right nodes components entries k =
    inside_among nodes (path_origin entries k) && leb (path_word entries k 1) 1 && leb (path_word entries k 2 + path_word entries k 3) components

-- ---- where the entry of the next node lies

-- each entry is of a node above that of the entry before it
unfoldable pub paths_rise : List ℕ → Bool
paths_rise entries = all_of (path_count entries - 1) (λ k. ltb (path_origin entries k) (path_origin entries (suc k)))

-- a hint says whether the list rises; if it does, the entries of nodes below i are those before `next`
pub record Hinted (entries : List ℕ) (i : ℕ) (h : Hint) : Type 0 where
  pub order : h.rises ≡ paths_rise entries
  pub below : h.rises ≡ true → (k : ℕ) → k < h.next → path_origin entries k < i
  pub above : h.rises ≡ true → (k : ℕ) → h.next ≤ k → k < path_count entries → i ≤ path_origin entries k

-- ---- a node that follows a path

-- its fields are right, the target aside, of a record that may follow a path: the variable of such a divert is absent
unfoldable pub follower_right : NodeRecord → List ℕ → Bool
follower_right r strings =
    cond (eqb r.tag choice_tag)
    (optional_in strings r.f0 r.f1)
    (cond (eqb r.tag divert_tag)
    (optional_in strings r.f0 r.f1 && leb r.f6 23)
    (cond (eqb r.tag reference_tag)
    (good_in strings r.f0 r.f1 && optional_in strings r.f2 r.f3)
    (good_in strings r.f0 r.f1)))

-- ---- the fields of a record

-- they are right, the target aside if the node follows a path, where `tag` is that of its target
abbrev pub record_right : Bool → NodeRecord → EntryCounts → Sums → ℕ → List ℕ → List ℕ → Bool
record_right follow r counts sums tag payload strings =
    cond follow (follower_right r strings) (passes (fields_by (kind_of r.tag) r counts sums tag payload strings))
