-- What a reader sees of every written image is what its draft says.
use Prim.Native.Nat.{ℕ}
use mathlib.Core.Path.{refl, sym, ap, ◌∙◌, subst}
use mathlib.Core.List.{List}
use mathlib.Core.Bool.{false}
use native.Mathlib.Omega.{arith}
use Rattle.image.specs.Sections.{Sections}
use Rattle.image.specs.Header.{view_of}
use Rattle.load.specs.Load.{loaded_of}
use Rattle.draft.specs.Numbering.{numbering}
use Rattle.draft_image.specs.Encode.{image_for}
use Rattle.walks.specs.Walk.{resolve}
use Rattle.promises.specs.Answers.{of_found}
use Rattle.draft_image.proofs.Blocks.{w, definition-count, item_count_lem}
use Rattle.written.proofs.Fields.{Given, counted}
use Rattle.written.proofs.Loads.{given, back, written-loads}
use Rattle.written_views.specs.Views.{SameViews, WrittenViews, WrittenReads}
use Rattle.written_views.proofs.Texts.{numbers-same}
use Rattle.written_views.proofs.Nodes.{node-same}
use Rattle.written_views.proofs.Definitions.{definition-same, each-item-same}
use Rattle.written_views.proofs.Walks.{walk_same, absolute-same, answered_anew}

pub views_same : {s : Sections} {order : List ℕ} {kept : List (List ℕ)} → Given s order kept → SameViews s (w s order kept) order
views_same {s} {order} {kept} g =
    record {
      numbers = numbers-same g;
      node-count = counted g;
      nodes = λ j h. node-same g j (omega (arith, counted g));
      walks = λ relative origin cs. ap of_found (walk_same g relative origin cs) ∙ answered_anew order (resolve s relative origin cs);
      absolute-walks = λ origin other cs. ap of_found (absolute-same g origin other cs) ∙ answered_anew order (resolve s false origin cs);
      definition-count = definition-count s order kept;
      definitions = λ d h. definition-same g d (omega (arith, definition-count s order kept));
      item_count_lem = item_count_lem s order kept;
      items = λ k h. each-item-same g k (omega (arith, item_count_lem s order kept));
    }

pub written-views : WrittenViews
written-views ink s work room two words p =
    subst (λ (t : Sections). SameViews s t (numbering s)) (sym (back ink s work room two words p)) (views_same (given ink s work room two words p))

pub written-reads : WrittenReads
unfolding loaded_of
written-reads ink s work room two words p enough h =
    (view_of (image_for ink s), rw (written-loads ink s work room two words p enough h) refl, written-views ink s work room two words p)
