-- `index::matches_canonical_path` meets its contract. The invariant: the text fits if what is left of it fits the node that is reached.
use Prim.Native.Nat.{ℕ, suc, ◌-◌, ◌<◌}
use native.Mathlib.Omega.{arith}
use mathlib.Core.Path.{◌≡◌, refl, sym, ap, ◌∙◌}
use mathlib.Core.List.{List, []}
use lib.ListN.{length, take}
use lib.Seq.{take-length}
use borrow.Author.Tests.{not-true, not-false}
use Rattle.image.specs.Sections.{Sections}
use Rattle.index.specs.Paths.{name_or_place, fits}
use Rattle.index.specs.Parts.{index_parts}
use Rattle.index.proofs.Suffix.{empty-part}
use Rattle.index.proofs.Paths.{fits_from, whole-fits, piece_by, PathReached, Matched, fits_bound, fits-root, step-lost, step-short, step_other, step_top, step-none, step_no_dot, step_dot}
use Rattle.index.proofs.Index.{name_or_place-like, path-node-like}
use borrow.Author.Rules.{rules}
use Rattle.index.proofs.matches_canonical_path.Goals as goal

pub loop-at-init : goal.loop-at-init
loop-at-init c =
    let at = c.args in
    let s = index_parts at.version at.nodes.now [] at.strings.now in
    (search rules, rw (c.node_count-steps.ensures, take-length) (whole-fits s at.id at.text.now))

pub returns-then-steps-eq0 : goal.returns-then-steps-eq0
returns-then-steps-eq0 c =
    let at = c.args in
    let loop = c.loop-at in
    let s = index_parts at.version at.nodes.now [] at.strings.now in
    sym (loop.invariant.1
    ∙ ap (λ (n : ℕ). fits_from n s loop.at (take loop.end at.text.now)) c.if-steps-eq0.true
    ∙ fits_bound s loop.at (take loop.end at.text.now)
    ∙ empty-part at.text.now loop.end loop.invariant.0)

pub returns-then-not-has_name_or_place : goal.returns-then-not-has_name_or_place
returns-then-not-has_name_or_place c =
    let here = c in
    let whole : Sections = index_parts here.args.version here.args.nodes.now [] here.args.strings.now in
    let bare : Sections = index_parts here.args.version here.args.nodes.now [] [] in
    let text : List ℕ = here.args.text.now in
    let has : name_or_place whole here.loop-at.at ≡ c.has_name_or_place.result = sym (c.has_name_or_place.ensures ∙ name_or_place-like bare whole refl refl here.loop-at.at) in
    let left : fits whole here.args.id text ≡ fits_from (suc (here.loop-at.steps - 1)) whole here.loop-at.at (take here.loop-at.end text) = here.loop-at.invariant.1 ∙ ap (λ (n : ℕ). fits_from n whole here.loop-at.at (take here.loop-at.end text)) (omega arith) in
    let at = c in
    sym (left
    ∙ step-lost whole (c.loop-at.steps - 1) c.loop-at.at (take c.loop-at.end text) at.loop-at-test.true
    (has ∙ not-true at.has_name_or_place.result c.if-not-has_name_or_place.true-raw))

pub returns-then-end-size : goal.returns-then-end-size
returns-then-end-size c =
    let here = c in
    let whole : Sections = index_parts here.args.version here.args.nodes.now [] here.args.strings.now in
    let bare : Sections = index_parts here.args.version here.args.nodes.now [] [] in
    let text : List ℕ = here.args.text.now in
    let has : name_or_place whole here.loop-at.at ≡ c.has_name_or_place.result = sym (c.has_name_or_place.ensures ∙ name_or_place-like bare whole refl refl here.loop-at.at) in
    let left : fits whole here.args.id text ≡ fits_from (suc (here.loop-at.steps - 1)) whole here.loop-at.at (take here.loop-at.end text) = here.loop-at.invariant.1 ∙ ap (λ (n : ℕ). fits_from n whole here.loop-at.at (take here.loop-at.end text)) (omega arith) in
    let told = c in
    let reached : PathReached whole text (c.loop-at.steps - 1) c.loop-at.at c.loop-at.end c.path_node-node.result = record {
      away = told.loop-at-test.true;
      read = c.path_node-node.ensures ∙ path-node-like bare whole refl refl c.loop-at.at;
      inside = c.loop-at.invariant.0;
      has = has ∙ not-false told.has_name_or_place.result c.if-not-has_name_or_place.false-raw;
    } in
    let at = c in
    let short : c.loop-at.end < length (piece_by whole at.path_node-node.result) = omega (arith, c.piece_len-size.ensures) in
    sym (left ∙ step-short reached short)

pub returns-then-not-is_piece : goal.returns-then-not-is_piece
returns-then-not-is_piece c =
    let here = c in
    let whole : Sections = index_parts here.args.version here.args.nodes.now [] here.args.strings.now in
    let bare : Sections = index_parts here.args.version here.args.nodes.now [] [] in
    let text : List ℕ = here.args.text.now in
    let has : name_or_place whole here.loop-at.at ≡ c.has_name_or_place.result = sym (c.has_name_or_place.ensures ∙ name_or_place-like bare whole refl refl here.loop-at.at) in
    let left : fits whole here.args.id text ≡ fits_from (suc (here.loop-at.steps - 1)) whole here.loop-at.at (take here.loop-at.end text) = here.loop-at.invariant.1 ∙ ap (λ (n : ℕ). fits_from n whole here.loop-at.at (take here.loop-at.end text)) (omega arith) in
    let told = c in
    let reached : PathReached whole text (c.loop-at.steps - 1) c.loop-at.at c.loop-at.end c.path_node-node.result = record {
      away = told.loop-at-test.true;
      read = c.path_node-node.ensures ∙ path-node-like bare whole refl refl c.loop-at.at;
      inside = c.loop-at.invariant.0;
      has = has ∙ not-false told.has_name_or_place.result c.if-not-has_name_or_place.false-raw;
    } in
    let at = c in
    let size = c.piece_len-size in
    sym (left
    ∙ step_other reached (c.loop-at.end - size.result) (omega arith) (omega (arith, size.ensures))
    (sym c.is_piece.ensures ∙ not-true c.is_piece.result c.if-not-is_piece.true-raw))

pub returns-then-node-eq0 : goal.returns-then-node-eq0
returns-then-node-eq0 c =
    let here = c in
    let whole : Sections = index_parts here.args.version here.args.nodes.now [] here.args.strings.now in
    let bare : Sections = index_parts here.args.version here.args.nodes.now [] [] in
    let text : List ℕ = here.args.text.now in
    let has : name_or_place whole here.loop-at.at ≡ c.has_name_or_place.result = sym (c.has_name_or_place.ensures ∙ name_or_place-like bare whole refl refl here.loop-at.at) in
    let left : fits whole here.args.id text ≡ fits_from (suc (here.loop-at.steps - 1)) whole here.loop-at.at (take here.loop-at.end text) = here.loop-at.invariant.1 ∙ ap (λ (n : ℕ). fits_from n whole here.loop-at.at (take here.loop-at.end text)) (omega arith) in
    let told = c in
    let reached : PathReached whole text (c.loop-at.steps - 1) c.loop-at.at c.loop-at.end c.path_node-node.result = record {
      away = told.loop-at-test.true;
      read = c.path_node-node.ensures ∙ path-node-like bare whole refl refl c.loop-at.at;
      inside = c.loop-at.invariant.0;
      has = has ∙ not-false told.has_name_or_place.result c.if-not-has_name_or_place.false-raw;
    } in
    let node = c in
    let start : ℕ = c.loop-at.end - c.piece_len-size.result in
    let found : Matched whole text c.loop-at.end start node.path_node-node.result = record {
      size = omega arith;
      long = omega (arith, c.piece_len-size.ensures);
      like = sym c.is_piece.ensures ∙ not-false c.is_piece.result c.if-not-is_piece.false-raw;
    } in
    let at = c in
    sym (left
    ∙ step_top reached found c.if-node-eq0.true
    ∙ empty-part text start (omega arith))

pub returns-then-start-eq0 : goal.returns-then-start-eq0
returns-then-start-eq0 c =
    let here = c in
    let whole : Sections = index_parts here.args.version here.args.nodes.now [] here.args.strings.now in
    let bare : Sections = index_parts here.args.version here.args.nodes.now [] [] in
    let text : List ℕ = here.args.text.now in
    let has : name_or_place whole here.loop-at.at ≡ c.has_name_or_place.result = sym (c.has_name_or_place.ensures ∙ name_or_place-like bare whole refl refl here.loop-at.at) in
    let left : fits whole here.args.id text ≡ fits_from (suc (here.loop-at.steps - 1)) whole here.loop-at.at (take here.loop-at.end text) = here.loop-at.invariant.1 ∙ ap (λ (n : ℕ). fits_from n whole here.loop-at.at (take here.loop-at.end text)) (omega arith) in
    let told = c in
    let reached : PathReached whole text (c.loop-at.steps - 1) c.loop-at.at c.loop-at.end c.path_node-node.result = record {
      away = told.loop-at-test.true;
      read = c.path_node-node.ensures ∙ path-node-like bare whole refl refl c.loop-at.at;
      inside = c.loop-at.invariant.0;
      has = has ∙ not-false told.has_name_or_place.result c.if-not-has_name_or_place.false-raw;
    } in
    let node = c in
    let start : ℕ = c.loop-at.end - c.piece_len-size.result in
    let found : Matched whole text c.loop-at.end start node.path_node-node.result = record {
      size = omega arith;
      long = omega (arith, c.piece_len-size.ensures);
      like = sym c.is_piece.ensures ∙ not-false c.is_piece.result c.if-not-is_piece.false-raw;
    } in
    let at = c in
    sym (left ∙ step-none reached found c.if-node-eq0.false c.if-start-eq0.true)

pub returns-then-text-end-ne46 : goal.returns-then-text-end-ne46
returns-then-text-end-ne46 c =
    let here = c in
    let whole : Sections = index_parts here.args.version here.args.nodes.now [] here.args.strings.now in
    let bare : Sections = index_parts here.args.version here.args.nodes.now [] [] in
    let text : List ℕ = here.args.text.now in
    let has : name_or_place whole here.loop-at.at ≡ c.has_name_or_place.result = sym (c.has_name_or_place.ensures ∙ name_or_place-like bare whole refl refl here.loop-at.at) in
    let left : fits whole here.args.id text ≡ fits_from (suc (here.loop-at.steps - 1)) whole here.loop-at.at (take here.loop-at.end text) = here.loop-at.invariant.1 ∙ ap (λ (n : ℕ). fits_from n whole here.loop-at.at (take here.loop-at.end text)) (omega arith) in
    let told = c in
    let reached : PathReached whole text (c.loop-at.steps - 1) c.loop-at.at c.loop-at.end c.path_node-node.result = record {
      away = told.loop-at-test.true;
      read = c.path_node-node.ensures ∙ path-node-like bare whole refl refl c.loop-at.at;
      inside = c.loop-at.invariant.0;
      has = has ∙ not-false told.has_name_or_place.result c.if-not-has_name_or_place.false-raw;
    } in
    let node = c in
    let start : ℕ = c.loop-at.end - c.piece_len-size.result in
    let found : Matched whole text c.loop-at.end start node.path_node-node.result = record {
      size = omega arith;
      long = omega (arith, c.piece_len-size.ensures);
      like = sym c.is_piece.ensures ∙ not-false c.is_piece.result c.if-not-is_piece.false-raw;
    } in
    let at = c in
    sym (left ∙ step_no_dot reached found c.if-node-eq0.false (start - 1) (omega arith) c.if-text-end-ne46.true)

pub loop-at-preserved : goal.loop-at-preserved
loop-at-preserved c =
    let here = c in
    let whole : Sections = index_parts here.args.version here.args.nodes.now [] here.args.strings.now in
    let bare : Sections = index_parts here.args.version here.args.nodes.now [] [] in
    let text : List ℕ = here.args.text.now in
    let has : name_or_place whole here.loop-at.at ≡ c.has_name_or_place.result = sym (c.has_name_or_place.ensures ∙ name_or_place-like bare whole refl refl here.loop-at.at) in
    let left : fits whole here.args.id text ≡ fits_from (suc (here.loop-at.steps - 1)) whole here.loop-at.at (take here.loop-at.end text) = here.loop-at.invariant.1 ∙ ap (λ (n : ℕ). fits_from n whole here.loop-at.at (take here.loop-at.end text)) (omega arith) in
    let told = c in
    let reached : PathReached whole text (c.loop-at.steps - 1) c.loop-at.at c.loop-at.end c.path_node-node.result = record {
      away = told.loop-at-test.true;
      read = c.path_node-node.ensures ∙ path-node-like bare whole refl refl c.loop-at.at;
      inside = c.loop-at.invariant.0;
      has = has ∙ not-false told.has_name_or_place.result c.if-not-has_name_or_place.false-raw;
    } in
    let node = c in
    let start : ℕ = c.loop-at.end - c.piece_len-size.result in
    let found : Matched whole text c.loop-at.end start node.path_node-node.result = record {
      size = omega arith;
      long = omega (arith, c.piece_len-size.ensures);
      like = sym c.is_piece.ensures ∙ not-false c.is_piece.result c.if-not-is_piece.false-raw;
    } in
    let at = c in
    (search rules, left ∙ step_dot reached found c.if-node-eq0.false (start - 1) (omega arith) c.if-text-end-ne46.false)

pub returns : goal.returns
returns c =
    let at = c.args in
    let loop = c.loop-at in
    let s = index_parts at.version at.nodes.now [] at.strings.now in
    sym (loop.invariant.1
    ∙ fits-root s loop.steps loop.at (take loop.end at.text.now) c.loop-at-test.false
    ∙ empty-part at.text.now loop.end loop.invariant.0)
