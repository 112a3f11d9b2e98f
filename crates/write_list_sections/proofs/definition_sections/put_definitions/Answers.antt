-- `write_list_sections::definition_sections::put_definitions` meets its contract.
use mathlib.Core.Path.{refl}
use native.Mathlib.Omega.{arith}
use Rattle.write_list_sections.proofs.DefinitionLoops.{define_start, define_room, define_next, define_end, pass-inside}
use Rattle.write_list_sections.proofs.definition_sections.put_definitions.Goals as goal

pub loop-d-init : goal.loop-d-init
loop-d-init c = define_start _ _ _ _ _ c.requires.definition_words_in_bounds c.requires.definition_words_in_bounds_2

pub put_words-requires : goal.put_words-requires
put_words-requires c = define_room _ _ _ _ _ _ _ _ _ c.loop-d.invariant c.loop-d-test.true

pub overflow_add-at : goal.overflow_add-at
overflow_add-at c =
    let loop = c.loop-d in
    let test = c.loop-d-test in
    omega (arith, define_room _ _ _ _ _ _ _ _ _ loop.invariant test.true)

pub overflow_add-k : goal.overflow_add-k
overflow_add-k c =
    let loop = c.loop-d in
    let test = c.loop-d-test in
    omega (arith, pass-inside _ _ _ _ _ _ loop.invariant.passing test.true _ c.definition_at-definition.ensures)

pub overflow_add-k-in-loop-d : goal.overflow_add-k-in-loop-d
overflow_add-k-in-loop-d c =
    let loop = c.loop-d in
    let test = c.loop-d-test in
    omega (arith, pass-inside _ _ _ _ _ _ loop.invariant.passing test.true _ c.definition_at-definition.ensures)

pub loop-d-preserved : goal.loop-d-preserved
loop-d-preserved c =
    let loop = c.loop-d in
    let test = c.loop-d-test in
    let word = c.word-offset in
    let put-words = c.put_words in
    define_next _ _ _ _ _ _ _ _ _ loop.invariant test.true _ c.definition_at-definition.ensures _ word.ensures _ put-words.ensures _ _ refl refl

pub returns : goal.returns
returns c = λ s order kept e p o. define_end _ _ _ _ _ _ _ _ c.loop-d.invariant c.loop-d-test.false s order kept e p o
