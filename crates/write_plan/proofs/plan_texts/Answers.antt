-- `write_plan::plan_texts` meets its contract.
use mathlib.Core.Path.{ap}
use Rattle.image.specs.Refusals.{numbered}
use Rattle.image.proofs.Refused.{refused-numbered}
use mathlib.Core.List.{[]}
use borrow.Author.Rules.{rules}
use Rattle.write_plan.proofs.Steps.{paths_asks, clashing, uses_asks, store_asks, prepared}
use Rattle.write_plan.proofs.plan_texts.Goals as goal

pub sort_paths-requires : goal.sort_paths-requires
sort_paths-requires c =
    let to = c.args in
    let asked = c.requires in
    let node-count = c.node_count-count in
    let asks = paths_asks to.source.version to.nodes.now asked.children to.named.now to.definitions.now to.items.now to.payload.now to.strings.now to.w.now to.layout to.counts asked.known in
    record {
      count_bound = rw node-count.ensures asks.0;
      texts_value = rw node-count.ensures asks.1.0;
      by_index = rw node-count.ensures asks.1.1;
    }

pub collect-texts-requires : goal.collect-texts-requires
collect-texts-requires c =
    let to = c.args in
    let asked = c.requires in
    let sort-paths = c.sort_paths in
    uses_asks to.source.version to.nodes.now asked.children to.named.now to.definitions.now to.items.now to.payload.now to.strings.now to.w.now to.layout to.counts asked.known
    sort-paths.new.w _ (search rules) (rw c.node_count-count.ensures at sort-paths.ensures) _ (ap numbered c.in_ok-found.was)

pub store-requires : goal.store-requires
store-requires c =
    let to = c.args in
    let asked = c.requires in
    let sort-paths = c.sort_paths in
    let collect = c.collect-texts in
    record {
      paths_bound = (store_asks to.source.version to.nodes.now asked.children to.named.now to.definitions.now to.items.now to.payload.now to.strings.now to.w.now to.layout to.counts asked.known
          sort-paths.new.w _ (search rules) (rw c.node_count-count.ensures at sort-paths.ensures) _ (ap numbered c.in_ok-found.was) collect.new.w _ (search rules)
          collect.ensures).0;
      texts_bound = (store_asks to.source.version to.nodes.now asked.children to.named.now to.definitions.now to.items.now to.payload.now to.strings.now to.w.now to.layout to.counts asked.known
          sort-paths.new.w _ (search rules) (rw c.node_count-count.ensures at sort-paths.ensures) _ (ap numbered c.in_ok-found.was) collect.new.w _ (search rules)
          collect.ensures).1.0;
      rises_from = (store_asks to.source.version to.nodes.now asked.children to.named.now to.definitions.now to.items.now to.payload.now to.strings.now to.w.now to.layout to.counts asked.known
          sort-paths.new.w _ (search rules) (rw c.node_count-count.ensures at sort-paths.ensures) _ (ap numbered c.in_ok-found.was) collect.new.w _ (search rules)
          collect.ensures).1.1;
    }

pub returns-in_err-found : goal.returns-in_err-found
returns-in_err-found c = λ children known.
    let to = c.args in
    let sort-paths = c.sort_paths in
    rw (refused-numbered _ _ _ c.in_err-found.was c.from_residual.ensures.1)
    (clashing to.source.version to.nodes.now children to.named.now to.definitions.now to.items.now to.payload.now to.strings.now to.w.now to.layout to.counts known
    sort-paths.new.w _ (search rules) (rw c.node_count-count.ensures at sort-paths.ensures) [] _ (ap numbered c.in_err-found.was))

pub returns : goal.returns
returns c = λ children known.
    let to = c.args in
    let sort-paths = c.sort_paths in
    let collect = c.collect-texts in
    let store = c.store in
    prepared to.source.version to.nodes.now children to.named.now to.definitions.now to.items.now to.payload.now to.strings.now to.w.now to.layout to.counts known
    sort-paths.new.w _ (search rules) (rw c.node_count-count.ensures at sort-paths.ensures) _ (ap numbered c.in_ok-found.was) collect.new.w _ (search rules)
    collect.ensures store.new.w _ store.ensures.answer store.ensures.tables
