-- `sleeper::node_words::is_note` meets its contract.
use Rattle.sleeper.proofs.SeenWords.{other_tag, tag_note}
use borrow.Author.Rules.{rules}
use Rattle.sleeper.proofs.node_words.is_note.Goals as goal

pub returns-then-kind-ne-TAG : goal.returns-then-kind-ne-TAG
returns-then-kind-ne-TAG c = search (rules, other_tag)

pub returns : goal.returns
returns c = search (rules, tag_note)
