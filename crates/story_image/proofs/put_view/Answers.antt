-- `story_image::put_view` meets its contract.
use Rattle.answers.proofs.LentSlices.{words_put}
use borrow.Author.Rules.{rules}
use Rattle.story_image.proofs.put_view.Goals as goal

pub returns : goal.returns
returns c = search (rules, words_put)
