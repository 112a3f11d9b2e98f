-- `write_text_uses::put_entries` meets its contract.
use Rattle.write_text_uses.proofs.Puts.{going_start, going-words, going_next, going_end}
use Rattle.write_text_uses.proofs.DraftReads.{entry_is}
use Rattle.write_text_uses.proofs.put_entries.Goals as goal

pub loop-j-init : goal.loop-j-init
loop-j-init c = going_start _ _ _ _ c.requires

pub put_use-k-requires : goal.put_use-k-requires
put_use-k-requires c =
    let loop = c.loop-j in
    let test = c.loop-j-test in
    going-words _ _ _ _ _ _ _ loop.invariant _ test.true (entry_is _ _ _ _ _ c.word-offset.ensures c.word-len.ensures)

pub loop-j-preserved : goal.loop-j-preserved
loop-j-preserved c =
    let loop = c.loop-j in
    let test = c.loop-j-test in
    let word = c.word-offset in
    let word2 = c.word-len in
    going_next _ _ _ _ _ _ _ loop.invariant _ _ _ test.true (entry_is _ _ _ _ _ word.ensures word2.ensures)
    c.put_use-k.ensures

pub returns : goal.returns
returns c = going_end _ _ _ _ _ _ _ c.loop-j.invariant c.loop-j-test.false
