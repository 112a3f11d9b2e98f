-- `records::list::item` meets its contract.
use mathlib.Core.Path.{refl}
use Rattle.image.proofs.GoodBytes.{none-known}
use Rattle.records.proofs.Lists.{item-origin, item-name, item-right}
use Rattle.records.proofs.list.item.Goals as goal

pub good_optional-requires : goal.good_optional-requires
good_optional-requires c = none-known

pub returns-then-not-good_optional : goal.returns-then-not-good_optional
returns-then-not-good_optional c = item-origin _ _ _ _ _ _ _ _ _ refl c.word-origin.ensures c.word-origin_len.ensures c.word-name.ensures c.word-name_len.ensures _ c.good_optional.ensures c.if-not-good_optional.true-raw

pub returns-then-not-good_text : goal.returns-then-not-good_text
returns-then-not-good_text c = item-name _ _ _ _ _ _ _ _ _ refl c.word-origin.ensures c.word-origin_len.ensures c.word-name.ensures c.word-name_len.ensures _ c.good_optional.ensures c.if-not-good_optional.false-raw _ c.good_text.ensures c.if-not-good_text.true-raw

pub returns : goal.returns
returns c = item-right _ _ _ _ _ _ _ _ _ refl c.word-origin.ensures c.word-origin_len.ensures c.word-name.ensures c.word-name_len.ensures _ c.good_optional.ensures c.if-not-good_optional.false-raw _ c.good_text.ensures c.if-not-good_text.false-raw
