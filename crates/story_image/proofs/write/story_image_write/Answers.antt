-- `story_image::write::story_image_write` meets its contract.
use Rattle.std.specs.Prelude.{Err}
use mathlib.Core.Path.{◌≡◌, ap, ◌∙◌}
use borrow.Author.Rules.{rules}
use Rattle.writer.specs.declared.EncodeError.TheVariants as error
use Rattle.writer.specs.Encoded.{encoded_in}
use Rattle.story_image.proofs.Writes.{no_length, written-number, written-words, written-output, written-length, short-number, short-words, short-output, short-length, refused-number, refused-words, refused-output, refused-length}
use Rattle.story_image.proofs.write.story_image_write.Goals as goal

pub returns-then-written-lt1 : goal.returns-then-written-lt1
returns-then-written-lt1 c =
    let a = c.args in
    let said = c.write_without_words.ensures in
    let kept = no_length _ _ a.work.now a.written.now _ _ _ _ c.if-written-lt1.true said.answer in
    record { number = kept.0; output = said.output; words = kept.1; long = kept.2 }

pub returns-in-Ok : goal.returns-in-Ok
returns-in-Ok c =
    let room = c.if-written-lt1.false in
    let told = c.encode.ensures in
    let is = ap encoded_in c.in-Ok.is in
    record {
      number = written-number _ _ _ _ _ _ room told.answer _ is;
      output = written-output _ _ _ _ _ _ room told.answer _ is _ _ told.output;
      words = written-words _ _ _ _ _ _ room told.answer _ is _ _ _ told.words;
      long = written-length _ _ _ _ _ _ room told.answer _ is _ room;
    }

pub returns-in-Err-Short : goal.returns-in-Err-Short
returns-in-Err-Short c =
    let room = c.if-written-lt1.false in
    let told = c.encode.ensures in
    let short : c.encode.result ≡ Err (error.Short c.in-Err-Short.needed) = search rules in
    let is = ap encoded_in short in
    record {
      number = short-number _ _ _ _ _ _ room told.answer _ is;
      output = short-output _ _ _ _ _ _ room told.answer _ is _ _ told.output;
      words = short-words _ _ _ _ _ _ room told.answer _ is _ _ _ told.words;
      long = short-length _ _ _ _ _ _ room told.answer _ is _ room;
    }

pub returns-in-Err-Refused : goal.returns-in-Err-Refused
returns-in-Err-Refused c =
    let room = c.if-written-lt1.false in
    let told = c.encode.ensures in
    let refused : c.encode.result ≡ Err (error.Refused c.in-Err-Refused.refusal) = search rules in
    let is = ap encoded_in refused in
    record {
      number = c.number.ensures ∙ refused-number _ _ _ _ _ _ room told.answer _ is;
      output = rw c.number.ensures (refused-output _ _ _ _ _ _ room told.answer _ is _ _ told.output);
      words = rw c.number.ensures (refused-words _ _ _ _ _ _ room told.answer _ is _ _ _ told.words);
      long = rw c.number.ensures (refused-length _ _ _ _ _ _ room told.answer _ is _);
    }
