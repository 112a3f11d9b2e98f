-- What a writer answers: 0, or the number of the first rule that is broken; the image; output and work words on return.
use Rattle.std.specs.Prelude.{ℕ, List, ◌++◌, Bool, cond, ◌&&◌, ◌||◌, length, drop, replicate, leb, eqb}
use Rattle.laws.specs.Refusal.{unless, ◌▸◌, refusals}
use Rattle.words.specs.Words.{NONE}
use Rattle.image.specs.Sections.{Sections}
use Rattle.image.specs.Header.{ink_right}
use Rattle.image.specs.Encoding.{image_of, encodings}
use Rattle.image.specs.Refusals.{bad_ink_version, too_few_words, bad_draft, no_room}
use Rattle.draft.specs.Draft.{tables_rule, write_words, reach_rule, shape_rule, paths_rule, drafts}
use Rattle.draft_image.specs.Written.{written, writtens}

-- the image that a draft is written as
unfoldable pub image_for : ℕ → Sections → List ℕ
image_for ink s = image_of ink (written s)

-- the writer's tests before it looks at the output: 3, 19, 7, 20 to 22
unfoldable pub draft_rule : ℕ → Sections → ℕ → ℕ
draft_rule ink s work =
    unless (ink_right ink) bad_ink_version
    ▸ tables_rule s
    ▸ unless (leb (write_words s) work) too_few_words
    ▸ reach_rule s
    ▸ shape_rule s
    ▸ paths_rule s

-- a draft written with counts of work words and output bytes
unfoldable pub encode_rule : ℕ → Sections → ℕ → ℕ → ℕ
encode_rule ink s work room =
    draft_rule ink s work ▸ unless (leb (length (image_for ink s)) room && leb (length (image_for ink s)) NONE) no_room

-- the output on return, where the answer is r: the image, and bytes past it stay; refusals leave it untouched
unfoldable pub out_after : ℕ → List ℕ → List ℕ → List ℕ
out_after r image out = cond (eqb r 0) (image ++ drop (length image) out) out

-- refusals 3, 19 and 7 leave the work words untouched
abbrev pub untouched : ℕ → Bool
untouched r = eqb r bad_ink_version || eqb r bad_draft || eqb r too_few_words

-- the work words on return: otherwise as many as are required are zero, and those past them stay
unfoldable pub encode_work_after : ℕ → ℕ → List ℕ → List ℕ
encode_work_after needed r work = cond (untouched r) work (replicate needed 0 ++ drop needed work)

-- names on an `unfolding` line what a computation with this module needs
unfoldable pub encodes : Unit {0}
unfolding image_for draft_rule encode_rule out_after encode_work_after encodings drafts writtens refusals
encodes = tt
