-- What inner functions answer of a node's record, in words. Laws tie it to the views; it need not be believed.
use Rattle.std.specs.Prelude.{ℕ, ◌+◌, List, cond, leb, eqb, None, Option, Some}
use Rattle.words.specs.Words.{NONE}
use Rattle.image.specs.declared.NodeRecord.{NodeRecord}
use Rattle.image.specs.Tags.{list_tag}
use Rattle.views.specs.declared.Span.{Span}
use Rattle.views.specs.View.{span}
use Rattle.answers.specs.declared.node.KindWords.{KindWords}
use Rattle.answers.specs.AnswerWords.{no_span}
use Rattle.answers.specs.NodeViewWords.{eight_words, kind_words}
use Rattle.views.specs.declared.NodeKindView.{NodeKindView}

abbrev pub eight_of : KindWords → List ℕ
eight_of k = eight_words k.tag k.text k.variable k.target k.value k.flags

-- the eight words of the kind that was found
abbrev pub words_found : Option KindWords → Option (List ℕ)
words_found (Some k) = Some (eight_of k)
words_found None = None

-- and those of a kind as it is viewed
abbrev pub words_of_kind : Option NodeKindView → Option (List ℕ)
words_of_kind (Some k) = Some (kind_words k)
words_of_kind None = None

abbrev pub text_alone : ℕ → Span → ℕ → ℕ → ℕ → KindWords
text_alone tag t target w flags = record { tag = tag; text = t; variable = no_span; target = target; value = w; flags = flags }

abbrev pub value_alone : ℕ → ℕ → KindWords
value_alone tag w = text_alone tag no_span NONE w 0

-- a command or operator, by the number of its name
abbrev pub number_found : ℕ → Option ℕ → Option KindWords
number_found tag (Some n) = Some (value_alone tag n)
number_found tag None = None

abbrev pub found_list_place : Option Span → Option Span
found_list_place (Some t) = Some t
found_list_place None = None

-- of a record, beside a payload of so many bytes
abbrev pub list_place_in : ℕ → NodeRecord → Option Span
list_place_in payload r = cond (eqb r.tag list_tag) (cond (leb (r.f0 + r.f1) payload) (Some (span r.f0 r.f1)) None) None

-- the fields that a kind made of a text may have, in a record whose other words are 0
abbrev pub fields_of : ℕ → ℕ → ℕ → ℕ → ℕ → NodeRecord
fields_of tag f0 f1 f2 f4 = record { parent = 0; place = 0; tag = tag; f0 = f0; f1 = f1; f2 = f2; f3 = 0; f4 = f4; f5 = 0; f6 = 0 }
