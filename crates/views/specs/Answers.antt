-- The number and the value of an answer that is an enum: 0 and what the answer holds, or the number of the refusal and nothing. Of each
-- query here: 18 where there is nothing.
use Rattle.std.specs.Prelude.{ℕ, None, Option, Some}
use Rattle.image.specs.Refusals.{not_found}
use Rattle.views.specs.declared.Span.{Span}
use Rattle.views.specs.declared.NodeView.{NodeView}
use Rattle.views.specs.declared.NamedChildView.{NamedChildView}
use Rattle.views.specs.declared.ListEntry.{ListEntry}
use Rattle.views.specs.declared.DefinitionView.{DefinitionView}
use Rattle.views.specs.declared.ItemView.{ItemView}

pub record Answer (A : Type 0) : Type 0 where
  pub number : ℕ
  pub value : Option A

abbrev pub given : {A : Type 0} → A → Answer A
given x = record { number = 0; value = Some x }

abbrev pub refused : {A : Type 0} → ℕ → Answer A
refused n = record { number = n; value = None }

abbrev pub of_node : Option NodeView → Answer NodeView
of_node (Some v) = given v
of_node None = refused not_found

abbrev pub of_found : Option ℕ → Answer ℕ
of_found (Some n) = given n
of_found None = refused not_found

abbrev pub of_count : Option ℕ → Answer ℕ
of_count (Some n) = given n
of_count None = refused not_found

abbrev pub of_named : Option NamedChildView → Answer NamedChildView
of_named (Some c) = given c
of_named None = refused not_found

abbrev pub of_text : Option Span → Answer Span
of_text (Some t) = given t
of_text None = refused not_found

abbrev pub of_entry : Option ListEntry → Answer ListEntry
of_entry (Some e) = given e
of_entry None = refused not_found

abbrev pub of_definition : Option DefinitionView → Answer DefinitionView
of_definition (Some d) = given d
of_definition None = refused not_found

abbrev pub of_item : Option ItemView → Answer ItemView
of_item (Some i) = given i
of_item None = refused not_found
