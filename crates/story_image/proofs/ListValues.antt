-- List values and definitions of the exported queries.
use Rattle.std.specs.Prelude.{None, Option, Some}
use Prim.Native.Nat.{ℕ}
use mathlib.Core.Path.{◌≡◌, sym, ap, ◌∙◌}
use mathlib.Core.List.{List, [], ◌∷◌}
use Rattle.image.specs.declared.Definition.{Definition}
use Rattle.image.specs.Sections.{Sections}
use Rattle.views.specs.declared.Span.{Span}
use Rattle.views.specs.declared.DefinitionView.{DefinitionView}
use Rattle.views.specs.Found.{definition_found}
use Rattle.views.specs.Lists.{definition_query}
use Rattle.views.proofs.Reading.{no_definition, a_definition}
use Rattle.answers.specs.RecordWords.{found_list_place}
use Rattle.story_image.specs.Queries.{at_list, first_words}

-- ---- the list value of a node

module _ (p : Option Span) (o : Option Span) (e : found_list_place p ≡ o) (query : Span → Option (List ℕ)) where
  pub no_list : p ≡ None → None ≡ at_list o query
  no_list h = ap (λ (x : Option Span). at_list x query) (ap found_list_place (sym h) ∙ e)

  pub a_list : (t : Span) → p ≡ Some t → query t ≡ at_list o query
  a_list t h = ap (λ (x : Option Span). at_list x query) (ap found_list_place (sym h) ∙ e)

-- ---- the first item of a definition

module _ (s : Sections) (d : ℕ) (a : Option DefinitionView) (e : a ≡ definition_query s d) where
  pub first-missing : a ≡ None → None ≡ first_words s d (definition_query s d)
  first-missing h = ap (first_words s d) (sym h ∙ e)

  module _ (r : Option Definition) (q : r ≡ definition_found s d) where
    pub first-none : r ≡ None → None ≡ first_words s d (definition_query s d)
    unfolding definition_query
    first-none h = rw (no_definition s d r q h)

    pub first_found : (x : DefinitionView) (y : Definition) → a ≡ Some x → r ≡ Some y
        → Some (y.first ∷ []) ≡ first_words s d (definition_query s d)
    first_found x y h k =
        ap (λ (z : Definition). Some (z.first ∷ [])) (a_definition s d r q y k).1 ∙ ap (first_words s d) (sym h ∙ e)
