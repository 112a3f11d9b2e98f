-- Ordered and named children, counts, texts.
use Rattle.std.specs.Prelude.{ℕ, ◌+◌, List, [], cond, ◌&&◌, length, ltb, None, Option, Some}
use Rattle.image.specs.Sections.{Sections, child_count, named_count, f, named_word, part_at, inside_container, sections}
use Rattle.tree.specs.Tree.{child_at}
use Rattle.views.specs.declared.Span.{Span}
use Rattle.views.specs.View.{span, shown, views}
use Rattle.views.specs.declared.NamedChildView.{NamedChildView}

-- how many ordered children, named children a container has
unfoldable pub child_count_of : Sections → ℕ → Option ℕ
child_count_of s i = cond (inside_container s i) (Some (f s i 4)) None

unfoldable pub named_count_of : Sections → ℕ → Option ℕ
named_count_of s i = cond (inside_container s i) (Some (f s i 6)) None

-- the j-th ordered child
unfoldable pub child_query : Sections → ℕ → ℕ → Option ℕ
child_query s i j = cond (inside_container s i && ltb j (f s i 4) && ltb (f s i 3 + j) (child_count s)) (Some (child_at s i j)) None

-- entry k of the named section: text and node
unfoldable pub named_entry : Sections → ℕ → Option NamedChildView
named_entry s k =
    cond (ltb k (named_count s) && shown (length s.strings) (named_word s k 0) (named_word s k 1))
    (Some (record { name = span (named_word s k 0) (named_word s k 1); node = named_word s k 2 })) None

-- the j-th named child
unfoldable pub named_query : Sections → ℕ → ℕ → Option NamedChildView
named_query s i j = cond (inside_container s i && ltb j (f s i 6)) (named_entry s (f s i 5 + j)) None

-- a text that is present and inside
unfoldable pub text_query : Sections → Span → Option Span
text_query s t = cond (shown (length s.strings) t.offset t.len) (Some t) None

-- the part of the strings that holds it; no part where the query finds none
unfoldable pub shown_text : List ℕ → ℕ → ℕ → List ℕ
shown_text strings at len = cond (shown (length strings) at len) (part_at strings at len) []

-- names on an `unfolding` line what a computation with this module needs
unfoldable pub childrens : Unit {0}
unfolding child_count_of named_count_of child_query named_entry named_query text_query shown_text views sections
childrens = tt
