-- The kinds of nodes by tag, and what each kind has in its fields.
use Rattle.std.specs.Prelude.{ℕ, List, [], ◌∷◌, cond, eqb}
use Rattle.image.specs.Tags.{container_tag, choice_tag, command_tag, divert_tag, glue_tag, operator_tag, tag_tag, bool_tag, int_tag, float_tag, string_tag, list_tag, target_tag, pointer_tag, assignment_tag, reference_tag, void_tag}

-- FORMAT.md's kinds, in the order of their tags
pub data Kind : Type 0 where
  Container Choice Command Divert Glue Operator Tag BoolValue IntValue FloatValue StringValue ListValue TargetValue PointerValue Assignment Reference Void : Kind
  -- no tag of a node
  Unknown : Kind

-- each tag with its kind
unfoldable pub kind_table : List (ℕ × Kind)
kind_table =
    (container_tag, Container)
    ∷ (choice_tag, Choice)
    ∷ (command_tag, Command)
    ∷ (divert_tag, Divert)
    ∷ (glue_tag, Glue)
    ∷ (operator_tag, Operator)
    ∷ (tag_tag, Tag)
    ∷ (bool_tag, BoolValue)
    ∷ (int_tag, IntValue)
    ∷ (float_tag, FloatValue)
    ∷ (string_tag, StringValue)
    ∷ (list_tag, ListValue)
    ∷ (target_tag, TargetValue)
    ∷ (pointer_tag, PointerValue)
    ∷ (assignment_tag, Assignment)
    ∷ (reference_tag, Reference)
    ∷ (void_tag, Void)
    ∷ []

unfoldable pub kind_in : List (ℕ × Kind) → ℕ → Kind
kind_in [] t = Unknown
kind_in (row ∷ rows) t = let r = kind_in rows t in cond (eqb t row.0) row.1 r

-- the kind of a tag
abbrev pub kind_of : ℕ → Kind
kind_of t = kind_in kind_table t

-- names on an `unfolding` line what a computation with `kind_of` needs
unfoldable pub kinds : Unit {0}
unfolding kind_table kind_in
kinds = tt

-- what stands in a field; a number says at which word it begins, counted from f0
pub data Field : Type 0 where
  -- a text, and one that may be absent (two words)
  text optional : ℕ → Field
  -- the known name of a command, of an operator (two words)
  command operator : ℕ → Field
  -- a node, one that may be absent, a container, one that may be absent
  node optionalNode container optionalContainer : ℕ → Field
  -- any word; a word at most the second number
  plain : ℕ → Field
  at_most : ℕ → ℕ → Field
  -- start and count of ordered children (f3, f4), of named children (f5, f6); start and length of a list's payload (f0, f1)
  children named payload : Field
  -- nothing is right here
  wrong : Field

-- the fields of a kind, in the order in which they are tested. Divert flags below 32 with f6 / 8 at most 2 are those at most 23
unfoldable pub fields : Kind → List Field
fields Container = optional 0 ∷ plain 2 ∷ children ∷ named ∷ []
fields Choice = optional 0 ∷ container 2 ∷ plain 3 ∷ []
fields Command = command 0 ∷ []
fields Divert = optional 0 ∷ optionalNode 2 ∷ optional 3 ∷ plain 5 ∷ at_most 6 23 ∷ []
fields Glue = []
fields Operator = operator 0 ∷ []
fields Tag = text 0 ∷ []
fields BoolValue = at_most 0 1 ∷ []
fields IntValue = plain 0 ∷ []
fields FloatValue = plain 0 ∷ []
fields StringValue = text 0 ∷ []
fields ListValue = payload ∷ []
fields TargetValue = text 0 ∷ node 2 ∷ []
fields PointerValue = text 0 ∷ plain 2 ∷ []
fields Assignment = text 0 ∷ at_most 2 3 ∷ []
fields Reference = text 0 ∷ optional 2 ∷ optionalContainer 4 ∷ []
fields Void = []
fields Unknown = wrong ∷ []

-- ---- the target of a node: the field that names another node

-- the word of the target, counted from f0, of fields of which this is the first: its own, or that of the others
abbrev pub target_before : Field → ℕ → ℕ
target_before (node k) others = k
target_before (optionalNode k) others = k
target_before (container k) others = k
target_before (optionalContainer k) others = k
target_before (text k) others = others
target_before (optional k) others = others
target_before (command k) others = others
target_before (operator k) others = others
target_before (plain k) others = others
target_before (at_most k n) others = others
target_before children others = others
target_before named others = others
target_before payload others = others
target_before wrong others = others

-- past f6, where no field has one
abbrev pub no_place : ℕ
no_place = 7

unfoldable pub target_among : List Field → ℕ
target_among [] = no_place
target_among (x ∷ xs) = let others = target_among xs in target_before x others

-- f2 of choices, diverts and target values, f4 of references
abbrev pub target_place : Kind → ℕ
target_place k = target_among (fields k)

-- names on an `unfolding` line what a computation with this module needs
unfoldable pub schema : Unit {0}
unfolding kinds fields target_among
schema = tt
