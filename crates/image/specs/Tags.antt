-- The tags of FORMAT.md's kinds of nodes, by the names of the code's constants.
use Rattle.std.specs.Prelude.{ℕ}

abbrev pub container_tag : ℕ
container_tag = 1

abbrev pub choice_tag : ℕ
choice_tag = 2

abbrev pub command_tag : ℕ
command_tag = 3

abbrev pub divert_tag : ℕ
divert_tag = 4

abbrev pub glue_tag : ℕ
glue_tag = 5

abbrev pub operator_tag : ℕ
operator_tag = 6

abbrev pub tag_tag : ℕ
tag_tag = 7

abbrev pub bool_tag : ℕ
bool_tag = 8

abbrev pub int_tag : ℕ
int_tag = 9

abbrev pub float_tag : ℕ
float_tag = 10

abbrev pub string_tag : ℕ
string_tag = 11

abbrev pub list_tag : ℕ
list_tag = 12

abbrev pub target_tag : ℕ
target_tag = 13

abbrev pub pointer_tag : ℕ
pointer_tag = 14

abbrev pub assignment_tag : ℕ
assignment_tag = 16

abbrev pub reference_tag : ℕ
reference_tag = 17

abbrev pub void_tag : ℕ
void_tag = 18
