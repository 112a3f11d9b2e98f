-- The numbers of FORMAT.md's table of refusals. 0, which is none of them, says that nothing was refused.
use Rattle.std.specs.Prelude.{ℕ, Result, Ok, Err}
use Rattle.image.specs.declared.refusal.Refusal.{Refusal}
use Rattle.image.specs.declared.refusal.Refusal.TheVariants as row

-- fewer than 88 bytes, or another magic
abbrev pub bad_header : ℕ
bad_header = 1

-- a version of the image that is not 2
abbrev pub bad_version : ℕ
bad_version = 2

-- an ink version outside 18 to 21
abbrev pub bad_ink_version : ℕ
bad_ink_version = 3

-- the total length is not that of the bytes
abbrev pub bad_length : ℕ
bad_length = 4

-- a section begins or ends in the wrong place, bytes follow the last one, or there is no node
abbrev pub bad_sections : ℕ
bad_sections = 5

-- the checksum is not that of the bytes
abbrev pub bad_checksum : ℕ
bad_checksum = 6

-- fewer work words are lent than are needed
abbrev pub too_few_words : ℕ
too_few_words = 7

-- the root is no container, or has a parent or a place
abbrev pub bad_root : ℕ
bad_root = 8

-- a node number outside the table, of no container where one is due, or of the node itself as its parent
abbrev pub bad_node : ℕ
bad_node = 9

-- a text is missing, outside the strings or not UTF-8
abbrev pub bad_text : ℕ
bad_text = 10

-- a range or a start of entries, or the length of a list's payload, is wrong
abbrev pub bad_range : ℕ
bad_range = 11

-- an unknown tag, flag, command or operator
abbrev pub bad_tag : ℕ
bad_tag = 12

-- entries that no node uses, or an index count that is not the number of containers
abbrev pub left_over : ℕ
left_over = 13

-- a child whose parent or place is another, or that is outside; a named entry's text, order or parent
abbrev pub bad_child : ℕ
bad_child = 14

-- no entry leads to some node
abbrev pub unreached : ℕ
unreached = 15

-- the texts of the index do not rise, or one does not fit its container
abbrev pub bad_index : ℕ
bad_index = 16

-- the order of definitions or items, an item's text, or items that no definition has
abbrev pub bad_definition : ℕ
bad_definition = 17

-- a query asked for a node, child, name, step or item that is not there
abbrev pub not_found : ℕ
not_found = 18

-- a table of the draft breaks a rule of its records
abbrev pub bad_draft : ℕ
bad_draft = 19

-- no entry of the draft leads to some node
abbrev pub draft_unreached : ℕ
draft_unreached = 20

-- the draft's root, parents, tree or orders are wrong
abbrev pub draft_shape : ℕ
draft_shape = 21

-- two containers of the draft have one path, or one has none
abbrev pub draft_paths : ℕ
draft_paths = 22

-- the output is too short, or the image would be longer than a word can say
abbrev pub no_room : ℕ
no_room = 23

-- fewer words are lent than a slot for each number takes
abbrev pub too_few_slots : ℕ
too_few_slots = 24

-- no node is at the path of a node of the draft
abbrev pub no_target : ℕ
no_target = 25

-- the node at the path is no container where one is due
abbrev pub no_container : ℕ
no_container = 26

-- a summary of targets with fewer words than there are nodes, or a word of it that cannot take its step
abbrev pub bad_summary : ℕ
bad_summary = 27

-- ---- the code's refusals

abbrev pub refusal_number : Refusal → ℕ
refusal_number row.BadHeader = bad_header
refusal_number row.BadVersion = bad_version
refusal_number row.BadInkVersion = bad_ink_version
refusal_number row.BadLength = bad_length
refusal_number row.BadSections = bad_sections
refusal_number row.BadChecksum = bad_checksum
refusal_number row.TooFewWords = too_few_words
refusal_number row.BadRoot = bad_root
refusal_number row.BadNode = bad_node
refusal_number row.BadText = bad_text
refusal_number row.BadRange = bad_range
refusal_number row.BadTag = bad_tag
refusal_number row.LeftOver = left_over
refusal_number row.BadChild = bad_child
refusal_number row.Unreached = unreached
refusal_number row.BadIndex = bad_index
refusal_number row.BadDefinition = bad_definition
refusal_number row.NotFound = not_found
refusal_number row.BadDraft = bad_draft
refusal_number row.DraftUnreached = draft_unreached
refusal_number row.DraftShape = draft_shape
refusal_number row.DraftPaths = draft_paths
refusal_number row.NoRoom = no_room
refusal_number row.TooFewSlots = too_few_slots
refusal_number row.NoTarget = no_target
refusal_number row.NoContainer = no_container
refusal_number row.BadSummary = bad_summary

-- the number in an answer, 0 if nothing was refused
abbrev pub refusal_in : {A : Type 0} → Result A Refusal → ℕ
refusal_in (Ok x) = 0
refusal_in (Err r) = refusal_number r

-- the number that was answered, 0 if it was refused
abbrev pub value_in : Result ℕ Refusal → ℕ
value_in (Ok n) = n
value_in (Err r) = 0

-- an answer with the refusal's number
abbrev pub numbered : {A : Type 0} → Result A Refusal → Result A ℕ
numbered (Ok x) = Ok x
numbered (Err r) = Err (refusal_number r)
