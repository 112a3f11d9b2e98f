-- The number and the value of every answer that is an enum: those of the queries stand beside their enums, here are the header's
-- constructor and the load.
use Rattle.std.specs.Prelude.{Err, Ok, Result, ℕ}
use Rattle.image.specs.declared.ImageView.{ImageView}
pub use Rattle.views.specs.Answers.{Answer, given, refused, of_node, of_found, of_count, of_named, of_text, of_entry, of_definition, of_item}
pub use Rattle.lookups.specs.Answers.{of_list_item}

abbrev pub of_opened : Result ImageView ℕ → Answer ImageView
of_opened (Ok v) = given v
of_opened (Err n) = refused n

abbrev pub of_loaded : Result ImageView ℕ → Answer ImageView
of_loaded (Ok v) = given v
of_loaded (Err n) = refused n
