-- The sections that the definitions are made of, out of their bytes.
use Rattle.std.specs.Prelude.{ℕ, List, []}
use Rattle.words.specs.Words.{words_of}
use Rattle.image.specs.Header.{version}
use Rattle.image.specs.Sections.{Sections}

-- definitions, items and strings; the version does not matter here
abbrev pub definition_parts : List ℕ → List ℕ → List ℕ → Sections
definition_parts definitions items strings =
    record {
      version = version;
      nodes = [];
      children = [];
      named = [];
      definitions = words_of definitions;
      items = words_of items;
      index = [];
      payload = [];
      strings = strings;
    }
