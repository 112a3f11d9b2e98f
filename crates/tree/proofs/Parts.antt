-- The tree's rule asks about nodes, children, named entries and strings only: for the sections of an image it is that of their parts.
use Prim.Native.Nat.{ℕ}
use mathlib.Core.Path.{◌≡◌, refl, sym, ap, ◌∙◌, subst}
use mathlib.Core.List.{List, []}
use Rattle.words.specs.Words.{words_of}
use Rattle.image.specs.Sections.{Sections, node_word, child_word, named_word}
use Rattle.records.specs.Records.{number_of_children, number_of_named}
use Rattle.tree.specs.Tree.{child_rule, named_rule, entries_rule, entry_nodes, load_walk, all_seen, tree_rule}
use Rattle.tree.specs.Parts.{parts_of, Fit}
use Rattle.tree.specs.Work.{tree_words}

-- the sections of an image or a draft without those that do not matter here
abbrev alone : Sections → Sections
alone s =
    record {
      version = s.version;
      nodes = s.nodes;
      children = s.children;
      named = s.named;
      definitions = [];
      items = [];
      index = [];
      payload = [];
      strings = s.strings;
    }

rule-alone : (s : Sections) → tree_rule (alone s) ≡ tree_rule s
unfolding tree_rule load_walk all_seen entries_rule child_rule named_rule entry_nodes number_of_children number_of_named node_word child_word named_word
rule-alone s = refl

fit_alone : (s : Sections) → Fit s → Fit (alone s)
unfolding number_of_children number_of_named node_word
fit_alone s g =
    record {
      counts = record { some = g.counts.some; children = g.counts.children; named = g.counts.named };
      ranges = λ i h c. record { children = (g.ranges i h c).children; named = (g.ranges i h c).named };
    }

module _ (s : Sections) (version : ℕ) (ns cs ms ss : List ℕ) (versioned : s.version ≡ version) (nodes : s.nodes ≡ words_of ns) (children : s.children ≡ words_of cs)
    (named : s.named ≡ words_of ms) (strings : s.strings ≡ ss) where
  same_parts : alone s ≡ parts_of version ns cs ms ss
  same_parts = λ k.
      record {
        version = versioned k;
        nodes = nodes k;
        children = children k;
        named = named k;
        definitions = [];
        items = [];
        index = [];
        payload = [];
        strings = strings k;
      }

  pub parts-rule : tree_rule (parts_of version ns cs ms ss) ≡ tree_rule s
  parts-rule = ap tree_rule (sym same_parts) ∙ rule-alone s

  pub parts_fit : Fit s → Fit (parts_of version ns cs ms ss)
  parts_fit g = subst Fit same_parts (fit_alone s g)

  pub parts-words : tree_words (parts_of version ns cs ms ss) ≡ tree_words s
  parts-words = ap tree_words (sym same_parts)
