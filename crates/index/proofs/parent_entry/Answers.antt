-- `index::parent_entry` meets its contract.
use mathlib.Core.Path.{◌≡◌, ◌∙◌, refl, sym, ap}
use mathlib.Core.Bool.{true, false}
use native.Mathlib.Omega.{arith}
use lib.ListN.{length, get_or}
use borrow.Author.Tests.{le-ltb, lt-ltb, eq-eqb, ne_eqb}
use Rattle.words.specs.Words.{words_of}
use Rattle.image.specs.declared.TextEntry.{TextEntry}
use Rattle.image.specs.Entries.{text_entry_of}
use Rattle.index.proofs.Extended.{parent-tests, parent-answer}
use borrow.Author.Rules.{rules}
use Rattle.index.proofs.parent_entry.Goals as goal

pub returns-then-work-at : goal.returns-then-work-at
returns-then-work-at c =
    let at = c in
    record {
      answer = (parent-answer (words_of at.args.index.now) at.args.work.now at.args.parent at.args.j _ at.requires.filed (parent-tests (words_of at.args.index.now) at.args.work.now at.args.parent at.args.j false _ _ (sym (le-ltb _ _ c.if-work-at.true)) refl refl)).0;
      found = (parent-answer (words_of at.args.index.now) at.args.work.now at.args.parent at.args.j _ at.requires.filed (parent-tests (words_of at.args.index.now) at.args.work.now at.args.parent at.args.j false _ _ (sym (le-ltb _ _ c.if-work-at.true)) refl refl)).1;
    }

pub overflow_cast-k : goal.overflow_cast-k
overflow_cast-k c = omega (arith, c.shared_slice_known-3-1.given c.args.parent)

pub returns-then-j-k : goal.returns-then-j-k
returns-then-j-k c =
    let at = c in
    record {
      answer = (parent-answer (words_of at.args.index.now) at.args.work.now at.args.parent at.args.j _ at.requires.filed (parent-tests (words_of at.args.index.now) at.args.work.now at.args.parent at.args.j true false _ (sym (lt-ltb at.args.parent (length at.args.work.now) (search rules))) (sym (le-ltb _ _ c.if-j-k.true)) refl)).0;
      found = (parent-answer (words_of at.args.index.now) at.args.work.now at.args.parent at.args.j _ at.requires.filed (parent-tests (words_of at.args.index.now) at.args.work.now at.args.parent at.args.j true false _ (sym (lt-ltb at.args.parent (length at.args.work.now) (search rules))) (sym (le-ltb _ _ c.if-j-k.true)) refl)).1;
    }

pub returns-then-above-parent : goal.returns-then-above-parent
returns-then-above-parent c =
    let at = c in
    let target : (text_entry_of (words_of at.args.index.now) (get_or at.args.work.now at.args.parent 0)).value ≡ at.args.parent = sym (ap (λ (e : TextEntry). e.value) c.text_entry-above.ensures) ∙ c.if-above-parent.true in
    record {
      answer = (parent-answer (words_of at.args.index.now) at.args.work.now at.args.parent at.args.j _ at.requires.filed (parent-tests (words_of at.args.index.now) at.args.work.now at.args.parent at.args.j true true true (sym (lt-ltb at.args.parent (length at.args.work.now) (search rules))) (sym (lt-ltb (get_or at.args.work.now at.args.parent 0) at.args.j (search rules))) (sym (eq-eqb _ _ target)))).0;
      found = (parent-answer (words_of at.args.index.now) at.args.work.now at.args.parent at.args.j _ at.requires.filed (parent-tests (words_of at.args.index.now) at.args.work.now at.args.parent at.args.j true true true (sym (lt-ltb at.args.parent (length at.args.work.now) (search rules))) (sym (lt-ltb (get_or at.args.work.now at.args.parent 0) at.args.j (search rules))) (sym (eq-eqb _ _ target)))).1;
    }

pub returns-else-above-parent : goal.returns-else-above-parent
returns-else-above-parent c =
    let at = c in
    let target : (text_entry_of (words_of at.args.index.now) (get_or at.args.work.now at.args.parent 0)).value ≡ at.args.parent → ⊥ = λ q. c.if-above-parent.false (ap (λ (e : TextEntry). e.value) c.text_entry-above.ensures ∙ q) in
    record {
      answer = (parent-answer (words_of at.args.index.now) at.args.work.now at.args.parent at.args.j _ at.requires.filed (parent-tests (words_of at.args.index.now) at.args.work.now at.args.parent at.args.j true true false (sym (lt-ltb at.args.parent (length at.args.work.now) (search rules))) (sym (lt-ltb (get_or at.args.work.now at.args.parent 0) at.args.j (search rules))) (sym (ne_eqb _ _ target)))).0;
      found = (parent-answer (words_of at.args.index.now) at.args.work.now at.args.parent at.args.j _ at.requires.filed (parent-tests (words_of at.args.index.now) at.args.work.now at.args.parent at.args.j true true false (sym (lt-ltb at.args.parent (length at.args.work.now) (search rules))) (sym (lt-ltb (get_or at.args.work.now at.args.parent 0) at.args.j (search rules))) (sym (ne_eqb _ _ target)))).1;
    }
