-- `image::section_part` meets its contract.
use Prim.Native.Nat.{◌*◌, ◌≤◌}
use native.Mathlib.Omega.{arith}
use Rattle.words.specs.Words.{NONE}
use native.Mathlib.Nat.{add-sub_cancel_left}
use Rattle.laws.proofs.Cases.{cases}
use Rattle.image.specs.Sections.{part_at}
use Rattle.image.specs.Header.{section_bytes}
use Rattle.image.proofs.Parts.{product_bound}
use borrow.Author.Rules.{rules}
use Rattle.image.proofs.section_part.Goals as goal

pub overflow_mul-end : goal.overflow_mul-end
overflow_mul-end c =
    let bound : c.args.section.count * c.args.size ≤ NONE * NONE = product_bound c.args.section.count c.args.size (omega arith) (omega arith) in
    omega (arith, bound)

pub overflow_add-end : goal.overflow_add-end
overflow_add-end c =
    let bound : c.args.section.count * c.args.size ≤ NONE * NONE = product_bound c.args.section.count c.args.size (omega arith) (omega arith) in
    omega (arith, bound)

pub returns-then-end-bytes : goal.returns-then-end-bytes
unfolding section_bytes part_at
returns-then-end-bytes c = search (cases, rules, add-sub_cancel_left)

pub returns-else-end-bytes : goal.returns-else-end-bytes
unfolding section_bytes part_at
returns-else-end-bytes c = search (cases, rules)
