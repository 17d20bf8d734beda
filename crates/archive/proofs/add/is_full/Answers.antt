-- `archive::add::is_full` meets its contract: within the limit no sum wraps.
use mathlib.Core.Path.{◌∙◌}
use native.Mathlib.Omega.{arith}
use borrow.Author.Tests.{lt-ltb}
use Rattle.archive.proofs.FormLaws.{size_small}
use Rattle.archive.proofs.AddLaws.{full_room, full_limit, full_size, full_entries}
use Rattle.archive.proofs.add.is_full.Goals as goal
use Rattle.archive.proofs.add.is_full.Goals.{then-most-size-via-then-most-size, then-most-size-via-else-most-size+then-most-n}

pub returns-then-most-size : goal.returns-then-most-size
returns-then-most-size c =
    let a = c.args in
    elim c.then-most-size.branch [
      | then-most-size-via-then-most-size w ↦ full_size a.f a.room a.size a.n (omega (arith, w.if-most-size.true, c.limit-most.ensures))
      | then-most-size-via-else-most-size+then-most-n w ↦ full_entries a.f a.room a.size a.n (omega (arith, w.if-most-n.true, c.limit-most.ensures))
    ]

pub overflow_mul-whole : goal.overflow_mul-whole
overflow_mul-whole c =
    let a = c.args in
    rw c.entry_size.ensures (omega (arith, size_small a.f a.size a.n (omega arith) (omega arith)))

pub overflow_add-whole : goal.overflow_add-whole
overflow_add-whole c =
    let a = c.args in
    rw c.entry_size.ensures (omega (arith, size_small a.f a.size a.n (omega arith) (omega arith)))

pub overflow_add-whole-2 : goal.overflow_add-whole-2
overflow_add-whole-2 c =
    let a = c.args in
    rw c.entry_size.ensures (omega (arith, size_small a.f a.size a.n (omega arith) (omega arith)))

pub returns-then-room-whole : goal.returns-then-room-whole
returns-then-room-whole c =
    let a = c.args in
    lt-ltb _ _ c.if-room-whole.true ∙ full_room a.f a.room a.size a.n (rw c.entry_size.ensures at c.if-room-whole.true)

pub returns-else-room-whole : goal.returns-else-room-whole
returns-else-room-whole c =
    let a = c.args in
    rw (c.entry_size.ensures, c.limit-most.ensures)
    (full_limit a.f a.room a.size a.n (rw c.entry_size.ensures at c.if-room-whole.false))
