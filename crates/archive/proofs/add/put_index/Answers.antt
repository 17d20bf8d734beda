use mathlib.Core.Path.{refl, ap}
use native.Mathlib.Omega.{arith}
use lib.ListN.{length}
use lib.Seq.{length-sets}
use Rattle.archive.proofs.FormLaws.{width_most}
use Rattle.archive.proofs.IndexLaws.{index_start, index_end, turn_sized, turn_room, index_turn}
use Rattle.archive.proofs.add.put_index.Goals as goal

pub loop-at-init : goal.loop-at-init
loop-at-init c = index_start c.args.file.now c.args.f c.args.size c.requires.0 c.requires.1

pub size_at-k-requires : goal.size_at-k-requires
size_at-k-requires c =
    omega (arith, turn_sized c.loop-at.invariant c.loop-at-test.true refl)

pub session_at-session-requires : goal.session_at-session-requires
session_at-session-requires c =
    omega (arith, turn_sized c.loop-at.invariant c.loop-at-test.true c.size_at-k.ensures)

pub write_number-requires : goal.write_number-requires
write_number-requires c = (
  omega (arith, turn_room c.loop-at.invariant c.loop-at-test.true c.size_at-k.ensures),
  omega (arith, width_most c.args.f),
)

pub overflow_add-to : goal.overflow_add-to
overflow_add-to c =
    omega (arith, turn_room c.loop-at.invariant c.loop-at-test.true c.size_at-k.ensures)

pub write_number-requires-in-loop-at : goal.write_number-requires-in-loop-at
write_number-requires-in-loop-at c =
    let same = simp length-sets at (ap length c.write_number.ensures) in
    (omega (arith, same, turn_room c.loop-at.invariant c.loop-at-test.true c.size_at-k.ensures), omega arith)

pub overflow_add-to-in-loop-at : goal.overflow_add-to-in-loop-at
overflow_add-to-in-loop-at c =
    omega (arith, turn_room c.loop-at.invariant c.loop-at-test.true c.size_at-k.ensures)

pub overflow_add-at : goal.overflow_add-at
overflow_add-at c =
    omega (arith, turn_sized c.loop-at.invariant c.loop-at-test.true c.size_at-k.ensures)

pub loop-at-smaller : goal.loop-at-smaller
loop-at-smaller c =
    omega (arith, turn_sized c.loop-at.invariant c.loop-at-test.true c.size_at-k.ensures)

pub loop-at-preserved : goal.loop-at-preserved
loop-at-preserved c =
    index_turn c.loop-at.invariant c.loop-at-test.true c.size_at-k.ensures
    c.offset_width-w.ensures
    c.session_at-session.ensures
    c.entry_size-to.ensures
    c.write_number.ensures
    c.write_number-in-loop-at.ensures

pub returns : goal.returns
returns c = index_end c.loop-at.invariant c.loop-at-test.false
