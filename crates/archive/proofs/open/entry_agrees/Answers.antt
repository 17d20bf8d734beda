-- `archive::open::entry_agrees` meets its contract.
use mathlib.Core.Path.{◌∙◌}
use borrow.Author.Tests.{ne_eqb}
use native.Mathlib.Omega.{arith}
use Rattle.wire.specs.Header.{field_at}
use Rattle.archive.proofs.FormLaws.{width_most}
use Rattle.archive.proofs.AgreeLaws.{entry_other, entry_two}
use Rattle.archive.proofs.open.entry_agrees.Goals as goal

pub read_number-requires : goal.read_number-requires
read_number-requires c = omega (arith, width_most c.args.f)

pub returns-then-read_number-at : goal.returns-then-read_number-at
unfolding field_at
returns-then-read_number-at c =
    entry_two _ _ _ _ _ _ c.offset_width-w.ensures c.read_number.ensures.0 c.if-read_number-at.true _ _
    c.two_at.ensures c.session_at.ensures

pub returns-else-read_number-at : goal.returns-else-read_number-at
unfolding field_at
returns-else-read_number-at c =
    ne_eqb _ _ c.if-read_number-at.false ∙ entry_other _ _ _ _ _ _ c.offset_width-w.ensures c.read_number.ensures.0 c.if-read_number-at.false
