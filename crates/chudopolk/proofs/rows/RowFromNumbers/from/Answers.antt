-- `chudopolk::rows::RowFromNumbers::from` meets its contract. Each return goes by the number that led there.
use mathlib.Core.Path.{◌∙◌}
use native.Mathlib.Omega.{arith}
use borrow.Author.Rules.{sfits_of}
use mir.Facts.{to_z-of_z}
use Rattle.chudopolk.proofs.ValueLaws.{read_signed, row_absent, row_unsigned, row_signed, row_float32, row_float64, row_bytes, row_members, row_odd}
use Rattle.chudopolk.proofs.rows.RowFromNumbers.from.Goals as goal

pub returns-in-0 : goal.returns-in-0
returns-in-0 c = row_absent _ _ _ _ c.in-0.is

pub returns-in-1 : goal.returns-in-1
returns-in-1 c = c.plain.ensures ∙ row_unsigned _ _ _ _ c.in-1.is

pub returns-in-2 : goal.returns-in-2
returns-in-2 c =
    let signed = c.cast_signed.ensures ∙ read_signed c.args.n.what c.args.n.number c.args.n.place c.args.n.len (omega arith) in
    c.plain-in-2.ensures ∙ rw (to_z-of_z (sfits_of c.cast_signed.type_inv), signed) (row_signed _ _ _ _ c.in-2.is)

pub returns-in-3 : goal.returns-in-3
returns-in-3 c = c.float32_row.ensures ∙ row_float32 _ _ _ _ c.in-3.is

pub returns-in-4 : goal.returns-in-4
returns-in-4 c = rw c.float64_of.ensures (row_float64 _ _ _ _ c.in-4.is)

pub returns-in-5 : goal.returns-in-5
returns-in-5 c = c.plain-in-5.ensures ∙ row_bytes _ _ _ _ c.in-5.is

pub returns-in-6 : goal.returns-in-6
returns-in-6 c = c.plain-in-6.ensures ∙ row_members _ _ _ _ c.in-6.is

pub returns-in_default : goal.returns-in_default
returns-in_default c =
    c.float32_row-in_default.ensures
    ∙ row_odd _ _ _ _
    (λ h. omega arith) (λ h. omega arith) (λ h. omega arith) (λ h. omega arith) (λ h. omega arith) (λ h. omega arith) (λ h. omega arith)
