-- `payload::judge::run_fits` meets its contract, answer by answer.
use mathlib.Core.Path.{◌≡◌, sym, ap, ◌∙◌}
use mathlib.Core.List.{List}
use Prim.Native.Nat.{ℕ, ◌+◌}
use native.Mathlib.Omega.{arith}
use Rattle.wire.specs.Kind.{size_of}
use Rattle.wire.specs.Text.{text_fits}
use Rattle.wire.proofs.PartLaws.{cut_slice}
use Rattle.payload.specs.Cells.{kind_in, row_in}
use Rattle.payload.proofs.Writing.ValueLaws.{run_text, run_other, run_array}
use Rattle.payload.proofs.judge.run_fits.Goals as goal

pub returns-in-12 : goal.returns-in-12
returns-in-12 c =
    let a = c.args in
    run_text a.content.now (row_in a.cell.bits) a.place a.len (sym c.kind.ensures ∙ c.in-12.is) _
    (c.text_fits.ensures ∙ ap (λ (l : List ℕ). text_fits l) (cut_slice a.place (a.place + a.len) a.content.now (omega arith)))

pub returns-in-13 : goal.returns-in-13
returns-in-13 c =
    let a = c.args in
    let k : kind_in a.cell.bits ≡ 13 = sym c.kind.ensures ∙ c.in-13.is in
    run_array a.content.now (row_in a.cell.bits) a.place a.len (λ e. omega arith) k _ (c.size_of.ensures.0 ∙ ap size_of c.elem.ensures)

pub returns-in_default : goal.returns-in_default
returns-in_default c =
    let a = c.args in
    run_other a.content.now (row_in a.cell.bits) a.place a.len (λ e. omega arith) (λ e. omega arith)
