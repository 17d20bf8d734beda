use mathlib.Core.Path.{◌≡◌, ap, ◌∙◌}
use Prim.Native.Nat.{ℕ, ◌+◌, ◌*◌}
use native.Mathlib.Numerals.{add-one}
use native.Mathlib.Omega.{arith}
use mathlib.Core.List.{List}
use lib.ListN.{set}
use Rattle.payload.specs.declared.table.TypeRow.{TypeRow}
use Rattle.bench.specs.Form.{type_row_at, type_rows_in}
use Rattle.bench.proofs.input.table.Goals as goal

rows_more : (b : List ℕ) (i : ℕ) (rows : List TypeRow) (r : TypeRow) → rows ≡ type_rows_in i b → r ≡ type_row_at (24 + 6 * i) b
    → set rows i r ≡ type_rows_in (i + 1) b
unfolding type_rows_in
rows_more b i rows r e d = rw (e, d, add-one i)

pub loop-i-init : goal.loop-i-init
unfolding type_rows_in
loop-i-init c = rw c.type_row-rows.ensures

pub loop-i-preserved : goal.loop-i-preserved
loop-i-preserved c = rows_more _ _ _ _ c.loop-i.invariant c.type_row.ensures

pub returns : goal.returns
returns c =
    let all : c.loop-i.i ≡ 64 = omega arith in
    rw (c.loop-i.invariant ∙ ap (λ (n : ℕ). type_rows_in n c.args.b.now) all, c.count.ensures.0, c.from.ensures)
