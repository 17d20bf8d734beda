-- `archive::find::nth` meets its contract: the entry gives the record's offset, and the record its message's length.
use mathlib.Core.Path.{refl, ◌∙◌}
use native.Mathlib.Omega.{arith}
use Rattle.wire.specs.Header.{field_at}
use Rattle.archive.specs.Form.{offset_width}
use Rattle.archive.proofs.FormLaws.{width_most}
use Rattle.archive.proofs.FindLaws.{shown_zero, shown_past, nth_entry, nth_there, nth_is}
use Rattle.archive.proofs.find.nth.Goals as goal
use Rattle.archive.proofs.find.nth.Goals.{then-n-eq0-via-then-n-eq0, then-n-eq0-via-else-n-eq0+then-index-n}

pub returns-then-n-eq0 : goal.returns-then-n-eq0
returns-then-n-eq0 c =
    elim c.then-n-eq0.branch [
      | then-n-eq0-via-then-n-eq0 w ↦ shown_zero _ c.args.f _ _ c.requires _ w.if-n-eq0.true
      | then-n-eq0-via-else-n-eq0+then-index-n w ↦ shown_past _ c.args.f _ _ c.requires _ w.if-index-n.true
    ]

pub overflow_mul-entry : goal.overflow_mul-entry
overflow_mul-entry c =
    let p = c.requires in
    omega (
      arith,
      nth_entry c.args.file.now c.args.f c.args.index.at c.args.index.entries p (λ i. (c.type_inv.file i).fits) c.args.n (omega arith) (omega arith)
          _ (offset_width c.args.f) c.entry_size.ensures refl,
    )

pub overflow_add-entry : goal.overflow_add-entry
overflow_add-entry c =
    let p = c.requires in
    omega (
      arith,
      nth_entry c.args.file.now c.args.f c.args.index.at c.args.index.entries p (λ i. (c.type_inv.file i).fits) c.args.n (omega arith) (omega arith)
          _ (offset_width c.args.f) c.entry_size.ensures refl,
    )

pub read_number-at-requires : goal.read_number-at-requires
read_number-at-requires c =
    let p = c.requires in (
      nth_entry c.args.file.now c.args.f c.args.index.at c.args.index.entries p (λ i. (c.type_inv.file i).fits) c.args.n (omega arith) (omega arith)
          _ _ c.entry_size.ensures c.offset_width.ensures,
      omega (arith, c.offset_width.ensures, width_most c.args.f),
    )

pub overflow_add-result : goal.overflow_add-result
unfolding field_at
overflow_add-result c =
    let p = c.requires in
    omega (
      arith,
      nth_there c.args.file.now c.args.f c.args.index.at c.args.index.entries p (λ i. (c.type_inv.file i).fits) c.args.n (omega arith) (omega arith)
          _ _ c.entry_size.ensures c.offset_width.ensures _ c.read_number-at.ensures.0,
    )

pub two_at-requires : goal.two_at-requires
unfolding field_at
two_at-requires c =
    let p = c.requires in
    nth_there c.args.file.now c.args.f c.args.index.at c.args.index.entries p (λ i. (c.type_inv.file i).fits) c.args.n (omega arith) (omega arith)
    _ _ c.entry_size.ensures c.offset_width.ensures _ c.read_number-at.ensures.0

pub returns : goal.returns
unfolding field_at
returns c =
    let p = c.requires in
    nth_is c.args.file.now c.args.f c.args.index.at c.args.index.entries p (λ i. (c.type_inv.file i).fits) c.args.n (omega arith) (omega arith)
    _ _ c.entry_size.ensures c.offset_width.ensures _ c.read_number-at.ensures.0 _ (c.from.ensures ∙ c.two_at.ensures)
