use native.Mathlib.Omega.{arith}
use mathlib.Core.Path.{refl}
use Rattle.archive.specs.Form.{offset_width}
use Rattle.archive.proofs.FindLaws.{seek_start, seek_end, seek_in, seek_hit, seek_on}
use Rattle.archive.proofs.find.first_of.Goals as goal

pub loop-i-init : goal.loop-i-init
loop-i-init c = seek_start c.args.file.now c.args.session.0

pub overflow_mul-entry : goal.overflow_mul-entry
overflow_mul-entry c =
    let a = c.args in
    omega (
      arith,
      seek_in a.file.now a.session.0 a.f a.index.at a.index.entries c.requires (λ i. (c.type_inv.file i).fits) c.loop-i.i c.loop-i-test.true
          c.entry_size.result (offset_width a.f) c.entry_size.ensures refl,
    )

pub overflow_add-entry : goal.overflow_add-entry
overflow_add-entry c =
    let a = c.args in
    omega (
      arith,
      seek_in a.file.now a.session.0 a.f a.index.at a.index.entries c.requires (λ i. (c.type_inv.file i).fits) c.loop-i.i c.loop-i-test.true
          c.entry_size.result (offset_width a.f) c.entry_size.ensures refl,
    )

pub overflow_add-entry-in-loop-i : goal.overflow_add-entry-in-loop-i
overflow_add-entry-in-loop-i c =
    let a = c.args in
    omega (
      arith,
      seek_in a.file.now a.session.0 a.f a.index.at a.index.entries c.requires (λ i. (c.type_inv.file i).fits) c.loop-i.i c.loop-i-test.true
          c.entry_size.result c.offset_width.result c.entry_size.ensures c.offset_width.ensures,
    )

pub two_at-requires : goal.two_at-requires
two_at-requires c =
    let a = c.args in
    seek_in a.file.now a.session.0 a.f a.index.at a.index.entries c.requires (λ i. (c.type_inv.file i).fits) c.loop-i.i c.loop-i-test.true
    c.entry_size.result c.offset_width.result c.entry_size.ensures c.offset_width.ensures

pub returns-then-two_at-session : goal.returns-then-two_at-session
returns-then-two_at-session c =
    let a = c.args in
    seek_hit a.file.now a.session.0 a.f a.index.at a.index.entries c.requires (λ i. (c.type_inv.file i).fits) c.loop-i.i c.loop-i-test.true
    c.entry_size.result c.offset_width.result c.entry_size.ensures c.offset_width.ensures c.loop-i.invariant _ c.two_at.ensures c.if-two_at-session.true

pub loop-i-preserved : goal.loop-i-preserved
loop-i-preserved c =
    let a = c.args in
    seek_on a.file.now a.session.0 a.f a.index.at a.index.entries c.requires (λ i. (c.type_inv.file i).fits) c.loop-i.i c.loop-i-test.true
    c.entry_size.result c.offset_width.result c.entry_size.ensures c.offset_width.ensures c.loop-i.invariant _ c.two_at.ensures c.if-two_at-session.false

pub returns : goal.returns
returns c =
    let a = c.args in
    seek_end a.file.now a.session.0 a.f _ _ c.requires _ c.loop-i.invariant c.loop-i-test.false
