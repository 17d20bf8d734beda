-- The three meet their contracts. Each return is one law of the definition, at the facts on its way.
use mathlib.Core.Path.{◌≡◌, sym, ap, ◌∙◌}
use Prim.Native.Nat.{ℕ, ◌<◌}
use native.Mathlib.Omega.{arith}
use mathlib.Core.Bool.{Bool}
use Rattle.std.proofs.lemmas.Result.{err_from_is_err_and}
use Rattle.wire.specs.Kind.{wire_fits}
use Rattle.wire.proofs.KindLaws.{number_fixed}
use Rattle.payload.specs.Cells.{kind_in}
use Rattle.payload.specs.declared.read.Level.{Level}
use Rattle.payload.proofs.Walking.ContentLaws.{fixed_sized}
use Rattle.payload.proofs.Walking.LevelLaws.{way_more, way_refused, way_missing, way_closed}
use Rattle.payload.proofs.Walking.MemberLaws.{known_wire, known_twice, known_cut, known_unshown, known_shown, known_entered, known_stuck, member_cut, member_unread, member_skipped, member_known}
use Rattle.payload.proofs.read.Walker.+walk.Goals as goal

-- what the test of the wire type says of the cell's kind
fits : (wire : ℕ) {k kind : ℕ} {t b : Bool} → k ≡ kind → t ≡ wire_fits k wire → t ≡ b → wire_fits kind wire ≡ b
fits wire e d h = ap (λ (x : ℕ). wire_fits x wire) (sym e) ∙ sym d ∙ h

-- ---- a known member

pub read_known-returns-then-not-wire_fits : goal.read_known-returns-then-not-wire_fits
read_known-returns-then-not-wire_fits t c =
    let q = c.requires in
    known_wire _ _ _ q.0 _ _ q.2 q.1 (fits _ (c.kind-kind.ensures ∙ ap kind_in c.cell-cell.ensures) c.wire_fits.ensures c.if-not-wire_fits.true)

pub read_known-returns-then-not-is_absent : goal.read_known-returns-then-not-is_absent
read_known-returns-then-not-is_absent t c =
    let q = c.requires in
    known_twice _ _ _ q.0 _ _ q.2 q.1 (fits _ (c.kind-kind.ensures ∙ ap kind_in c.cell-cell.ensures) c.wire_fits.ensures c.if-not-wire_fits.false)
    (sym c.is_absent.ensures ∙ c.if-not-is_absent.true)

pub read_known-returns-in_err-content : goal.read_known-returns-in_err-content
read_known-returns-in_err-content t c =
    let q = c.requires in
    let p = err_from_is_err_and c.from_residual.result c.from_residual.ensures.1 in
    rw (p.1, p.2) (known_cut _ _ _ q.0 _ _ q.2 q.1 (fits _ (c.kind-kind.ensures ∙ ap kind_in c.cell-cell.ensures) c.wire_fits.ensures c.if-not-wire_fits.false)
    (sym c.is_absent.ensures ∙ c.if-not-is_absent.false) _ c.in_err-content.ensures.is)

pub read_known-returns-in_err-read_level : goal.read_known-returns-in_err-read_level
read_known-returns-in_err-read_level t c =
    let q = c.requires in
    let p = err_from_is_err_and c.from_residual-in_err-read_level.result c.from_residual-in_err-read_level.ensures.1 in
    rw (p.1, p.2) (known_stuck _ _ _ q.0 _ _ q.2 q.1 (fits _ (c.kind-kind.ensures ∙ ap kind_in c.cell-cell.ensures) c.wire_fits.ensures c.if-not-wire_fits.false)
    (sym c.is_absent.ensures ∙ c.if-not-is_absent.false) _ c.in_ok-content.ensures.is c.in_ok-content.ensures.inside
    (sym (c.kind-kind.ensures ∙ ap kind_in c.cell-cell.ensures) ∙ c.if-kind-eq-STRUCT.true) q.3 _ c.inner-members.ensures.is c.inner-members.ensures.stops _ _ (rw c.plain.ensures at c.read_level.ensures)
    _ c.in_err-read_level.was)

pub read_known-shown-requires : goal.read_known-shown-requires
read_known-shown-requires t c =
    let q = c.requires in
    let fine = c.cell-cell.result.fine in
    let s = c.in_ok-content.ensures.inside in
    let few : kind_in c.cell-cell.result.bits < 14 = omega (arith, fine.kind_in_lem, c.kind-kind.ensures) in (
      few,
      s.1,
      omega (arith, s.2, q.0.steady.bounded),
      λ k. let d = number_fixed _ fine.kind_some k _ (fits _ c.kind-kind.ensures c.wire_fits.ensures c.if-not-wire_fits.false) in
          fixed_sized _ _ _ _ d.0 _ _ _ _ c.in_ok-content.ensures.is ∙ rw d.1,
    )

pub read_known-returns-in_err-shown : goal.read_known-returns-in_err-shown
read_known-returns-in_err-shown t c =
    let q = c.requires in
    let p = err_from_is_err_and c.from_residual-in_err-shown.result c.from_residual-in_err-shown.ensures.1 in
    rw (p.1, p.2) (known_unshown _ _ _ q.0 _ _ q.2 q.1 (fits _ (c.kind-kind.ensures ∙ ap kind_in c.cell-cell.ensures) c.wire_fits.ensures c.if-not-wire_fits.false)
    (sym c.is_absent.ensures ∙ c.if-not-is_absent.false) _ c.in_ok-content.ensures.is c.in_ok-content.ensures.inside _ (rw c.cell-cell.ensures at c.shown.ensures) _ c.in_err-shown.was)

pub read_known-returns-in_ok-read_level : goal.read_known-returns-in_ok-read_level
read_known-returns-in_ok-read_level t c =
    let q = c.requires in
    rw (ap (λ (l : Level). l.span.end) c.inner-members.ensures.is)
    (known_entered _ _ _ q.0 _ _ q.2 q.1 (fits _ (c.kind-kind.ensures ∙ ap kind_in c.cell-cell.ensures) c.wire_fits.ensures c.if-not-wire_fits.false)
    (sym c.is_absent.ensures ∙ c.if-not-is_absent.false) _ c.in_ok-content.ensures.is c.in_ok-content.ensures.inside
    (sym (c.kind-kind.ensures ∙ ap kind_in c.cell-cell.ensures) ∙ c.if-kind-eq-STRUCT.true) q.3 _ c.inner-members.ensures.is c.inner-members.ensures.stops _ _ (rw c.plain.ensures at c.read_level.ensures)
    c.in_ok-read_level.was)

pub read_known-returns-in_ok-shown : goal.read_known-returns-in_ok-shown
read_known-returns-in_ok-shown t c =
    let q = c.requires in
    known_shown _ _ _ q.0 _ _ q.2 q.1 (fits _ (c.kind-kind.ensures ∙ ap kind_in c.cell-cell.ensures) c.wire_fits.ensures c.if-not-wire_fits.false)
    (sym c.is_absent.ensures ∙ c.if-not-is_absent.false) _ c.in_ok-content.ensures.is c.in_ok-content.ensures.inside _ (rw c.cell-cell.ensures at c.shown.ensures) _ c.in_ok-shown.was

-- ---- a level

pub read_level-returns-in_err-at : goal.read_level-returns-in_err-at
read_level-returns-in_err-at t c =
    let p = err_from_is_err_and c.from_residual.result c.from_residual.ensures.1 in
    rw (p.1, p.2) (way_refused _ _ _ _ _ c.loop-at.invariant _ _ c.read_member.ensures _ c.in_err-at.was)

pub read_level-loop-at-preserved : goal.read_level-loop-at-preserved
read_level-loop-at-preserved t c = way_more _ _ _ _ _ c.loop-at.invariant _ _ c.read_member.ensures _ c.in_ok-at.was

pub read_level-returns-then-lacks : goal.read_level-returns-then-lacks
read_level-returns-then-lacks t c =
    rw c.lacks.ensures.kept (way_missing _ _ _ _ _ c.loop-at.invariant c.loop-at-test.false (sym c.lacks.ensures.is ∙ c.if-lacks.true))

pub read_level-returns : goal.read_level-returns
read_level-returns t c =
    rw c.lacks.ensures.kept (way_closed _ _ _ _ _ c.loop-at.invariant c.loop-at-test.false (sym c.lacks.ensures.is ∙ c.if-lacks.false))

-- ---- a member

pub read_member-returns-then-end-at-lt2 : goal.read_member-returns-then-end-at-lt2
read_member-returns-then-end-at-lt2 t c = member_cut _ _ _ c.requires.0 c.requires.1 c.if-end-at-lt2.true

pub read_member-returns-in_err-unknown-in-None : goal.read_member-returns-in_err-unknown-in-None
read_member-returns-in_err-unknown-in-None t c =
    let p = err_from_is_err_and c.from_residual.result c.from_residual.ensures.1 in
    rw (p.1, p.2) (member_unread _ _ _ c.requires.0 c.if-end-at-lt2.false _ c.read_number-tag.ensures.0 _ c.wire_of-wire.ensures _ c.ident_of.ensures
    _ c.find.ensures.is c.in-None.is _ c.in_err-unknown-in-None.ensures.is)

pub read_member-returns-in-Some : goal.read_member-returns-in-Some
read_member-returns-in-Some t c =
    member_known _ _ _ c.requires.0 c.if-end-at-lt2.false _ c.read_number-tag.ensures.0 _ c.wire_of-wire.ensures _ c.ident_of.ensures
    _ c.find.ensures.is _ c.in-Some.is _ _ c.read_known.ensures

pub read_member-returns-in_ok-unknown-in-None : goal.read_member-returns-in_ok-unknown-in-None
read_member-returns-in_ok-unknown-in-None t c =
    member_skipped _ _ _ c.requires.0 c.if-end-at-lt2.false _ c.read_number-tag.ensures.0 _ c.wire_of-wire.ensures _ c.ident_of.ensures
    _ c.find.ensures.is c.in-None.is _ c.in_ok-unknown-in-None.ensures.is c.in_ok-unknown-in-None.ensures.inside
