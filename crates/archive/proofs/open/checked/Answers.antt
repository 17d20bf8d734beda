-- `archive::open::checked` meets its contract: each return is the law of its case.
use mathlib.Core.Path.{◌≡◌, sym, ap, ◌∙◌}
use Prim.Native.Nat.{◌*◌}
use native.Mathlib.Omega.{arith}
use Rattle.std.specs.Prelude.{Err}
use Rattle.std.proofs.lemmas.Result.{err_from_is_err_and}
use Rattle.archive.specs.declared.verdict.Verdict.TheVariants.{Records}
use Rattle.archive.specs.Form.{entry_size}
use Rattle.archive.proofs.ExitLaws.{given}
use Rattle.archive.proofs.OpenLaws.{check_torn, check_count, check_end, check_told, check_index, check_all}
use Rattle.archive.proofs.open.checked.Goals as goal
use Rattle.archive.proofs.open.checked.Goals.{then-count-n-via-then-count-n, then-count-n-via-else-count-n+then-size-entry_size, then-count-n-via-else-count-n+else-size-entry_size+then-not-index_agrees}

pub returns-in_err-count : goal.returns-in_err-count
returns-in_err-count c =
    let p = err_from_is_err_and c.from_residual.result c.from_residual.ensures.1 in
    let e = c.in_err-count.ensures in
    let torn = check_torn _ (λ i. (c.type_inv.file i).fits) _ _ _ _ c.requires (sym e.ok_part ∙ c.walk.ensures) in
    p.1 ∙ ap Err (p.2 ∙ given c.walk.result _ Records e.value e.ok_part) ∙ torn

pub returns-then-count-n : goal.returns-then-count-n
returns-then-count-n c =
    let found = sym c.in_ok-count.ensures.ok_part ∙ c.walk.ensures in
    elim c.then-count-n.branch [
      | then-count-n-via-then-count-n w ↦
          check_count _ (λ k. (c.type_inv.file k).fits) _ _ _ _ c.requires _ found w.if-count-n.true
      | then-count-n-via-else-count-n+then-size-entry_size w ↦
          check_end _ (λ k. (c.type_inv.file k).fits) _ _ _ _ c.requires _ found
          w.if-count-n.false _ w.entry_size.ensures w.if-size-entry_size.true
      | then-count-n-via-else-count-n+else-size-entry_size+then-not-index_agrees w ↦
          check_index _ (λ k. (c.type_inv.file k).fits) _ _ _ _ c.requires _ found
          w.if-count-n.false _ w.entry_size.ensures w.if-size-entry_size.false
          _ w.index_agrees.ensures w.if-not-index_agrees.true
    ]

pub overflow_mul-entry_size : goal.overflow_mul-entry_size
overflow_mul-entry_size c =
    let e : c.entry_size.result * c.args.n ≡ entry_size c.args.f * c.args.n = rw c.entry_size.ensures in
    omega (arith, c.requires.index_in)

pub overflow_add-size : goal.overflow_add-size
overflow_add-size c =
    let e : c.entry_size.result * c.args.n ≡ entry_size c.args.f * c.args.n = rw c.entry_size.ensures in
    omega (arith, c.requires.index_in)

pub index_agrees-requires : goal.index_agrees-requires
index_agrees-requires c =
    check_told _ (λ k. (c.type_inv.file k).fits) _ _ _ _ c.requires _ (sym c.in_ok-count.ensures.ok_part ∙ c.walk.ensures)
    c.if-count-n.false _ c.entry_size.ensures c.if-size-entry_size.false

pub returns : goal.returns
returns c =
    check_all _ (λ k. (c.type_inv.file k).fits) _ _ _ _ c.requires _ (sym c.in_ok-count.ensures.ok_part ∙ c.walk.ensures)
    c.if-count-n.false _ c.entry_size.ensures c.if-size-entry_size.false
    _ c.index_agrees.ensures c.if-not-index_agrees.false
