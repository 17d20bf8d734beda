-- `archive::open::opened` meets its contract: each return is the law of its case.
use mathlib.Core.Path.{◌≡◌, sym, ◌∙◌}
use Prim.Native.Nat.{ℕ, ◌*◌}
use native.Mathlib.Omega.{arith}
use Rattle.wire.specs.Header.{field_at}
use Rattle.archive.specs.declared.form.Form.{Form}
use Rattle.archive.specs.declared.form.Form.TheVariants.{One}
use Rattle.archive.specs.Form.{form_number}
use Rattle.archive.proofs.OpenLaws.{open_short, open_other, open_large, open_past, open_trailed, open_checked}
use Rattle.archive.proofs.open.opened.Goals as goal
use Rattle.archive.proofs.open.opened.Goals.{then-from-number-via-then-from-number, then-from-number-via-else-from-number+then-limit-file}

-- a number that is not the one form's is no form's
no_other : (v : ℕ) → (v ≡ form_number One → ⊥) → (f : Form) → v ≡ form_number f → ⊥
no_other v other One = other

pub returns-then-file-lt-TRAILER_LEN : goal.returns-then-file-lt-TRAILER_LEN
returns-then-file-lt-TRAILER_LEN c = open_short _ c.if-file-lt-TRAILER_LEN.true

pub returns-then-from-number : goal.returns-then-from-number
returns-then-from-number c =
    elim c.then-from-number.branch [
      | then-from-number-via-then-from-number w ↦
          open_other _ c.if-file-lt-TRAILER_LEN.false _ (c.from.ensures ∙ c.two_at.ensures)
          (no_other _ (λ q. w.if-from-number.true (q ∙ sym c.number.ensures)))
      | then-from-number-via-else-from-number+then-limit-file w ↦
          open_large _ c.if-file-lt-TRAILER_LEN.false _ (c.from.ensures ∙ c.two_at.ensures) One
          (w.if-from-number.false ∙ c.number.ensures) _ w.limit.ensures w.if-limit-file.true
    ]

pub overflow_mul-entry_size : goal.overflow_mul-entry_size
overflow_mul-entry_size c =
    let e : c.entry_size.result * c.from-n.result ≡ 4 * c.from-n.result = rw c.entry_size.ensures in
    omega arith

pub overflow_add-at : goal.overflow_add-at
overflow_add-at c =
    let e : c.entry_size.result * c.from-n.result ≡ 4 * c.from-n.result = rw c.entry_size.ensures in
    omega arith

pub returns-then-end-at : goal.returns-then-end-at
unfolding field_at
returns-then-end-at c =
    open_past _ c.if-file-lt-TRAILER_LEN.false _ (c.from.ensures ∙ c.two_at.ensures) One
    (c.if-from-number.false ∙ c.number.ensures) _ c.limit.ensures c.if-limit-file.false _ _ _ c.read_number-at.ensures.0
    (c.from-n.ensures ∙ c.two_at-2.ensures) c.entry_size.ensures c.if-end-at.true

pub checked-requires : goal.checked-requires
unfolding field_at
checked-requires c =
    open_trailed _ c.if-file-lt-TRAILER_LEN.false _ (c.from.ensures ∙ c.two_at.ensures) One
    (c.if-from-number.false ∙ c.number.ensures) _ c.limit.ensures c.if-limit-file.false _ _ _ c.read_number-at.ensures.0
    (c.from-n.ensures ∙ c.two_at-2.ensures) c.entry_size.ensures c.if-end-at.false

pub returns : goal.returns
unfolding field_at
returns c =
    open_checked _ c.if-file-lt-TRAILER_LEN.false _ (c.from.ensures ∙ c.two_at.ensures) One
    (c.if-from-number.false ∙ c.number.ensures) _ c.limit.ensures c.if-limit-file.false _ _ _ c.read_number-at.ensures.0
    (c.from-n.ensures ∙ c.two_at-2.ensures) c.entry_size.ensures c.if-end-at.false _ c.checked.ensures
