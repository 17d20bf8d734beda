-- `payload::emit::put_bytes` meets its contract: its stores, in the order of the code, are those of the member.
use Rattle.std.proofs.Common.{◌≡◌, ◌+◌, length, sym, ◌∙◌, arith, length-append}
use borrow.Author.Tests.{eq-eqb, ne_eqb}
use Rattle.wire.specs.Kind.{string}
use Rattle.wire.specs.Text.{string_bytes}
use Rattle.wire.specs.Part.{run_of}
use Rattle.wire.proofs.NumberLaws.{length_number_bytes}
use Rattle.wire.proofs.StoreLaws.{sets_append}
use Rattle.payload.specs.Cells.{kind_in}
use Rattle.payload.specs.Fine.{field_start}
use Rattle.payload.proofs.emit.put_bytes.Goals as goal

pub returns-then-kind-eq-STRING-clause-output : goal.returns-then-kind-eq-STRING-clause-output
returns-then-kind-eq-STRING-clause-output c =
    let a = c.args in
    let f = a.fine.now in
    let k : kind_in a.cell.bits ≡ string = sym c.kind.ensures ∙ c.if-kind-eq-STRING.true in
    let s = c.put_field-start.ensures in
    let n : length (field_start f a.cell.bits (a.len + 4)) ≡ f.table.now.width + 2 = simp (length-append, length_number_bytes) (omega arith) in
    rw (eq-eqb (kind_in a.cell.bits) string k, c.put_text.ensures, s.output, s.next, ← n)
    (sym (sets_append (field_start f a.cell.bits (a.len + 4)) (string_bytes (run_of f.content.now a.place a.len)) a.out.now a.at))

pub returns-clause-output : goal.returns-clause-output
returns-clause-output c =
    let a = c.args in
    let f = a.fine.now in
    let k : kind_in a.cell.bits ≡ string → ⊥ = λ e. c.if-kind-eq-STRING.false (c.kind.ensures ∙ e) in
    let s = c.put_field-start-2.ensures in
    let n : length (field_start f a.cell.bits a.len) ≡ f.table.now.width + 2 = simp (length-append, length_number_bytes) (omega arith) in
    rw (ne_eqb (kind_in a.cell.bits) string k, c.put_run.ensures, s.output, s.next, ← n)
    (sym (sets_append (field_start f a.cell.bits a.len) (run_of f.content.now a.place a.len) a.out.now a.at))
