-- `archive::records::record_at` meets its contract.
use mathlib.Core.Path.{◌∙◌}
use native.Mathlib.Omega.{arith}
use Rattle.archive.proofs.WalkLaws.{size_short, size_past, size_by}
use Rattle.archive.proofs.records.record_at.Goals as goal

pub returns-then-end-at-lt-LENGTH_LEN : goal.returns-then-end-at-lt-LENGTH_LEN
returns-then-end-at-lt-LENGTH_LEN c =
    let a = c.args in
    size_short a.file.now a.at a.end (omega arith) (omega arith)

pub returns-then-end-from : goal.returns-then-end-from
returns-then-end-from c =
    let a = c.args in
    size_past a.file.now a.at a.end (omega arith) (omega arith) (rw (← c.two_at.ensures, ← c.from-n.ensures) (omega arith))

pub returns : goal.returns
returns c =
    let a = c.args in
    let t = c.from-n in
    c.then_some.ensures ∙ size_by a.file.now a.at a.end (omega arith) (omega arith) t.result (t.ensures ∙ c.two_at.ensures) (omega arith) _ c.is_message.ensures
