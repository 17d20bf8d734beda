-- `wire::text::followed` meets its contract. Each return goes by what the calls before it gave.
use mathlib.Core.Path.{sym, subst}
use borrow.Author.Rules.{rules}
use Rattle.std.proofs.lemmas.Iterator.{YieldsList-from_slice}
use Rattle.std.proofs.lemmas.Iterator.Search.{all_from_yields_List}
use Rattle.wire.specs.Text.{follows}
use Rattle.wire.proofs.TextLaws.{Left, text_bad, text_cut, text_left}
use Rattle.wire.proofs.text.followed.Goals as goal

pub returns-in_err-n-clause-same : goal.returns-in_err-n-clause-same
returns-in_err-n-clause-same c =
    let a = c.args in
    subst (Left a.first a.after.now) (sym c.from_residual.ensures) (text_bad a.first a.after.now (sym c.in_err-n.ensures.number))

pub returns-in_err-following-clause-same : goal.returns-in_err-following-clause-same
returns-in_err-following-clause-same c =
    let a = c.args in
    let n = c.in_ok-n in
    subst (Left a.first a.after.now) (sym c.from_residual-in_err-following.ensures)
    (text_cut a.first a.after.now n.n n.ensures.number n.ensures.few c.in_err-following.ensures.cases)

pub returns-clause-same : goal.returns-clause-same
returns-clause-same c =
    let a = c.args in
    let n = c.in_ok-n in
    let s = c.in_ok-following in
    let all = all_from_yields_List follows _ _ _ c.all.ensures.ran (YieldsList-from_slice s.following.now cc) (λ x b q h. search rules) in
    subst (Left a.first a.after.now) (sym c.then_some.ensures)
    (text_left a.first n.n a.after.now s.following.now s.left c.all.result n.ensures.number n.ensures.few s.ensures.cases all)
