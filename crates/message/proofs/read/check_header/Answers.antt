-- `message::read::check_header` meets its contract: each return is the law of its verdict.
use mathlib.Core.Path.{sym}
use Rattle.message.proofs.HeaderLaws.{by_version, by_service, by_interface, by_method, by_type, as_expected}
use Rattle.message.proofs.read.check_header.Goals as goal

pub returns-then-d-ne-VERSION : goal.returns-then-d-ne-VERSION
returns-then-d-ne-VERSION c = rw (sym (by_version c.args.d.now c.args.e c.requires c.if-d-ne-VERSION.true))

pub returns-then-two_at-e : goal.returns-then-two_at-e
returns-then-two_at-e c = rw (sym (by_service c.args.d.now c.args.e c.requires c.if-d-ne-VERSION.false _ c.two_at.ensures c.if-two_at-e.true))

pub returns-then-d-e : goal.returns-then-d-e
returns-then-d-e c = rw (sym (by_interface c.args.d.now c.args.e c.requires c.if-d-ne-VERSION.false _ c.two_at.ensures c.if-two_at-e.false c.if-d-e.true))

pub returns-then-two_at-e-2 : goal.returns-then-two_at-e-2
returns-then-two_at-e-2 c = rw (sym (by_method c.args.d.now c.args.e c.requires c.if-d-ne-VERSION.false _ c.two_at.ensures c.if-two_at-e.false c.if-d-e.false _ c.two_at-2.ensures c.if-two_at-e-2.true))

pub returns-then-d-e-2 : goal.returns-then-d-e-2
returns-then-d-e-2 c = rw (sym (by_type c.args.d.now c.args.e c.requires c.if-d-ne-VERSION.false _ c.two_at.ensures c.if-two_at-e.false c.if-d-e.false _ c.two_at-2.ensures c.if-two_at-e-2.false c.if-d-e-2.true))

pub returns : goal.returns
returns c = rw (sym (as_expected c.args.d.now c.args.e c.requires c.if-d-ne-VERSION.false _ c.two_at.ensures c.if-two_at-e.false c.if-d-e.false _ c.two_at-2.ensures c.if-two_at-e-2.false c.if-d-e-2.false))
