use mathlib.Core.Path.{◌≡◌, refl, sym, ap, ◌∙◌}
use Prim.Native.Nat.{ℕ}
use native.Mathlib.Omega.{arith}
use borrow.Author.Rules.{rules}
use mathlib.Core.List.{List, map}
use lib.ListN.{length, length-map}
use Rattle.payload.proofs.Joined.{clash}
use Rattle.payload.proofs.Rules.RowLaws.{fits_rules, fine_row}
use Rattle.payload.proofs.Rules.CheckLaws.{refuse, passed_none, passed_stop, passed_next, all_fine, answer_differ, answer_rising, first_fine, first_table}
use Rattle.payload.specs.Table.{idents_differ}
use Rattle.payload.proofs.table.checked.Goals as goal

-- a list has the length of what it is mapped to
of_map : (X Y : Type 0) (f : X → Y) (l : List X) (n : ℕ) → length (map f l) ≡ n → length l ≡ n
of_map X Y f l n e = sym (length-map l f) ∙ e

pub returns-then-n-eq0 : goal.returns-then-n-eq0
returns-then-n-eq0 c = refuse _ _ c.requires (λ k. omega (arith, k.some, c.if-n-eq0.true))

pub returns-then-n-gt64 : goal.returns-then-n-gt64
returns-then-n-gt64 c = refuse _ _ c.requires (λ k. omega (arith, k.few, c.if-n-gt64.true))

pub returns-then-not-width_fits : goal.returns-then-not-width_fits
returns-then-not-width_fits c = refuse _ _ c.requires (λ k. clash (sym c.if-not-width_fits.true ∙ c.width_fits.ensures ∙ k.width))

pub loop-i-init : goal.loop-i-init
loop-i-init c = passed_none _ _ _ c.requires refl

pub returns-then-not-row_fits : goal.returns-then-not-row_fits
returns-then-not-row_fits c = passed_stop _ (search (rules, of_map)) _ _ _ _ _ _ c.loop-i.invariant c.if-n-gt64.false c.loop-i-test.true (sym c.row_fits.ensures ∙ c.if-not-row_fits.true)

pub packed-requires : goal.packed-requires
packed-requires c = fine_row _ (fits_rules _ _ (sym c.row_fits.ensures ∙ c.if-not-row_fits.false)).0

pub bounds-lasts-l : goal.bounds-lasts-l
bounds-lasts-l c = omega (arith, (fits_rules _ _ (sym c.row_fits.ensures ∙ c.if-not-row_fits.false)).0.level_most_lem, c.from-l.ensures, c.loop-i.invariant.marks)

pub bounds-lasts-l-in-loop-i : goal.bounds-lasts-l-in-loop-i
bounds-lasts-l-in-loop-i c = omega (arith, (fits_rules _ _ (sym c.row_fits.ensures ∙ c.if-not-row_fits.false)).0.level_most_lem, c.from-l.ensures, c.loop-i.invariant.marks)

pub bounds-lasts-l-in-loop-i-2 : goal.bounds-lasts-l-in-loop-i-2
bounds-lasts-l-in-loop-i-2 c = omega (arith, (fits_rules _ _ (sym c.row_fits.ensures ∙ c.if-not-row_fits.false)).0.level_most_lem, c.from-l.ensures, c.loop-i.invariant.marks)

pub level_most-most-requires : goal.level_most-most-requires
level_most-most-requires c = (fits_rules _ _ (sym c.row_fits.ensures ∙ c.if-not-row_fits.false)).0.level_most_lem

pub loop-i-preserved : goal.loop-i-preserved
loop-i-preserved c =
    passed_next _ (search (rules, of_map)) _ _ _ _ _ _ c.loop-i.invariant c.if-n-gt64.false c.loop-i-test.true (sym c.row_fits.ensures ∙ c.if-not-row_fits.false) _ c.level_most-most.ensures _ c.packed.ensures
    _ _ c.from-l.ensures c.from-id.ensures _ c.rises-rising.ensures

pub returns-then-rising : goal.returns-then-rising
returns-then-rising c =
    answer_rising _ (search (rules, of_map)) _ _ _ _ _ _ c.loop-i.invariant c.if-n-gt64.false c.loop-i-test.false (omega (arith, c.if-n-eq0.false)) (sym c.width_fits.ensures ∙ c.if-not-width_fits.false) refl c.if-rising.true

pub idents_differ-requires : goal.idents_differ-requires
idents_differ-requires c = first_fine _ _ c.loop-i.invariant.long (all_fine _ (search (rules, of_map)) _ _ _ _ _ _ c.loop-i.invariant c.if-n-gt64.false c.loop-i-test.false)

pub returns : goal.returns
returns c =
    answer_differ _ (search (rules, of_map)) _ _ _ _ _ _ c.loop-i.invariant c.if-n-gt64.false c.loop-i-test.false (omega (arith, c.if-n-eq0.false)) (sym c.width_fits.ensures ∙ c.if-not-width_fits.false) _
    (c.idents_differ.ensures ∙ ap idents_differ (first_table _ _ c.loop-i.invariant.long c.if-n-gt64.false))
