-- `payload::size::count_in` meets its contract. The loop's invariant: the sums up to this one are counted in, and the others are as they were.
use Rattle.std.proofs.Common.{◌≡◌, ℕ, suc, ◌+◌, ◌≤◌, ◌<◌, length, get_or, ltb}
use Rattle.wire.specs.Choose.{pick}
use Rattle.payload.proofs.size.count_in.Given as goal

abbrev pub invariant-loop-above : goal.invariant-loop-above
invariant-loop-above l =
    (length l.sums ≡ 5)
    × ((d : ℕ) → d < l.above → get_or l.sums d 0 ≡ pick (ltb l.level (suc d)) 0 (l.own + get_or l.initial.sums d 0))
    × ((d : ℕ) → l.above ≤ d → get_or l.sums d 0 ≡ get_or l.initial.sums d 0)
