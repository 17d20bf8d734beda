-- What a `?` behind `ok_or` hands back.
-- Assumes nothing.
use mathlib.Core.Path.{◌≡◌}
use Rattle.std.specs.Prelude.{Option, Some, None, Result, Err, ok_or}
use Rattle.archive.specs.declared.verdict.Verdict.{Verdict}

-- the reason that was given, where there was nothing
pub given : {X : Type 0} (o : Option X) (v why : Verdict) → ◌≡◌ {A = Result X Verdict} (Err v) (ok_or o why) → o ≡ None → v ≡ why
given None v why e n = cc
given (Some x) v why e n = cc
