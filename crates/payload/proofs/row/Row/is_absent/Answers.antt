-- `Row::is_absent` meets its contract, value by value.
use Rattle.std.proofs.Common.{◌≡◌, false, refl}
use Rattle.payload.specs.declared.row.Value.{Value}
use Rattle.payload.specs.declared.row.Value.TheVariants.{Absent, Unsigned, Signed, Float32, Float64, Bytes, Members}
use Rattle.payload.specs.Row.{is_absent}
use Rattle.payload.proofs.row.Row.is_absent.Goals as goal

pub returns-in-Absent : goal.returns-in-Absent
unfolding is_absent
returns-in-Absent c = rw c.in-Absent.is

present : (v : Value) (bits : _) → (v ≡ Absent → ⊥) → false ≡ is_absent (record { value = v; bits = bits })
unfolding is_absent
present Absent bits ne = absurd (ne refl)
present (Unsigned n) bits ne = refl
present (Signed z) bits ne = refl
present (Float32 x) bits ne = refl
present (Float64 x) bits ne = refl
present (Bytes place len) bits ne = refl
present Members bits ne = refl

pub returns-in_default : goal.returns-in_default
returns-in_default c = present c.args.self.value c.args.self.bits c.in_default.not-Absent
