-- The walk over a level, turn by turn, and a member of it.
-- Assumes nothing.
use Rattle.std.specs.Prelude.{Result, Ok, Err}
use mathlib.Core.Path.{◌≡◌, refl, sym, subst, ◌∙◌}
use Prim.Native.Nat.{ℕ, zero, suc, ◌-◌, ◌≤◌, ◌<◌}
use native.Mathlib.Omega.{arith}
use mathlib.Core.Bool.{Bool, true, false}
use lib.ListN.{length, drop}
use lib.Seq.{slice_empty}
use Rattle.wire.specs.Choose.{pick}
use Rattle.wire.specs.declared.verdict.Verdict.TheVariants.{Missing}
use Rattle.payload.specs.declared.member.Refusal.{Refusal}
use Rattle.payload.specs.declared.read.Level.{Level}
use Rattle.payload.specs.declared.read.Walker.{Walker}
use Rattle.payload.specs.Reading.{Walked, refused, walked, step_of, member_by, lacks, end_of, level_by, walk}
use Rattle.payload.specs.Walking.{types_in, met_in, Ready, Onto, moved_in, walk_from, Onward, MemberRead, LevelRead}

-- what went on from one to the next
pub onto_self : (w : Walker) → length w.rows ≡ 64 → Onto w w
onto_self w h = record { bytes_are = refl; table_is = refl; beyond = refl; long = h }

pub onto_next : (w w2 w3 : Walker) → Onto w w2 → Onto w2 w3 → Onto w w3
onto_next w w2 w3 a b =
    record {
      bytes_are = b.bytes_are ∙ a.bytes_are;
      table_is = b.table_is ∙ a.table_is;
      beyond = rw a.table_is at b.beyond ∙ a.beyond;
      long = b.long;
    }

-- the walk from where the level began is the walk from here, with turns enough
pub record OnWay (w : Walker) (from : ℕ) (f : Level) (u : Walker) (at : ℕ) : Type 0 where
  pub ready : Ready u at f
  pub onto : Onto w u
  pub up : from ≤ at
  pub same : (turns : ℕ) → f.span.end - from < turns
      → (more : ℕ) × (f.span.end - at < more) × (walk_from turns w from f ≡ walk_from more u at f)

module _ (w : Walker) (from : ℕ) (f : Level) where
  module _ (u : Walker) (at : ℕ) (way : OnWay w from f u at) where
    module _ (r : Result ℕ Refusal) (v : Walker) (m : MemberRead u at f r v) where
      turn : (turns : ℕ) → f.span.end - at < suc turns
          → walk_from (suc turns) u at f
          ≡ level_by (λ next more rows n. walk turns u.table.now.width (types_in u) f.number f.first next more rows n)
          (end_of (types_in u) f.number f.first at (met_in u) u.skipped)
          (moved_in v f.span.end r)
      unfolding walk
      turn turns k = rw (← m.is turns (omega arith))

      pub way_more : (next : ℕ) → r ≡ Ok next → OnWay w from f v next
      unfolding level_by
      way_more next e =
          let o : Onward v (suc at) f.span.end (Ok next) = subst (Onward v (suc at) f.span.end) e m.onward in
          let q = way.ready.steady in
          record {
            ready = record {
              steady = record { low = q.low; bounded = rw m.onto.bytes_are q.bounded; stops = rw m.onto.table_is q.stops };
              inside = o.1;
              few = o.2;
              long = m.onto.long;
            };
            onto = onto_next w u v way.onto m.onto;
            up = omega (arith, way.up, o.0);
            same = λ turns k. go o (way.same turns k);
          }
        where
          go : Onward v (suc at) f.span.end (Ok next) → {x : Walked} → (more : ℕ) × (f.span.end - at < more) × (x ≡ walk_from more u at f)
              → (more : ℕ) × (f.span.end - next < more) × (x ≡ walk_from more v next f)
          go o (zero, k, d) = absurd (omega arith)
          go o (suc more, k, d) = (more, omega (arith, o.0, o.1), d ∙ turn more k ∙ rw (e, m.onto.bytes_are, m.onto.table_is))

      pub way_refused : (e : Refusal) → r ≡ Err e → LevelRead w from f (Err e) v
      unfolding level_by
      way_refused e d =
          record { is = λ turns k. go (way.same turns k); onto = onto_next w u v way.onto m.onto; few = tt }
        where
          go : {y : Walked} → (more : ℕ) × (f.span.end - at < more) × (y ≡ walk_from more u at f) → refused e.verdict e.place ≡ y
          go (zero, k, x) = absurd (omega arith)
          go (suc more, k, x) = sym (x ∙ turn more k ∙ rw d)

    module _ (h : f.span.end ≤ at) where
      shut : (b : Bool) → lacks f.number (drop f.first (types_in u)) (drop f.first (met_in u)) ≡ b → (turns : ℕ) → f.span.end - from < turns
          → pick b (refused Missing f.span.end) (walked (met_in u) u.skipped) ≡ walk_from turns w from f
      unfolding walk step_of member_by level_by end_of
      shut b e turns k = go (way.same turns k)
        where
          at_end_lem : at ≡ f.span.end
          at_end_lem = omega (arith, way.ready.inside)

          go : {y : Walked} → (more : ℕ) × (f.span.end - at < more) × (y ≡ walk_from more u at f)
              → pick b (refused Missing f.span.end) (walked (met_in u) u.skipped) ≡ y
          go (zero, k, d) = absurd (omega arith)
          go (suc more, k, d) = sym (d ∙ rw (at_end_lem, slice_empty f.span.end u.bytes.now, e))

      pub way_missing : lacks f.number (drop f.first (types_in u)) (drop f.first (met_in u)) ≡ true
          → LevelRead w from f (Err (record { verdict = Missing; place = f.span.end })) u
      way_missing e = record { is = λ turns k. shut true e turns k; onto = way.onto; few = tt }

      pub way_closed : lacks f.number (drop f.first (types_in u)) (drop f.first (met_in u)) ≡ false → LevelRead w from f (Ok tt) u
      way_closed e = record { is = λ turns k. shut false e turns k; onto = way.onto; few = omega (arith, way.ready.few, way.ready.inside) }
