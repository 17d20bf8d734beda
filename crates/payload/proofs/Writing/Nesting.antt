-- Rows that pass the judging are nested as the tree wants it: nothing stands below what is absent, and nothing two levels below a struct
-- comes first.
-- Assumes nothing.
use mathlib.Core.Path.{◌≡◌, refl, sym}
use Prim.Native.Nat.{ℕ, suc, ◌≤◌, ◌<◌}
use native.Mathlib.Omega.{arith}
use mathlib.Core.Bool.{Bool, true, false, not}
use mathlib.Core.List.{List, [], ◌∷◌}
use lib.ListN.{length}
use lib.Dec.{ltb}
use borrow.Author.Tests.{ltb-true, ltb-false, lt-ltb, lt-leb}
use Rattle.wire.specs.Choose.{pick, and}
use Rattle.payload.specs.declared.table.TypeRow.{TypeRow}
use Rattle.payload.specs.declared.row.Row.{Row}
use Rattle.payload.specs.declared.row.Value.{Value}
use Rattle.payload.specs.declared.row.Value.TheVariants.{Absent, Unsigned, Signed, Float32, Float64, Bytes, Members}
use Rattle.payload.specs.Judging.{Fine, Outside, Unfit}
use Rattle.payload.specs.Row.{is_absent}
use Rattle.payload.specs.Judging.{outside, row_fine, is_members, up_after, judged_from}
use Rattle.payload.specs.Writing.{Put, nothing, leaf, branch, Part, part_of, put_of, parts_of}
use Rattle.payload.proofs.Joined.{clash}
use Rattle.payload.proofs.Writing.Flat.{Silent, none_left, above, empty, Quiet, Shaped, no_part, a_part}

-- ---- a row that passes, and the rows after it

pub record Passed (buf : List ℕ) (upto : ℕ) (r : TypeRow) (rs : List TypeRow) (v : Row) (vs : List Row) : Type 0 where
  pub inside : outside (length buf) v.value ≡ false
  pub fine : row_fine buf upto r v ≡ true
  pub later : judged_from buf (up_after upto r v) rs vs ≡ Fine

pub passed : (buf : List ℕ) (upto : ℕ) (r : TypeRow) (rs : List TypeRow) (v : Row) (vs : List Row) → judged_from buf upto (r ∷ rs) (v ∷ vs) ≡ Fine
    → Passed buf upto r rs v vs
unfolding judged_from
passed buf upto r rs v vs e = go (outside (length buf) v.value) (row_fine buf upto r v) refl refl e
  where
    go : (a b : Bool) → outside (length buf) v.value ≡ a → row_fine buf upto r v ≡ b
        → pick a Outside (pick b (judged_from buf (up_after upto r v) rs vs) Unfit) ≡ Fine → Passed buf upto r rs v vs
    go true b ea eb e = clash (cc)
    go false true ea eb e = record { inside = ea; fine = eb; later = e }
    go false false ea eb e = clash (cc)

pub absent_value_lem : (v : Row) → is_absent v ≡ true → v.value ≡ Absent
unfolding is_absent
absent_value_lem v e = go v.value refl
  where
    go : (u : Value) → v.value ≡ u → u ≡ Absent
    go Absent eu = refl
    go (Unsigned n) eu = clash (rw eu at e)
    go (Signed z) eu = clash (rw eu at e)
    go (Float32 x) eu = clash (rw eu at e)
    go (Float64 x) eu = clash (rw eu at e)
    go (Bytes q n) eu = clash (rw eu at e)
    go Members eu = clash (rw eu at e)

module _ (buf : List ℕ) (ws : ℕ) where
  -- a row that passes below the present levels is absent
  deep_absent : (upto : ℕ) (r : TypeRow) (v : Row) → upto < r.level → row_fine buf upto r v ≡ true → (part_of ws buf r v).put ≡ nothing
  unfolding row_fine put_of
  deep_absent upto r v h e = go (is_absent v) refl (rw (lt-leb r.level upto h) at e)
    where
      go : (a : Bool) → is_absent v ≡ a → pick a (not (and r.required false)) false ≡ true → (part_of ws buf r v).put ≡ nothing
      go true ea e = rw (absent_value_lem v ea)
      go false ea e = clash e

  -- below the present levels nothing is put
  below_open : (upto l : ℕ) (rs : List TypeRow) (vs : List Row) → upto ≤ l → judged_from buf upto rs vs ≡ Fine → Silent (suc l) (parts_of ws buf rs vs)
  unfolding parts_of up_after
  below_open upto l [] vs h e = none_left
  below_open upto l (r ∷ rs) [] h e = none_left
  below_open upto l (r ∷ rs) (v ∷ vs) h e = go (ltb r.level (suc l)) refl (λ k. below_open upto l rs vs h k) (passed buf upto r rs v vs e)
    where
      go : (a : Bool) → ltb r.level (suc l) ≡ a → (judged_from buf upto rs vs ≡ Fine → Silent (suc l) (parts_of ws buf rs vs))
          → Passed buf upto r rs v vs → Silent (suc l) (part_of ws buf r v ∷ parts_of ws buf rs vs)
      go true ea ih p = above {p = part_of ws buf r v} (ltb-true r.level (suc l) ea)
      go false ea ih p =
          let d : upto < r.level = omega (arith, ltb-false r.level (suc l) ea) in
          empty (deep_absent upto r v d p.fine) (ih (rw (lt-ltb upto r.level d) at p.later))

  quiet_leaf : (t : Put) (l : ℕ) (ps : List Part) → (t ≡ branch → ⊥) → Silent (suc l) ps → Quiet l t ps
  unfolding Quiet
  quiet_leaf nothing l ps n s = s
  quiet_leaf (leaf c) l ps n s = s
  quiet_leaf branch l ps n s = absurd (n refl)

  -- only a struct's row puts a struct
  put_plain : (r : TypeRow) (v : Row) → is_members v.value ≡ false → (part_of ws buf r v).put ≡ branch → ⊥
  unfolding put_of
  put_plain r v e q = go v.value refl
    where
      go : (u : Value) → v.value ≡ u → ⊥
      go Absent eu = clash (let z = rw eu at q in cc)
      go (Unsigned n) eu = clash (let z = rw eu at q in cc)
      go (Signed n) eu = clash (let z = rw eu at q in cc)
      go (Float32 x) eu = clash (let z = rw eu at q in cc)
      go (Float64 x) eu = clash (let z = rw eu at q in cc)
      go (Bytes k n) eu = clash (let z = rw eu at q in cc)
      go Members eu = clash (sym (rw eu at e))

  put_struct : (r : TypeRow) (v : Row) → is_members v.value ≡ true → (part_of ws buf r v).put ≡ branch
  unfolding put_of
  put_struct r v e = go v.value refl
    where
      go : (u : Value) → v.value ≡ u → put_of buf r u v.bits ≡ branch
      go Absent eu = clash (rw eu at e)
      go (Unsigned n) eu = clash (rw eu at e)
      go (Signed n) eu = clash (rw eu at e)
      go (Float32 x) eu = clash (rw eu at e)
      go (Float64 x) eu = clash (rw eu at e)
      go (Bytes k n) eu = clash (rw eu at e)
      go Members eu = refl

  -- the parts of rows that pass
  pub judged_shaped : (upto : ℕ) (rs : List TypeRow) (vs : List Row) → judged_from buf upto rs vs ≡ Fine → Shaped (parts_of ws buf rs vs)
  unfolding parts_of up_after Quiet
  judged_shaped upto [] vs e = no_part
  judged_shaped upto (r ∷ rs) [] e = no_part
  judged_shaped upto (r ∷ rs) (v ∷ vs) e =
      let p = passed buf upto r rs v vs e in
      a_part (go (ltb upto r.level) (is_members v.value) refl refl p) (judged_shaped (up_after upto r v) rs vs p.later)
    where
      go : (a b : Bool) → ltb upto r.level ≡ a → is_members v.value ≡ b → Passed buf upto r rs v vs
          → Quiet r.level (part_of ws buf r v).put (parts_of ws buf rs vs)
      go true b ea eb p =
          let d = ltb-true upto r.level ea in
          rw (deep_absent upto r v d p.fine) (below_open upto r.level rs vs (omega arith) (rw ea at p.later))
      go false true ea eb p = rw (put_struct r v eb) (below_open (suc r.level) (suc r.level) rs vs (omega arith) (rw (ea, eb) at p.later))
      go false false ea eb p =
          quiet_leaf (part_of ws buf r v).put r.level (parts_of ws buf rs vs) (put_plain r v eb)
          (below_open r.level r.level rs vs (omega arith) (rw (ea, eb) at p.later))
