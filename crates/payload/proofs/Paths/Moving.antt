-- The same value at another place of another payload: what a row shows of a content depends on the content and the row's kind, and a run is
-- compared by its bytes.
-- Assumes nothing.
use mathlib.Core.Path.{◌≡◌, refl, sym, ◌∙◌}
use Prim.Native.Nat.{ℕ, ◌+◌, ◌-◌, ◌≤◌}
use native.Mathlib.Omega.{arith}
use native.Mathlib.Nat.{add-zero}
use mathlib.Core.Bool.{Bool, true, false}
use mathlib.Core.List.{List}
use lib.ListN.{length}
use lib.Dec.{leb, ltb, eqb}
use borrow.Author.Tests.{ltb-false, eqb-true, eqb-false, leb-true}
use Rattle.wire.specs.Choose.{pick}
use Rattle.wire.specs.Number.{big, number_of}
use Rattle.wire.specs.Kind.{string, array, struct}
use Rattle.wire.specs.Text.{string_fits}
use Rattle.wire.specs.Part.{run_of}
use Rattle.payload.specs.declared.table.TypeRow.{TypeRow}
use Rattle.payload.specs.declared.row.Row.{Row}
use Rattle.payload.specs.declared.row.Value.{Value}
use Rattle.payload.specs.declared.row.Value.TheVariants.{Unsigned, Bytes, Members}
use Rattle.payload.specs.Row.{plain, members_row, number_row, shown_of}
use Rattle.payload.specs.Reading.{content_fits}
use Rattle.payload.specs.Paths.{Lies}
use Rattle.payload.specs.Demand2.{
  SameAs,
  same_absent,
  same_unsigned,
  same_signed,
  same_float32,
  same_float64,
  same_run,
  same_members,
}
use Rattle.payload.proofs.Trees.Level.{and_left}
use Rattle.payload.proofs.Trees.Walk.{pick_all}
use Rattle.payload.proofs.Round.Lying.{lies_part, part_inside}

-- ---- rows that show no run

-- a row that is neither a run nor a struct's
abbrev Plainly : Row → Type 0
Plainly r = ((a n : ℕ) → r.value ≡ Bytes a n → ⊥) × (r.value ≡ Members → ⊥)

number_plainly : (k v : ℕ) → Plainly (number_row k v)
unfolding number_row
number_plainly k v =
    pick_all Plainly (eqb k 1) (unsigned _)
    (pick_all Plainly (ltb k 6) (unsigned _)
    (pick_all Plainly (ltb k 10) ((λ a n e. let z : ◌≡◌ {A = ℕ} 0 1 = cc in omega arith), (λ e. let z : ◌≡◌ {A = ℕ} 0 1 = cc in omega arith))
    (pick_all Plainly (eqb k 10) ((λ a n e. let z : ◌≡◌ {A = ℕ} 0 1 = cc in omega arith), (λ e. let z : ◌≡◌ {A = ℕ} 0 1 = cc in omega arith))
    ((λ a n e. let z : ◌≡◌ {A = ℕ} 0 1 = cc in omega arith), (λ e. let z : ◌≡◌ {A = ℕ} 0 1 = cc in omega arith)))))
  where
    unsigned : (n : ℕ) → Plainly (plain (Unsigned n))
    unsigned n = ((λ a m e. let z : ◌≡◌ {A = ℕ} 0 1 = cc in omega arith), (λ e. let z : ◌≡◌ {A = ℕ} 0 1 = cc in omega arith))

-- what a leaf's row shows isn't a struct
pub shown_leaf : (r : TypeRow) (place : ℕ) (c : List ℕ) → r.kind ≤ 14 → eqb r.kind struct ≡ false → (shown_of r place c).value ≡ Members → ⊥
unfolding shown_of
shown_leaf r place c h ns = go (ltb r.kind string) (eqb r.kind string) (eqb r.kind array) refl refl refl
  where
    go : (a b d : Bool) → ltb r.kind string ≡ a → eqb r.kind string ≡ b → eqb r.kind array ≡ d
        → (pick a (number_row r.kind (number_of big c))
        (pick b (plain (Bytes (place + 3) (length c - 4))) (pick d (plain (Bytes place (length c))) members_row))).value ≡ Members → ⊥
    go true b d ea eb ed e = (number_plainly r.kind (number_of big c)).1 e
    go false true d ea eb ed e = let z : ◌≡◌ {A = ℕ} 0 1 = cc in omega arith
    go false false true ea eb ed e = let z : ◌≡◌ {A = ℕ} 0 1 = cc in omega arith
    go false false false ea eb ed e =
        omega (
          arith,
          ltb-false r.kind string ea,
          eqb-false r.kind string eb,
          eqb-false r.kind array ed,
          eqb-false r.kind struct ns,
        )

-- ---- the same value

module _ (buf p p2 : List ℕ) (bits : ℕ) where
  same_plainly : {v : Value} {r : Row} → Plainly r → SameAs buf p bits v r → SameAs buf p2 bits v r
  same_plainly h same_absent = same_absent
  same_plainly h same_unsigned = same_unsigned
  same_plainly h same_signed = same_signed
  same_plainly h same_float32 = same_float32
  same_plainly h same_float64 = same_float64
  same_plainly h (same_run {place} {place2} {len} e i) = absurd (h.0 place2 len refl)
  same_plainly h same_members = same_members

  -- a part of a content, from its byte i on
  module _ (place place2 : ℕ) (c : List ℕ) (lies : Lies p place c) (lies2 : Lies p2 place2 c) (i n : ℕ) (fits : i + n ≤ length c) where
    same_part : {v : Value} {r : Row} → r.value ≡ Bytes (place + i) n → SameAs buf p bits v r → SameAs buf p2 bits v (plain (Bytes (place2 + i) n))
    same_part e same_absent = let z : ◌≡◌ {A = ℕ} 0 1 = cc in absurd (omega arith)
    same_part e same_unsigned = let z : ◌≡◌ {A = ℕ} 0 1 = cc in absurd (omega arith)
    same_part e same_signed = let z : ◌≡◌ {A = ℕ} 0 1 = cc in absurd (omega arith)
    same_part e same_float32 = let z : ◌≡◌ {A = ℕ} 0 1 = cc in absurd (omega arith)
    same_part e same_float64 = let z : ◌≡◌ {A = ℕ} 0 1 = cc in absurd (omega arith)
    same_part e (same_run {place = from} {place2 = at} {len = len} same inside) =
        let ea : at ≡ place + i = cc in
        let en : len ≡ n = cc in
        let q : run_of buf from n ≡ run_of p (place + i) n = rw (ea, en) at same in
        rw en
        (same_run (q ∙ lies_part p place c lies i n fits ∙ sym (lies_part p2 place2 c lies2 i n fits)) (part_inside p2 place2 c lies2 i n fits))
    same_part e same_members = let z : ◌≡◌ {A = ℕ} 0 1 = cc in absurd (omega arith)

  pub shown_moved : (r r2 : TypeRow) (place place2 : ℕ) (c : List ℕ) {v : Value} → r.kind ≡ r2.kind → r.kind ≤ 14
      → eqb r.kind struct ≡ false → content_fits r c ≡ true → Lies p place c → Lies p2 place2 c
      → SameAs buf p bits v (shown_of r place c) → SameAs buf p2 bits v (shown_of r2 place2 c)
  unfolding shown_of content_fits string_fits
  shown_moved r r2 place place2 c {v} ek h ns fits lies lies2 s =
      rw (← ek) (go (ltb r.kind string) (eqb r.kind string) (eqb r.kind array) refl refl refl s)
    where
      long : r.kind ≡ string → content_fits r c ≡ true → 4 ≤ length c
      long e f = leb-true 4 (length c) (and_left (leb 4 (length c)) _ (rw e at f))

      go : (a b d : Bool) → ltb r.kind string ≡ a → eqb r.kind string ≡ b → eqb r.kind array ≡ d
          → SameAs buf p bits v
          (pick a (number_row r.kind (number_of big c))
          (pick b (plain (Bytes (place + 3) (length c - 4))) (pick d (plain (Bytes place (length c))) members_row)))
          → SameAs buf p2 bits v
          (pick a (number_row r.kind (number_of big c))
          (pick b (plain (Bytes (place2 + 3) (length c - 4))) (pick d (plain (Bytes place2 (length c))) members_row)))
      go true b d ea eb ed s = same_plainly (number_plainly r.kind (number_of big c)) s
      go false true d ea eb ed s =
          same_part place place2 c lies lies2 3 (length c - 4) (omega (arith, long (eqb-true r.kind string eb) fits)) refl s
      go false false true ea eb ed s =
          rw (add-zero place2) at (same_part place place2 c lies lies2 0 (length c) (omega arith) (rw (add-zero place)) s)
      go false false false ea eb ed s =
          absurd (omega (
            arith,
            ltb-false r.kind string ea,
            eqb-false r.kind string eb,
            eqb-false r.kind array ed,
            eqb-false r.kind struct ns,
          ))
