-- Stores in the output: a string's, and a row's before those of the rows after it.
-- Assumes nothing.
use mathlib.Core.Path.{◌≡◌, refl, sym, ap, ◌∙◌}
use mathlib.Core.Bool.{true}
use mathlib.Core.Logic.{◌⊎◌, inl, inr}
use mathlib.Core.List.{List, [], ◌∷◌, ◌++◌, append_assoc}
use Prim.Native.Nat.{ℕ, suc, ◌+◌, ◌<◌, ◌≤◌}
use native.Mathlib.Omega.{arith}
use lib.ListN.{length, set, length-append}
use lib.Seq.{sets}
use lib.Ieee.{Float}
use borrow.Author.Tests.{le-ltb, ltb-false, eqb-true}
use Rattle.wire.specs.Number.{big, number_bytes}
use Rattle.wire.specs.Kind.{size_of, struct}
use Rattle.wire.specs.Text.{string_bytes}
use Rattle.wire.specs.Part.{run_of}
use Rattle.wire.proofs.StoreLaws.{sets_append}
use Rattle.payload.specs.declared.fine.FineRows.{FineRows}
use Rattle.payload.specs.declared.row.Value.{Value}
use Rattle.payload.specs.declared.row.Value.TheVariants.{Float32, Float64, Bytes, Members}
use Rattle.payload.specs.Cells.{level_in, kind_in, row_in}
use Rattle.payload.specs.Judging.{float_fits}
use Rattle.payload.specs.Writing.{leaf, put_of}
use Rattle.payload.specs.Parts.{under}
use Rattle.payload.specs.Sizes.{content_len, own_len}
use Rattle.payload.specs.Fine.{cell_at, value_at, bytes_at, piece_at, held_at, number_member, field_start, run_content}
use Rattle.payload.proofs.Writing.FineLaws.{Fitting, parts_end, parts_more, row_at, fits_at}
use Rattle.payload.proofs.Writing.SizeLaws.{length_run, float_kind, run_kind, length_content, tag_number, tag_field, number_piece, run_piece, branch_piece}
use Rattle.payload.proofs.Writing.MeasureLaws.{piece_length}

-- mark, text, terminator
pub text_store : (l buf : List ℕ) (at place len : ℕ) → place + len ≤ length buf
    → set (sets (set (set (set l at 0xEF) (at + 1) 0xBB) (at + 2) 0xBF) (at + 3) (run_of buf place len)) (at + 3 + len) 0
    ≡ sets l at (string_bytes (run_of buf place len))
unfolding string_bytes
text_store l buf at place len h =
    let a : at + 1 ≡ suc at = omega arith in
    let b : at + 2 ≡ suc (suc at) = omega arith in
    let d : at + 3 ≡ suc (suc (suc at)) = omega arith in
    rw (
      a,
      b,
      d,
      sets_append (run_of buf place len) (0 ∷ []) (set (set (set l at 0xEF) (suc at) 0xBB) (suc (suc at)) 0xBF) (suc (suc (suc at))),
      length_run buf place len h,
    )

-- ---- rows

module _ (f : FineRows) where
  pub bytes_end : (i : ℕ) → f.table.now.count ≤ i → bytes_at f i ≡ []
  unfolding under
  bytes_end i h = rw (parts_end f i h)

  module _ (i : ℕ) (h : i < f.table.now.count) where
    bytes_more : bytes_at f i ≡ piece_at f i (held_at f i) ++ bytes_at f (suc i)
    unfolding under
    bytes_more = rw (parts_more f i h, le-ltb (level_in (cell_at f i)) 1 (row_at f i h).level_some)

    pub row_length : length (bytes_at f i)
        ≡ own_len f.table.now.width (kind_in (cell_at f i)) (value_at f i).value + length (bytes_at f (suc i))
    row_length =
        ap length bytes_more ∙ length-append (piece_at f i (held_at f i)) (bytes_at f (suc i))
        ∙ ap (◌+ length (bytes_at f (suc i))) (piece_length f i h (held_at f i))

    -- a row's stores, and then those of the rows after it
    pub row_store : (n : ℕ) → n ≡ held_at f i → (out : List ℕ) (at : ℕ)
        → sets (sets out at (piece_at f i n)) (at + own_len f.table.now.width (kind_in (cell_at f i)) (value_at f i).value) (bytes_at f (suc i))
        ≡ sets out at (bytes_at f i)
    row_store n e out at =
        rw (← piece_length f i h n, e)
        (sym (sets_append (piece_at f i (held_at f i)) (bytes_at f (suc i)) out at) ∙ ap (sets out at) (sym bytes_more))

-- ---- a row's member, by its value

module _ (f : FineRows) (i : ℕ) (h : i < f.table.now.count) (u : Value) (e : (value_at f i).value ≡ u) where
  pub fits_now : Fitting f.content.now (row_in (cell_at f i)) u (value_at f i).bits
  fits_now = rw e at (fits_at f i h)

  pub number_stored : kind_in (cell_at f i) < 12 → (num : ℕ)
      → put_of f.content.now (row_in (cell_at f i)) u (value_at f i).bits ≡ leaf (number_bytes big (size_of (kind_in (cell_at f i))) num) → (n : ℕ)
      → number_member (cell_at f i) num ≡ piece_at f i n
  number_stored k num p n =
      let r = row_at f i h in
      let t = tag_number f.table.now.width f.wire f.wires (row_in (cell_at f i)) r k in
      let q = number_piece f.table.now.width f.wire f.wires (row_in (cell_at f i)) r (number_bytes big (size_of (kind_in (cell_at f i))) num) n k in
      rw (e, p, q, t)

-- ---- a float's member, whichever its width

-- a row that shows a float
abbrev pub ShowsFloat : FineRows → ℕ → Type 0
ShowsFloat f i = ((x : Float) × (value_at f i).value ≡ Float32 x) ⊎ ((x : Float) × (value_at f i).value ≡ Float64 x)

-- what the store of its member asks and leaves
pub record FloatStored (f : FineRows) (i : ℕ) : Type 0 where
  pub kind : kind_in (cell_at f i) < 12
  pub long : own_len f.table.now.width (kind_in (cell_at f i)) (value_at f i).value ≡ 2 + size_of (kind_in (cell_at f i))
  pub stored : (n : ℕ) → number_member (cell_at f i) (value_at f i).bits ≡ piece_at f i n

module _ (f : FineRows) (i : ℕ) (h : i < f.table.now.count) where
  float_by : (own : ℕ) (u : Value) → own < 12 → (value_at f i).value ≡ u
      → float_fits own (kind_in (cell_at f i)) (value_at f i).bits ≡ true
      → own_len f.table.now.width (kind_in (cell_at f i)) u ≡ 2 + size_of (kind_in (cell_at f i))
      → put_of f.content.now (row_in (cell_at f i)) u (value_at f i).bits ≡ leaf (number_bytes big (size_of (kind_in (cell_at f i))) (value_at f i).bits)
      → FloatStored f i
  float_by own u b e fits l p =
      let k = float_kind f.content.now (row_in (cell_at f i)) own (value_at f i).bits b fits in
      record { kind = k; long = rw e l; stored = number_stored f i h u e k (value_at f i).bits p }

  pub float_stored : ShowsFloat f i → FloatStored f i
  unfolding put_of
  float_stored (inl p) = float_by 10 (Float32 p.0) (omega arith) p.1 (fits_now f i h (Float32 p.0) p.1).fits refl refl
  float_stored (inr p) = float_by 11 (Float64 p.0) (omega arith) p.1 (fits_now f i h (Float64 p.0) p.1).fits refl refl

pub bytes_stored : (f : FineRows) (i : ℕ) (h : i < f.table.now.count) (place len : ℕ) → (value_at f i).value ≡ Bytes place len → (n : ℕ)
    → field_start f (cell_at f i) (content_len (kind_in (cell_at f i)) (Bytes place len) 0) ++ run_content f (cell_at f i) place len ≡ piece_at f i n
unfolding put_of
bytes_stored f i h place len e n =
    let r = row_at f i h in
    let k = fits_now f i h (Bytes place len) e in
    let b = run_kind f.content.now (row_in (cell_at f i)) place len k.fits in
    let t = tag_field f.table.now.width f.wire f.wires (row_in (cell_at f i)) r b in
    let c = run_content f (cell_at f i) place len in
    let l = length_content f.content.now (row_in (cell_at f i)) place len (ltb-false (length f.content.now) (place + len) k.inside) in
    let q = run_piece f.table.now.width f.wire f.wires (row_in (cell_at f i)) r c n b in
    rw (e, q, t, l, append_assoc)

pub members_stored : (f : FineRows) (i : ℕ) (h : i < f.table.now.count) → (value_at f i).value ≡ Members → (n : ℕ)
    → field_start f (cell_at f i) n ≡ piece_at f i n
unfolding put_of
members_stored f i h e n =
    let r = row_at f i h in
    let k = fits_now f i h Members e in
    let b = eqb-true (kind_in (cell_at f i)) struct k.fits in
    let t = tag_field f.table.now.width f.wire f.wires (row_in (cell_at f i)) r (omega arith) in
    let q = branch_piece f.table.now.width f.wire f.wires (row_in (cell_at f i)) r n (omega arith) in
    rw (e, q, t)
