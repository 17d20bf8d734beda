-- The bytes of a row's own member, by its value: what they are, how many they are, and whether its content is too wide.
-- Assumes nothing.
use mathlib.Core.Path.{◌≡◌, refl, sym, ap, ◌∙◌}
use mathlib.Core.Bool.{Bool, true, false}
use mathlib.Core.List.{List, [], ◌∷◌, ◌++◌}
use Prim.Native.Nat.{ℕ, ◌+◌, ◌%◌, ◌^◌, ◌≤◌, ◌<◌}
use native.Mathlib.Omega.{arith}
use lib.ListN.{length, drop, length-append, length-drop}
use lib.Seq.{length-take-le}
use lib.Dec.{leb, ltb, eqb}
use lib.IntN.{ℤ, pos, negsuc}
use borrow.Author.Tests.{ltb-true, lt-ltb, le-ltb, ltb-false, eqb-true, le-leb, lt-leb}
use Rattle.wire.specs.Choose.{pick, and}
use Rattle.wire.specs.Number.{big, number_bytes, half, twos_of, Within, up, down}
use Rattle.wire.specs.Tag.{wire_of, tag_of}
use Rattle.wire.specs.Kind.{kind_at, size_of, string, array, struct}
use Rattle.wire.specs.Text.{text_fits, string_bytes}
use Rattle.wire.specs.Part.{run_of}
use Rattle.payload.specs.declared.table.TypeRow.{TypeRow}
use Rattle.payload.specs.declared.row.Value.{Value}
use Rattle.payload.specs.declared.row.Value.TheVariants.{Absent, Unsigned, Signed, Float32, Float64, Bytes, Members}
use Rattle.payload.specs.Cells.{FineRow}
use Rattle.payload.specs.Table.{in_range}
use Rattle.payload.specs.Judging.{outside, unsigned_fits, signed_in, signed_fits, float_fits, run_fits}
use Rattle.payload.specs.Tree.{field_bytes, member_bytes}
use Rattle.payload.specs.Writing.{leaf, branch, put_of, tag_for, too_wide}
use Rattle.payload.specs.Parts.{piece, wide_here}
use Rattle.payload.specs.Sizes.{field_top, content_len, ShortRun, own_len, Wires}
use Rattle.wire.proofs.NumberLaws.{length_number_bytes, low_twos}
use Rattle.wire.proofs.TagLaws.{tag_wire}
use Rattle.wire.proofs.KindLaws.{size_small, number_some, number_wire}
use Rattle.payload.proofs.Joined.{and_left, and_right}
use Rattle.payload.proofs.Rules.RowLaws.{range_in}
use Rattle.payload.proofs.Writing.FineLaws.{Fitting}

pub length_run : (buf : List ℕ) (place len : ℕ) → place + len ≤ length buf → length (run_of buf place len) ≡ len
length_run buf place len h = length-take-le len (drop place buf) (omega (arith, length-drop place buf))

length_string : (text : List ℕ) → length (string_bytes text) ≡ length text + 4
unfolding string_bytes
length_string text = omega (arith, length-append text (0 ∷ []))

-- a signed number that is in range, as the laws of numbers have it
signed_within : (w : ℕ) (z : ℤ) → signed_in w z ≡ true → Within w z
signed_within w (pos n) e = up (ltb-true n (half w) e)
signed_within w (negsuc n) e = down (ltb-true n (half w) e)

-- ---- which kinds fit a value

module _ (buf : List ℕ) (r : TypeRow) where
  pub unsigned_kind : (n : ℕ) → unsigned_fits r.kind n ≡ true → r.kind < 12
  unfolding unsigned_fits
  unsigned_kind n = go (eqb r.kind 1) refl
    where
      go : (b : Bool) → eqb r.kind 1 ≡ b → pick b (ltb n 2) (and (in_range 2 5 r.kind) (ltb n (256 ^ size_of r.kind))) ≡ true → r.kind < 12
      go true eb e = let h = eqb-true r.kind 1 eb in omega arith
      go false eb e = let h = range_in 2 5 r.kind (and_left _ _ e) in omega arith

  signed_range : (z : ℤ) → signed_fits r.kind z ≡ true → (6 ≤ r.kind) × (r.kind ≤ 9)
  unfolding signed_fits
  signed_range z e = range_in 6 9 r.kind (and_left (in_range 6 9 r.kind) (signed_in (size_of r.kind) z) e)

  pub signed_kind : (z : ℤ) → signed_fits r.kind z ≡ true → r.kind < 12
  signed_kind z e = let h = signed_range z e in omega arith

  -- the low bytes of its two's complement are those of the kind's width
  pub signed_bytes : (z : ℤ) → signed_fits r.kind z ≡ true
      → number_bytes big (size_of r.kind) (twos_of 8 z) ≡ number_bytes big (size_of r.kind) (twos_of (size_of r.kind) z)
  unfolding signed_fits
  signed_bytes z e =
      let h = signed_range z e in
      low_twos (size_of r.kind) (number_some r.kind (omega arith) (omega arith)) (size_small r.kind (omega arith))
      (signed_within (size_of r.kind) z (and_right (in_range 6 9 r.kind) (signed_in (size_of r.kind) z) e))

  pub float_kind : (own bits : ℕ) → own < 12 → float_fits own r.kind bits ≡ true → r.kind < 12
  unfolding float_fits
  float_kind own bits b e = let h = eqb-true r.kind own (and_left _ _ e) in omega arith

  pub run_kind : (place len : ℕ) → run_fits buf r place len ≡ true → 12 ≤ r.kind
  unfolding run_fits
  run_kind place len = go (eqb r.kind string) refl
    where
      go : (b : Bool) → eqb r.kind string ≡ b → pick b (text_fits (run_of buf place len)) (and (eqb r.kind array) (eqb (len % size_of r.elem) 0)) ≡ true
          → 12 ≤ r.kind
      go true eb e = let h = eqb-true r.kind string eb in omega arith
      go false eb e = let h = eqb-true r.kind array (and_left _ _ e) in omega arith

  -- a run's content is as long as it says
  pub length_content : (place len : ℕ) → place + len ≤ length buf
      → length (pick (eqb r.kind string) (string_bytes (run_of buf place len)) (run_of buf place len)) ≡ content_len r.kind (Bytes place len) 0
  length_content place len h = go (eqb r.kind string)
    where
      go : (b : Bool) → length (pick b (string_bytes (run_of buf place len)) (run_of buf place len)) ≡ pick b (len + 4) len
      go true = length_string (run_of buf place len) ∙ ap (◌+ 4) (length_run buf place len h)
      go false = length_run buf place len h

-- ---- a row's tag, and the bytes that come with it

module _ (w ws : ℕ) (wires : Wires w ws) (r : TypeRow) (fine : FineRow r) where
  pub tag_number : r.kind < 12 → tag_for ws r ≡ tag_of 0 (kind_at r.kind).wire r.ident
  unfolding tag_for
  tag_number h = rw (lt-ltb r.kind 12 h)

  pub tag_field : 12 ≤ r.kind → tag_for ws r ≡ tag_of 0 ws r.ident
  unfolding tag_for
  tag_field h = rw (le-ltb r.kind 12 h)

  number_has : r.kind < 12 → ltb (wire_of (tag_for ws r)) 4 ≡ true
  number_has h =
      let few = number_wire r.kind fine.kind_some h in
      let e = tag_wire 0 (kind_at r.kind).wire r.ident (omega arith) (omega arith) fine.ident_in_lem in
      rw (tag_number h, e) (lt-ltb (kind_at r.kind).wire 4 few)

  field_has : 12 ≤ r.kind → wire_of (tag_for ws r) ≡ ws
  field_has h = rw (tag_field h) (tag_wire 0 ws r.ident (omega arith) wires.most fine.ident_in_lem)

  field_is : 12 ≤ r.kind → (n : ℕ) → field_bytes w (wire_of (tag_for ws r)) n ≡ number_bytes big w n
  unfolding field_bytes
  field_is h n = rw (field_has h, le-ltb ws 4 wires.least, wires.field)

  pub number_piece : (c : List ℕ) (n : ℕ) → r.kind < 12 → piece w (tag_for ws r) (leaf c) n ≡ number_bytes big 2 (tag_for ws r) ++ c
  unfolding piece member_bytes field_bytes
  number_piece c n h = rw (number_has h)

  pub run_piece : (c : List ℕ) (n : ℕ) → 12 ≤ r.kind
      → piece w (tag_for ws r) (leaf c) n ≡ number_bytes big 2 (tag_for ws r) ++ (number_bytes big w (length c) ++ c)
  unfolding piece member_bytes
  run_piece c n h = rw (field_is h (length c))

  pub branch_piece : (n : ℕ) → 12 ≤ r.kind → piece w (tag_for ws r) branch n ≡ number_bytes big 2 (tag_for ws r) ++ number_bytes big w n
  unfolding piece
  branch_piece n h = rw (field_is h n)

  -- ---- how many they are

  number_length : (x n : ℕ) → r.kind < 12 → length (piece w (tag_for ws r) (leaf (number_bytes big (size_of r.kind) x)) n) ≡ 2 + size_of r.kind
  number_length x n h = rw (number_piece (number_bytes big (size_of r.kind) x) n h) (simp (length-append, length_number_bytes))

  run_length : (c : List ℕ) (n : ℕ) → 12 ≤ r.kind → length (piece w (tag_for ws r) (leaf c) n) ≡ w + 2 + length c
  run_length c n h = rw (run_piece c n h) (simp (length-append, length_number_bytes) (omega arith))

  pub length_piece : (buf : List ℕ) (u : Value) (bits n : ℕ) → Fitting buf r u bits
      → length (piece w (tag_for ws r) (put_of buf r u bits) n) ≡ own_len w r.kind u
  unfolding put_of piece
  length_piece buf Absent bits n k = refl
  length_piece buf (Unsigned x) bits n k = number_length x n (unsigned_kind buf r x k.fits)
  length_piece buf (Signed z) bits n k = number_length _ n (signed_kind buf r z k.fits)
  length_piece buf (Float32 x) bits n k = number_length bits n (float_kind buf r 10 bits (omega arith) k.fits)
  length_piece buf (Float64 x) bits n k = number_length bits n (float_kind buf r 11 bits (omega arith) k.fits)
  length_piece buf (Bytes place len) bits n k =
      run_length _ n (run_kind buf r place len k.fits)
      ∙ ap (λ (m : ℕ). w + 2 + m) (length_content buf r place len (ltb-false (length buf) (place + len) k.inside))
  length_piece buf Members bits n k =
      let h = eqb-true r.kind struct k.fits in
      rw (branch_piece n (omega arith)) (simp (length-append, length_number_bytes) (omega arith))

  -- ---- whether the content is too wide

  some_top : 10 ≤ field_top w
  some_top = top (eqb w 1) (eqb w 2)
    where
      top : (a b : Bool) → 10 ≤ pick a 256 (pick b 65536 4294967296)
      top true b = omega arith
      top false true = omega arith
      top false false = omega arith

  number_narrow : (n : ℕ) → r.kind < 12 → too_wide w (tag_for ws r) n ≡ leb (field_top w) (size_of r.kind)
  number_narrow n h =
      let small = size_small r.kind (omega arith) in
      rw (lt-leb 4 (wire_of (tag_for ws r)) (ltb-true (wire_of (tag_for ws r)) 4 (number_has h)))
      (sym (lt-leb (field_top w) (size_of r.kind) (omega (arith, some_top, small))))

  run_wide : (n : ℕ) → 12 ≤ r.kind → too_wide w (tag_for ws r) n ≡ leb (field_top w) n
  run_wide n h = rw (field_has h, le-leb 4 ws wires.least, wires.field, wires.top)

  pub wide_piece : (buf : List ℕ) (u : Value) (bits n : ℕ) → Fitting buf r u bits
      → wide_here w (tag_for ws r) (put_of buf r u bits) n ≡ leb (field_top w) (content_len r.kind u n)
  unfolding put_of wide_here
  wide_piece buf Absent bits n k = sym (lt-leb (field_top w) 0 (omega (arith, some_top)))
  wide_piece buf (Unsigned x) bits n k = number_narrow _ (unsigned_kind buf r x k.fits)
  wide_piece buf (Signed z) bits n k = number_narrow _ (signed_kind buf r z k.fits)
  wide_piece buf (Float32 x) bits n k = number_narrow _ (float_kind buf r 10 bits (omega arith) k.fits)
  wide_piece buf (Float64 x) bits n k = number_narrow _ (float_kind buf r 11 bits (omega arith) k.fits)
  wide_piece buf (Bytes place len) bits n k =
      run_wide _ (run_kind buf r place len k.fits)
      ∙ ap (leb (field_top w)) (length_content buf r place len (ltb-false (length buf) (place + len) k.inside))
  wide_piece buf Members bits n k = let h = eqb-true r.kind struct k.fits in run_wide n (omega arith)

-- a run in a slice is short
pub inside_short : (room : ℕ) (u : Value) → outside room u ≡ false → room < 9223372036854775808 → ShortRun u
inside_short room Absent o h = tt
inside_short room (Unsigned n) o h = tt
inside_short room (Signed z) o h = tt
inside_short room (Float32 x) o h = tt
inside_short room (Float64 x) o h = tt
inside_short room (Bytes q n) o h = omega (arith, ltb-false room (q + n) o)
inside_short room Members o h = tt
