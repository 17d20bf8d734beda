-- What a row puts into the payload: its tag, and a content that fits the row and from which the same value is read.
-- Assumes nothing.
use mathlib.Core.Path.{◌≡◌, refl, sym, ◌∙◌}
use Prim.Native.Nat.{ℕ, ◌+◌, ◌-◌, ◌%◌, ◌^◌, ◌≤◌, ◌<◌}
use native.Mathlib.Omega.{arith}
use mathlib.Core.Bool.{Bool, true, false}
use mathlib.Core.List.{List, [], ◌∷◌, ◌++◌}
use lib.ListN.{length, drop, length-append, length-drop}
use lib.Seq.{length-take-le, get_or-drop}
use lib.IntN.{ℤ, pos, negsuc}
use lib.Dec.{ltb, eqb}
use borrow.Author.Tests.{ltb-true, ltb-false, lt-ltb, le-ltb, leb-false, le-leb, eqb-true, eq-eqb, ne_eqb}
use Rattle.wire.specs.Choose.{pick, and}
use Rattle.wire.specs.Number.{Within, up, down, AreBytes, big, number_bytes, twos_of}
use Rattle.wire.specs.Tag.{wire_of, ident_of, tag_of, fixed_size, field_width}
use Rattle.wire.specs.Kind.{kind_at, size_of, wire_fits, string, array, struct}
use Rattle.wire.specs.Text.{text_fits, string_bytes}
use Rattle.wire.specs.Part.{run_of}
use Rattle.wire.proofs.NumberLaws.{bytes_nil, bytes_cons, bytes_take, bytes_append, bytes_number_bytes, length_number_bytes, number_back, twos_below, signed_twos}
use Rattle.wire.proofs.KindLaws.{number_wire, number_size, number_some, lengthed_wire}
use Rattle.wire.proofs.TextLaws.{string_is}
use Rattle.payload.specs.declared.table.TypeRow.{TypeRow}
use Rattle.payload.specs.declared.row.Value.{Value}
use Rattle.payload.specs.declared.row.Value.TheVariants.{Absent, Unsigned, Signed, Float32, Float64, Bytes, Members}
use Rattle.payload.specs.Table.{in_range, RowRules}
use Rattle.payload.specs.Row.{number_row, shown_of}
use Rattle.payload.specs.Reading.{content_fits}
use Rattle.payload.specs.Formed.{length_fits}
use Rattle.payload.specs.Judging.{outside, unsigned_fits, signed_in, signed_fits, float_fits, run_fits, value_fits}
use Rattle.payload.specs.Writing.{run_wire, tag_for, Put, nothing, leaf, branch, put_of, too_wide}
use Rattle.payload.specs.Paths.{Lies}
use Rattle.payload.specs.Demand2.{SameAs, same_unsigned, same_signed, same_float32, same_float64, same_run}
use Rattle.payload.proofs.Joined.{and_left, and_right}
use Rattle.payload.proofs.Rules.RowLaws.{range_in}
use Rattle.payload.proofs.Round.Lying.{lies_first, lies_second, lies_run, lies_inside}

-- ---- a row's tag

-- the wire type of what has a length field: 4 to 7
pub record LengthWire (ws : ℕ) : Type 0 where
  pub least : 4 ≤ ws
  pub most : ws < 8

pub run_wire_lem : (width : ℕ) (fixed : Bool) → LengthWire (run_wire width fixed)
unfolding run_wire
run_wire_lem width true = record { least = omega arith; most = omega arith }
run_wire_lem width false = go (eqb width 1) (eqb width 2)
  where
    go : (a b : Bool) → LengthWire (pick a 5 (pick b 6 7))
    go true b = record { least = omega arith; most = omega arith }
    go false true = record { least = omega arith; most = omega arith }
    go false false = record { least = omega arith; most = omega arith }

module _ {ws : ℕ} (lw : LengthWire ws) (r : TypeRow) (rules : RowRules r) where
  -- numbers
  module _ (few : r.kind < 12) where
    number_tag : tag_for ws r ≡ tag_of 0 (kind_at r.kind).wire r.ident
    unfolding tag_for
    number_tag = rw (lt-ltb r.kind string few)

    wire_low : (kind_at r.kind).wire < 4
    wire_low = number_wire r.kind (omega (arith, rules.kind_least)) few

    pub number_wire_is : wire_of (tag_for ws r) ≡ (kind_at r.kind).wire
    number_wire_is = rw number_tag (omega (arith, wire_low, rules.ident_most))

    pub number_length : (width n : ℕ) → n ≡ size_of r.kind → length_fits width (wire_of (tag_for ws r)) n ≡ true
    unfolding length_fits
    number_length width n e =
        rw (number_wire_is, lt-ltb (kind_at r.kind).wire 4 wire_low)
        (eq-eqb n (fixed_size (kind_at r.kind).wire) (e ∙ number_size r.kind (omega (arith, rules.kind_least)) few))

  -- strings, arrays, structs
  module _ (many : 12 ≤ r.kind) where
    run_tag : tag_for ws r ≡ tag_of 0 ws r.ident
    unfolding tag_for
    run_tag = rw (le-ltb r.kind string many)

    pub run_wire_is : wire_of (tag_for ws r) ≡ ws
    run_wire_is = rw run_tag (omega (arith, lw.most, rules.ident_most))

    -- what the length field can say
    pub run_length : (width n : ℕ) → too_wide width (tag_for ws r) n ≡ false → length_fits width (wire_of (tag_for ws r)) n ≡ true
    unfolding length_fits
    run_length width n e =
        rw (run_wire_is, le-ltb ws 4 lw.least)
        (lt-ltb n (256 ^ field_width width ws) (leb-false (256 ^ field_width width ws) n (rw (run_wire_is, le-leb 4 ws lw.least) at e)))

  tag_is : (w : ℕ) × (w < 8) × (tag_for ws r ≡ tag_of 0 w r.ident)
  tag_is = go (ltb r.kind 12) refl
    where
      go : (b : Bool) → ltb r.kind 12 ≡ b → (w : ℕ) × (w < 8) × (tag_for ws r ≡ tag_of 0 w r.ident)
      go true e = let few = ltb-true r.kind 12 e in ((kind_at r.kind).wire, omega (arith, wire_low few), number_tag few)
      go false e = (ws, lw.most, run_tag (ltb-false r.kind 12 e))

  pub tag_small : tag_for ws r < 65536
  tag_small = rw tag_is.2 (omega (arith, tag_is.1, rules.ident_most))

  pub tag_ident_is : ident_of (tag_for ws r) ≡ r.ident
  tag_ident_is = rw tag_is.2 (omega (arith, tag_is.1, rules.ident_most))

  pub tag_wire_fits : wire_fits r.kind (wire_of (tag_for ws r)) ≡ true
  tag_wire_fits = go (ltb r.kind 12) refl
    where
      go : (b : Bool) → ltb r.kind 12 ≡ b → wire_fits r.kind (wire_of (tag_for ws r)) ≡ true
      go true e =
          let few = ltb-true r.kind 12 e in
          rw (number_wire_is few, lt-ltb (kind_at r.kind).wire 4 (wire_low few)) (eq-eqb (kind_at r.kind).wire (kind_at r.kind).wire refl)
      go false e =
          let many = ltb-false r.kind 12 e in
          rw (run_wire_is many, lengthed_wire r.kind many (omega (arith, rules.kind_most))) (le-leb 4 ws lw.least)

-- ---- a value's content

-- The content of a value that fits its row: a number's bytes, from which the same row is read; a string of well formed text; an array's bytes.
pub data Content (buf : List ℕ) (r : TypeRow) (bits : ℕ) : Value → List ℕ → Type 0 where
  number : {x : Value} {n : ℕ} → r.kind < 12 → n < 256 ^ size_of r.kind
      → ((p : List ℕ) → SameAs buf p bits x (number_row r.kind n))
      → Content buf r bits x (number_bytes big (size_of r.kind) n)
  text : {place len : ℕ} → r.kind ≡ string → place + len ≤ length buf → text_fits (run_of buf place len) ≡ true
      → Content buf r bits (Bytes place len) (string_bytes (run_of buf place len))
  cells : {place len : ℕ} → r.kind ≡ array → place + len ≤ length buf → eqb (len % size_of r.elem) 0 ≡ true
      → Content buf r bits (Bytes place len) (run_of buf place len)

-- what a value that fits its row puts into the payload
pub data Puts (buf : List ℕ) (r : TypeRow) (bits : ℕ) : Value → Put → Type 0 where
  puts_none : Puts buf r bits Absent nothing
  puts_leaf : {x : Value} {c : List ℕ} → Content buf r bits x c → Puts buf r bits x (leaf c)
  puts_branch : r.kind ≡ struct → Puts buf r bits Members branch

module _ (buf : List ℕ) (r : TypeRow) (bits : ℕ) where
  unsigned_content : (n : ℕ) → unsigned_fits r.kind n ≡ true → Content buf r bits (Unsigned n) (number_bytes big (size_of r.kind) n)
  unfolding unsigned_fits number_row
  unsigned_content n f = go (eqb r.kind 1) refl f
    where
      one : (p : List ℕ) → r.kind ≡ 1 → n < 2 → SameAs buf p bits (Unsigned n) (number_row r.kind n)
      one p e h = let z : n % 2 ≡ n = omega arith in rw (e, z) same_unsigned

      more : (p : List ℕ) → eqb r.kind 1 ≡ false → r.kind < 6 → SameAs buf p bits (Unsigned n) (number_row r.kind n)
      more p e h = rw (e, lt-ltb r.kind 6 h) same_unsigned

      go : (b : Bool) → eqb r.kind 1 ≡ b → pick b (ltb n 2) (and (in_range 2 5 r.kind) (ltb n (256 ^ size_of r.kind))) ≡ true
          → Content buf r bits (Unsigned n) (number_bytes big (size_of r.kind) n)
      go true e g =
          let k = eqb-true r.kind 1 e in
          let h = ltb-true n 2 g in
          number {n = n} (omega arith) (rw k (omega arith)) (λ p. one p k h)
      go false e g =
          let k = range_in 2 5 r.kind (and_left (in_range 2 5 r.kind) _ g) in
          number (omega arith) (ltb-true n (256 ^ size_of r.kind) (and_right (in_range 2 5 r.kind) _ g)) (λ p. more p e (omega arith))

  signed_in_lem : (w : ℕ) (z : ℤ) → signed_in w z ≡ true → Within w z
  signed_in_lem w (pos n) e = up (ltb-true _ _ e)
  signed_in_lem w (negsuc n) e = down (ltb-true _ _ e)

  signed_content : (z : ℤ) → signed_fits r.kind z ≡ true
      → Content buf r bits (Signed z) (number_bytes big (size_of r.kind) (twos_of (size_of r.kind) z))
  unfolding signed_fits number_row
  signed_content z f =
      let k = range_in 6 9 r.kind (and_left (in_range 6 9 r.kind) _ f) in
      let w = signed_in_lem (size_of r.kind) z (and_right (in_range 6 9 r.kind) _ f) in
      number (omega arith) (twos_below (size_of r.kind) (number_some r.kind (omega arith) (omega arith)) w) (λ p. show p k.0 k.1 w)
    where
      show : (p : List ℕ) → 6 ≤ r.kind → r.kind ≤ 9 → Within (size_of r.kind) z
          → SameAs buf p bits (Signed z) (number_row r.kind (twos_of (size_of r.kind) z))
      show p h1 h2 w =
          rw (ne_eqb r.kind 1 (λ e. omega arith), le-ltb r.kind 6 h1, lt-ltb r.kind 10 (omega arith), signed_twos (size_of r.kind) w) same_signed

  float_content : (own : ℕ) (x : Value) → own < 12 → ((p : List ℕ) → SameAs buf p bits x (number_row own bits)) → float_fits own r.kind bits ≡ true
      → Content buf r bits x (number_bytes big (size_of r.kind) bits)
  unfolding float_fits
  float_content own x few same f =
      let k = eqb-true r.kind own (and_left (eqb r.kind own) _ f) in
      number {x = x} {n = bits} (omega arith) (ltb-true bits (256 ^ size_of r.kind) (and_right (eqb r.kind own) _ f)) (λ p. rw k (same p))

  run_content : (place len : ℕ) → ltb (length buf) (place + len) ≡ false → run_fits buf r place len ≡ true
      → Content buf r bits (Bytes place len) (pick (eqb r.kind string) (string_bytes (run_of buf place len)) (run_of buf place len))
  unfolding run_fits
  run_content place len i f = go (eqb r.kind string) refl f
    where
      go : (b : Bool) → eqb r.kind string ≡ b
          → pick b (text_fits (run_of buf place len)) (and (eqb r.kind array) (eqb (len % size_of r.elem) 0)) ≡ true
          → Content buf r bits (Bytes place len) (pick b (string_bytes (run_of buf place len)) (run_of buf place len))
      go true e g = text (eqb-true r.kind string e) (ltb-false (length buf) (place + len) i) g
      go false e g =
          cells (eqb-true r.kind array (and_left (eqb r.kind array) _ g)) (ltb-false (length buf) (place + len) i)
          (and_right (eqb r.kind array) _ g)

  pub puts : (x : Value) → outside (length buf) x ≡ false → value_fits buf r x bits ≡ true → Puts buf r bits x (put_of buf r x bits)
  unfolding put_of number_row
  puts Absent i f = puts_none
  puts (Unsigned n) i f = puts_leaf (unsigned_content n f)
  puts (Signed z) i f = puts_leaf (signed_content z f)
  puts (Float32 x) i f = puts_leaf (float_content 10 (Float32 x) (omega arith) (λ p. show p) f)
    where
      show : (p : List ℕ) → SameAs buf p bits (Float32 x) (number_row 10 bits)
      show p = same_float32
  puts (Float64 x) i f = puts_leaf (float_content 11 (Float64 x) (omega arith) (λ p. show p) f)
    where
      show : (p : List ℕ) → SameAs buf p bits (Float64 x) (number_row 11 bits)
      show p = same_float64
  puts (Bytes place len) i f = puts_leaf (run_content place len i f)
  puts Members i f = puts_branch (eqb-true r.kind struct f)

-- ---- what a content is good for

run_length_is : (buf : List ℕ) (place len : ℕ) → place + len ≤ length buf → length (run_of buf place len) ≡ len
run_length_is buf place len h = length-take-le len (drop place buf) (omega (arith, length-drop place buf))

run_bytes : (buf : List ℕ) (place len : ℕ) → AreBytes buf → AreBytes (run_of buf place len)
run_bytes buf place len h = bytes_take len (drop place buf) (λ i. rw (get_or-drop place buf i 0) (h (place + i)))

string_bytes_lem : (c : List ℕ) → AreBytes c → AreBytes (string_bytes c)
unfolding string_bytes
string_bytes_lem c h =
    let t : AreBytes (c ++ (0 ∷ [])) = bytes_append c (0 ∷ []) h (bytes_cons 0 [] (omega arith) bytes_nil) in
    bytes_cons 0xEF (0xBB ∷ 0xBF ∷ (c ++ (0 ∷ []))) (omega arith)
    (bytes_cons 0xBB (0xBF ∷ (c ++ (0 ∷ []))) (omega arith) (bytes_cons 0xBF (c ++ (0 ∷ [])) (omega arith) t))

string_length : (c : List ℕ) → length (string_bytes c) ≡ length c + 4
unfolding string_bytes
string_length c = omega (arith, length-append c (0 ∷ []))

-- a string's text lies behind the mark
text_lies : (p : List ℕ) (place : ℕ) (c : List ℕ) → Lies p place (string_bytes c) → Lies p (place + 3) c
unfolding string_bytes
text_lies p place c h = lies_first p (place + 3) c (0 ∷ []) (lies_second p place (0xEF ∷ 0xBB ∷ 0xBF ∷ []) (c ++ (0 ∷ [])) h)

module _ (buf : List ℕ) (r : TypeRow) (bits : ℕ) where
  pub content_bytes : {x : Value} {c : List ℕ} → AreBytes buf → Content buf r bits x c → AreBytes c
  content_bytes h (number {n = n} k few same) = bytes_number_bytes (size_of r.kind) n
  content_bytes h (text {place} {len} k i t) = string_bytes_lem (run_of buf place len) (run_bytes buf place len h)
  content_bytes h (cells {place} {len} k i m) = run_bytes buf place len h

  pub content_leaf : {x : Value} {c : List ℕ} → Content buf r bits x c → eqb r.kind struct ≡ false
  content_leaf (number k few same) = ne_eqb r.kind struct (λ e. omega arith)
  content_leaf (text k i t) = ne_eqb r.kind struct (λ e. omega arith)
  content_leaf (cells k i m) = ne_eqb r.kind struct (λ e. omega arith)

  pub content_fits_lem : {x : Value} {c : List ℕ} → Content buf r bits x c → content_fits r c ≡ true
  unfolding content_fits
  content_fits_lem (number k few same) = rw (ne_eqb r.kind array (λ e. omega arith), ne_eqb r.kind string (λ e. omega arith))
  content_fits_lem (text {place} {len} k i t) =
      rw (ne_eqb r.kind array (λ e. omega arith), eq-eqb r.kind string k) (string_is (run_of buf place len) ∙ t)
  content_fits_lem (cells {place} {len} k i m) = rw (eq-eqb r.kind array k, run_length_is buf place len i) m

  pub content_length : {ws : ℕ} → LengthWire ws → RowRules r → (width : ℕ) {x : Value} {c : List ℕ} → Content buf r bits x c
      → too_wide width (tag_for ws r) (length c) ≡ false → length_fits width (wire_of (tag_for ws r)) (length c) ≡ true
  content_length lw rules width (number {n = n} k few same) e =
      number_length lw r rules k width _ (length_number_bytes (size_of r.kind) n)
  content_length lw rules width (text k i t) e = run_length lw r rules (omega arith) width _ e
  content_length lw rules width (cells k i m) e = run_length lw r rules (omega arith) width _ e

  -- read at its place it gives the same value
  pub content_back : {x : Value} {c : List ℕ} → Content buf r bits x c → (p : List ℕ) (place : ℕ) → Lies p place c
      → SameAs buf p bits x (shown_of r place c)
  unfolding shown_of
  content_back (number {n = n} k few same) p place h =
      rw (lt-ltb r.kind string k, number_back (size_of r.kind) n few) (same p)
  content_back (text {place = from} {len = len} k i t) p place h =
      let run : List ℕ = run_of buf from len in
      let n : length run ≡ len = run_length_is buf from len i in
      let m : length (string_bytes run) - 4 ≡ len = omega (arith, string_length run) in
      let g = text_lies p place run h in
      rw (k, m) (same_run (rw n at (sym (lies_run p (place + 3) run g))) (rw n at (lies_inside p (place + 3) run g)))
  content_back (cells {place = from} {len = len} k i m) p place h =
      let n : length (run_of buf from len) ≡ len = run_length_is buf from len i in
      rw (k, n) (same_run (rw n at (sym (lies_run p place (run_of buf from len) h))) (rw n at (lies_inside p place (run_of buf from len) h)))
