-- Demand 2 (document 01, Value rows and Verdicts): values that are written are read back the same, and what was read back is written as the
-- same bytes. The only premise is that the writer accepts.
use Rattle.std.specs.Prelude.{◌≡◌, ℕ, ◌+◌, ◌≤◌, ◌<◌, List, [], map, length, take, get_or, ℤ, Float}
use Rattle.std.specs.Float.{binary32, binary64}
use Rattle.std.specs.Float.Ieee.{of_bits}
use Rattle.wire.specs.Number.{AreBytes}
use Rattle.wire.specs.Part.{run_of}
use Rattle.wire.specs.declared.verdict.Verdict.TheVariants.{Accepted}
use Rattle.payload.specs.declared.table.Table.{Table}
use Rattle.payload.specs.declared.row.Row.{Row}
use Rattle.payload.specs.declared.row.Value.{Value}
use Rattle.payload.specs.declared.row.Value.TheVariants.{Absent, Unsigned, Signed, Float32, Float64, Bytes, Members}
use Rattle.payload.specs.declared.read.Reading.{Reading}
use Rattle.payload.specs.Table.{type_rows}
use Rattle.payload.specs.Row.{plain, absent_row, members_row}
use Rattle.payload.specs.Reading.{payload_most, reading_of}
use Rattle.payload.specs.Tree.{bytes_of}
use Rattle.payload.specs.Formed.{Formed}
use Rattle.payload.specs.Writing.{tree_of, done, outcome_of, writing_of, output_of}
use Rattle.payload.specs.Cases.{table_w, Case, cases}

-- ---- the same value

-- A value with the bits beside it, whose run of bytes is in `buf`, and a row that shows the same, whose run is in `p`: equal case and number,
-- floats by their bits, runs by their bytes. Fields that the new row's value doesn't use are 0.
pub data SameAs (buf p : List ℕ) (bits : ℕ) : Value → Row → Type 0 where
  same_absent : SameAs buf p bits Absent absent_row
  same_unsigned : {n : ℕ} → SameAs buf p bits (Unsigned n) (plain (Unsigned n))
  same_signed : {z : ℤ} → SameAs buf p bits (Signed z) (plain (Signed z))
  same_float32 : {x : Float} → SameAs buf p bits (Float32 x) (record { value = Float32 (of_bits binary32 bits); bits = bits })
  same_float64 : {x : Float} → SameAs buf p bits (Float64 x) (record { value = Float64 (of_bits binary64 bits); bits = bits })
  same_run : {place place2 len : ℕ} → run_of buf place len ≡ run_of p place2 len → place2 + len ≤ length p
      → SameAs buf p bits (Bytes place len) (plain (Bytes place2 len))
  same_members : SameAs buf p bits Members members_row

abbrev pub Same : List ℕ → List ℕ → Row → Row → Type 0
Same buf p old new = SameAs buf p old.bits old.value new

-- ---- what holds of a payload that the writer gives

-- (iii) It is the bytes of the tree of present rows, and the table reads that tree.
pub record IsTree (rows : List Row) (t : Table) (buf p : List ℕ) : Type 0 where
  pub bytes_are : p ≡ bytes_of t.width (tree_of t buf rows)
  pub formed : Formed t.width (type_rows t) 1 0 (tree_of t buf rows)
  pub size_fits : length p ≤ payload_most
  pub are_bytes : AreBytes p

-- (i) Its reading is accepted, skips nothing, and every row has the same value.
pub record ReadBack (rows : List Row) (t : Table) (buf p : List ℕ) (got : Reading) : Type 0 where
  pub verdict_is : got.verdict ≡ Accepted
  pub place_is : got.place ≡ 0
  pub skips_none : got.skipped ≡ 0
  pub fills_all : got.filled ≡ t.count
  pub rows_array : length got.rows ≡ 64
  pub same : (i : ℕ) → i < t.count → Same buf p (get_or rows i absent_row) (get_or got.rows i absent_row)
  pub beyond : (i : ℕ) → t.count ≤ i → get_or got.rows i absent_row ≡ absent_row

pub record Demand2 (rows : List Row) (t : Table) (buf p : List ℕ) : Type 0 where
  pub is_tree : IsTree rows t buf p
  pub read_back : (room : ℕ) → t.count ≤ room → ReadBack rows t buf p (reading_of p t room)
  -- (ii) The rows that are read, written with the payload itself as the content buffer, give the same bytes.
  pub again : (room space : ℕ) → t.count ≤ room → length p ≤ space
      → outcome_of (reading_of p t room).rows room t p space ≡ done p

-- ---- and of every writing that is accepted

-- what the arguments of a writing are: arrays of 64 type rows and value rows, a buffer of bytes
pub record Handed (rows : List Row) (t : Table) (buf : List ℕ) : Type 0 where
  pub types_array : length t.rows ≡ 64
  pub rows_array : length rows ≡ 64
  pub buf_bytes : AreBytes buf

-- Whatever is handed in, of which `room` value rows and `space` output bytes are lent: if the writer accepts and gives p, p is such a payload.
abbrev pub Demand2Holds : Type 0
Demand2Holds =
    (rows : List Row) (room : ℕ) (t : Table) (buf : List ℕ) (space : ℕ) (p : List ℕ) → Handed rows t buf
    → outcome_of rows room t buf space ≡ done p → Demand2 rows t buf p

-- The same by the writer's answer: if its verdict is 0, the output's first bytes, as many as the answer says, are such a payload.
abbrev pub Demand2Answered : Type 0
Demand2Answered =
    (rows : List Row) (room : ℕ) (t : Table) (buf old : List ℕ) → Handed rows t buf
    → (writing_of rows room t buf (length old)).verdict ≡ Accepted
    → Demand2 rows t buf (take (writing_of rows room t buf (length old)).len (output_of rows room t buf old))

-- ---- not empty

-- the rows that the reading of a case shows, and the case's payload
abbrev pub rows_of : ℕ → List Row
rows_of n = get_or (map (λ (c : Case). c.answer.rows) cases) n []

abbrev pub payload_of : ℕ → List ℕ
payload_of n = get_or (map (λ (c : Case). c.bytes) cases) n []

-- The writer accepts the rows of cases a, c and m and gives their bytes: those of a without the unknown member, which is its last; those of m
-- with its own payload as the content buffer.
pub record CasesWritten : Type 0 where
  pub case_a : outcome_of (rows_of 0) 5 table_w [] 11 ≡ done (take 11 (payload_of 0))
  pub case_c : outcome_of (rows_of 2) 5 table_w [] 4 ≡ done (payload_of 2)
  pub case_m : outcome_of (rows_of 12) 5 table_w (payload_of 12) 11 ≡ done (payload_of 12)

-- And so they are read back.
pub record CasesBack : Type 0 where
  pub back_a : Demand2 (rows_of 0) table_w [] (take 11 (payload_of 0))
  pub back_c : Demand2 (rows_of 2) table_w [] (payload_of 2)
