-- What a writing answers and leaves, for every input (document 01, Verdicts).
use Rattle.std.specs.Prelude.{ℕ, ◌≤◌, ◌≡◌, true, false, List, ◌++◌, length, drop}
use Rattle.wire.specs.declared.verdict.Verdict.TheVariants.{Accepted}
use Rattle.payload.specs.declared.table.Table.{Table}
use Rattle.payload.specs.declared.row.Row.{Row}
use Rattle.payload.specs.Judging.{Fine}
use Rattle.payload.specs.Table.{type_rows, table_fits}
use Rattle.payload.specs.Reading.{payload_most}
use Rattle.payload.specs.Tree.{bytes_of}
use Rattle.payload.specs.Judging.{judged_of}
use Rattle.payload.specs.Writing.{tree_of, some_wide, writing_of, output_of}

-- the payload of these rows: the bytes of their tree
abbrev pub payload_of : Table → List ℕ → List Row → List ℕ
payload_of t buf rows = bytes_of t.width (tree_of t buf rows)

-- every test of the writer is met, where `room` rows are lent and the output has `space` bytes
pub record Accepts (rows : List Row) (room : ℕ) (t : Table) (buf : List ℕ) (space : ℕ) : Type 0 where
  pub table : table_fits t ≡ true
  pub lent : t.count ≤ room
  pub judged : judged_of buf (type_rows t) rows ≡ Fine
  pub narrow : some_wide t.width (tree_of t buf rows) ≡ false
  pub light : length (payload_of t buf rows) ≤ payload_most
  pub fits : length (payload_of t buf rows) ≤ space

pub record WriteLaw (rows : List Row) (room : ℕ) (t : Table) (buf old : List ℕ) : Type 0 where
  -- accepted exactly when every test is met
  pub meets : (writing_of rows room t buf (length old)).verdict ≡ Accepted → Accepts rows room t buf (length old)
  pub answer : Accepts rows room t buf (length old)
      → writing_of rows room t buf (length old) ≡ record { verdict = Accepted; len = length (payload_of t buf rows) }
  -- then the output is the payload, and behind it the old bytes
  pub output : Accepts rows room t buf (length old)
      → output_of rows room t buf old ≡ payload_of t buf rows ++ drop (length (payload_of t buf rows)) old
  -- else it is as it was, and the length is 0
  pub kept : ((writing_of rows room t buf (length old)).verdict ≡ Accepted → ⊥)
      → (output_of rows room t buf old ≡ old) × ((writing_of rows room t buf (length old)).len ≡ 0)
  pub most : (writing_of rows room t buf (length old)).len ≤ payload_most
  pub within : (writing_of rows room t buf (length old)).len ≤ length old
  pub same_length : length (output_of rows room t buf old) ≡ length old
  pub beyond : drop (writing_of rows room t buf (length old)).len (output_of rows room t buf old)
      ≡ drop (writing_of rows room t buf (length old)).len old

-- A writing is accepted exactly when every test is met; the output is then the bytes of the tree and the old bytes behind them, and else
-- the old bytes alone.
abbrev pub WriteSettled : Type 0
WriteSettled = (rows : List Row) (room : ℕ) (t : Table) (buf old : List ℕ) → WriteLaw rows room t buf old
