-- Rows that the writer finds fine, one by one: what each puts into the payload, and which levels are present behind it.
-- Assumes nothing.
use mathlib.Core.Path.{◌≡◌, refl}
use Prim.Native.Nat.{ℕ, suc, ◌≤◌, ◌<◌}
use native.Mathlib.Omega.{arith}
use native.Mathlib.Nat.{le_of_suc-le-suc}
use mathlib.Core.Bool.{Bool, true, false, not}
use mathlib.Core.List.{List, [], ◌∷◌}
use lib.ListN.{length}
use lib.Dec.{leb, ltb}
use borrow.Author.Tests.{lt-ltb, le-ltb, leb-true, leb-false}
use Rattle.wire.specs.Choose.{pick, and}
use Rattle.wire.specs.Kind.{struct}
use Rattle.payload.specs.declared.table.TypeRow.{TypeRow}
use Rattle.payload.specs.declared.row.Row.{Row}
use Rattle.payload.specs.declared.row.Value.{Value}
use Rattle.payload.specs.declared.row.Value.TheVariants.{Absent, Unsigned, Signed, Float32, Float64, Bytes, Members}
use Rattle.payload.specs.Judging.{Fine, Outside, Unfit}
use Rattle.payload.specs.Table.{row_fits, level_most, rows_fit, RowRules}
use Rattle.payload.specs.Row.{is_absent}
use Rattle.payload.specs.Judging.{outside, row_fine, is_members, up_after, judged_from}
use Rattle.payload.specs.Writing.{Put, nothing, leaf, branch, put_of}
use Rattle.payload.proofs.Joined.{clash, and_left, and_right}
use Rattle.payload.proofs.Rules.RowLaws.{fits_rules}
use Rattle.payload.proofs.Round.PutLaws.{Content, Puts, puts_leaf, puts_branch, puts}

-- ---- a row

-- A fine row, where the levels up to `upto` are present, with what it puts and the levels present behind it: absent under an absent struct;
-- absent at a present level and not required; a leaf; a present struct.
pub data Stands (buf : List ℕ) (upto : ℕ) (r : TypeRow) (v : Row) : Put → ℕ → Type 0 where
  is_under : upto < r.level → v.value ≡ Absent → Stands buf upto r v nothing upto
  is_absent_lem : r.level ≤ upto → v.value ≡ Absent → r.required ≡ false → Stands buf upto r v nothing r.level
  is_leaf : {c : List ℕ} → r.level ≤ upto → Content buf r v.bits v.value c → Stands buf upto r v (leaf c) r.level
  is_struct : r.level ≤ upto → v.value ≡ Members → r.kind ≡ struct → Stands buf upto r v branch (suc r.level)

module _ (buf : List ℕ) (upto : ℕ) (r : TypeRow) (bits : ℕ) where
  row_of : Value → Row
  row_of x = record { value = x; bits = bits }

  stands_absent : row_fine buf upto r (row_of Absent) ≡ true → Stands buf upto r (row_of Absent) nothing (up_after upto r (row_of Absent))
  unfolding row_fine up_after is_absent row_of
  stands_absent e = go (leb r.level upto) refl r.required refl e
    where
      go : (b : Bool) → leb r.level upto ≡ b → (q : Bool) → r.required ≡ q → not (and q b) ≡ true
          → Stands buf upto r (row_of Absent) nothing (pick (ltb upto r.level) upto r.level)
      go true l true q e = clash e
      go true l false q e =
          let h = leb-true r.level upto l in
          rw (le-ltb upto r.level h) (is_absent_lem h refl q)
      go false l q eq e =
          let h = leb-false r.level upto l in
          rw (lt-ltb upto r.level h) (is_under h refl)

  stands_leaf : (x : Value) (c : List ℕ) → is_members x ≡ false → leb r.level upto ≡ true → Content buf r bits x c
      → Stands buf upto r (row_of x) (leaf c) (up_after upto r (row_of x))
  unfolding up_after row_of
  stands_leaf x c m l t =
      let h = leb-true r.level upto l in
      rw (le-ltb upto r.level h, m) (is_leaf h t)

  stands_struct : r.level ≤ upto → Puts buf r bits Members branch → Stands buf upto r (row_of Members) branch (up_after upto r (row_of Members))
  unfolding up_after row_of
  stands_struct h (puts_branch k) = rw (le-ltb upto r.level h) (is_struct h refl k)

  content_of_lem : {x : Value} {c : List ℕ} → Puts buf r bits x (leaf c) → Content buf r bits x c
  content_of_lem (puts_leaf t) = t

  stands_value : (x : Value) → outside (length buf) x ≡ false → row_fine buf upto r (row_of x) ≡ true
      → Stands buf upto r (row_of x) (put_of buf r x bits) (up_after upto r (row_of x))
  unfolding row_fine is_absent row_of put_of
  stands_value Absent i e = stands_absent e
  stands_value (Unsigned n) i e =
      stands_leaf (Unsigned n) _ refl (and_left _ _ e) (content_of_lem (puts buf r bits (Unsigned n) i (and_right (leb r.level upto) _ e)))
  stands_value (Signed z) i e =
      stands_leaf (Signed z) _ refl (and_left _ _ e) (content_of_lem (puts buf r bits (Signed z) i (and_right (leb r.level upto) _ e)))
  stands_value (Float32 x) i e =
      stands_leaf (Float32 x) _ refl (and_left _ _ e) (content_of_lem (puts buf r bits (Float32 x) i (and_right (leb r.level upto) _ e)))
  stands_value (Float64 x) i e =
      stands_leaf (Float64 x) _ refl (and_left _ _ e) (content_of_lem (puts buf r bits (Float64 x) i (and_right (leb r.level upto) _ e)))
  stands_value (Bytes place len) i e =
      stands_leaf (Bytes place len) _ refl (and_left _ _ e) (content_of_lem (puts buf r bits (Bytes place len) i (and_right (leb r.level upto) _ e)))
  stands_value Members i e = stands_struct (leb-true r.level upto (and_left _ _ e)) (puts buf r bits Members i (and_right (leb r.level upto) _ e))

-- ---- the rows

-- Rows that keep their rules and are fine one after the other.
pub data Passed (buf : List ℕ) : ℕ → List TypeRow → List Row → Type 0 where
  no_rows : {upto : ℕ} {vs : List Row} → Passed buf upto [] vs
  a_row : {upto next : ℕ} {put : Put} {r : TypeRow} {rs : List TypeRow} {v : Row} {vs : List Row} → RowRules r
      → put_of buf r v.value v.bits ≡ put → Stands buf upto r v put next → Passed buf next rs vs
      → Passed buf upto (r ∷ rs) (v ∷ vs)

module _ (buf : List ℕ) where
  -- what a judging that ends well says of its first row
  pub record First (upto : ℕ) (r : TypeRow) (rs : List TypeRow) (v : Row) (vs : List Row) : Type 0 where
    pub inside : outside (length buf) v.value ≡ false
    pub fine : row_fine buf upto r v ≡ true
    pub rest : judged_from buf (up_after upto r v) rs vs ≡ Fine

  pub first_judged : (upto : ℕ) (r : TypeRow) (rs : List TypeRow) (v : Row) (vs : List Row) → judged_from buf upto (r ∷ rs) (v ∷ vs) ≡ Fine
      → First upto r rs v vs
  unfolding judged_from
  first_judged upto r rs v vs e = go (outside (length buf) v.value) refl (row_fine buf upto r v) refl e
    where
      go : (a : Bool) → outside (length buf) v.value ≡ a → (b : Bool) → row_fine buf upto r v ≡ b
          → pick a Outside (pick b (judged_from buf (up_after upto r v) rs vs) Unfit) ≡ Fine → First upto r rs v vs
      go true ea b eb d = let z : ◌≡◌ {A = ℕ} 0 1 = cc in absurd (omega arith)
      go false ea true eb d = record { inside = ea; fine = eb; rest = d }
      go false ea false eb d = let z : ◌≡◌ {A = ℕ} 0 1 = cc in absurd (omega arith)

  pub judged_passed : (upto most : ℕ) (rs : List TypeRow) (vs : List Row) → length rs ≤ length vs → rows_fit most rs ≡ true
      → judged_from buf upto rs vs ≡ Fine → Passed buf upto rs vs
  unfolding rows_fit row_of
  judged_passed upto most [] vs h f e = no_rows
  judged_passed upto most (r ∷ rs) [] h f e = absurd (omega arith)
  judged_passed upto most (r ∷ rs) (v ∷ vs) h f e =
      let d = first_judged upto r rs v vs e in
      a_row (fits_rules r most (and_left (row_fits most r) (rows_fit (level_most r) rs) f)).0 refl
      (stands_value buf upto r v.bits v.value d.inside d.fine)
      (judged_passed (up_after upto r v) (level_most r) rs vs (le_of_suc-le-suc h) (and_right (row_fits most r) (rows_fit (level_most r) rs) f) d.rest)
