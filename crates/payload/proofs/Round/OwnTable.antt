-- The tree of present rows, under the table that it was made by: the table reads it and knows each member, and its reading gives every row the
-- value that was written.
-- Assumes nothing.
use mathlib.Core.Path.{◌≡◌, refl, sym, ap, ◌∙◌}
use Prim.Native.Nat.{ℕ, zero, suc, ◌+◌, ◌≤◌, ◌<◌}
use native.Mathlib.Omega.{arith}
use native.Mathlib.Nat.{add-suc, add-zero}
use native.Mathlib.Decide.{dec_le}
use mathlib.Core.Bool.{true, false}
use mathlib.Core.Option.{some}
use mathlib.Core.List.{List, [], ◌∷◌, ◌++◌, head-eq_of_cons-eq, tail-eq_of_cons-eq, cons≢nil}
use lib.ListN.{length, drop, get_or, length-append, length-drop}
use lib.Seq.{get_or-drop, set_at, append_snoc}
use borrow.Author.Tests.{eq-eqb}
use Rattle.wire.specs.Number.{AreBytes}
use Rattle.wire.specs.Kind.{struct}
use Rattle.payload.specs.declared.table.TypeRow.{TypeRow}
use Rattle.payload.specs.declared.row.Row.{Row}
use Rattle.payload.specs.declared.row.Value.TheVariants.{Absent, Members as Branch}
use Rattle.payload.specs.Table.{find, idents_differ, no_row, row_at, RowRules}
use Rattle.payload.specs.Row.{absent_row, members_row, shown_of}
use Rattle.payload.specs.Tree.{Members, stop, mem, bytes_of}
use Rattle.payload.specs.Formed.{row_for, for_row, content_at, unknowns, filled, KnownAs, Each, each_stop, each_leaf, each_struct}
use Rattle.payload.specs.Writing.{tag_for, some_wide}
use Rattle.payload.specs.Paths.{Lies}
use Rattle.payload.specs.Demand2.{Same, same_absent, same_members}
use Rattle.payload.proofs.Trees.Level.{find_own, differ_drop}
use Rattle.payload.proofs.Round.PutLaws.{LengthWire, content_bytes, content_leaf, content_fits_lem, content_back, tag_ident_is, tag_wire_fits}
use Rattle.payload.proofs.Round.Lying.{lies_content, lies_behind}
use Rattle.payload.proofs.Round.Judgings.{is_under, is_absent_lem, is_leaf, is_struct, Passed, no_rows, a_row}
use Rattle.payload.proofs.Round.Built.{Built, built_none, built_end, built_deeper, built_absent, built_leaf, built_struct, built_once, built_whole, leaf_narrow, struct_narrow, leaf_framed, struct_framed}

-- ---- the rows from here on, within the table

-- the first of a list that is what is left of another
at_head {ℓ} : {X : Type ℓ} (xs : List X) (n : ℕ) (d x : X) (rest : List X) → drop n xs ≡ x ∷ rest
    → (get_or xs n d ≡ x) × (drop (suc n) xs ≡ rest) × (n < length xs)
at_head [] zero d x rest e = absurd (cons≢nil (sym e))
at_head [] (suc n) d x rest e = absurd (cons≢nil (sym e))
at_head (y ∷ xs) zero d x rest e = (head-eq_of_cons-eq e, tail-eq_of_cons-eq e, omega arith)
at_head (y ∷ xs) (suc n) d x rest e = let h = at_head xs n d x rest e in (h.0, h.1, omega (arith, h.2))

module _ (types : List TypeRow) where
  -- `rs` are the rows from first + k on, and level l, whose first row is `first`, hasn't ended before them
  pub record From (l first k : ℕ) (rs : List TypeRow) : Type 0 where
    pub rest_is : drop (first + k) types ≡ rs
    pub above : (i : ℕ) → i < k → l ≤ (row_at types (first + i)).level

  module _ (l first k : ℕ) (r : TypeRow) (rs : List TypeRow) (f : From l first k (r ∷ rs)) where
    here : (row_at types (first + k) ≡ r) × (drop (suc (first + k)) types ≡ rs) × (first + k < length types)
    here = at_head types (first + k) no_row r rs f.rest_is

    pub from_row : row_at types (first + k) ≡ r
    from_row = here.0

    upto : l ≤ r.level → (i : ℕ) → i ≤ k → l ≤ (row_at types (first + i)).level
    upto h i hi = go (dec_le k i)
      where
        go : Dec (k ≤ i) → l ≤ (row_at types (first + i)).level
        go (yes q) = let z : i ≡ k = omega arith in rw (z, from_row) h
        go (no q) = f.above i (omega arith)

    pub from_next : l ≤ r.level → From l first (suc k) rs
    from_next h = record { rest_is = rw (add-suc first k) here.1; above = λ i hi. upto h i (omega arith) }

    pub from_inner : From (suc l) (suc (first + k)) 0 rs
    from_inner = record { rest_is = rw (add-zero (suc (first + k))) here.1; above = λ i hi. absurd (omega arith) }

    pub from_inner_rest : drop (suc (first + k)) types ≡ rs
    from_inner_rest = here.1

    -- a row of the level is found by its Data ID
    pub from_found : idents_differ types ≡ true → r.level ≡ l → find l r.ident (drop first types) ≡ some k
    from_found d e =
        let o : row_at (drop first types) k ≡ r = get_or-drop first types k no_row ∙ from_row in
        rw o at (find_own l (drop first types) k (differ_drop first types d) (omega (arith, here.2, length-drop first types)) (rw o e)
        (λ m hm. rw (get_or-drop first types m no_row) (upto (omega arith) m hm)))

-- ---- the table reads the tree, and knows each member

module _ {ws : ℕ} (lw : LengthWire ws) (types : List TypeRow) (d : idents_differ types ≡ true) (l first k : ℕ) (r : TypeRow) (rs : List TypeRow)
    (f : From types l first k (r ∷ rs)) (rules : RowRules r) (e : r.level ≡ l) where
  row_for_lem : row_for types l first (tag_for ws r) ≡ some k
  row_for_lem = rw (tag_ident_is lw r rules) (from_found types l first k r rs f d e)

module _ {ws : ℕ} (lw : LengthWire ws) (buf : List ℕ) (h : AreBytes buf) (width : ℕ) (types : List TypeRow)
    (d : idents_differ types ≡ true) where
  differ_from : {l first k : ℕ} {rs : List TypeRow} → From types l first k rs → idents_differ rs ≡ true
  differ_from {first = first} {k = k} f = rw f.rest_is at (differ_drop (first + k) types d)

  module _ (l first k : ℕ) (r : TypeRow) (rs : List TypeRow) (f : From types l first k (r ∷ rs)) (rules : RowRules r) (e : r.level ≡ l) where
    known_as : (vs : List Row) (m : Members) → Built ws buf l rs vs m → KnownAs types l first (tag_for ws r) k m
    known_as vs m b = record {
      found = row_for_lem lw types d l first k r rs f rules e;
      wire_fits_lem = rw (from_row types l first k r rs f) (tag_wire_fits lw r rules);
      once = built_once lw buf (differ_from f) rules e b;
    }

  pub built_each : {l : ℕ} {rs : List TypeRow} {vs : List Row} {m : Members} → Built ws buf l rs vs m
      → (first k : ℕ) → From types l first k rs → some_wide width m ≡ false → Each width types l first m
  built_each built_none first k f e = each_stop
  built_each (built_end q) first k f e = each_stop
  built_each {l} (built_deeper {r = r} {rs = rs} q b) first k f e =
      built_each b first (suc k) (from_next types l first k r rs f (omega arith)) e
  built_each {l} (built_absent {r = r} {rs = rs} q a n p b) first k f e =
      built_each b first (suc k) (from_next types l first k r rs f (omega arith)) e
  built_each {l} (built_leaf {r = r} {rs = rs} {v = v} {vs = vs} {c = c} {after = after} q rules t p b) first k f e =
      let n = leaf_narrow width (tag_for ws r) stop after c e in
      let z : row_at types (first + k) ≡ r = from_row types l first k r rs f in
      each_leaf (leaf_framed lw buf width r rules v c t n.own) (content_bytes buf r v.bits h t)
      (known_as l first k r rs f rules q vs after b)
      (rw z (content_leaf buf r v.bits t)) (rw z (content_fits_lem buf r v.bits t))
      (built_each b first (suc k) (from_next types l first k r rs f (omega arith)) n.later)
  built_each {l} (built_struct {r = r} {rs = rs} {vs = vs} {inner = inner} {after = after} q rules a kind p bi b) first k f e =
      let n = struct_narrow width (tag_for ws r) inner after e in
      let z : row_at types (first + k) ≡ r = from_row types l first k r rs f in
      each_struct (struct_framed lw buf width r rules (bytes_of width inner) kind n.own)
      (known_as l first k r rs f rules q vs after b)
      (rw z (eq-eqb r.kind struct kind))
      (built_each bi (suc (first + k)) 0 (from_inner types l first k r rs f) n.inside)
      (rw (from_inner_rest types l first k r rs f) (built_whole lw buf bi inner (λ x i. i)))
      (built_each b first (suc k) (from_next types l first k r rs f (omega arith)) n.later)

  -- it knows each member
  pub built_known : {l : ℕ} {rs : List TypeRow} {vs : List Row} {m : Members} → Built ws buf l rs vs m
      → (first k : ℕ) → From types l first k rs → unknowns types l first m ≡ 0
  unfolding unknowns for_row
  built_known built_none first k f = refl
  built_known (built_end q) first k f = refl
  built_known {l} (built_deeper {r = r} {rs = rs} q b) first k f = built_known b first (suc k) (from_next types l first k r rs f (omega arith))
  built_known {l} (built_absent {r = r} {rs = rs} q a n p b) first k f =
      built_known b first (suc k) (from_next types l first k r rs f (omega arith))
  built_known {l} (built_leaf {r = r} {rs = rs} q rules t p b) first k f =
      rw (row_for_lem lw types d l first k r rs f rules q, built_known b first (suc k) (from_next types l first k r rs f (omega arith)))
  built_known {l} (built_struct {r = r} {rs = rs} q rules a kind p bi b) first k f =
      rw (
        row_for_lem lw types d l first k r rs f rules q,
        built_known b first (suc k) (from_next types l first k r rs f (omega arith)),
        built_known bi (suc (first + k)) 0 (from_inner types l first k r rs f),
      )

-- ---- what the rows show

-- rows that show nothing, one for each type row
pub data Absents : List TypeRow → List Row → Type 0 where
  absents_none : Absents [] []
  absents_more : {r : TypeRow} {rs : List TypeRow} {xs : List Row} → Absents rs xs → Absents (r ∷ rs) (absent_row ∷ xs)

-- The rows of level l from here on, and those below them, show their values; behind the level's end nothing is shown.
pub data Showing (buf p : List ℕ) (l : ℕ) : List TypeRow → List Row → List Row → Type 0 where
  show_none : {vs : List Row} → Showing buf p l [] vs []
  show_end : {r : TypeRow} {rs : List TypeRow} {vs xs : List Row} → r.level < l → Absents (r ∷ rs) xs → Showing buf p l (r ∷ rs) vs xs
  show_row : {r : TypeRow} {rs : List TypeRow} {v : Row} {vs : List Row} {x : Row} {xs : List Row} → l ≤ r.level → Same buf p v x
      → Showing buf p l rs vs xs → Showing buf p l (r ∷ rs) (v ∷ vs) (x ∷ xs)

module _ (buf p : List ℕ) where
  absent_same : (v : Row) → v.value ≡ Absent → Same buf p v absent_row
  absent_same v e = rw e same_absent

  members_same : (v : Row) → v.value ≡ Branch → Same buf p v members_row
  members_same v e = rw e same_members

  -- below the levels that are present nothing is written
  pub absents_showing : {upto : ℕ} {rs : List TypeRow} {vs xs : List Row} → Passed buf upto rs vs → Absents rs xs → (l : ℕ) → upto < l
      → Showing buf p l rs vs xs
  absents_showing no_rows absents_none l h = show_none
  absents_showing (a_row {r = r} {rs = rs} {v = v} {vs = vs} rules e (is_under u a) rest) (absents_more {xs = xs} n) l h =
      go (absents_showing rest n l h) (dec_le l r.level)
    where
      go : Showing buf p l rs vs xs → Dec (l ≤ r.level) → Showing buf p l (r ∷ rs) (v ∷ vs) (absent_row ∷ xs)
      go ih (yes q) = show_row q (absent_same v a) ih
      go ih (no q) = show_end {r = r} (omega arith) (absents_more n)
  absents_showing (a_row {r = r} rules e (is_absent_lem u a q) rest) n l h = show_end {r = r} (omega arith) n
  absents_showing (a_row {r = r} rules e (is_leaf u t) rest) n l h = show_end {r = r} (omega arith) n
  absents_showing (a_row {r = r} rules e (is_struct u a k) rest) n l h = show_end {r = r} (omega arith) n

-- ---- the tree's reading

one_more : (pre : List Row) (x : Row) (first k : ℕ) → length pre ≡ first + k → length (pre ++ (x ∷ [])) ≡ first + suc k
one_more pre x first k e = omega (arith, length-append pre (x ∷ []))

module _ (buf p : List ℕ) (width : ℕ) (types : List TypeRow) where
  -- the rows before the first of `rs` stay, and those from there on show
  pub record Filling (l first place : ℕ) (m : Members) (pre : List Row) (rs : List TypeRow) (vs rest : List Row) : Type 0 where
    pub shown : List Row
    pub filled_is : filled width types l first place m (pre ++ rest) ≡ pre ++ shown
    pub showing : Showing buf p l rs vs shown

  -- a row that shows its value, before rows that do
  filling_row : (l first place : ℕ) (m : Members) (pre : List Row) (r : TypeRow) (rs : List TypeRow) (v : Row) (vs : List Row) (x : Row) (rest : List Row)
      → l ≤ r.level → Same buf p v x → Filling l first place m (pre ++ (x ∷ [])) rs vs rest
      → Filling l first place m pre (r ∷ rs) (v ∷ vs) (x ∷ rest)
  filling_row l first place m pre r rs v vs x rest h s g = record {
    shown = x ∷ g.shown;
    filled_is =
        ap (filled width types l first place m) (sym (append_snoc pre x rest)) ∙ g.filled_is ∙ append_snoc pre x g.shown;
    showing = show_row h s g.showing;
  }

  -- a member that the table knows
  module _ (l first place tag k : ℕ) (after : Members) (pre : List Row) (rs : List TypeRow) (vs xs : List Row)
      (e : row_for types l first tag ≡ some k) (n : length pre ≡ first + k) where
    filling_leaf : (c : List ℕ) (x : Row) → shown_of (row_at types (first + k)) (content_at width tag place) c ≡ x
        → Filling l first (content_at width tag place + length c) after pre rs vs (x ∷ xs)
        → Filling l first place (mem tag false c stop after) pre rs vs (absent_row ∷ xs)
    unfolding filled for_row
    filling_leaf c x s g = record {
      shown = g.shown;
      filled_is = rw (e, s, set_at pre absent_row xs x (first + k) n) g.filled_is;
      showing = g.showing;
    }

    filling_struct : (inner : Members) (rs2 : List TypeRow) (vs2 : List Row)
        (fi : Filling (suc l) (suc (first + k)) (content_at width tag place) inner (pre ++ (members_row ∷ [])) rs2 vs2 xs)
        → Filling l first (content_at width tag place + length (bytes_of width inner)) after pre rs vs (members_row ∷ fi.shown)
        → Filling l first place (mem tag true [] inner after) pre rs vs (absent_row ∷ xs)
    unfolding filled for_row
    filling_struct inner rs2 vs2 fi g =
        let z : filled width types (suc l) (suc (first + k)) (content_at width tag place) inner (pre ++ (members_row ∷ xs)) ≡ pre ++ (members_row ∷ fi.shown) =
        ap (filled width types (suc l) (suc (first + k)) (content_at width tag place) inner) (sym (append_snoc pre members_row xs)) ∙ fi.filled_is
        ∙ append_snoc pre members_row fi.shown in
        record {
          shown = g.shown;
          filled_is = rw (e, set_at pre absent_row xs members_row (first + k) n, z) g.filled_is;
          showing = g.showing;
        }

module _ {ws : ℕ} (lw : LengthWire ws) (buf p : List ℕ) (width : ℕ) (types : List TypeRow) (d : idents_differ types ≡ true) where
  pub built_filled : {l : ℕ} {rs : List TypeRow} {vs : List Row} {m : Members} → Built ws buf l rs vs m
      → (first k : ℕ) → From types l first k rs → (place : ℕ) → Lies p place (bytes_of width m)
      → (pre rest : List Row) → length pre ≡ first + k → Showing buf p (suc l) rs vs rest → Filling buf p width types l first place m pre rs vs rest
  unfolding filled bytes_of
  built_filled built_none first k f place h pre rest n show_none = record { shown = []; filled_is = refl; showing = show_none }
  built_filled (built_end q) first k f place h pre rest n (show_end i a) = record { shown = rest; filled_is = refl; showing = show_end q a }
  built_filled (built_end q) first k f place h pre rest n (show_row i s w) = absurd (omega arith)
  built_filled (built_deeper q b) first k f place h pre rest n (show_end i a) = absurd (omega arith)
  built_filled {l} (built_deeper {r = r} {rs = rs} {v = v} {vs = vs} {m = m} q b) first k f place h pre rest n (show_row {x = x} {xs = xs} i s w) =
      filling_row buf p width types l first place m pre r rs v vs x xs (omega arith) s
      (built_filled b first (suc k) (from_next types l first k r rs f (omega arith)) place h (pre ++ (x ∷ [])) xs (one_more pre x first k n) w)
  built_filled (built_absent q a t w b) first k f place h pre rest n (show_row i s y) = absurd (omega arith)
  built_filled {l} (built_absent {r = r} {rs = rs} {v = v} {vs = vs} {m = m} q a t w b) first k f place h pre rest n (show_end i (absents_more {xs = xs} g)) =
      filling_row buf p width types l first place m pre r rs v vs absent_row xs (omega arith) (absent_same buf p v a)
      (built_filled b first (suc k) (from_next types l first k r rs f (omega arith)) place h (pre ++ (absent_row ∷ [])) xs (one_more pre absent_row first k n)
      (absents_showing buf p w g (suc l) (omega arith)))
  built_filled (built_leaf q rules t w b) first k f place h pre rest n (show_row i s y) = absurd (omega arith)
  built_filled {l} (built_leaf {r = r} {rs = rs} {v = v} {vs = vs} {c = c} {after = after} q rules t w b) first k f place h pre rest n
      (show_end i (absents_more {xs = xs} g)) =
      let tag : ℕ = tag_for ws r in
      let y : List ℕ = bytes_of width after in
      let at : ℕ = content_at width tag place in
      let x : Row = shown_of r at c in
      filling_leaf buf p width types l first place tag k after pre (r ∷ rs) (v ∷ vs) xs (row_for_lem lw types d l first k r rs f rules q) n c x
      (ap (λ (z : TypeRow). shown_of z at c) (from_row types l first k r rs f))
      (filling_row buf p width types l first (at + length c) after pre r rs v vs x xs (omega arith)
      (content_back buf r v.bits t p at (lies_content p width place tag c y h))
      (built_filled b first (suc k) (from_next types l first k r rs f (omega arith)) (at + length c) (lies_behind p width place tag c y h)
      (pre ++ (x ∷ [])) xs (one_more pre x first k n) (absents_showing buf p w g (suc l) (omega arith))))
  built_filled (built_struct q rules a kind w bi b) first k f place h pre rest n (show_row i s y) = absurd (omega arith)
  built_filled {l} (built_struct {r = r} {rs = rs} {v = v} {vs = vs} {inner = inner} {after = after} q rules a kind w bi b) first k f place h pre rest n
      (show_end i (absents_more {xs = xs} g)) =
      let tag : ℕ = tag_for ws r in
      let c : List ℕ = bytes_of width inner in
      let y : List ℕ = bytes_of width after in
      let at : ℕ = content_at width tag place in
      let fi = built_filled bi (suc (first + k)) 0 (from_inner types l first k r rs f) at (lies_content p width place tag c y h)
      (pre ++ (members_row ∷ [])) xs (omega (arith, one_more pre members_row first k n)) (absents_showing buf p w g (suc (suc l)) (omega arith)) in
      filling_struct buf p width types l first place tag k after pre (r ∷ rs) (v ∷ vs) xs (row_for_lem lw types d l first k r rs f rules q) n inner rs vs fi
      (filling_row buf p width types l first (at + length c) after pre r rs v vs members_row fi.shown (omega arith) (members_same buf p v a)
      (built_filled b first (suc k) (from_next types l first k r rs f (omega arith)) (at + length c) (lies_behind p width place tag c y h)
      (pre ++ (members_row ∷ [])) fi.shown (one_more pre members_row first k n) fi.showing))
