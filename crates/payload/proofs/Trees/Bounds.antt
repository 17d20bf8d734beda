-- Nothing that a reading shows lies past the end of its level: neither a run of bytes nor the place of a refusal.
-- Assumes nothing.
use mathlib.Core.Path.{◌≡◌, refl, ap, ◌∙◌}
use Prim.Native.Nat.{ℕ, zero, suc, ◌+◌, ◌-◌, ◌≤◌}
use native.Mathlib.Omega.{arith}
use native.Mathlib.Decide.{ℕ_discrete, dec_le}
use mathlib.Core.Bool.{Bool, true, false}
use mathlib.Core.List.{List, ◌++◌}
use lib.ListN.{length, drop, get_or, set, replicate, length-append, length-set, length-replicate}
use lib.Seq.{get_or-set_same, get_or-set_other, set_out}
use lib.Dec.{leb, ltb, eqb}
use borrow.Author.Tests.{leb-true, eqb-true}
use Rattle.wire.specs.Choose.{pick}
use Rattle.wire.specs.Number.{big, number_of}
use Rattle.wire.specs.Kind.{string, array}
use Rattle.wire.specs.Text.{string_fits}
use Rattle.wire.specs.declared.verdict.Verdict.{Verdict}
use Rattle.payload.specs.declared.table.TypeRow.{TypeRow}
use Rattle.payload.specs.declared.row.Row.{Row}
use Rattle.payload.specs.declared.row.Value.TheVariants.{Bytes}
use Rattle.payload.specs.Table.{row_at}
use Rattle.payload.specs.Row.{plain, absent_row, members_row, number_row, shown_of}
use Rattle.payload.specs.Reading.{Step, content_fits, step_of, Walked, refused, walked, lacks, end_of, walk, walked_of}
use Rattle.payload.specs.Bounds.{ByWalk, RunIn, Changed, kept, shown, Bounded, refused_in, walked_in}
use Rattle.payload.proofs.Trees.Walk.{walk_refuse, walk_finish, walk_skip, walk_leaf, walk_in_lem, walk_out, pick_all}
use Rattle.payload.proofs.Trees.Level.{and_left}
use Rattle.payload.proofs.Trees.Seen.{absent_at}
use Rattle.payload.proofs.Trees.Frame.{MemberIs, StepIs, is_refuse, is_finish, is_skip, is_leaf, is_enter, step_is}

-- ---- what a content's row shows

abbrev NoRun : Row → Type 0
NoRun r = (place len : ℕ) → r.value ≡ Bytes place len → ⊥

run_no : (from to : ℕ) (r : Row) → NoRun r → RunIn from to r
run_no from to r never q len e = absurd (never q len e)

members_no : NoRun members_row
members_no q len e = let z : ◌≡◌ {A = ℕ} 0 1 = cc in omega arith

number_no : (k v : ℕ) → NoRun (number_row k v)
unfolding number_row
number_no k v =
    pick_all NoRun (eqb k 1) (λ q len e. clash (cc))
    (pick_all NoRun (ltb k 6) (λ q len e. clash (cc))
    (pick_all NoRun (ltb k 10) (λ q len e. clash (cc))
    (pick_all NoRun (eqb k 10) (λ q len e. clash (cc)) (λ q len e. clash (cc)))))
  where
    clash : ◌≡◌ {A = ℕ} 0 1 → ⊥
    clash z = omega arith

run_is : (from to place len : ℕ) → from ≤ place → place + len ≤ to → RunIn from to (plain (Bytes place len))
run_is from to place len h1 h2 q n e =
    let eq : place ≡ q = cc in
    let en : len ≡ n = cc in
    (omega arith, omega arith)

shown_in : (r : TypeRow) (place : ℕ) (c : List ℕ) → content_fits r c ≡ true → RunIn place (place + length c) (shown_of r place c)
unfolding shown_of content_fits string_fits
shown_in r place c fits = go (ltb r.kind string) (eqb r.kind string) (eqb r.kind array) refl
  where
    long : r.kind ≡ string → content_fits r c ≡ true → 4 ≤ length c
    long e f = leb-true 4 (length c) (and_left (leb 4 (length c)) _ (rw e at f))

    go : (a b d : Bool) → eqb r.kind string ≡ b
        → RunIn place (place + length c)
        (pick a (number_row r.kind (number_of big c))
        (pick b (plain (Bytes (place + 3) (length c - 4))) (pick d (plain (Bytes place (length c))) members_row)))
    go true b d eb = run_no place (place + length c) (number_row r.kind (number_of big c)) (number_no r.kind (number_of big c))
    go false true d eb =
        let h : 4 ≤ length c = long (eqb-true r.kind string eb) fits in
        run_is place (place + length c) (place + 3) (length c - 4) (omega arith) (omega arith)
    go false false true eb = run_is place (place + length c) place (length c) (omega arith) (omega arith)
    go false false false eb = run_no place (place + length c) members_row members_no

-- ---- changes one after the other, and within more bytes

changed_then : {from to : ℕ} {a b c : Row} → Changed from to a b → Changed from to b c → Changed from to a c
changed_then h (shown r) = shown r
changed_then (kept e) (kept e2) = kept (e2 ∙ e)
changed_then (shown r) (kept e2) = shown (rw e2 r)

changed_wide : (from to from2 to2 : ℕ) → from2 ≤ from → to ≤ to2 → {a b : Row} → Changed from to a b → Changed from2 to2 a b
changed_wide from to from2 to2 h1 h2 (kept e) = kept e
changed_wide from to from2 to2 h1 h2 (shown r) = shown (λ q len e. (omega (arith, (r q len e).0), omega (arith, (r q len e).1)))

bounded_wide : (from to from2 to2 : ℕ) → from2 ≤ from → to ≤ to2 → {rows : List Row} {w : Walked} → Bounded from to rows w → Bounded from2 to2 rows w
bounded_wide from to from2 to2 h1 h2 (refused_in {place = p} b h3 h4) = refused_in {place = p} b (omega arith) (omega arith)
bounded_wide from to from2 to2 h1 h2 (walked_in e h) = walked_in e (λ j. changed_wide from to from2 to2 h1 h2 (h j))

bounded_then : {from to : ℕ} {rows rows1 : List Row} {w : Walked} → length rows1 ≡ length rows
    → ((j : ℕ) → Changed from to (get_or rows j absent_row) (get_or rows1 j absent_row))
    → Bounded from to rows1 w → Bounded from to rows w
bounded_then e1 h1 (refused_in b h3 h4) = refused_in b h3 h4
bounded_then e1 h1 (walked_in e h) = walked_in (e ∙ e1) (λ j. changed_then (h1 j) (h j))

set_changed : (from to : ℕ) (rows : List Row) (i : ℕ) (v : Row) → RunIn from to v
    → (j : ℕ) → Changed from to (get_or rows j absent_row) (get_or (set rows i v) j absent_row)
set_changed from to rows i v r j = go (ℕ_discrete j i) (dec_le (length rows) i)
  where
    go : Dec (j ≡ i) → Dec (length rows ≤ i) → Changed from to (get_or rows j absent_row) (get_or (set rows i v) j absent_row)
    go (no ne) d = kept (get_or-set_other rows i j v absent_row ne)
    go (yes e) (yes d) = kept (ap (λ (vs : List Row). get_or vs j absent_row) (set_out rows i v d))
    go (yes e) (no d) =
        let z : get_or (set rows i v) j absent_row ≡ v = rw e (get_or-set_same rows i v absent_row (omega arith)) in
        shown (rw z r)

-- ---- the walk

-- a member, its content and what is behind it lie in the level's bytes
record Inside (place : ℕ) (bytes : List ℕ) (p : ℕ) (c : List ℕ) (next : ℕ) (y : List ℕ) : Type 0 where
  low : place ≤ p
  mid : next ≡ p + length c
  top : next + length y ≡ place + length bytes

inside : (width place : ℕ) (bytes : List ℕ) (tag p : ℕ) (c : List ℕ) (next : ℕ) (y : List ℕ) → MemberIs width place bytes tag p c next y
    → Inside place bytes p c next y
inside width place bytes tag p c next y m = record {
  low = omega (arith, m.place_is);
  mid = m.next_is;
  top = omega (arith, m.place_is, m.next_is, m.field_is, ap length m.bytes_are, length-append m.field (c ++ y), length-append c y);
}

pub walk_bounds : (turns width : ℕ) (types : List TypeRow) (l first place : ℕ) (bytes : List ℕ) (rows : List Row) (n : ℕ)
    → Bounded place (place + length bytes) rows (walk turns width types l first place bytes rows n)
unfolding walk end_of
walk_bounds zero width types l first place bytes rows n = refused_in {place = place} refl (omega arith) (omega arith)
walk_bounds (suc turns) width types l first place bytes rows n =
    go refl (step_is width types l first place bytes rows) (λ l2 i q c vs k. walk_bounds turns width types l2 i q c vs k)
  where
    Fits : List Row → Walked → Type 0
    Fits vs w = Bounded place (place + length bytes) vs w

    end : Fits rows (end_of types l first place rows n)
    end = pick_all (Fits rows) (lacks l (drop first types) (drop first rows))
        (refused_in {place = place} refl (omega arith) (omega arith)) (walked_in refl (λ j. kept refl))

    go : {s : Step} → step_of width types l first place bytes rows ≡ s → StepIs width types l first place bytes rows s
        → ((l2 i q : ℕ) (c : List ℕ) (vs : List Row) (k : ℕ) → Bounded q (q + length c) vs (walk turns width types l2 i q c vs k))
        → Fits rows (walk (suc turns) width types l first place bytes rows n)
    go es (is_refuse {v = v} {p = q} b h1 h2) ih = rw (walk_refuse turns width types l first place bytes rows n v q es) (refused_in b h1 h2)
    go es (is_finish eb) ih = rw (walk_finish turns width types l first place bytes rows n es) end
    go es (is_skip {next = next} {y = y} tag p c m none_is) ih =
        let i = inside width place bytes tag p c next y m in
        rw (walk_skip turns width types l first place bytes rows n next y es)
        (bounded_wide next (next + length y) place (place + length bytes) (omega arith) (omega arith) (ih l first next y rows (suc n)))
    go es (is_leaf {next = next} {y = y} tag p k c m ek wf ab s fits) ih =
        let i = inside width place bytes tag p c next y m in
        let v : Row = shown_of (row_at types (first + k)) p c in
        rw (walk_leaf turns width types l first place bytes rows n (first + k) v next y es)
        (bounded_then (length-set rows (first + k) v)
        (λ j. changed_wide p (p + length c) place (place + length bytes) (omega arith) (omega arith)
        (set_changed p (p + length c) rows (first + k) v (shown_in (row_at types (first + k)) p c fits) j))
        (bounded_wide next (next + length y) place (place + length bytes) (omega arith) (omega arith) (ih l first next y (set rows (first + k) v) n)))
    go es (is_enter {p = p} {next = next} {c = c} {y = y} tag k m ek wf ab s) ih =
        let i = inside width place bytes tag p c next y m in
        inner i (walk turns width types (suc l) (suc (first + k)) p c (set rows (first + k) members_row) n) refl
        (bounded_then (length-set rows (first + k) members_row)
        (set_changed place (place + length bytes) rows (first + k) members_row (run_no place (place + length bytes) members_row members_no))
        (bounded_wide p (p + length c) place (place + length bytes) (omega arith) (omega arith)
        (ih (suc l) (suc (first + k)) p c (set rows (first + k) members_row) n)))
      where
        inner : Inside place bytes p c next y
            → (w : Walked) → walk turns width types (suc l) (suc (first + k)) p c (set rows (first + k) members_row) n ≡ w
            → Fits rows (walk turns width types (suc l) (suc (first + k)) p c (set rows (first + k) members_row) n)
            → Fits rows (walk (suc turns) width types l first place bytes rows n)
        inner i (refused v q) z b =
            rw (walk_out turns width types l first place bytes rows n (first + k) p c next y es v q z) (rw z at b)
        inner i (walked rows1 n1) z b = after (rw z at b)
          where
            after : Fits rows (walked rows1 n1) → Fits rows (walk (suc turns) width types l first place bytes rows n)
            after (walked_in e h) =
                rw (walk_in_lem turns width types l first place bytes rows n (first + k) p c next y es rows1 n1 z)
                (bounded_then e h
                (bounded_wide next (next + length y) place (place + length bytes) (omega arith) (omega arith) (ih l first next y rows1 n1)))

-- ---- a payload

pub absent_run : (to : ℕ) → RunIn 0 to absent_row
absent_run to = run_no 0 to absent_row (λ q len e. let z : ◌≡◌ {A = ℕ} 0 1 = cc in omega arith)

pub payload_bounds : (width : ℕ) (types : List TypeRow) (p : List ℕ)
    → Bounded 0 (length p) (replicate (length types) absent_row) (walked_of width types p)
unfolding walked_of
payload_bounds width types p =
    bounded_wide 0 (0 + length p) 0 (length p) (omega arith) (omega arith)
    (walk_bounds (suc (length p)) width types 1 0 0 p (replicate (length types) absent_row) 0)

module _ (width : ℕ) (types : List TypeRow) (p : List ℕ) where
  -- a run of bytes that an accepted payload's row shows lies in the payload
  pub shown_inside : (rows : List Row) (n : ℕ) → walked_of width types p ≡ walked rows n → (j : ℕ) → RunIn 0 (length p) (get_or rows j absent_row)
  shown_inside rows n e j = go (rw e at (payload_bounds width types p))
    where
      go : Bounded 0 (length p) (replicate (length types) absent_row) (walked rows n) → RunIn 0 (length p) (get_or rows j absent_row)
      go (walked_in s h) = on (h j)
        where
          on : Changed 0 (length p) (get_or (replicate (length types) absent_row) j absent_row) (get_or rows j absent_row)
              → RunIn 0 (length p) (get_or rows j absent_row)
          on (kept k) = rw (k, absent_at (length types) j) (absent_run (length p))
          on (shown r) = r

  -- there are as many rows as the table has
  pub walked_size : (rows : List Row) (n : ℕ) → walked_of width types p ≡ walked rows n → length rows ≡ length types
  walked_size rows n e = go (rw e at (payload_bounds width types p))
    where
      go : Bounded 0 (length p) (replicate (length types) absent_row) (walked rows n) → length rows ≡ length types
      go (walked_in s h) = s ∙ length-replicate (length types) absent_row

  -- a refused payload's verdict is one of 20 to 27, and its place lies in the payload
  pub refused_inside : (v : Verdict) (place : ℕ) → walked_of width types p ≡ refused v place → ByWalk v × (place ≤ length p)
  refused_inside v place e = go (rw e at (payload_bounds width types p))
    where
      go : Bounded 0 (length p) (replicate (length types) absent_row) (refused v place) → ByWalk v × (place ≤ length p)
      go (refused_in b h1 h2) = (b, h2)
