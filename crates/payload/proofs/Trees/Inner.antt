-- An inner level ends where its length says. What stands behind it doesn't come in, and its place only moves what it shows.
-- Assumes nothing.
use mathlib.Core.Path.{◌≡◌, refl, sym, ap, ap₂, ◌∙◌}
use Prim.Native.Nat.{ℕ, zero, suc, ◌+◌, ◌-◌, ◌≤◌}
use native.Mathlib.Omega.{arith}
use native.Mathlib.Nat.{add_assoc, add-zero}
use native.Mathlib.Decide.{ℕ_discrete, dec_le}
use mathlib.Core.Bool.{Bool, true, false}
use mathlib.Core.Option.{Option, none, some}
use mathlib.Core.List.{List, [], ◌∷◌, ◌++◌}
use lib.ListN.{length, take, drop, get_or, set, length-set, length-drop}
use lib.Seq.{get_or-set_same, get_or-set_other, get_or-drop, set_out}
use lib.Dec.{leb, ltb, eqb}
use Rattle.wire.specs.Choose.{pick}
use Rattle.wire.specs.Number.{big, number_of}
use Rattle.wire.specs.Tag.{wire_of, ident_of, fixed_size, field_width}
use Rattle.wire.specs.Kind.{wire_fits, string, array, struct}
use Rattle.wire.specs.declared.verdict.Verdict.TheVariants.{Missing}
use Rattle.payload.specs.declared.table.TypeRow.{TypeRow}
use Rattle.payload.specs.declared.row.Row.{Row}
use Rattle.payload.specs.declared.row.Value.{Value}
use Rattle.payload.specs.declared.row.Value.TheVariants.{Absent, Unsigned, Signed, Float32, Float64, Bytes, Members}
use Rattle.payload.specs.Table.{find, row_at}
use Rattle.payload.specs.Row.{plain, absent_row, members_row, is_absent, number_row, shown_of}
use Rattle.payload.specs.Reading.{
  Body,
  cut,
  content,
  content_of,
  lengthed_of,
  body_of,
  Step,
  refuse,
  finish,
  skip,
  leaf,
  enter,
  unknown,
  content_fits,
  known,
  met,
  step_of,
  Walked,
  refused,
  walked,
  lacks,
  end_of,
  walk,
}
use Rattle.payload.specs.Formed.{content_at}
use Rattle.payload.specs.Bounds.{Entered}
use Rattle.payload.specs.Moved.{move_row, AbsentAlike, Shifted, both_kept, both_set, Alike, alike_refused, alike_walked}
use Rattle.payload.proofs.Trees.Walk.{walk_refuse, walk_finish, walk_skip, walk_leaf, walk_in_lem, walk_out}
use Rattle.payload.proofs.Trees.Frame.{body_says, StepIs, is_enter, step_is}
use Rattle.payload.proofs.Trees.Follow.{met_struct}

-- ---- what stands behind an inner level

module _ (width : ℕ) (types : List TypeRow) (l first place : ℕ) (bytes : List ℕ) (rows : List Row) where
  entered_by : {i p : ℕ} {c : List ℕ} {next : ℕ} {y : List ℕ} → StepIs width types l first place bytes rows (enter i p c next y)
      → Entered width types l first place bytes rows i p c next y
  unfolding step_of
  entered_by (is_enter {p = p} {next = next} {c = c} {y = y} tag k m ek w ab s) = record {
    head = m.high ∷ m.low ∷ m.field;
    bytes_are = m.bytes_are;
    content_at_lem = omega (arith, m.place_is, m.field_is);
    next_at = m.next_is;
    others = λ y2. again y2;
  }
    where
      again : (y2 : List ℕ) → step_of width types l first place (m.high ∷ m.low ∷ (m.field ++ (c ++ y2))) rows ≡ enter (first + k) p c next y2
      again y2 =
          rw (← m.tag_is, body_says width (wire_of tag) (place + 2) m.field c y2 m.field_is m.says, ek)
          (met_struct types first (wire_of tag) place (content_at width tag place) c (content_at width tag place + length c) y2 rows k w ab s
          ∙ ap₂ (λ (a b : ℕ). enter (first + k) a c b y2) (sym m.place_is) (ap (◌+ length c) (sym m.place_is) ∙ sym m.next_is))

  pub entered : (i p : ℕ) (c : List ℕ) (next : ℕ) (y : List ℕ) → step_of width types l first place bytes rows ≡ enter i p c next y
      → Entered width types l first place bytes rows i p c next y
  entered i p c next y e = entered_by (rw e at (step_is width types l first place bytes rows))

-- ---- the same level at a place further on

move_absent : (q : ℕ) (r : Row) → is_absent (move_row q r) ≡ is_absent r
unfolding move_row is_absent
move_absent q r = go r.value
  where
    go : (v : Value) → is_absent (move_row q (plain v)) ≡ is_absent (plain v)
    go Absent = refl
    go (Unsigned n) = refl
    go (Signed z) = refl
    go (Float32 x) = refl
    go (Float64 x) = refl
    go (Bytes place len) = refl
    go Members = refl

-- moving what is picked
move_pick {ℓ ℓ'} : {X : Type ℓ} {Y : Type ℓ'} (f : X → Y) (b : Bool) {u v : X} {u2 v2 : Y} → u2 ≡ f u → v2 ≡ f v → pick b u2 v2 ≡ f (pick b u v)
move_pick f true h h2 = h
move_pick f false h h2 = h2

move_number : (q k v : ℕ) → number_row k v ≡ move_row q (number_row k v)
unfolding number_row move_row
move_number q k v =
    move_pick (move_row q) (eqb k 1) refl
    (move_pick (move_row q) (ltb k 6) refl
    (move_pick (move_row q) (ltb k 10) refl
    (move_pick (move_row q) (eqb k 10) refl refl)))

move_shown : (q : ℕ) (r : TypeRow) (place : ℕ) (c : List ℕ) → shown_of r (q + place) c ≡ move_row q (shown_of r place c)
unfolding shown_of move_row
move_shown q r place c =
    move_pick (move_row q) (ltb r.kind string) (move_number q r.kind (number_of big c))
    (move_pick (move_row q) (eqb r.kind string) (ap (λ (n : ℕ). plain (Bytes n (length c - 4))) (add_assoc q place 3))
    (move_pick (move_row q) (eqb r.kind array) refl refl))

unfoldable move_body : ℕ → Body → Body
move_body q (cut v p) = cut v (q + p)
move_body q (content p c next y) = content (q + p) c (q + next) y

unfoldable move_step : ℕ → Step → Step
move_step q (refuse v p) = refuse v (q + p)
move_step q finish = finish
move_step q (skip next y) = skip (q + next) y
move_step q (leaf i r next y) = leaf i (move_row q r) (q + next) y
move_step q (enter i p c next y) = enter i (q + p) c (q + next) y

content_moved : (q n place : ℕ) (bytes : List ℕ) → content_of n (q + place) bytes ≡ move_body q (content_of n place bytes)
unfolding content_of move_body
content_moved q n place bytes =
    move_pick (move_body q) (leb n (length bytes)) (ap (λ (m : ℕ). content (q + place) (take n bytes) m (drop n bytes)) (add_assoc q place n)) refl

body_moved : (q width wire place : ℕ) (bytes : List ℕ) → body_of width wire (q + place) bytes ≡ move_body q (body_of width wire place bytes)
unfolding body_of lengthed_of move_body
body_moved q width wire place bytes =
    move_pick (move_body q) (ltb wire 4) (content_moved q (fixed_size wire) place bytes)
    (move_pick (move_body q) (leb w (length bytes))
    (ap (λ (m : ℕ). content_of (number_of big (take w bytes)) m (drop w bytes)) (add_assoc q place w)
    ∙ content_moved q (number_of big (take w bytes)) (place + w) (drop w bytes))
    refl)
  where
    w : ℕ
    w = field_width width wire

known_moved : (q i : ℕ) (r : TypeRow) (b : Body) → known i r (move_body q b) ≡ move_step q (known i r b)
unfolding known move_body move_step
known_moved q i r (cut v p) = refl
known_moved q i r (content p c next y) =
    move_pick (move_step q) (eqb r.kind struct) refl
    (move_pick (move_step q) (content_fits r c) (ap (λ (v : Row). leaf i v (q + next) y) (move_shown q r p c)) refl)

lacks_same : (l : ℕ) (rs : List TypeRow) (vs ws : List Row) → length vs ≡ length ws
    → ((j : ℕ) → is_absent (get_or vs j absent_row) ≡ is_absent (get_or ws j absent_row)) → lacks l rs vs ≡ lacks l rs ws
unfolding lacks
lacks_same l [] vs ws e h = refl
lacks_same l (r ∷ rs) [] [] e h = refl
lacks_same l (r ∷ rs) [] (w ∷ ws) e h = absurd (omega arith)
lacks_same l (r ∷ rs) (v ∷ vs) [] e h = absurd (omega arith)
lacks_same l (r ∷ rs) (v ∷ vs) (w ∷ ws) e h =
    let z : is_absent v ≡ is_absent w = h 0 in
    rw (z, lacks_same l rs vs ws (omega arith) (λ j. h (suc j)))

module _ (q : ℕ) (types : List TypeRow) (rows moved : List Row) (a : AbsentAlike rows moved) where
  met_moved : (first wire place : ℕ) (b : Body) (o : Option ℕ)
      → met types first wire (q + place) (move_body q b) moved o ≡ move_step q (met types first wire place b rows o)
  unfolding met unknown move_body move_step
  met_moved first wire place (cut v p) none = refl
  met_moved first wire place (content p c next y) none = refl
  met_moved first wire place b (some k) =
      rw (a.absent (first + k))
      (move_pick (move_step q) (wire_fits (row_at types (first + k)).kind wire)
      (move_pick (move_step q) (is_absent (get_or rows (first + k) absent_row)) (known_moved q (first + k) (row_at types (first + k)) b) refl)
      refl)

  step_moved : (width l first place : ℕ) (bytes : List ℕ)
      → step_of width types l first (q + place) bytes moved ≡ move_step q (step_of width types l first place bytes rows)
  unfolding step_of move_step
  step_moved width l first place [] = refl
  step_moved width l first place (x ∷ []) = refl
  step_moved width l first place (x ∷ y ∷ bytes) =
      let tag : ℕ = number_of big (x ∷ y ∷ []) in
      rw (add_assoc q place 2, body_moved q width (wire_of tag) (place + 2) bytes)
      (met_moved first (wire_of tag) place (body_of width (wire_of tag) (place + 2) bytes) (find l (ident_of tag) (drop first types)))

  lacks_moved : (l first : ℕ) → lacks l (drop first types) (drop first moved) ≡ lacks l (drop first types) (drop first rows)
  lacks_moved l first =
      lacks_same l (drop first types) (drop first moved) (drop first rows)
      (omega (arith, length-drop first moved, length-drop first rows, a.size))
      (λ j. rw (get_or-drop first moved j absent_row, get_or-drop first rows j absent_row) (a.absent (first + j)))

-- what the two walks have set so far
record Shift (q : ℕ) (rows rows2 moved moved2 : List Row) : Type 0 where
  size : length rows2 ≡ length rows
  size2 : length moved2 ≡ length moved
  each : (j : ℕ) → Shifted q (get_or rows j absent_row) (get_or rows2 j absent_row) (get_or moved j absent_row) (get_or moved2 j absent_row)

shifted_then : {q : ℕ} {a a1 a2 b b1 b2 : Row} → Shifted q a a1 b b1 → Shifted q a1 a2 b1 b2 → Shifted q a a2 b b2
shifted_then h (both_set e) = both_set e
shifted_then (both_kept e f) (both_kept e2 f2) = both_kept (e2 ∙ e) (f2 ∙ f)
shifted_then {q} (both_set e) (both_kept e2 f2) = both_set (f2 ∙ e ∙ ap (move_row q) (sym e2))

alike_then : {q : ℕ} {rows rows1 moved moved1 : List Row} {w w2 : Walked} → Shift q rows rows1 moved moved1 → Alike q rows1 moved1 w w2
    → Alike q rows moved w w2
alike_then s alike_refused = alike_refused
alike_then s (alike_walked e e2 h) = alike_walked (e ∙ s.size) (e2 ∙ s.size2) (λ j. shifted_then (s.each j) (h j))

level_shift : (q : ℕ) (rows rows1 moved moved1 : List Row) → AbsentAlike rows moved → Shift q rows rows1 moved moved1 → AbsentAlike rows1 moved1
level_shift q rows rows1 moved moved1 a s = record {
  size = s.size2 ∙ a.size ∙ sym s.size;
  absent = λ j. go j (s.each j);
}
  where
    go : (j : ℕ) → Shifted q (get_or rows j absent_row) (get_or rows1 j absent_row) (get_or moved j absent_row) (get_or moved1 j absent_row)
        → is_absent (get_or moved1 j absent_row) ≡ is_absent (get_or rows1 j absent_row)
    go j (both_kept e f) = rw (e, f) (a.absent j)
    go j (both_set e) = rw e (move_absent q (get_or rows1 j absent_row))

shift_set : (q : ℕ) (rows moved : List Row) → AbsentAlike rows moved → (i : ℕ) (v : Row) → Shift q rows (set rows i v) moved (set moved i (move_row q v))
shift_set q rows moved a i v = record {
  size = length-set rows i v;
  size2 = length-set moved i (move_row q v);
  each = λ j. go j (ℕ_discrete j i) (dec_le (length rows) i);
}
  where
    go : (j : ℕ) → Dec (j ≡ i) → Dec (length rows ≤ i)
        → Shifted q (get_or rows j absent_row) (get_or (set rows i v) j absent_row) (get_or moved j absent_row) (get_or (set moved i (move_row q v)) j absent_row)
    go j (no ne) d = both_kept (get_or-set_other rows i j v absent_row ne) (get_or-set_other moved i j (move_row q v) absent_row ne)
    go j (yes e) (yes d) =
        both_kept (ap (λ (vs : List Row). get_or vs j absent_row) (set_out rows i v d))
        (ap (λ (vs : List Row). get_or vs j absent_row) (set_out moved i (move_row q v) (omega (arith, a.size))))
    go j (yes e) (no d) =
        both_set (rw (e, get_or-set_same rows i v absent_row (omega arith), get_or-set_same moved i (move_row q v) absent_row (omega (arith, a.size))))

members_moved : (q : ℕ) → move_row q members_row ≡ members_row
unfolding move_row
members_moved q = refl

end_moved : (q : ℕ) (types : List TypeRow) (l first place : ℕ) (rows moved : List Row) (n : ℕ) → AbsentAlike rows moved
    → Alike q rows moved (end_of types l first place rows n) (end_of types l first (q + place) moved n)
unfolding end_of
end_moved q types l first place rows moved n a =
    rw (lacks_moved q types rows moved a l first) (go (lacks l (drop first types) (drop first rows)))
  where
    go : (b : Bool) → Alike q rows moved (pick b (refused Missing place) (walked rows n)) (pick b (refused Missing (q + place)) (walked moved n))
    go true = alike_refused
    go false = alike_walked refl refl (λ j. both_kept refl refl)

pub walk_moved : (q turns width : ℕ) (types : List TypeRow) (l first place : ℕ) (bytes : List ℕ) (rows moved : List Row) (n : ℕ) → AbsentAlike rows moved
    → Alike q rows moved (walk turns width types l first place bytes rows n) (walk turns width types l first (q + place) bytes moved n)
unfolding walk move_step
walk_moved q zero width types l first place bytes rows moved n a = alike_refused
walk_moved q (suc turns) width types l first place bytes rows moved n a =
    go (step_of width types l first place bytes rows) refl
    (step_moved q types rows moved a width l first place bytes)
    (λ l2 i p c vs ws k h. walk_moved q turns width types l2 i p c vs ws k h)
  where
    Is : Walked → Walked → Type 0
    Is w w2 = Alike q rows moved w w2

    go : (s : Step) → step_of width types l first place bytes rows ≡ s
        → step_of width types l first (q + place) bytes moved ≡ move_step q (step_of width types l first place bytes rows)
        → ((l2 i p : ℕ) (c : List ℕ) (vs ws : List Row) (k : ℕ) → AbsentAlike vs ws
        → Alike q vs ws (walk turns width types l2 i p c vs k) (walk turns width types l2 i (q + p) c ws k))
        → Is (walk (suc turns) width types l first place bytes rows n) (walk (suc turns) width types l first (q + place) bytes moved n)
    go (refuse v p) e m ih =
        rw (
          walk_refuse turns width types l first place bytes rows n v p e,
          walk_refuse turns width types l first (q + place) bytes moved n v (q + p) (m ∙ ap (move_step q) e),
        )
        alike_refused
    go finish e m ih =
        rw (
          walk_finish turns width types l first place bytes rows n e,
          walk_finish turns width types l first (q + place) bytes moved n (m ∙ ap (move_step q) e),
        )
        (end_moved q types l first place rows moved n a)
    go (skip next y) e m ih =
        rw (
          walk_skip turns width types l first place bytes rows n next y e,
          walk_skip turns width types l first (q + place) bytes moved n (q + next) y (m ∙ ap (move_step q) e),
        )
        (ih l first next y rows moved (suc n) a)
    go (leaf i r next y) e m ih =
        let s = shift_set q rows moved a i r in
        rw (
          walk_leaf turns width types l first place bytes rows n i r next y e,
          walk_leaf turns width types l first (q + place) bytes moved n i (move_row q r) (q + next) y (m ∙ ap (move_step q) e),
        )
        (alike_then s (ih l first next y (set rows i r) (set moved i (move_row q r)) n
        (level_shift q rows (set rows i r) moved (set moved i (move_row q r)) a s)))
    go (enter i p c next y) e m ih =
        let s : Shift q rows (set rows i members_row) moved (set moved i members_row) = rw (members_moved q) at (shift_set q rows moved a i members_row) in
        inner s refl refl
        (ih (suc l) (suc i) p c (set rows i members_row) (set moved i members_row) n
        (level_shift q rows (set rows i members_row) moved (set moved i members_row) a s))
      where
        inner : {w w2 : Walked} → Shift q rows (set rows i members_row) moved (set moved i members_row)
            → walk turns width types (suc l) (suc i) p c (set rows i members_row) n ≡ w
            → walk turns width types (suc l) (suc i) (q + p) c (set moved i members_row) n ≡ w2
            → Alike q (set rows i members_row) (set moved i members_row) w w2
            → Is (walk (suc turns) width types l first place bytes rows n) (walk (suc turns) width types l first (q + place) bytes moved n)
        inner s z z2 (alike_refused {v = v} {p = p2}) =
            rw (
              walk_out turns width types l first place bytes rows n i p c next y e v p2 z,
              walk_out turns width types l first (q + place) bytes moved n i (q + p) c (q + next) y (m ∙ ap (move_step q) e) v (q + p2) z2,
            )
            alike_refused
        inner s z z2 (alike_walked {rows2 = rows2} {moved2 = moved2} {n = n2} h h2 each2) =
            let s2 : Shift q (set rows i members_row) rows2 (set moved i members_row) moved2 = record { size = h; size2 = h2; each = each2 } in
            rw (
              walk_in_lem turns width types l first place bytes rows n i p c next y e rows2 n2 z,
              walk_in_lem turns width types l first (q + place) bytes moved n i (q + p) c (q + next) y (m ∙ ap (move_step q) e) moved2 n2 z2,
            )
            (alike_then s (alike_then s2 (ih l first next y rows2 moved2 n2
            (level_shift q (set rows i members_row) rows2 (set moved i members_row) moved2
            (level_shift q rows (set rows i members_row) moved (set moved i members_row) a s) s2))))

-- the same bytes and rows at place q, against place 0
pub walk_at : (q turns width : ℕ) (types : List TypeRow) (l first : ℕ) (bytes : List ℕ) (rows : List Row) (n : ℕ)
    → Alike q rows rows (walk turns width types l first 0 bytes rows n) (walk turns width types l first q bytes rows n)
walk_at q turns width types l first bytes rows n =
    rw (add-zero q) at (walk_moved q turns width types l first 0 bytes rows rows n (record { size = refl; absent = λ j. refl }))
