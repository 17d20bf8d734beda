-- A member's bytes: the step at a member that was written whole, and what a step says of the bytes it was taken on.
-- Assumes nothing.
use mathlib.Core.Path.{◌≡◌, refl, sym, ap, ◌∙◌}
use Prim.Native.Nat.{ℕ, ◌+◌, ◌/◌, ◌%◌, ◌^◌, ◌≤◌}
use native.Mathlib.Nat.{add-zero}
use native.Mathlib.Omega.{arith}
use mathlib.Core.Bool.{Bool, true, false}
use mathlib.Core.Option.{Option, none, some}
use mathlib.Core.List.{List, [], ◌∷◌, ◌++◌, append_assoc}
use lib.ListN.{length, take, drop, get_or, length-append, take-append-drop}
use lib.Seq.{take_at, drop_at, length-take-le}
use lib.Dec.{leb, ltb, eqb}
use borrow.Author.Tests.{le-leb, leb-true, ltb-true, lt-ltb, eqb-true, eq-eqb}
use Rattle.wire.specs.Choose.{pick}
use Rattle.wire.specs.Number.{AreBytes, big, number_of, number_bytes}
use Rattle.wire.specs.Tag.{wire_of, fixed_size, field_width}
use Rattle.wire.specs.Kind.{wire_fits, array, struct}
use Rattle.wire.specs.declared.verdict.Verdict.{Verdict}
use Rattle.wire.specs.declared.verdict.Verdict.TheVariants.{Wire, Twice, FieldCut, Overrun, Array, Text}
use Rattle.payload.specs.declared.table.TypeRow.{TypeRow}
use Rattle.payload.specs.declared.row.Row.{Row}
use Rattle.payload.specs.Table.{row_at}
use Rattle.payload.specs.Row.{absent_row, is_absent, shown_of}
use Rattle.payload.specs.Reading.{
  Body,
  cut,
  content,
  content_of,
  lengthed_of,
  body_of,
  Step,
  refuse,
  finish,
  skip,
  leaf,
  enter,
  unknown,
  content_fits,
  known,
  met,
  step_of,
}
use Rattle.payload.specs.Tree.{field_bytes, member_bytes}
use Rattle.payload.specs.Formed.{row_for, field_size, content_at, length_fits, Framed}
use Rattle.payload.specs.Bounds.{ByWalk}
use Rattle.payload.proofs.Trees.Walk.{pick_all}
use Rattle.wire.proofs.NumberLaws.{length_number_bytes, number_back, number_below, bytes_back, bytes_left, bytes_right}

-- ---- a member that was written whole

pub length_field : (width wire n : ℕ) → length (field_bytes width wire n) ≡ field_size width wire
unfolding field_bytes field_size
length_field width wire n =
    elim (ltb wire 4) as (λ b. length (pick b [] (number_bytes big (field_width width wire) n)) ≡ pick b 0 (field_width width wire))
    [ true ↦ refl | false ↦ length_number_bytes (field_width width wire) n ]

pub length_member : (width tag : ℕ) (c : List ℕ) → length (member_bytes width tag c) ≡ 2 + field_size width (wire_of tag) + length c
unfolding member_bytes
length_member width tag c =
    rw (
      length-append (number_bytes big 2 tag) (field_bytes width (wire_of tag) (length c) ++ c),
      length_number_bytes 2 tag,
      length-append (field_bytes width (wire_of tag) (length c)) c,
      length_field width (wire_of tag) (length c),
    )
    (omega arith)

content_at_lem : (n place : ℕ) (c y : List ℕ) → length c ≡ n → content_of n place (c ++ y) ≡ content place c (place + n) y
unfolding content_of
content_at_lem n place c y h =
    rw (length-append c y, le-leb n (length c + length y) (omega arith), take_at c y n h, drop_at c y n h)

-- the length that a length field says, or a wire type that has none
unfoldable pub Says : ℕ → ℕ → ℕ → Type 0
Says wire said n = pick (ltb wire 4) (n ≡ fixed_size wire) (said ≡ n)

empty : (xs : List ℕ) → length xs ≡ 0 → xs ≡ []
empty [] e = refl
empty (x ∷ xs) e = absurd (omega arith)

lengthed_at : (w place : ℕ) (field c y : List ℕ) → length field ≡ w → number_of big field ≡ length c
    → lengthed_of w place (field ++ (c ++ y)) ≡ content (place + w) c (place + w + length c) y
unfolding lengthed_of
lengthed_at w place field c y lw said =
    rw (
      length-append field (c ++ y),
      lw,
      le-leb w (w + length (c ++ y)) (omega arith),
      take_at field (c ++ y) w lw,
      drop_at field (c ++ y) w lw,
      said,
    )
    (content_at_lem (length c) (place + w) c y refl)

-- a field that says the content's length, then the content
pub body_says : (width wire place : ℕ) (field c y : List ℕ) → length field ≡ field_size width wire → Says wire (number_of big field) (length c)
    → body_of width wire place (field ++ (c ++ y)) ≡ content (place + field_size width wire) c (place + field_size width wire + length c) y
unfolding body_of field_size Says
body_says width wire place field c y =
    elim (ltb wire 4) as (λ b.
    length field ≡ pick b 0 (field_width width wire) → pick b (length c ≡ fixed_size wire) (number_of big field ≡ length c)
    → pick b (content_of (fixed_size wire) place (field ++ (c ++ y))) (lengthed_of (field_width width wire) place (field ++ (c ++ y)))
    ≡ content (place + pick b 0 (field_width width wire)) c (place + pick b 0 (field_width width wire) + length c) y) [
      | true ↦ λ h e. rw (empty field h, add-zero place, e) (content_at_lem (fixed_size wire) place c y e)
      | false ↦ λ h e. lengthed_at (field_width width wire) place field c y h e
    ]

field_says : (width wire n : ℕ) → length_fits width wire n ≡ true → Says wire (number_of big (field_bytes width wire n)) n
unfolding length_fits field_bytes Says
field_says width wire n =
    elim (ltb wire 4) as (λ b.
    pick b (eqb n (fixed_size wire)) (ltb n (256 ^ field_width width wire)) ≡ true
    → pick b (n ≡ fixed_size wire) (number_of big (pick b [] (number_bytes big (field_width width wire) n)) ≡ n)) [
      | true ↦ λ h. eqb-true n (fixed_size wire) h
      | false ↦ λ h. number_back (field_width width wire) n (ltb-true n (256 ^ field_width width wire) h)
    ]

pub body_at : (width wire place : ℕ) (c y : List ℕ) → length_fits width wire (length c) ≡ true
    → body_of width wire place ((field_bytes width wire (length c) ++ c) ++ y)
    ≡ content (place + field_size width wire) c (place + field_size width wire + length c) y
body_at width wire place c y h =
    rw (append_assoc (field_bytes width wire (length c)) c y)
    (body_says width wire place (field_bytes width wire (length c)) c y (length_field width wire (length c)) (field_says width wire (length c) h))

-- the step is at the member's own tag, content and row; what stands behind it is left over
pub step_member : (width : ℕ) (types : List TypeRow) (l first place tag : ℕ) (c y : List ℕ) (rows : List Row) → Framed width tag c
    → step_of width types l first place (member_bytes width tag c ++ y) rows
    ≡ met types first (wire_of tag) place (content (content_at width tag place) c (content_at width tag place + length c) y) rows
    (row_for types l first tag)
unfolding step_of member_bytes number_bytes
step_member width types l first place tag c y rows f =
    let e : number_of big (tag / 256 ^ 1 % 256 ∷ tag / 256 ^ 0 % 256 ∷ []) ≡ tag = number_back 2 tag f.tag_fits in
    rw (e, body_at width (wire_of tag) (place + 2) c y f.length_fits_lem)

-- ---- what a step says of its bytes

data BodyIs (width wire place : ℕ) (bytes : List ℕ) : Body → Type 0 where
  is_cut : {v : Verdict} {p : ℕ} → ByWalk v → place ≤ p → p ≤ place + length bytes → BodyIs width wire place bytes (cut v p)
  is_content : {p next : ℕ} {c y : List ℕ} (field : List ℕ) → bytes ≡ field ++ (c ++ y) → length field ≡ field_size width wire
      → Says wire (number_of big field) (length c) → p ≡ place + field_size width wire → next ≡ p + length c
      → BodyIs width wire place bytes (content p c next y)

module _ (width wire : ℕ) where
  field_no : ltb wire 4 ≡ true → field_size width wire ≡ 0
  unfolding field_size
  field_no t = rw t

  field_some : ltb wire 4 ≡ false → field_size width wire ≡ field_width width wire
  unfolding field_size
  field_some t = rw t

says_no : (wire said : ℕ) → ltb wire 4 ≡ true → Says wire said (fixed_size wire)
unfolding Says
says_no wire said t = rw t refl

says_some : (wire said : ℕ) → ltb wire 4 ≡ false → Says wire said said
unfolding Says
says_some wire said t = rw t refl

module _ (width wire place : ℕ) (bytes : List ℕ) where
  content_is : (n : ℕ) (field more : List ℕ) → bytes ≡ field ++ more → length field ≡ field_size width wire
      → Says wire (number_of big field) n → BodyIs width wire place bytes (content_of n (place + field_size width wire) more)
  unfolding content_of
  content_is n field more e h says = go (leb n (length more)) refl
    where
      go : (b : Bool) → leb n (length more) ≡ b
          → BodyIs width wire place bytes
          (pick b (content (place + field_size width wire) (take n more) (place + field_size width wire + n) (drop n more))
          (cut Overrun (place + field_size width wire)))
      go true t =
          let len : length (take n more) ≡ n = length-take-le n more (leb-true n (length more) t) in
          is_content {c = take n more} {y = drop n more} field (e ∙ ap (field ++◌) (sym (take-append-drop n more))) h (rw len says) refl
          (ap (place + field_size width wire +◌) (sym len))
      go false t = is_cut {p = place + field_size width wire} refl (omega arith) (omega (arith, ap length e, length-append field more))

  body_is : BodyIs width wire place bytes (body_of width wire place bytes)
  unfolding body_of lengthed_of
  body_is = go (ltb wire 4) refl
    where
      w : ℕ
      w = field_width width wire

      go : (b : Bool) → ltb wire 4 ≡ b
          → BodyIs width wire place bytes
          (pick b (content_of (fixed_size wire) place bytes)
          (pick (leb (field_width width wire) (length bytes))
          (content_of (number_of big (take (field_width width wire) bytes)) (place + field_width width wire) (drop (field_width width wire) bytes))
          (cut FieldCut place)))
      go true t =
          let z : place + field_size width wire ≡ place = ap (place +◌) (field_no width wire t) ∙ add-zero place in
          rw z at (content_is (fixed_size wire) [] bytes refl (sym (field_no width wire t)) (says_no wire (number_of big []) t))
      go false t = some_field (leb w (length bytes)) refl
        where
          some_field : (b : Bool) → leb w (length bytes) ≡ b
              → BodyIs width wire place bytes
              (pick b (content_of (number_of big (take w bytes)) (place + w) (drop w bytes)) (cut FieldCut place))
          some_field true t2 =
              let z : place + field_size width wire ≡ place + w = ap (place +◌) (field_some width wire t) in
              rw z at (content_is (number_of big (take w bytes)) (take w bytes) (drop w bytes) (sym (take-append-drop w bytes))
              (length-take-le w bytes (leb-true w (length bytes) t2) ∙ sym (field_some width wire t)) (says_some wire (number_of big (take w bytes)) t))
          some_field false t2 = is_cut {p = place} refl (omega arith) (omega arith)

-- the member that a step was taken on: its tag, its content with its place, and the bytes behind it with theirs
pub record MemberIs (width place : ℕ) (bytes : List ℕ) (tag p : ℕ) (c : List ℕ) (next : ℕ) (y : List ℕ) : Type 0 where
  pub high : ℕ
  pub low : ℕ
  pub field : List ℕ
  pub bytes_are : bytes ≡ high ∷ low ∷ (field ++ (c ++ y))
  pub tag_is : tag ≡ number_of big (high ∷ low ∷ [])
  pub field_is : length field ≡ field_size width (wire_of tag)
  pub says : Says (wire_of tag) (number_of big field) (length c)
  pub place_is : p ≡ content_at width tag place
  pub next_is : next ≡ p + length c

-- what a step found
pub data StepIs (width : ℕ) (types : List TypeRow) (l first place : ℕ) (bytes : List ℕ) (rows : List Row) : Step → Type 0 where
  is_refuse : {v : Verdict} {p : ℕ} → ByWalk v → place ≤ p → p ≤ place + length bytes
      → StepIs width types l first place bytes rows (refuse v p)
  is_finish : bytes ≡ [] → StepIs width types l first place bytes rows finish
  is_skip : {next : ℕ} {y : List ℕ} (tag p : ℕ) (c : List ℕ) → MemberIs width place bytes tag p c next y
      → row_for types l first tag ≡ none
      → StepIs width types l first place bytes rows (skip next y)
  is_leaf : {next : ℕ} {y : List ℕ} (tag p k : ℕ) (c : List ℕ) → MemberIs width place bytes tag p c next y
      → row_for types l first tag ≡ some k
      → wire_fits (row_at types (first + k)).kind (wire_of tag) ≡ true
      → is_absent (get_or rows (first + k) absent_row) ≡ true
      → eqb (row_at types (first + k)).kind struct ≡ false
      → content_fits (row_at types (first + k)) c ≡ true
      → StepIs width types l first place bytes rows (leaf (first + k) (shown_of (row_at types (first + k)) p c) next y)
  is_enter : {p next : ℕ} {c y : List ℕ} (tag k : ℕ) → MemberIs width place bytes tag p c next y
      → row_for types l first tag ≡ some k
      → wire_fits (row_at types (first + k)).kind (wire_of tag) ≡ true
      → is_absent (get_or rows (first + k) absent_row) ≡ true
      → eqb (row_at types (first + k)).kind struct ≡ true
      → StepIs width types l first place bytes rows (enter (first + k) p c next y)

module _ (width : ℕ) (types : List TypeRow) (l first place a b : ℕ) (bytes : List ℕ) (rows : List Row) where
  abbrev tag2 : ℕ
  tag2 = number_of big (a ∷ b ∷ [])

  abbrev Is : Step → Type 0
  Is s = StepIs width types l first place (a ∷ b ∷ bytes) rows s

  at_member : {p next : ℕ} {c y : List ℕ} → BodyIs width (wire_of tag2) (place + 2) bytes (content p c next y)
      → MemberIs width place (a ∷ b ∷ bytes) tag2 p c next y
  at_member (is_content field e h says q r) = record {
    high = a;
    low = b;
    field = field;
    bytes_are = ap (λ (xs : List ℕ). a ∷ b ∷ xs) e;
    tag_is = refl;
    field_is = h;
    says = says;
    place_is = q;
    next_is = r;
  }

  at_cut : {v : Verdict} {p : ℕ} → BodyIs width (wire_of tag2) (place + 2) bytes (cut v p) → Is (refuse v p)
  at_cut (is_cut {p = p} v h1 h2) = is_refuse {p = p} v (omega arith) (omega arith)

  known_is : (k : ℕ) → row_for types l first tag2 ≡ some k
      → wire_fits (row_at types (first + k)).kind (wire_of tag2) ≡ true
      → is_absent (get_or rows (first + k) absent_row) ≡ true
      → (body : Body) → BodyIs width (wire_of tag2) (place + 2) bytes body → Is (known (first + k) (row_at types (first + k)) body)
  unfolding known
  known_is k e w ab (cut v p) h = at_cut h
  known_is k e w ab (content p c next y) h =
      go (eqb (row_at types (first + k)).kind struct) (content_fits (row_at types (first + k)) c) refl refl
    where
      m : MemberIs width place (a ∷ b ∷ bytes) tag2 p c next y
      m = at_member h

      near : p ≤ place + length (a ∷ b ∷ bytes)
      near = omega (arith, m.place_is, m.field_is, ap length m.bytes_are, length-append m.field (c ++ y))

      go : (s f : Bool) → eqb (row_at types (first + k)).kind struct ≡ s → content_fits (row_at types (first + k)) c ≡ f
          → Is (pick s (enter (first + k) p c next y)
          (pick f (leaf (first + k) (shown_of (row_at types (first + k)) p c) next y)
          (refuse (pick (eqb (row_at types (first + k)).kind array) Array Text) p)))
      go true f es ef = is_enter tag2 k m e w ab es
      go false true es ef = is_leaf tag2 p k c m e w ab es ef
      go false false es ef =
          is_refuse {p = p} (pick_all (λ (v : Verdict). ByWalk v) (eqb (row_at types (first + k)).kind array) refl refl)
          (omega (arith, m.place_is)) near

  met_is : (body : Body) → BodyIs width (wire_of tag2) (place + 2) bytes body → (o : Option ℕ) → row_for types l first tag2 ≡ o
      → Is (met types first (wire_of tag2) place body rows o)
  unfolding met unknown
  met_is (cut v p) h none e = at_cut h
  met_is (content p c next y) h none e = is_skip tag2 p c (at_member h) e
  met_is body h (some k) e =
      go (wire_fits (row_at types (first + k)).kind (wire_of tag2)) (is_absent (get_or rows (first + k) absent_row)) refl refl
    where
      go : (w ab : Bool) → wire_fits (row_at types (first + k)).kind (wire_of tag2) ≡ w → is_absent (get_or rows (first + k) absent_row) ≡ ab
          → Is (pick w (pick ab (known (first + k) (row_at types (first + k)) body) (refuse Twice place)) (refuse Wire place))
      go true true ew ea = known_is k e ew ea body h
      go true false ew ea = is_refuse {p = place} refl (omega arith) (omega arith)
      go false ab ew ea = is_refuse {p = place} refl (omega arith) (omega arith)

pub step_is : (width : ℕ) (types : List TypeRow) (l first place : ℕ) (bytes : List ℕ) (rows : List Row)
    → StepIs width types l first place bytes rows (step_of width types l first place bytes rows)
unfolding step_of
step_is width types l first place [] rows = is_finish refl
step_is width types l first place (a ∷ []) rows = is_refuse {p = place} refl (omega arith) (omega arith)
step_is width types l first place (a ∷ b ∷ bytes) rows =
    met_is width types l first place a b bytes rows _ (body_is width (wire_of (number_of big (a ∷ b ∷ []))) (place + 2) bytes)
    _ refl

-- ---- a member read from bytes was written whole

pub record Written (width : ℕ) (bytes : List ℕ) (tag : ℕ) (c y : List ℕ) : Type 0 where
  pub bytes_are : bytes ≡ member_bytes width tag c ++ y
  pub framed : Framed width tag c
  pub c_bytes : AreBytes c
  pub y_bytes : AreBytes y

-- a field that says a length is that length, written
field_written : (width wire : ℕ) (field : List ℕ) (n : ℕ) → AreBytes field → length field ≡ field_size width wire
    → Says wire (number_of big field) n → (field_bytes width wire n ≡ field) × (length_fits width wire n ≡ true)
unfolding field_bytes length_fits field_size Says
field_written width wire field n h =
    elim (ltb wire 4) as (λ b.
    length field ≡ pick b 0 (field_width width wire) → pick b (n ≡ fixed_size wire) (number_of big field ≡ n)
    → (pick b [] (number_bytes big (field_width width wire) n) ≡ field)
    × (pick b (eqb n (fixed_size wire)) (ltb n (256 ^ field_width width wire)) ≡ true)) [
      | true ↦ λ e s. (sym (empty field e), eq-eqb n (fixed_size wire) s)
      | false ↦ λ e s. (
        rw (← s, ← e) (bytes_back field h),
        rw (← s, ← e) (lt-ltb (number_of big field) (256 ^ length field) (number_below field h)),
      )
    ]

pub member_written : (width place : ℕ) (bytes : List ℕ) (tag p : ℕ) (c : List ℕ) (next : ℕ) (y : List ℕ)
    → MemberIs width place bytes tag p c next y → AreBytes bytes → Written width bytes tag c y
unfolding member_bytes
member_written width place bytes tag p c next y m h =
    let a : ℕ = m.high in
    let b : ℕ = m.low in
    let all : AreBytes (a ∷ b ∷ (m.field ++ (c ++ y))) = rw m.bytes_are at h in
    let two : AreBytes (a ∷ b ∷ []) = bytes_left (a ∷ b ∷ []) (m.field ++ (c ++ y)) all in
    let rest : AreBytes (m.field ++ (c ++ y)) = bytes_right (a ∷ b ∷ []) (m.field ++ (c ++ y)) all in
    let behind : AreBytes (c ++ y) = bytes_right m.field (c ++ y) rest in
    let w = field_written width (wire_of tag) m.field (length c) (bytes_left m.field (c ++ y) rest) m.field_is m.says in
    let t : number_bytes big 2 tag ≡ a ∷ b ∷ [] = rw m.tag_is (bytes_back (a ∷ b ∷ []) two) in
    record {
      bytes_are = m.bytes_are ∙ rw (t, w.0, append_assoc m.field c y);
      framed = record { tag_fits = rw m.tag_is (number_below (a ∷ b ∷ []) two); length_fits_lem = w.1 };
      c_bytes = bytes_left c y behind;
      y_bytes = bytes_right c y behind;
    }
