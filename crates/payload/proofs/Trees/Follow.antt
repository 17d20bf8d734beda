-- The walk follows a tree: it accepts bytes exactly when they are the bytes of a tree whose members meet the rows as the walk finds them.
-- What the rows say of the tree itself is in TreeLaws.
-- Assumes nothing.
use mathlib.Core.Path.{◌≡◌, refl, sym, ap, ◌∙◌, subst}
use Prim.Native.Nat.{ℕ, zero, suc, ◌+◌, ◌<◌}
use native.Mathlib.Omega.{arith}
use mathlib.Core.Bool.{Bool, true, false}
use mathlib.Core.Option.{none, some}
use mathlib.Core.List.{List, [], ◌++◌}
use lib.ListN.{length, drop, get_or, set, length-append}
use lib.Dec.{eqb}
use Rattle.wire.specs.Choose.{pick}
use Rattle.wire.specs.Tag.{wire_of}
use Rattle.wire.specs.Kind.{wire_fits, struct}
use Rattle.wire.specs.declared.verdict.Verdict.{Verdict}
use Rattle.wire.specs.declared.verdict.Verdict.TheVariants.{Missing}
use Rattle.payload.specs.declared.table.TypeRow.{TypeRow}
use Rattle.payload.specs.declared.row.Row.{Row}
use Rattle.payload.specs.Table.{row_at}
use Rattle.payload.specs.Row.{absent_row, members_row, is_absent, shown_of}
use Rattle.payload.specs.Reading.{content, Step, finish, skip, leaf, enter, unknown, content_fits, known, met, step_of, Walked, refused, walked, lacks, end_of, walk}
use Rattle.payload.specs.Tree.{Members, stop, mem, member_bytes, bytes_of}
use Rattle.payload.specs.Formed.{row_for, content_at, Framed}
use Rattle.wire.specs.Number.{AreBytes}
use Rattle.payload.proofs.Trees.Walk.{walk_refuse, walk_finish, walk_skip, walk_leaf, walk_in_lem, walk_out}
use Rattle.payload.proofs.Trees.Frame.{length_member, step_member, StepIs, is_refuse, is_finish, is_skip, is_leaf, is_enter, step_is, Written, member_written}

-- the members from a place on, the rows before and after them, and how many of them no row has
pub data Follows (width : ℕ) (types : List TypeRow) : ℕ → ℕ → ℕ → Members → List Row → List Row → ℕ → Type 0 where
  to_stop : {l first place : ℕ} {rows : List Row}
      → lacks l (drop first types) (drop first rows) ≡ false
      → Follows width types l first place stop rows rows 0
  to_skip : {l first place tag n : ℕ} {c : List ℕ} {after : Members} {rows rows2 : List Row}
      → Framed width tag c → AreBytes c
      → row_for types l first tag ≡ none
      → Follows width types l first (content_at width tag place + length c) after rows rows2 n
      → Follows width types l first place (mem tag false c stop after) rows rows2 (suc n)
  to_leaf : {l first place tag k n : ℕ} {c : List ℕ} {after : Members} {rows rows2 : List Row}
      → Framed width tag c → AreBytes c
      → row_for types l first tag ≡ some k
      → wire_fits (row_at types (first + k)).kind (wire_of tag) ≡ true
      → is_absent (get_or rows (first + k) absent_row) ≡ true
      → eqb (row_at types (first + k)).kind struct ≡ false
      → content_fits (row_at types (first + k)) c ≡ true
      → Follows width types l first (content_at width tag place + length c) after
      (set rows (first + k) (shown_of (row_at types (first + k)) (content_at width tag place) c)) rows2 n
      → Follows width types l first place (mem tag false c stop after) rows rows2 n
  to_struct : {l first place tag k n1 n2 : ℕ} {inner after : Members} {rows rows1 rows2 : List Row}
      → Framed width tag (bytes_of width inner)
      → row_for types l first tag ≡ some k
      → wire_fits (row_at types (first + k)).kind (wire_of tag) ≡ true
      → is_absent (get_or rows (first + k) absent_row) ≡ true
      → eqb (row_at types (first + k)).kind struct ≡ true
      → Follows width types (suc l) (suc (first + k)) (content_at width tag place) inner (set rows (first + k) members_row) rows1 n1
      → Follows width types l first (content_at width tag place + length (bytes_of width inner)) after rows1 rows2 n2
      → Follows width types l first place (mem tag true [] inner after) rows rows2 (n1 + n2)

-- ---- from the tree to the walk

pub step_nil : (width : ℕ) (types : List TypeRow) (l first place : ℕ) (rows : List Row) → step_of width types l first place [] rows ≡ finish
unfolding step_of
step_nil width types l first place rows = refl

module _ (types : List TypeRow) (first wire place p : ℕ) (c : List ℕ) (next : ℕ) (y : List ℕ) (rows : List Row) where
  pub met_none : met types first wire place (content p c next y) rows none ≡ skip next y
  unfolding met unknown
  met_none = refl

  module _ (k : ℕ) (w : wire_fits (row_at types (first + k)).kind wire ≡ true) (ab : is_absent (get_or rows (first + k) absent_row) ≡ true) where
    pub met_leaf : eqb (row_at types (first + k)).kind struct ≡ false → content_fits (row_at types (first + k)) c ≡ true
        → met types first wire place (content p c next y) rows (some k) ≡ leaf (first + k) (shown_of (row_at types (first + k)) p c) next y
    unfolding met known
    met_leaf s f = rw (w, ab, s, f)

    pub met_struct : eqb (row_at types (first + k)).kind struct ≡ true
        → met types first wire place (content p c next y) rows (some k) ≡ enter (first + k) p c next y
    unfolding met known
    met_struct s = rw (w, ab, s)

pub shorter : (width tag : ℕ) (c y : List ℕ) (turns : ℕ) → length (member_bytes width tag c ++ y) < suc turns
    → (length c < turns) × (length y < turns)
shorter width tag c y turns h = omega (arith, length-append (member_bytes width tag c) y, length_member width tag c)

end_walked : (types : List TypeRow) (l first place : ℕ) (rows : List Row) (n : ℕ) → lacks l (drop first types) (drop first rows) ≡ false
    → end_of types l first place rows n ≡ walked rows n
unfolding end_of
end_walked types l first place rows n e = rw e

pub follow_walk : {width : ℕ} {types : List TypeRow} {l first place cnt : ℕ} {m : Members} {rows rows2 : List Row}
    → Follows width types l first place m rows rows2 cnt → (turns n : ℕ) → length (bytes_of width m) < turns
    → walk turns width types l first place (bytes_of width m) rows n ≡ walked rows2 (cnt + n)
unfolding bytes_of
follow_walk f zero n h = absurd (omega arith)
follow_walk {width} {types} {l} {first} {place} (to_stop {rows = rows} e) (suc turns) n h =
    walk_finish turns width types l first place [] rows n (step_nil width types l first place rows)
    ∙ end_walked types l first place rows n e ∙ ap (walked rows) (omega arith)
follow_walk {width} {types} {l} {first} {place} (to_skip {tag = tag} {c = c} {after = after} {rows = rows} {rows2 = rows2} fr hc e f) (suc turns) n h =
    let y : List ℕ = bytes_of width after in
    walk_skip turns width types l first place (member_bytes width tag c ++ y) rows n _ y
    (step_member width types l first place tag c y rows fr ∙ rw e (met_none types first (wire_of tag) place _ c _ y rows))
    ∙ follow_walk {place = content_at width tag place + length c} f turns (suc n) (shorter width tag c y turns h).1 ∙ ap (walked rows2) (omega arith)
follow_walk {width} {types} {l} {first} {place}
    (to_leaf {tag = tag} {k = k} {c = c} {after = after} {rows = rows} fr hc e w ab s fits f) (suc turns) n h =
    let y : List ℕ = bytes_of width after in
    walk_leaf turns width types l first place (member_bytes width tag c ++ y) rows n _ _ _ y
    (step_member width types l first place tag c y rows fr ∙ rw e (met_leaf types first (wire_of tag) place _ c _ y rows k w ab s fits))
    ∙ follow_walk {place = content_at width tag place + length c} f turns n (shorter width tag c y turns h).1
follow_walk {width} {types} {l} {first} {place}
    (to_struct {tag = tag} {k = k} {inner = inner} {after = after} {rows = rows} {rows2 = rows2} fr e w ab s fi f) (suc turns) n h =
    let c : List ℕ = bytes_of width inner in
    let y : List ℕ = bytes_of width after in
    walk_in_lem turns width types l first place (member_bytes width tag c ++ y) rows n _ _ c _ y
    (step_member width types l first place tag c y rows fr ∙ rw e (met_struct types first (wire_of tag) place _ c _ y rows k w ab s))
    _ _ (follow_walk {l = suc l} {first = suc (first + k)} {place = content_at width tag place} fi turns n (shorter width tag c y turns h).0)
    ∙ follow_walk {place = content_at width tag place + length c} f turns _ (shorter width tag c y turns h).1 ∙ ap (walked rows2) (omega arith)

-- ---- from the walk to the tree

pub record Followed (width : ℕ) (types : List TypeRow) (l first place : ℕ) (bytes : List ℕ) (rows rows2 : List Row) (n n2 : ℕ) : Type 0 where
  pub tree : Members
  pub count : ℕ
  pub bytes_are : bytes_of width tree ≡ bytes
  pub follows : Follows width types l first place tree rows rows2 count
  pub count_is : n2 ≡ count + n

never {ℓ} : {X : Type ℓ} {v : Verdict} {q n : ℕ} {rows : List Row} → refused v q ≡ walked rows n → X
never e = let z : ◌≡◌ {A = ℕ} 0 1 = cc in absurd (omega arith)

module _ (width : ℕ) (types : List TypeRow) (l first place : ℕ) where
  followed_stop : (bytes : List ℕ) (rows rows2 : List Row) (n n2 : ℕ) → bytes ≡ [] → end_of types l first place rows n ≡ walked rows2 n2
      → Followed width types l first place bytes rows rows2 n n2
  unfolding end_of bytes_of
  followed_stop bytes rows rows2 n n2 eb = go (lacks l (drop first types) (drop first rows)) refl
    where
      go : (b : Bool) → lacks l (drop first types) (drop first rows) ≡ b → pick b (refused Missing place) (walked rows n) ≡ walked rows2 n2
          → Followed width types l first place bytes rows rows2 n n2
      go true h e = never e
      go false h e =
          let er : rows ≡ rows2 = cc in
          let en : n ≡ n2 = cc in
          record { tree = stop; count = 0; bytes_are = sym eb; follows = subst (λ (vs : List Row). Follows width types l first place stop rows vs 0) er (to_stop h); count_is = omega arith }

  module _ (bytes : List ℕ) (tag : ℕ) (c y : List ℕ) (w : Written width bytes tag c y) (rows rows2 : List Row) (n n2 : ℕ) where
    followed_skip : row_for types l first tag ≡ none
        → Followed width types l first (content_at width tag place + length c) y rows rows2 (suc n) n2
        → Followed width types l first place bytes rows rows2 n n2
    unfolding bytes_of
    followed_skip e f = record {
      tree = mem tag false c stop f.tree;
      count = suc f.count;
      bytes_are = rw f.bytes_are (sym w.bytes_are);
      follows = to_skip w.framed w.c_bytes e f.follows;
      count_is = omega (arith, f.count_is);
    }

    module _ (k : ℕ) (e : row_for types l first tag ≡ some k) (wf : wire_fits (row_at types (first + k)).kind (wire_of tag) ≡ true)
        (ab : is_absent (get_or rows (first + k) absent_row) ≡ true) where
      followed_leaf : eqb (row_at types (first + k)).kind struct ≡ false → content_fits (row_at types (first + k)) c ≡ true
          → Followed width types l first (content_at width tag place + length c) y
          (set rows (first + k) (shown_of (row_at types (first + k)) (content_at width tag place) c)) rows2 n n2
          → Followed width types l first place bytes rows rows2 n n2
      unfolding bytes_of
      followed_leaf s fits f = record {
        tree = mem tag false c stop f.tree;
        count = f.count;
        bytes_are = rw f.bytes_are (sym w.bytes_are);
        follows = to_leaf w.framed w.c_bytes e wf ab s fits f.follows;
        count_is = f.count_is;
      }

      followed_struct : (rows1 : List Row) (n1 : ℕ) → eqb (row_at types (first + k)).kind struct ≡ true
          → Followed width types (suc l) (suc (first + k)) (content_at width tag place) c (set rows (first + k) members_row) rows1 n n1
          → Followed width types l first (content_at width tag place + length c) y rows1 rows2 n1 n2
          → Followed width types l first place bytes rows rows2 n n2
      unfolding bytes_of
      followed_struct rows1 n1 s g f =
          let ec : c ≡ bytes_of width g.tree = sym g.bytes_are in
          record {
            tree = mem tag true [] g.tree f.tree;
            count = g.count + f.count;
            bytes_are = rw (f.bytes_are, g.bytes_are) (sym w.bytes_are);
            follows = to_struct (rw ec at w.framed) e wf ab s g.follows (rw ec at f.follows);
            count_is = omega (arith, f.count_is, g.count_is);
          }

pub walk_follow : (turns width : ℕ) (types : List TypeRow) (l first place : ℕ) (bytes : List ℕ) (rows : List Row) (n : ℕ) (rows2 : List Row) (n2 : ℕ)
    → AreBytes bytes → walk turns width types l first place bytes rows n ≡ walked rows2 n2
    → Followed width types l first place bytes rows rows2 n n2
unfolding walk
walk_follow zero width types l first place bytes rows n rows2 n2 h e = never e
walk_follow (suc turns) width types l first place bytes rows n rows2 n2 h e =
    go refl (step_is width types l first place bytes rows)
    (λ l2 i q c vs k vs2 k2 hc z. walk_follow turns width types l2 i q c vs k vs2 k2 hc z)
  where
    go : {s : Step} → step_of width types l first place bytes rows ≡ s → StepIs width types l first place bytes rows s
        → ((l2 i q : ℕ) (c : List ℕ) (vs : List Row) (k : ℕ) (vs2 : List Row) (k2 : ℕ)
        → AreBytes c → walk turns width types l2 i q c vs k ≡ walked vs2 k2 → Followed width types l2 i q c vs vs2 k k2)
        → Followed width types l first place bytes rows rows2 n n2
    go es (is_refuse {v = v} {p = q} b h1 h2) ih = never (sym (walk_refuse turns width types l first place bytes rows n v q es) ∙ e)
    go es (is_finish eb) ih =
        followed_stop width types l first place bytes rows rows2 n n2 eb (sym (walk_finish turns width types l first place bytes rows n es) ∙ e)
    go es (is_skip {next = next} {y = y} tag p c m none_is) ih =
        let w = member_written width place bytes tag p c next y m h in
        followed_skip width types l first place bytes tag c y w rows rows2 n n2 none_is
        (rw (m.next_is, m.place_is) at
        (ih l first next y rows (suc n) rows2 n2 w.y_bytes (sym (walk_skip turns width types l first place bytes rows n next y es) ∙ e)))
    go es (is_leaf {next = next} {y = y} tag p k c m ek wf ab s fits) ih =
        let w = member_written width place bytes tag p c next y m h in
        followed_leaf width types l first place bytes tag c y w rows rows2 n n2 k ek wf ab s fits
        (rw (m.next_is, m.place_is) at
        (ih l first next y (set rows (first + k) (shown_of (row_at types (first + k)) p c)) n rows2 n2 w.y_bytes
        (sym (walk_leaf turns width types l first place bytes rows n (first + k) (shown_of (row_at types (first + k)) p c) next y es) ∙ e)))
    go es (is_enter {p = p} {next = next} {c = c} {y = y} tag k m ek wf ab s) ih =
        let w = member_written width place bytes tag p c next y m h in
        inside w (walk turns width types (suc l) (suc (first + k)) p c (set rows (first + k) members_row) n) refl
      where
        inside : Written width bytes tag c y
            → (r : Walked) → walk turns width types (suc l) (suc (first + k)) p c (set rows (first + k) members_row) n ≡ r
            → Followed width types l first place bytes rows rows2 n n2
        inside w (refused v q) z =
            never (sym (walk_out turns width types l first place bytes rows n (first + k) p c next y es v q z) ∙ e)
        inside w (walked rows1 n1) z =
            followed_struct width types l first place bytes tag c y w rows rows2 n n2 k ek wf ab rows1 n1 s
            (rw m.place_is at (ih (suc l) (suc (first + k)) p c (set rows (first + k) members_row) n rows1 n1 w.c_bytes z))
            (rw (m.next_is, m.place_is) at
            (ih l first next y rows1 n1 rows2 n2 w.y_bytes
            (sym (walk_in_lem turns width types l first place bytes rows n (first + k) p c next y es rows1 n1 z) ∙ e)))
