-- The walk by what stands at a place of a level: a law for each kind of step. Each step takes a byte at least, so that more turns than bytes
-- make no difference.
-- Assumes nothing.
use mathlib.Core.Path.{◌≡◌, refl, sym, ◌∙◌}
use Prim.Native.Nat.{ℕ, zero, suc, ◌+◌, ◌≤◌, ◌<◌}
use native.Mathlib.Omega.{arith}
use mathlib.Core.Bool.{Bool, true, false}
use mathlib.Core.Option.{Option, none, some}
use mathlib.Core.List.{List, [], ◌∷◌}
use lib.ListN.{length, take, drop, get_or, set, length-take, length-drop}
use lib.Dec.{leb, ltb, eqb}
use Rattle.wire.specs.Choose.{pick}
use Rattle.wire.specs.Number.{big, number_of}
use Rattle.wire.specs.Tag.{wire_of, ident_of, fixed_size, field_width}
use Rattle.wire.specs.Kind.{wire_fits, struct}
use Rattle.wire.specs.declared.verdict.Verdict.{Verdict}
use Rattle.payload.specs.declared.table.TypeRow.{TypeRow}
use Rattle.payload.specs.declared.row.Row.{Row}
use Rattle.payload.specs.Table.{find, row_at}
use Rattle.payload.specs.Row.{absent_row, members_row, is_absent}
use Rattle.payload.specs.Reading.{
  Body,
  cut,
  content,
  content_of,
  lengthed_of,
  body_of,
  Step,
  refuse,
  finish,
  skip,
  leaf,
  enter,
  unknown,
  content_fits,
  known,
  met,
  step_of,
  Walked,
  refused,
  walked,
  behind,
  member_by,
  end_of,
  level_by,
  walk,
}

-- ---- a law for each step

module _ (turns width : ℕ) (types : List TypeRow) (l first place : ℕ) (bytes : List ℕ) (rows : List Row) (n : ℕ) where
  pub walk_refuse : (v : Verdict) (p : ℕ) → step_of width types l first place bytes rows ≡ refuse v p
      → walk (suc turns) width types l first place bytes rows n ≡ refused v p
  unfolding walk member_by level_by
  walk_refuse v p e = rw (e, walk)

  pub walk_finish : step_of width types l first place bytes rows ≡ finish
      → walk (suc turns) width types l first place bytes rows n ≡ end_of types l first place rows n
  unfolding walk member_by level_by
  walk_finish e = rw (e, walk)

  pub walk_skip : (next : ℕ) (more : List ℕ) → step_of width types l first place bytes rows ≡ skip next more
      → walk (suc turns) width types l first place bytes rows n ≡ walk turns width types l first next more rows (suc n)
  unfolding walk member_by level_by
  walk_skip next more e = rw (e, walk)

  pub walk_leaf : (i : ℕ) (r : Row) (next : ℕ) (more : List ℕ) → step_of width types l first place bytes rows ≡ leaf i r next more
      → walk (suc turns) width types l first place bytes rows n ≡ walk turns width types l first next more (set rows i r) n
  unfolding walk member_by level_by
  walk_leaf i r next more e = rw (e, walk)

  module _ (i p : ℕ) (c : List ℕ) (next : ℕ) (more : List ℕ) (e : step_of width types l first place bytes rows ≡ enter i p c next more) where
    pub walk_in_lem : (rows2 : List Row) (n2 : ℕ) → walk turns width types (suc l) (suc i) p c (set rows i members_row) n ≡ walked rows2 n2
        → walk (suc turns) width types l first place bytes rows n ≡ walk turns width types l first next more rows2 n2
    unfolding walk member_by level_by behind
    walk_in_lem rows2 n2 z = rw (e, z, walk)

    pub walk_out : (v : Verdict) (q : ℕ) → walk turns width types (suc l) (suc i) p c (set rows i members_row) n ≡ refused v q
        → walk (suc turns) width types l first place bytes rows n ≡ refused v q
    unfolding walk member_by level_by behind
    walk_out v q z = rw (e, z, walk)

-- ---- each step takes a byte at least

-- no more than m bytes are a member's content, and no more are behind it
data Within (m : ℕ) : Body → Type 0 where
  in_cut : {v : Verdict} {p : ℕ} → Within m (cut v p)
  in_content : {p next : ℕ} {c more : List ℕ} → length c ≤ m → length more ≤ m → Within m (content p c next more)

-- fewer than m bytes are a struct's content, and fewer are behind the member
pub data Fewer (m : ℕ) : Step → Type 0 where
  by_refuse : {v : Verdict} {p : ℕ} → Fewer m (refuse v p)
  by_finish : Fewer m finish
  by_skip : {next : ℕ} {more : List ℕ} → length more < m → Fewer m (skip next more)
  by_leaf : {i : ℕ} {r : Row} {next : ℕ} {more : List ℕ} → length more < m → Fewer m (leaf i r next more)
  by_enter : {i p : ℕ} {c : List ℕ} {next : ℕ} {more : List ℕ} → length c < m → length more < m → Fewer m (enter i p c next more)

-- what holds of both holds of the one that is picked
pub pick_all {ℓ} : {X : Type ℓ} (P : X → Type 0) (b : Bool) {u v : X} → P u → P v → P (pick b u v)
pick_all P true hu hv = hu
pick_all P false hu hv = hv

content_within : (n place : ℕ) (bytes : List ℕ) (m : ℕ) → length bytes ≤ m → Within m (content_of n place bytes)
unfolding content_of
content_within n place bytes m h =
    pick_all (Within m) (leb n (length bytes)) (in_content (simp length-take (omega arith)) (simp length-drop (omega arith))) in_cut

body_within : (width wire place : ℕ) (bytes : List ℕ) → Within (length bytes) (body_of width wire place bytes)
unfolding body_of lengthed_of
body_within width wire place bytes =
    let w : ℕ = field_width width wire in
    pick_all (Within (length bytes)) (ltb wire 4) (content_within (fixed_size wire) place bytes (length bytes) (omega arith))
    (pick_all (Within (length bytes)) (leb w (length bytes))
    (content_within (number_of big (take w bytes)) (place + w) (drop w bytes) (length bytes) (simp length-drop (omega arith)))
    in_cut)

known_fewer : (i : ℕ) (r : TypeRow) (b : Body) (m : ℕ) → Within m b → Fewer (suc (suc m)) (known i r b)
unfolding known
known_fewer i r (cut v p) m h = by_refuse
known_fewer i r (content p c next more) m (in_content hc hm) =
    pick_all (Fewer (suc (suc m))) (eqb r.kind struct) (by_enter (omega arith) (omega arith))
    (pick_all (Fewer (suc (suc m))) (content_fits r c) (by_leaf (omega arith)) by_refuse)

met_fewer : (types : List TypeRow) (first wire place : ℕ) (b : Body) (rows : List Row) (o : Option ℕ) (m : ℕ) → Within m b
    → Fewer (suc (suc m)) (met types first wire place b rows o)
unfolding met unknown
met_fewer types first wire place (cut v q) rows none m h = by_refuse
met_fewer types first wire place (content q c next more) rows none m (in_content hc hm) = by_skip {more = more} (omega arith)
met_fewer types first wire place b rows (some k) m h =
    pick_all (Fewer (suc (suc m))) (wire_fits (row_at types (first + k)).kind wire)
    (pick_all (Fewer (suc (suc m))) (is_absent (get_or rows (first + k) absent_row))
    (known_fewer (first + k) (row_at types (first + k)) b m h)
    by_refuse)
    by_refuse

pub step_fewer : (width : ℕ) (types : List TypeRow) (l first place : ℕ) (bytes : List ℕ) (rows : List Row)
    → Fewer (length bytes) (step_of width types l first place bytes rows)
unfolding step_of
step_fewer width types l first place [] rows = by_finish
step_fewer width types l first place (a ∷ []) rows = by_refuse
step_fewer width types l first place (a ∷ b ∷ bytes) rows =
    let tag : ℕ = number_of big (a ∷ b ∷ []) in
    met_fewer types first (wire_of tag) place (body_of width (wire_of tag) (place + 2) bytes) rows (find l (ident_of tag) (drop first types))
    (length bytes) (body_within width (wire_of tag) (place + 2) bytes)

-- ---- more turns make no difference

pub same_turns : (f g width : ℕ) (types : List TypeRow) (l first place : ℕ) (bytes : List ℕ) (rows : List Row) (n : ℕ)
    → length bytes < f → length bytes < g
    → walk f width types l first place bytes rows n ≡ walk g width types l first place bytes rows n
same_turns zero g width types l first place bytes rows n hf hg = absurd (omega arith)
same_turns (suc f) zero width types l first place bytes rows n hf hg = absurd (omega arith)
same_turns (suc f) (suc g) width types l first place bytes rows n hf hg =
    go (step_of width types l first place bytes rows) refl (step_fewer width types l first place bytes rows)
    (λ l2 i p c rows2 n2 h. same_turns f g width types l2 i p c rows2 n2 (omega arith) (omega arith))
  where
    go : (s : Step) → step_of width types l first place bytes rows ≡ s → Fewer (length bytes) s
        → ((l2 i p : ℕ) (c : List ℕ) (rows2 : List Row) (n2 : ℕ) → length c < length bytes
        → walk f width types l2 i p c rows2 n2 ≡ walk g width types l2 i p c rows2 n2)
        → walk (suc f) width types l first place bytes rows n ≡ walk (suc g) width types l first place bytes rows n
    go (refuse v q) e h ih =
        walk_refuse f width types l first place bytes rows n v q e ∙ sym (walk_refuse g width types l first place bytes rows n v q e)
    go finish e h ih = walk_finish f width types l first place bytes rows n e ∙ sym (walk_finish g width types l first place bytes rows n e)
    go (skip next more) e (by_skip h) ih =
        walk_skip f width types l first place bytes rows n next more e ∙ ih l first next more rows (suc n) h
        ∙ sym (walk_skip g width types l first place bytes rows n next more e)
    go (leaf i r next more) e (by_leaf h) ih =
        walk_leaf f width types l first place bytes rows n i r next more e ∙ ih l first next more (set rows i r) n h
        ∙ sym (walk_leaf g width types l first place bytes rows n i r next more e)
    go (enter i p c next more) e (by_enter hc hm) ih =
        inside (walk f width types (suc l) (suc i) p c (set rows i members_row) n) refl (ih (suc l) (suc i) p c (set rows i members_row) n hc)
      where
        inside : (r : Walked) → walk f width types (suc l) (suc i) p c (set rows i members_row) n ≡ r
            → walk f width types (suc l) (suc i) p c (set rows i members_row) n ≡ walk g width types (suc l) (suc i) p c (set rows i members_row) n
            → walk (suc f) width types l first place bytes rows n ≡ walk (suc g) width types l first place bytes rows n
        inside (refused v q) z same =
            walk_out f width types l first place bytes rows n i p c next more e v q z
            ∙ sym (walk_out g width types l first place bytes rows n i p c next more e v q (sym same ∙ z))
        inside (walked rows2 n2) z same =
            walk_in_lem f width types l first place bytes rows n i p c next more e rows2 n2 z ∙ ih l first next more rows2 n2 hm
            ∙ sym (walk_in_lem g width types l first place bytes rows n i p c next more e rows2 n2 (sym same ∙ z))
