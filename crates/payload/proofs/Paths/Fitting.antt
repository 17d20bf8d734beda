-- The walk along a tree whose members fit their rows, whatever may be missing: it goes to the end, and its rows are by path; or it is refused as
-- Missing, exactly if some level that it walks lacks a required member.
-- Assumes nothing.
use mathlib.Core.Path.{◌≡◌, refl, sym, ◌∙◌}
use Prim.Native.Nat.{ℕ, zero, suc, ◌+◌, ◌<◌}
use native.Mathlib.Omega.{arith}
use mathlib.Core.Bool.{Bool, true, false}
use mathlib.Core.Option.{none, some}
use mathlib.Core.List.{List, [], ◌++◌}
use lib.ListN.{length, drop, get_or, set}
use lib.Dec.{eqb}
use Rattle.wire.specs.Choose.{pick, or}
use Rattle.wire.specs.Tag.{wire_of, ident_of}
use Rattle.wire.specs.Kind.{wire_fits, struct}
use Rattle.wire.specs.declared.verdict.Verdict.TheVariants.{Missing}
use Rattle.payload.specs.declared.table.TypeRow.{TypeRow}
use Rattle.payload.specs.declared.row.Row.{Row}
use Rattle.payload.specs.Table.{idents_differ, row_at}
use Rattle.payload.specs.Row.{absent_row, members_row, is_absent, shown_of}
use Rattle.payload.specs.Reading.{content_fits, refused, walked, lacks, end_of, walk}
use Rattle.payload.specs.Tree.{Members, stop, mem, member_bytes, bytes_of}
use Rattle.payload.specs.Formed.{row_for, content_at, unknowns, filled, has, misses, Framed}
use Rattle.payload.specs.Paths.{Lies, Fits, fits_stop, fits_unknown, fits_leaf, fits_struct}
use Rattle.payload.proofs.Joined.{or_left}
use Rattle.payload.proofs.Trees.Level.{none_some, true_false, below_self}
use Rattle.payload.proofs.Trees.Walk.{walk_finish, walk_skip, walk_leaf, walk_in_lem, walk_out}
use Rattle.payload.proofs.Trees.Frame.{step_member}
use Rattle.payload.proofs.Trees.Follow.{step_nil, met_none, met_leaf, met_struct, shorter, follow_walk}
use Rattle.payload.proofs.Trees.Seen.{
  absent_members,
  absent_shown,
  follows_kept,
  also,
  Met,
  met_unknown,
  met_known,
  met_inner,
  met_after,
  end_misses,
}
use Rattle.payload.proofs.Trees.TreeLaws.{
  Splits,
  Once,
  or_false,
  or_right,
  splits_next,
  once_next,
  not_seen,
  also_own,
  each_follows,
  Unmet,
  level_tree_read,
}
use Rattle.payload.proofs.Paths.Filling.{Fills, each_fills}
use Rattle.payload.proofs.Paths.SeenBy.{lacks_below, lacks_any, below_unknown, below_leaf, below_struct, misses_same, fits_seen}

-- ---- a level that lacks a required member, or has one below that does, is refused

-- whatever was skipped before, and with any number of turns above the bytes
pub record Refuses (width : ℕ) (types : List TypeRow) (l first place : ℕ) (m : Members) (rows : List Row) : Type 0 where
  pub place_is : ℕ
  pub walk_is : (turns n : ℕ) → length (bytes_of width m) < turns
      → walk turns width types l first place (bytes_of width m) rows n ≡ refused Missing place_is

module _ (width : ℕ) (types : List TypeRow) (l first place tag : ℕ) (c : List ℕ) (after : Members) (rows : List Row) (fr : Framed width tag c) where
  abbrev rest : List ℕ
  rest = bytes_of width after

  abbrev from : ℕ
  from = content_at width tag place

  -- a member that is taken without entering it, after which the walk is refused
  refuses_unknown : (s : Bool) (d : List ℕ) (inner : Members) → pick s (bytes_of width inner) d ≡ c → row_for types l first tag ≡ none
      → Refuses width types l first (from + length c) after rows → Refuses width types l first place (mem tag s d inner after) rows
  unfolding bytes_of
  refuses_unknown s d inner ec e r = record { place_is = r.place_is; walk_is = go }
    where
      go : (turns n : ℕ) → length (member_bytes width tag (pick s (bytes_of width inner) d) ++ rest) < turns
          → walk turns width types l first place (member_bytes width tag (pick s (bytes_of width inner) d) ++ rest) rows n
          ≡ refused Missing r.place_is
      go zero n h = absurd (omega arith)
      go (suc turns) n h =
          let h2 : length (member_bytes width tag c ++ rest) < suc turns = rw ec at h in
          rw ec
          (walk_skip turns width types l first place (member_bytes width tag c ++ rest) rows n _ rest
          (step_member width types l first place tag c rest rows fr ∙ rw e (met_none types first (wire_of tag) place _ c _ rest rows))
          ∙ r.walk_is turns (suc n) (shorter width tag c rest turns h2).1)

  module _ (k : ℕ) (e : row_for types l first tag ≡ some k) (w : wire_fits (row_at types (first + k)).kind (wire_of tag) ≡ true)
      (ab : is_absent (get_or rows (first + k) absent_row) ≡ true) where
    refuses_leaf : eqb (row_at types (first + k)).kind struct ≡ false → content_fits (row_at types (first + k)) c ≡ true
        → Refuses width types l first (from + length c) after (set rows (first + k) (shown_of (row_at types (first + k)) from c))
        → Refuses width types l first place (mem tag false c stop after) rows
    unfolding bytes_of
    refuses_leaf ns fits r = record { place_is = r.place_is; walk_is = go }
      where
        go : (turns n : ℕ) → length (member_bytes width tag c ++ rest) < turns
            → walk turns width types l first place (member_bytes width tag c ++ rest) rows n ≡ refused Missing r.place_is
        go zero n h = absurd (omega arith)
        go (suc turns) n h =
            walk_leaf turns width types l first place (member_bytes width tag c ++ rest) rows n _ _ _ rest
            (step_member width types l first place tag c rest rows fr ∙ rw e (met_leaf types first (wire_of tag) place _ c _ rest rows k w ab ns fits))
            ∙ r.walk_is turns n (shorter width tag c rest turns h).1

    module _ (is : eqb (row_at types (first + k)).kind struct ≡ true) (inner : Members) (ec : bytes_of width inner ≡ c) where
      -- refused inside the struct
      refuses_in : Refuses width types (suc l) (suc (first + k)) from inner (set rows (first + k) members_row)
          → Refuses width types l first place (mem tag true [] inner after) rows
      unfolding bytes_of
      refuses_in r = record { place_is = r.place_is; walk_is = go }
        where
          go : (turns n : ℕ) → length (member_bytes width tag (bytes_of width inner) ++ rest) < turns
              → walk turns width types l first place (member_bytes width tag (bytes_of width inner) ++ rest) rows n ≡ refused Missing r.place_is
          go zero n h = absurd (omega arith)
          go (suc turns) n h =
              let h2 : length (member_bytes width tag c ++ rest) < suc turns = rw ec at h in
              let i = rw ec at (r.walk_is turns n (rw ec (shorter width tag c rest turns h2).0)) in
              rw ec
              (walk_out turns width types l first place (member_bytes width tag c ++ rest) rows n (first + k) from c (from + length c) rest
              (step_member width types l first place tag c rest rows fr ∙ rw e (met_struct types first (wire_of tag) place _ c _ rest rows k w ab is))
              Missing r.place_is i)

      -- refused behind the struct
      refuses_after : (rows2 : List Row) (count : ℕ)
          → ((turns n : ℕ) → length c < turns
          → walk turns width types (suc l) (suc (first + k)) from c (set rows (first + k) members_row) n ≡ walked rows2 (count + n))
          → Refuses width types l first (from + length c) after rows2
          → Refuses width types l first place (mem tag true [] inner after) rows
      unfolding bytes_of
      refuses_after rows2 count inside r = record { place_is = r.place_is; walk_is = go }
        where
          go : (turns n : ℕ) → length (member_bytes width tag (bytes_of width inner) ++ rest) < turns
              → walk turns width types l first place (member_bytes width tag (bytes_of width inner) ++ rest) rows n ≡ refused Missing r.place_is
          go zero n h = absurd (omega arith)
          go (suc turns) n h =
              let h2 : length (member_bytes width tag c ++ rest) < suc turns = rw ec at h in
              rw ec
              (walk_in_lem turns width types l first place (member_bytes width tag c ++ rest) rows n _ _ c _ rest
              (step_member width types l first place tag c rest rows fr ∙ rw e (met_struct types first (wire_of tag) place _ c _ rest rows k w ab is))
              rows2 (count + n) (inside turns n (shorter width tag c rest turns h2).0)
              ∙ r.walk_is turns (count + n) (shorter width tag c rest turns h2).1)

module _ (width : ℕ) (types : List TypeRow) (d : idents_differ types ≡ true) where
  refuses_end : (l first place : ℕ) (rows : List Row) → lacks l (drop first types) (drop first rows) ≡ true
      → Refuses width types l first place stop rows
  unfolding bytes_of end_of
  refuses_end l first place rows e = record { place_is = place; walk_is = go }
    where
      go : (turns n : ℕ) → 0 < turns → walk turns width types l first place [] rows n ≡ refused Missing place
      go zero n h = absurd (omega arith)
      go (suc turns) n h = walk_finish turns width types l first place [] rows n (step_nil width types l first place rows) ∙ rw e

  fits_refuses : {l first : ℕ} {m : Members} → Fits width types l first m
      → (place : ℕ) (rows : List Row) (seen : ℕ → Bool) (all : Members)
      → Met types l first seen rows → Splits all seen m → Once types l first seen m
      → or (lacks_below types l first m) (misses l (drop first types) all) ≡ true
      → Refuses width types l first place m rows
  unfolding has lacks_below
  fits_refuses {l} {first} fits_stop place rows seen all met sp once q =
      refuses_end l first place rows (end_misses types l first seen rows all d met (λ x. sp x ∙ or_false (seen x)) ∙ q)
  fits_refuses {l} {first} (fits_unknown {tag = tag} {s = s} {c = c} {inner = inner} {after = after} fr hc e f) place rows seen all met sp once q =
      let a = fits_refuses f _ rows (also (ident_of tag) seen) all (met_unknown types l first seen rows met (ident_of tag) e)
      (splits_next tag s c inner after all seen sp) (once_next tag s c inner after types l first seen (λ k ek. none_some (sym e ∙ ek)) once)
      (rw (below_unknown types l first tag c inner after s e) at q) in
      refuses_unknown width types l first place tag (pick s (bytes_of width inner) c) after rows fr s c inner refl e a
  fits_refuses {l} {first} (fits_leaf {tag = tag} {k = k} {c = c} {after = after} fr hc known ns fits f) place rows seen all met sp once q =
      let e : row_for types l first tag ≡ some k = known.found in
      let n : seen (ident_of tag) ≡ false = not_seen tag false c stop after types l first seen k e once in
      let v : Row = shown_of (row_at types (first + k)) (content_at width tag place) c in
      let a = fits_refuses f _ (set rows (first + k) v) (also (ident_of tag) seen) all
      (met_known types l first seen rows met (ident_of tag) k e v (absent_shown (row_at types (first + k)) (content_at width tag place) c))
      (splits_next tag false c stop after all seen sp) (once_next tag false c stop after types l first seen (λ j ej. known.once) once)
      (rw (below_leaf types l first tag c stop after k e) at q) in
      refuses_leaf width types l first place tag c after rows fr k e known.wire_fits_lem
      (met.fresh (ident_of tag) k (first + k) e n (below_self types l (first + k))) ns fits a
  fits_refuses {l} {first} (fits_struct {tag = tag} {k = k} {inner = inner} {after = after} fr known is fi f) place rows seen all met sp once q =
      go (lacks_any types (suc l) (suc (first + k)) inner) refl (rw (below_struct types l first tag [] inner after k e) at q)
      (λ b. fits_refuses fi (content_at width tag place) (set rows (first + k) members_row) (λ x. false) inner
      (met_inner types l first seen rows met (ident_of tag) k e n members_row) (λ x. refl) (λ x j ex sx. true_false (sym sx)) b)
      (λ rows2 met2 b. fits_refuses f (content_at width tag place + length (bytes_of width inner)) rows2 (also (ident_of tag) seen) all met2
      (splits_next tag true [] inner after all seen sp) (once_next tag true [] inner after types l first seen (λ j ej. known.once) once) b)
    where
      e : row_for types l first tag ≡ some k
      e = known.found

      n : seen (ident_of tag) ≡ false
      n = not_seen tag true [] inner after types l first seen k e once

      ab : is_absent (get_or rows (first + k) absent_row) ≡ true
      ab = met.fresh (ident_of tag) k (first + k) e n (below_self types l (first + k))

      go : (b : Bool) → lacks_any types (suc l) (suc (first + k)) inner ≡ b
          → or (or b (lacks_below types l first after)) (misses l (drop first types) all) ≡ true
          → (lacks_any types (suc l) (suc (first + k)) inner ≡ true
          → Refuses width types (suc l) (suc (first + k)) (content_at width tag place) inner (set rows (first + k) members_row))
          → ((rows2 : List Row) → Met types l first (also (ident_of tag) seen) rows2
          → or (lacks_below types l first after) (misses l (drop first types) all) ≡ true
          → Refuses width types l first (content_at width tag place + length (bytes_of width inner)) after rows2)
          → Refuses width types l first place (mem tag true [] inner after) rows
      go true b q ri ra =
          refuses_in width types l first place tag (bytes_of width inner) after rows fr k e known.wire_fits_lem ab is inner refl (ri b)
      go false b q ri ra =
          let i = fits_seen fi in
          let t = i.each (or_left (lacks_below types (suc l) (suc (first + k)) inner) _ b) in
          let whole = misses_same (suc l) (drop (suc (first + k)) types) i.tree inner i.same_idents
          ∙ or_right (lacks_below types (suc l) (suc (first + k)) inner) _ b in
          let a = each_follows width types d t (content_at width tag place) (set rows (first + k) members_row) (λ x. false) i.tree
          (met_inner types l first seen rows met (ident_of tag) k e n members_row) (λ x. refl) whole (λ x j ex sx. true_false (sym sx)) in
          let met2 = met_after types width l first (also (ident_of tag) seen) (set rows (first + k) members_row) a.rows2
          (met_known types l first seen rows met (ident_of tag) k e members_row absent_members)
          (ident_of tag) k e (also_own (ident_of tag) seen) (follows_kept width types a.follows) in
          refuses_after width types l first place tag (bytes_of width inner) after rows fr k e known.wire_fits_lem ab is inner refl
          a.rows2 a.count
          (λ turns m h. rw i.bytes_are at (follow_walk a.follows turns m (rw i.bytes_are h)))
          (ra a.rows2 met2 q)

  -- ---- a level's walk

  -- It goes to the end: each row shows what its path finds, and the unknown members are counted. Or it is refused as Missing.
  pub data Ends (p : List ℕ) (l first place : ℕ) (m : Members) (rows : List Row) : Type 0 where
    none_lacks : lacks_any types l first m ≡ false → (rows2 : List Row)
        → ((turns n : ℕ) → length (bytes_of width m) < turns
        → walk turns width types l first place (bytes_of width m) rows n ≡ walked rows2 (unknowns types l first m + n))
        → Fills p width types l first m rows rows2
        → Ends p l first place m rows
    some_lacks : lacks_any types l first m ≡ true → Refuses width types l first place m rows → Ends p l first place m rows

  pub fits_ends : (p : List ℕ) (l first place : ℕ) (m : Members) (rows : List Row) → Fits width types l first m → Unmet types l first rows
      → Lies p place (bytes_of width m) → Ends p l first place m rows
  fits_ends p l first place m rows f un lies = go (lacks_any types l first m) refl
    where
      go : (b : Bool) → lacks_any types l first m ≡ b → Ends p l first place m rows
      go true q = some_lacks q (fits_refuses f place rows (λ x. false) m un (λ x. refl) (λ x k ex sx. true_false (sym sx)) q)
      go false q =
          let i = fits_seen f in
          let whole = misses_same l (drop first types) i.tree m i.same_idents ∙ or_right (lacks_below types l first m) _ q in
          let t = i.each (or_left (lacks_below types l first m) _ q) in
          let fill = each_fills p width types t place rows un.size (rw i.bytes_are lies) in
          none_lacks q (filled width types l first place i.tree rows)
          (λ turns n h.
          rw (i.bytes_are, i.same_count) at
          (level_tree_read width types d l first place rows un turns i.tree n (record { each = t; whole = whole }) (rw i.bytes_are h)))
          (record { kept = fill.kept; by_path = λ path j h. rw (i.same_paths path j h) at (fill.by_path path j h) })
