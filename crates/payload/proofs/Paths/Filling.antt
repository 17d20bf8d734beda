-- Reading by paths: the rows after a level's members show what their paths find in the tree, in whatever order the members stand; all other rows
-- are as they were.
-- Assumes nothing.
use mathlib.Core.Path.{◌≡◌, refl, sym, ap, ◌∙◌}
use Prim.Native.Nat.{ℕ, suc, ◌+◌, ◌<◌}
use native.Mathlib.Omega.{arith}
use mathlib.Core.Bool.{Bool, true, false}
use mathlib.Core.Option.{none, some}
use mathlib.Core.List.{List, [], ◌∷◌}
use lib.ListN.{length, drop, get_or, set, length-set}
use lib.Seq.{get_or-set_same, get_or-set_other}
use lib.Dec.{eqb}
use borrow.Author.Tests.{eqb-true, eqb-false}
use Rattle.wire.specs.Tag.{ident_of}
use Rattle.wire.specs.Kind.{struct}
use Rattle.payload.specs.declared.table.TypeRow.{TypeRow}
use Rattle.payload.specs.declared.row.Row.{Row}
use Rattle.payload.specs.Table.{find, row_at}
use Rattle.payload.specs.Row.{absent_row, members_row, shown_of}
use Rattle.payload.specs.Reading.{content_fits}
use Rattle.payload.specs.Tree.{Members, stop, mem, bytes_of}
use Rattle.payload.specs.Formed.{row_for, content_at, filled, KnownAs, Each, each_stop, each_unknown, each_leaf, each_struct}
use Rattle.payload.specs.Writing.{Put, nothing}
use Rattle.payload.specs.Paths.{at_end, path_row, at_path, Lies, Shows, shows_nothing, shows_leaf, shows_branch, ByPath}
use Rattle.payload.proofs.Trees.Level.{none_some, found_inside, in_found, in_inner, InLevel, below_apart, below_out}
use Rattle.payload.proofs.Trees.Seen.{Kept}
use Rattle.payload.proofs.Trees.TreeLaws.{filled_unknown, filled_known}
use Rattle.payload.proofs.Paths.PathLaws.{path_one, path_more, path_leads, at_other, at_own, at_fresh}
use Rattle.payload.proofs.Round.Lying.{lies_content, lies_behind}

-- ---- what a row shows

module _ (p : List ℕ) (r : TypeRow) where
  pub shows_none : {old new : Row} {o : Put} → Shows p r old o new → o ≡ nothing → new ≡ old
  shows_none shows_nothing e = refl
  shows_none (shows_leaf k f h) e = let z : ◌≡◌ {A = ℕ} 0 1 = cc in absurd (omega arith)
  shows_none shows_branch e = let z : ◌≡◌ {A = ℕ} 0 1 = cc in absurd (omega arith)

  -- of rows that were the same before
  pub shows_from : {old old2 new : Row} {o : Put} → old ≡ old2 → Shows p r old o new → Shows p r old2 o new
  shows_from e h = rw e at h

-- ---- a level's rows

module _ (p : List ℕ) (width : ℕ) (types : List TypeRow) where
  -- the rows `old` and `rows` before and after a level's members
  pub record Fills (l first : ℕ) (m : Members) (old rows : List Row) : Type 0 where
    pub by_path : ByPath p types l first m old rows
    pub kept : Kept width types l first old rows

  module _ (l first tag : ℕ) (s : Bool) (c : List ℕ) (inner after : Members) (old rows : List Row) where
    -- an unknown member changes nothing
    fills_unknown : row_for types l first tag ≡ none → Fills l first after old rows → Fills l first (mem tag s c inner after) old rows
    unfolding path_row
    fills_unknown e f = record { kept = f.kept; by_path = go }
      where
        go : ByPath p types l first (mem tag s c inner after) old rows
        go [] j h = none_some h
        go (x ∷ path) j h = at (eqb (ident_of tag) x) refl
          where
            at : (b : Bool) → eqb (ident_of tag) x ≡ b
                → Shows p (row_at types j) (get_or old j absent_row) (at_path (mem tag s c inner after) (x ∷ path)) (get_or rows j absent_row)
            at true q =
                let d = path_leads types l first x path j h in
                none_some (sym e ∙ ap (λ (y : ℕ). find l y (drop first types)) (eqb-true (ident_of tag) x q) ∙ d.found)
            at false q = rw (at_other tag s c inner after x path q) (f.by_path (x ∷ path) j h)

  module _ (l first tag k : ℕ) (after : Members) (known : KnownAs types l first tag k after) (old : List Row) (size : length old ≡ length types) where
    own : first + k < length old
    own = omega (arith, found_inside types l first (ident_of tag) k known.found)

    -- another Data ID's rows
    other : (x : ℕ) (path : List ℕ) (j : ℕ) → path_row types l first (x ∷ path) ≡ some j → eqb (ident_of tag) x ≡ false
        → (j ≡ first + k → ⊥) × (InLevel types (suc l) (suc (first + k)) j → ⊥)
    other x path j h q =
        let d = path_leads types l first x path j h in
        let ne : x ≡ ident_of tag → ⊥ = λ z. eqb-false (ident_of tag) x q (sym z) in (
          below_apart types l first x (ident_of tag) d.head k d.found known.found ne j d.below,
          below_out types l first x (ident_of tag) d.head k d.found known.found ne j d.below,
        )

    -- nothing behind the member has its Data ID
    behind : (x : ℕ) (path : List ℕ) → eqb (ident_of tag) x ≡ true → at_path after (x ∷ path) ≡ nothing
    behind x path q = at_fresh after x path (rw (← eqb-true (ident_of tag) x q) known.once)

    own_row : (x j : ℕ) → eqb (ident_of tag) x ≡ true → path_row types l first (x ∷ []) ≡ some j → j ≡ first + k
    own_row x j q h =
        let o = path_one types l first (ident_of tag) k known.found in
        let h2 : path_row types l first (ident_of tag ∷ []) ≡ some j = rw (← eqb-true (ident_of tag) x q) at h in
        cc

    own_more : (x y : ℕ) (path : List ℕ) (j : ℕ) → eqb (ident_of tag) x ≡ true → path_row types l first (x ∷ y ∷ path) ≡ some j
        → path_row types (suc l) (suc (first + k)) (y ∷ path) ≡ some j
    own_more x y path j q h =
        sym (path_more types l first (ident_of tag) k y path known.found) ∙ (rw (← eqb-true (ident_of tag) x q) at h)

    deeper : (y : ℕ) (path : List ℕ) (j : ℕ) → path_row types (suc l) (suc (first + k)) (y ∷ path) ≡ some j → j ≡ first + k → ⊥
    deeper y path j h z =
        let d = path_leads types (suc l) (suc (first + k)) y path j h in omega (arith, d.below.after)

    -- a row outside the level is not the member's
    outer : (j : ℕ) → (InLevel types l first j → ⊥) → j ≡ first + k → ⊥
    outer j h z = h (rw z (in_found types l first (ident_of tag) k known.found))

    fills_leaf : (place : ℕ) (c : List ℕ) (rows : List Row) → eqb (row_at types (first + k)).kind struct ≡ false
        → content_fits (row_at types (first + k)) c ≡ true → Lies p place c
        → Fills l first after (set old (first + k) (shown_of (row_at types (first + k)) place c)) rows
        → Fills l first (mem tag false c stop after) old rows
    unfolding path_row at_end
    fills_leaf place c rows ns fits lies f = record {
      kept = record {
        size = f.kept.size ∙ length-set old (first + k) v;
        same = λ j h. f.kept.same j h ∙ get_or-set_other old (first + k) j v absent_row (outer j h);
      };
      by_path = go;
    }
      where
        v : Row
        v = shown_of (row_at types (first + k)) place c

        go : ByPath p types l first (mem tag false c stop after) old rows
        go [] j h = none_some h
        go (x ∷ path) j h = at path h (eqb (ident_of tag) x) refl
          where
            at : (path : List ℕ) → path_row types l first (x ∷ path) ≡ some j → (b : Bool) → eqb (ident_of tag) x ≡ b
                → Shows p (row_at types j) (get_or old j absent_row) (at_path (mem tag false c stop after) (x ∷ path)) (get_or rows j absent_row)
            at path h false q =
                rw (at_other tag false c stop after x path q)
                (shows_from p (row_at types j) (get_or-set_other old (first + k) j v absent_row (other x path j h q).0) (f.by_path (x ∷ path) j h))
            at [] h true q =
                let z : j ≡ first + k = own_row x j q h in
                let e : get_or rows j absent_row ≡ v =
                shows_none p (row_at types j) (f.by_path (x ∷ []) j h) (behind x [] q)
                ∙ ap (λ (i : ℕ). get_or (set old (first + k) v) i absent_row) z ∙ get_or-set_same old (first + k) v absent_row own in
                rw (at_own tag false c stop after x [] q, e, z) (shows_leaf ns fits lies)
            at (y ∷ path) h true q =
                let e : get_or rows j absent_row ≡ get_or old j absent_row =
                shows_none p (row_at types j) (f.by_path (x ∷ y ∷ path) j h) (behind x (y ∷ path) q)
                ∙ get_or-set_other old (first + k) j v absent_row (deeper y path j (own_more x y path j q h)) in
                rw (at_own tag false c stop after x (y ∷ path) q, e) shows_nothing

    fills_struct : (inner : Members) (rows1 rows : List Row)
        → Fills (suc l) (suc (first + k)) inner (set old (first + k) members_row) rows1
        → Fills l first after rows1 rows
        → Fills l first (mem tag true [] inner after) old rows
    unfolding path_row at_end
    fills_struct inner rows1 rows g f = record {
      kept = record {
        size = f.kept.size ∙ g.kept.size ∙ length-set old (first + k) members_row;
        same = λ j h.
            f.kept.same j h
            ∙ passed j (λ i. h (in_inner types l first (ident_of tag) k known.found j i)) (outer j h);
      };
      by_path = go;
    }
      where
        -- a row that is neither the struct's nor below it
        passed : (j : ℕ) → (InLevel types (suc l) (suc (first + k)) j → ⊥) → (j ≡ first + k → ⊥)
            → get_or rows1 j absent_row ≡ get_or old j absent_row
        passed j h ne = g.kept.same j h ∙ get_or-set_other old (first + k) j members_row absent_row ne

        go : ByPath p types l first (mem tag true [] inner after) old rows
        go [] j h = none_some h
        go (x ∷ path) j h = at path h (eqb (ident_of tag) x) refl
          where
            at : (path : List ℕ) → path_row types l first (x ∷ path) ≡ some j → (b : Bool) → eqb (ident_of tag) x ≡ b
                → Shows p (row_at types j) (get_or old j absent_row) (at_path (mem tag true [] inner after) (x ∷ path)) (get_or rows j absent_row)
            at path h false q =
                rw (at_other tag true [] inner after x path q)
                (shows_from p (row_at types j) (passed j (other x path j h q).1 (other x path j h q).0) (f.by_path (x ∷ path) j h))
            at [] h true q =
                let z : j ≡ first + k = own_row x j q h in
                let e : get_or rows j absent_row ≡ members_row =
                shows_none p (row_at types j) (f.by_path (x ∷ []) j h) (behind x [] q)
                ∙ g.kept.same j (λ i. omega (arith, i.after))
                ∙ ap (λ (i : ℕ). get_or (set old (first + k) members_row) i absent_row) z ∙ get_or-set_same old (first + k) members_row absent_row own in
                rw (at_own tag true [] inner after x [] q, e) shows_branch
            at (y ∷ path) h true q =
                let h2 = own_more x y path j q h in
                let e : get_or rows j absent_row ≡ get_or rows1 j absent_row =
                shows_none p (row_at types j) (f.by_path (x ∷ y ∷ path) j h) (behind x (y ∷ path) q) in
                rw (at_own tag true [] inner after x (y ∷ path) q, e)
                (shows_from p (row_at types j) (get_or-set_other old (first + k) j members_row absent_row (deeper y path j h2))
                (g.by_path (y ∷ path) j h2))

  -- the rows that a tree gives
  pub each_fills : {l first : ℕ} {m : Members} → Each width types l first m → (place : ℕ) (old : List Row)
      → length old ≡ length types → Lies p place (bytes_of width m)
      → Fills l first m old (filled width types l first place m old)
  unfolding filled bytes_of at_path
  each_fills each_stop place old size lies = record {
    by_path = λ path j h. shows_nothing;
    kept = record { size = refl; same = λ j h. refl };
  }
  each_fills {l} {first} (each_unknown {tag = tag} {c = c} {after = after} fr hc e ea) place old size lies =
      let b = lies_behind p width place tag c (bytes_of width after) lies in
      rw (filled_unknown width types l first place tag false c stop after old e)
      (fills_unknown l first tag false c stop after old _ e (each_fills ea (content_at width tag place + length c) old size b))
  each_fills {l} {first} (each_leaf {tag = tag} {k = k} {c = c} {after = after} fr hc known ns fits ea) place old size lies =
      let b = lies_behind p width place tag c (bytes_of width after) lies in
      let at : ℕ = content_at width tag place in
      let v : Row = shown_of (row_at types (first + k)) at c in
      rw (filled_known width types l first place tag false c stop after old k known.found)
      (fills_leaf l first tag k after known old size at c _ ns fits (lies_content p width place tag c (bytes_of width after) lies)
      (each_fills ea (at + length c) (set old (first + k) v) (length-set old (first + k) v ∙ size) b))
  each_fills {l} {first} (each_struct {tag = tag} {k = k} {inner = inner} {after = after} fr known is ei wi ea) place old size lies =
      let c : List ℕ = bytes_of width inner in
      let b = lies_behind p width place tag c (bytes_of width after) lies in
      let at : ℕ = content_at width tag place in
      let g = each_fills ei at (set old (first + k) members_row) (length-set old (first + k) members_row ∙ size)
      (lies_content p width place tag c (bytes_of width after) lies) in
      rw (filled_known width types l first place tag true [] inner after old k known.found)
      (fills_struct l first tag k after known old size inner _ _ g
      (each_fills ea (at + length c) _ (g.kept.size ∙ length-set old (first + k) members_row ∙ size) b))
