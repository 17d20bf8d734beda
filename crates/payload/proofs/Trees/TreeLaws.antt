-- A payload of bytes is accepted exactly when it is the bytes of a tree that the table reads; the rows and the count are the tree's.
-- Assumes nothing.
use mathlib.Core.Path.{◌≡◌, refl, sym, ap, ap₂, ◌∙◌}
use Prim.Native.Nat.{ℕ, suc, ◌+◌, ◌<◌}
use native.Mathlib.Omega.{arith}
use native.Mathlib.Nat.{add-zero}
use mathlib.Core.Bool.{Bool, true, false}
use mathlib.Core.Option.{none, some}
use mathlib.Core.List.{List, []}
use lib.ListN.{length, drop, set, replicate}
use lib.Dec.{ltb, eqb}
use borrow.Author.Tests.{eqb-true, eq-eqb}
use Rattle.wire.specs.Choose.{pick, or}
use Rattle.wire.specs.Number.{AreBytes, big, number_bytes}
use Rattle.wire.specs.Tag.{wire_of, ident_of, field_width}
use Rattle.payload.specs.declared.table.TypeRow.{TypeRow}
use Rattle.payload.specs.declared.row.Row.{Row}
use Rattle.payload.specs.Table.{find, idents_differ, row_at}
use Rattle.payload.specs.Row.{absent_row, members_row, shown_of}
use Rattle.payload.specs.Reading.{walked, walk, walked_of}
use Rattle.payload.specs.Tree.{Members, stop, mem, field_bytes, member_bytes, bytes_of}
use Rattle.payload.specs.Formed.{row_for, for_row, content_at, unknowns, filled, has, misses, Each, each_stop, each_unknown, each_leaf, each_struct, Formed, TreeOf, TreeLaw}
use Rattle.payload.proofs.Trees.Walk.{pick_all}
use Rattle.wire.proofs.NumberLaws.{bytes_nil, bytes_append, bytes_number_bytes}
use Rattle.payload.proofs.Trees.Level.{none_some, true_false, below_self}
use Rattle.payload.proofs.Trees.Follow.{Follows, to_stop, to_skip, to_leaf, to_struct, follow_walk, walk_follow}
use Rattle.payload.proofs.Trees.Seen.{absent_members, absent_shown, follows_kept, also, Met, met_unknown, met_known, met_inner, met_after, met_first, end_misses}

-- ---- what a tree gives, member by member

module _ (width : ℕ) (types : List TypeRow) (l first place tag : ℕ) (s : Bool) (c : List ℕ) (inner after : Members) (rows : List Row) where
  pub filled_unknown : row_for types l first tag ≡ none
      → filled width types l first place (mem tag s c inner after) rows
      ≡ filled width types l first (content_at width tag place + length (pick s (bytes_of width inner) c)) after rows
  unfolding filled for_row
  filled_unknown e = rw e

  pub filled_known : (k : ℕ) → row_for types l first tag ≡ some k
      → filled width types l first place (mem tag s c inner after) rows
      ≡ filled width types l first (content_at width tag place + length (pick s (bytes_of width inner) c)) after
      (pick s (filled width types (suc l) (suc (first + k)) (content_at width tag place) inner (set rows (first + k) members_row))
      (set rows (first + k) (shown_of (row_at types (first + k)) (content_at width tag place) c)))
  unfolding filled for_row
  filled_known k e = rw e

module _ (types : List TypeRow) (l first tag : ℕ) (s : Bool) (c : List ℕ) (inner after : Members) where
  pub count_unknown : row_for types l first tag ≡ none
      → unknowns types l first (mem tag s c inner after) ≡ suc (unknowns types l first after)
  unfolding unknowns for_row
  count_unknown e = rw e (omega arith)

  pub count_known : (k : ℕ) → row_for types l first tag ≡ some k
      → unknowns types l first (mem tag s c inner after)
      ≡ pick s (unknowns types (suc l) (suc (first + k)) inner) 0 + unknowns types l first after
  unfolding unknowns for_row
  count_known k e = rw e

-- what the walk gives along a tree is what the tree gives
pub follows_gives : {width : ℕ} {types : List TypeRow} {l first place n : ℕ} {m : Members} {rows rows2 : List Row}
    → Follows width types l first place m rows rows2 n
    → (filled width types l first place m rows ≡ rows2) × (unknowns types l first m ≡ n)
unfolding filled unknowns
follows_gives (to_stop e) = (refl, refl)
follows_gives {width} {types} {l} {first} {place} (to_skip {tag = tag} {c = c} {after = after} {rows = rows} fr hc e f) =
    let g = follows_gives f in (
      filled_unknown width types l first place tag false c stop after rows e ∙ g.0,
      count_unknown types l first tag false c stop after e ∙ ap suc g.1,
    )
follows_gives {width} {types} {l} {first} {place} (to_leaf {tag = tag} {k = k} {c = c} {after = after} {rows = rows} fr hc e w ab s fits f) =
    let g = follows_gives f in (
      filled_known width types l first place tag false c stop after rows k e ∙ g.0,
      count_known types l first tag false c stop after k e ∙ omega (arith, g.1),
    )
follows_gives {width} {types} {l} {first} {place} (to_struct {tag = tag} {k = k} {inner = inner} {after = after} {rows = rows} fr e w ab s fi f) =
    let gi = follows_gives fi in
    let g = follows_gives f in (
      filled_known width types l first place tag true [] inner after rows k e ∙ rw gi.0 g.0,
      count_known types l first tag true [] inner after k e ∙ ap₂ ◌+◌ gi.1 g.1,
    )

-- ---- Data IDs met before a member, at it and after it

-- `all` are a level's Data IDs, `seen` those of the members before m
abbrev pub Splits : Members → (ℕ → Bool) → Members → Type 0
Splits all seen m = (x : ℕ) → has x all ≡ or (seen x) (has x m)

-- a known Data ID that was met isn't met again
abbrev pub Once : List TypeRow → ℕ → ℕ → (ℕ → Bool) → Members → Type 0
Once types l first seen m = (x k : ℕ) → find l x (drop first types) ≡ some k → seen x ≡ true → has x m ≡ false

pub or_right : (a b : Bool) → or a b ≡ false → b ≡ false
or_right true b e = true_false e
or_right false b e = e

pub or_false : (b : Bool) → or b false ≡ b
or_false true = refl
or_false false = refl

module _ (tag : ℕ) (s : Bool) (c : List ℕ) (inner after : Members) where
  pub has_own : has (ident_of tag) (mem tag s c inner after) ≡ true
  unfolding has
  has_own = rw (eq-eqb (ident_of tag) (ident_of tag) refl)

  pub splits_next : (all : Members) (seen : ℕ → Bool) → Splits all seen (mem tag s c inner after) → Splits all (also (ident_of tag) seen) after
  unfolding has
  splits_next all seen sp x = sp x ∙ swap (seen x) (eqb (ident_of tag) x) (has x after)
    where
      swap : (a b d : Bool) → or a (or b d) ≡ or (or b a) d
      swap true true d = refl
      swap true false d = refl
      swap false true d = refl
      swap false false d = refl

  pub once_next : (types : List TypeRow) (l first : ℕ) (seen : ℕ → Bool)
      → ((k : ℕ) → row_for types l first tag ≡ some k → has (ident_of tag) after ≡ false)
      → Once types l first seen (mem tag s c inner after) → Once types l first (also (ident_of tag) seen) after
  unfolding has
  once_next types l first seen o once x k ex sx = go (eqb (ident_of tag) x) refl sx
    where
      go : (b : Bool) → eqb (ident_of tag) x ≡ b → or b (seen x) ≡ true → has x after ≡ false
      go true q sx =
          let z : ident_of tag ≡ x = eqb-true (ident_of tag) x q in
          rw (← z) (o k (rw z ex))
      go false q sx = or_right (eqb (ident_of tag) x) (has x after) (once x k ex sx)

  -- and back
  once_back : (types : List TypeRow) (l first : ℕ) (seen : ℕ → Bool)
      → ((k : ℕ) → row_for types l first tag ≡ some k → seen (ident_of tag) ≡ true → ⊥)
      → Once types l first (also (ident_of tag) seen) after → Once types l first seen (mem tag s c inner after)
  unfolding has
  once_back types l first seen new once x k ex sx = go (eqb (ident_of tag) x) refl
    where
      go : (b : Bool) → eqb (ident_of tag) x ≡ b → or b (has x after) ≡ false
      go true q =
          let z : ident_of tag ≡ x = eqb-true (ident_of tag) x q in
          absurd (new k (rw z ex) (rw z sx))
      go false q = once x k ex (rw (q, sx))

  -- a known member that comes once was not met before
  pub not_seen : (types : List TypeRow) (l first : ℕ) (seen : ℕ → Bool) (k : ℕ) → row_for types l first tag ≡ some k
      → Once types l first seen (mem tag s c inner after) → seen (ident_of tag) ≡ false
  not_seen types l first seen k e once = go (seen (ident_of tag)) refl
    where
      go : (b : Bool) → seen (ident_of tag) ≡ b → b ≡ false
      go true q = true_false (sym has_own ∙ once (ident_of tag) k e q)
      go false q = refl

pub also_own : (y : ℕ) (seen : ℕ → Bool) → also y seen y ≡ true
also_own y seen = rw (eq-eqb y y refl)

-- ---- a tree that the table reads is followed

module _ (width : ℕ) (types : List TypeRow) (d : idents_differ types ≡ true) where
  -- the rows and the count that a walk along the tree gives
  pub record Along (l first place : ℕ) (m : Members) (rows : List Row) : Type 0 where
    pub rows2 : List Row
    pub count : ℕ
    pub follows : Follows width types l first place m rows rows2 count

  pub each_follows : {l first : ℕ} {m : Members} → Each width types l first m
      → (place : ℕ) (rows : List Row) (seen : ℕ → Bool) (all : Members)
      → Met types l first seen rows → Splits all seen m → misses l (drop first types) all ≡ false → Once types l first seen m
      → Along l first place m rows
  unfolding has
  each_follows {l} {first} each_stop place rows seen all met sp mi once =
      record { rows2 = rows; count = 0; follows = to_stop (end_misses types l first seen rows all d met (λ x. sp x ∙ or_false (seen x)) ∙ mi) }
  each_follows {l} {first} (each_unknown {tag = tag} {c = c} {after = after} fr hc e ea) place rows seen all met sp mi once =
      let a = each_follows ea _ rows (also (ident_of tag) seen) all (met_unknown types l first seen rows met (ident_of tag) e)
      (splits_next tag false c stop after all seen sp) mi (once_next tag false c stop after types l first seen (λ k ek. none_some (sym e ∙ ek)) once) in
      record { rows2 = a.rows2; count = suc a.count; follows = to_skip fr hc e a.follows }
  each_follows {l} {first} (each_leaf {tag = tag} {k = k} {c = c} {after = after} fr hc known ns fits ea) place rows seen all met sp mi once =
      let e : row_for types l first tag ≡ some k = known.found in
      let n : seen (ident_of tag) ≡ false = not_seen tag false c stop after types l first seen k e once in
      let v : Row = shown_of (row_at types (first + k)) (content_at width tag place) c in
      let a = each_follows ea _ (set rows (first + k) v) (also (ident_of tag) seen) all
      (met_known types l first seen rows met (ident_of tag) k e v (absent_shown (row_at types (first + k)) (content_at width tag place) c))
      (splits_next tag false c stop after all seen sp) mi (once_next tag false c stop after types l first seen (λ j ej. known.once) once) in
      record {
        rows2 = a.rows2;
        count = a.count;
        follows = to_leaf fr hc e known.wire_fits_lem (met.fresh (ident_of tag) k (first + k) e n (below_self types l (first + k))) ns fits a.follows;
      }
  each_follows {l} {first} (each_struct {tag = tag} {k = k} {inner = inner} {after = after} fr known is ei wi ea) place rows seen all met sp mi once =
      let e : row_for types l first tag ≡ some k = known.found in
      let n : seen (ident_of tag) ≡ false = not_seen tag true [] inner after types l first seen k e once in
      let i = each_follows ei (content_at width tag place) (set rows (first + k) members_row) (λ x. false) inner
      (met_inner types l first seen rows met (ident_of tag) k e n members_row) (λ x. refl) wi (λ x j ex sx. true_false (sym sx)) in
      let a = each_follows ea (content_at width tag place + length (bytes_of width inner)) i.rows2 (also (ident_of tag) seen) all
      (met_after types width l first (also (ident_of tag) seen) (set rows (first + k) members_row) i.rows2
      (met_known types l first seen rows met (ident_of tag) k e members_row absent_members)
      (ident_of tag) k e (also_own (ident_of tag) seen) (follows_kept width types i.follows))
      (splits_next tag true [] inner after all seen sp) mi (once_next tag true [] inner after types l first seen (λ j ej. known.once) once) in
      record {
        rows2 = a.rows2;
        count = i.count + a.count;
        follows = to_struct fr e known.wire_fits_lem (met.fresh (ident_of tag) k (first + k) e n (below_self types l (first + k))) is
            i.follows a.follows;
      }

  -- ---- a tree that a walk follows is one that the table reads

  record Reads (l first : ℕ) (seen : ℕ → Bool) (all m : Members) : Type 0 where
    each : Each width types l first m
    whole : misses l (drop first types) all ≡ false
    once : Once types l first seen m

  follows_reads : {l first place n : ℕ} {m : Members} {rows rows2 : List Row} → Follows width types l first place m rows rows2 n
      → (seen : ℕ → Bool) (all : Members) → Met types l first seen rows → Splits all seen m
      → Reads l first seen all m
  unfolding has
  follows_reads {l} {first} (to_stop {rows = rows} e) seen all met sp = record {
    each = each_stop;
    whole = sym (end_misses types l first seen rows all d met (λ x. sp x ∙ or_false (seen x))) ∙ e;
    once = λ x k ex sx. refl;
  }
  follows_reads {l} {first} (to_skip {tag = tag} {c = c} {after = after} {rows = rows} fr hc e f) seen all met sp =
      let r = follows_reads f (also (ident_of tag) seen) all (met_unknown types l first seen rows met (ident_of tag) e)
      (splits_next tag false c stop after all seen sp) in
      record {
        each = each_unknown fr hc e r.each;
        whole = r.whole;
        once = once_back tag false c stop after types l first seen (λ k ek sk. none_some (sym e ∙ ek)) r.once;
      }
  follows_reads {l} {first} {place} (to_leaf {tag = tag} {k = k} {c = c} {after = after} {rows = rows} fr hc e w ab ns fits f) seen all met sp =
      let v : Row = shown_of (row_at types (first + k)) (content_at width tag place) c in
      let r = follows_reads f (also (ident_of tag) seen) all
      (met_known types l first seen rows met (ident_of tag) k e v (absent_shown (row_at types (first + k)) (content_at width tag place) c))
      (splits_next tag false c stop after all seen sp) in
      record {
        each = each_leaf fr hc (record { found = e; wire_fits_lem = w; once = r.once (ident_of tag) k e (also_own (ident_of tag) seen) }) ns fits r.each;
        whole = r.whole;
        once = once_back tag false c stop after types l first seen (λ j ej sj. new j ej sj) r.once;
      }
    where
      new : (j : ℕ) → row_for types l first tag ≡ some j → seen (ident_of tag) ≡ true → ⊥
      new j ej sj = let z : k ≡ j = cc in true_false (sym ab ∙ met.there (ident_of tag) k e sj)
  follows_reads {l} {first} {place} (to_struct {tag = tag} {k = k} {inner = inner} {after = after} {rows = rows} {rows1 = rows1} fr e w ab is fi f) seen all met sp =
      let n : seen (ident_of tag) ≡ false = new (seen (ident_of tag)) refl in
      let i = follows_reads fi (λ x. false) inner (met_inner types l first seen rows met (ident_of tag) k e n members_row) (λ x. refl) in
      let r = follows_reads f (also (ident_of tag) seen) all
      (met_after types width l first (also (ident_of tag) seen) (set rows (first + k) members_row) rows1
      (met_known types l first seen rows met (ident_of tag) k e members_row absent_members)
      (ident_of tag) k e (also_own (ident_of tag) seen) (follows_kept width types fi))
      (splits_next tag true [] inner after all seen sp) in
      record {
        each = each_struct fr (record { found = e; wire_fits_lem = w; once = r.once (ident_of tag) k e (also_own (ident_of tag) seen) }) is
            i.each i.whole r.each;
        whole = r.whole;
        once = once_back tag true [] inner after types l first seen (λ j ej sj. true_false (sym sj ∙ n)) r.once;
      }
    where
      new : (b : Bool) → seen (ident_of tag) ≡ b → b ≡ false
      new true sj = true_false (sym ab ∙ met.there (ident_of tag) k e sj)
      new false sj = refl

-- ---- the bytes of a tree are bytes

pub member_bytes_lem : (width tag : ℕ) (c : List ℕ) → AreBytes c → AreBytes (member_bytes width tag c)
unfolding member_bytes field_bytes
member_bytes_lem width tag c h =
    bytes_append (number_bytes big 2 tag) _ (bytes_number_bytes 2 tag) (bytes_append (field_bytes width (wire_of tag) (length c)) c field h)
  where
    field : AreBytes (field_bytes width (wire_of tag) (length c))
    field = pick_all (λ (xs : List ℕ). AreBytes xs) (ltb (wire_of tag) 4) bytes_nil (bytes_number_bytes (field_width width (wire_of tag)) (length c))

pub each_bytes : {width : ℕ} {types : List TypeRow} {l first : ℕ} {m : Members} → Each width types l first m → AreBytes (bytes_of width m)
unfolding bytes_of
each_bytes each_stop = bytes_nil
each_bytes {width} (each_unknown {tag = tag} {c = c} {after = after} fr hc e ea) =
    bytes_append (member_bytes width tag c) (bytes_of width after) (member_bytes_lem width tag c hc) (each_bytes ea)
each_bytes {width} (each_leaf {tag = tag} {c = c} {after = after} fr hc known ns fits ea) =
    bytes_append (member_bytes width tag c) (bytes_of width after) (member_bytes_lem width tag c hc) (each_bytes ea)
each_bytes {width} (each_struct {tag = tag} {inner = inner} {after = after} fr known is ei wi ea) =
    bytes_append (member_bytes width tag (bytes_of width inner)) (bytes_of width after)
    (member_bytes_lem width tag (bytes_of width inner) (each_bytes ei)) (each_bytes ea)

-- ---- at any level

-- none of the level's members was met: its rows, and those below them, are absent
abbrev pub Unmet : List TypeRow → ℕ → ℕ → List Row → Type 0
Unmet types l first rows = Met types l first (λ x. false) rows

module _ (width : ℕ) (types : List TypeRow) (d : idents_differ types ≡ true) (l first place : ℕ) (rows : List Row) (un : Unmet types l first rows) where
  pub level_tree_read : (turns : ℕ) (m : Members) (n : ℕ) → Formed width types l first m → length (bytes_of width m) < turns
      → walk turns width types l first place (bytes_of width m) rows n
      ≡ walked (filled width types l first place m rows) (unknowns types l first m + n)
  level_tree_read turns m n f h =
      let a = each_follows width types d f.each place rows (λ x. false) m un (λ x. refl) f.whole (λ x k ex sx. true_false (sym sx)) in
      let g = follows_gives a.follows in
      follow_walk a.follows turns n h ∙ ap₂ walked (sym g.0) (ap (◌+ n) (sym g.1))

  pub record LevelTree (bytes : List ℕ) (rows2 : List Row) (n n2 : ℕ) : Type 0 where
    pub tree : Members
    pub formed : Formed width types l first tree
    pub bytes_are : bytes_of width tree ≡ bytes
    pub rows_are : filled width types l first place tree rows ≡ rows2
    pub count_is : unknowns types l first tree + n ≡ n2

  pub level_read_tree : (turns : ℕ) (bytes : List ℕ) (n : ℕ) (rows2 : List Row) (n2 : ℕ) → AreBytes bytes
      → walk turns width types l first place bytes rows n ≡ walked rows2 n2 → LevelTree bytes rows2 n n2
  level_read_tree turns bytes n rows2 n2 h e =
      let f = walk_follow turns width types l first place bytes rows n rows2 n2 h e in
      let r = follows_reads width types d f.follows (λ x. false) f.tree un (λ x. refl) in
      let g = follows_gives f.follows in
      record {
        tree = f.tree;
        formed = record { each = r.each; whole = r.whole };
        bytes_are = f.bytes_are;
        rows_are = g.0;
        count_is = ap (◌+ n) g.1 ∙ sym f.count_is;
      }

-- ---- a payload

pub tree_law : (width : ℕ) (types : List TypeRow) (p : List ℕ) (rows : List Row) (n : ℕ) → idents_differ types ≡ true
    → TreeLaw width types p rows n
unfolding walked_of
tree_law width types p rows n d = record { read_tree = read; tree_read = back; tree_bytes = λ t. rw t.bytes_are at (each_bytes t.formed.each) }
  where
    start : List Row
    start = replicate (length types) absent_row

    read : AreBytes p → walked_of width types p ≡ walked rows n → TreeOf width types p rows n
    read h e =
        let t = level_read_tree width types d 1 0 0 start (met_first types 1 0) (suc (length p)) p 0 rows n h e in
        record {
          tree = t.tree;
          formed = t.formed;
          bytes_are = t.bytes_are;
          rows_are = t.rows_are;
          count_is = sym (add-zero (unknowns types 1 0 t.tree)) ∙ t.count_is;
        }

    back : TreeOf width types p rows n → walked_of width types p ≡ walked rows n
    back t =
        let h : length (bytes_of width t.tree) < suc (length p) = rw t.bytes_are (omega arith) in
        let w = level_tree_read width types d 1 0 0 start (met_first types 1 0) (suc (length p)) t.tree 0 t.formed h in
        rw t.bytes_are at w ∙ ap₂ walked t.rows_are (add-zero (unknowns types 1 0 t.tree) ∙ t.count_is)
