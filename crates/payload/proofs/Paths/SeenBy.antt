-- Which levels of a tree lack a required member, and the tree as a table sees it: of the same bytes, an unknown struct being one content.
-- Assumes nothing.
use mathlib.Core.Path.{◌≡◌, refl, sym, ap, ap₂, ◌∙◌}
use Prim.Native.Nat.{ℕ, suc, ◌+◌}
use mathlib.Core.Bool.{Bool, true, false}
use mathlib.Core.Option.{none, some}
use mathlib.Core.List.{List, [], ◌∷◌, ◌++◌}
use lib.ListN.{drop}
use lib.Dec.{eqb}
use borrow.Author.Tests.{eqb-true}
use Rattle.wire.specs.Choose.{pick, or}
use Rattle.wire.specs.Tag.{ident_of}
use Rattle.payload.specs.declared.table.TypeRow.{TypeRow}
use Rattle.payload.specs.Table.{find}
use Rattle.payload.specs.Tree.{Members, stop, mem, member_bytes, bytes_of}
use Rattle.payload.specs.Formed.{row_for, for_row, unknowns, has, misses, KnownAs, Each, each_stop, each_unknown, each_leaf, each_struct}
use Rattle.payload.specs.Paths.{at_end, path_row, at_path, Fits, fits_stop, fits_unknown, fits_leaf, fits_struct}
use Rattle.payload.proofs.Joined.{or_left}
use Rattle.payload.proofs.Trees.Level.{none_some}
use Rattle.payload.proofs.Trees.TreeLaws.{count_unknown, count_known, or_right}
use Rattle.payload.proofs.Paths.PathLaws.{path_leads, path_more, at_other, at_own}

-- ---- which levels lack a required member

-- a level below lacks a required member: one of a struct that is present and known
unfoldable pub lacks_below : List TypeRow → ℕ → ℕ → Members → Bool
lacks_below types l first stop = false
lacks_below types l first (mem tag s c inner after) =
    or (for_row (row_for types l first tag) false (λ k.
    pick s (or (lacks_below types (suc l) (suc (first + k)) inner) (misses (suc l) (drop (suc (first + k)) types) inner)) false))
    (lacks_below types l first after)

-- this level does, or one below
abbrev pub lacks_any : List TypeRow → ℕ → ℕ → Members → Bool
lacks_any types l first m = or (lacks_below types l first m) (misses l (drop first types) m)

module _ (types : List TypeRow) (l first tag : ℕ) (c : List ℕ) (inner after : Members) where
  pub below_unknown : (s : Bool) → row_for types l first tag ≡ none
      → lacks_below types l first (mem tag s c inner after) ≡ lacks_below types l first after
  unfolding lacks_below for_row
  below_unknown s e = rw e

  pub below_leaf : (k : ℕ) → row_for types l first tag ≡ some k
      → lacks_below types l first (mem tag false c inner after) ≡ lacks_below types l first after
  unfolding lacks_below for_row
  below_leaf k e = rw e

  pub below_struct : (k : ℕ) → row_for types l first tag ≡ some k
      → lacks_below types l first (mem tag true c inner after)
      ≡ or (lacks_any types (suc l) (suc (first + k)) inner) (lacks_below types l first after)
  unfolding lacks_below for_row
  below_struct k e = rw e

pub misses_same : (l : ℕ) (rs : List TypeRow) (a b : Members) → ((x : ℕ) → has x a ≡ has x b) → misses l rs a ≡ misses l rs b
unfolding misses
misses_same l [] a b h = refl
misses_same l (r ∷ rs) a b h = rw (h r.ident, misses_same l rs a b h)

-- ---- the tree as the table sees it

-- A tree of the same bytes, in which an unknown member is a leaf.
pub record SeenAs (width : ℕ) (types : List TypeRow) (l first : ℕ) (m : Members) : Type 0 where
  pub tree : Members
  pub bytes_are : bytes_of width tree ≡ bytes_of width m
  pub same_idents : (x : ℕ) → has x tree ≡ has x m
  pub same_count : unknowns types l first tree ≡ unknowns types l first m
  pub same_paths : (path : List ℕ) (j : ℕ) → path_row types l first path ≡ some j → at_path tree path ≡ at_path m path
  pub each : lacks_below types l first m ≡ false → Each width types l first tree

known_as : (types : List TypeRow) (l first tag k : ℕ) (after after2 : Members) → has (ident_of tag) after2 ≡ has (ident_of tag) after
    → KnownAs types l first tag k after → KnownAs types l first tag k after2
known_as types l first tag k after after2 e h = record { found = h.found; wire_fits_lem = h.wire_fits_lem; once = e ∙ h.once }

pub fits_seen : {width : ℕ} {types : List TypeRow} {l first : ℕ} {m : Members} → Fits width types l first m → SeenAs width types l first m
unfolding bytes_of has path_row at_end
fits_seen fits_stop = record {
  tree = stop;
  bytes_are = refl;
  same_idents = λ x. refl;
  same_count = refl;
  same_paths = λ path j h. refl;
  each = λ e. each_stop;
}
fits_seen {width} {types} {l} {first} (fits_unknown {tag = tag} {s = s} {c = c} {inner = inner} {after = after} fr hc e f) =
    let g = fits_seen f in
    let d : List ℕ = pick s (bytes_of width inner) c in
    record {
      tree = mem tag false d stop g.tree;
      bytes_are = ap (member_bytes width tag d ++◌) g.bytes_are;
      same_idents = λ x. ap (or (eqb (ident_of tag) x)) (g.same_idents x);
      same_count =
          count_unknown types l first tag false d stop g.tree e ∙ ap suc g.same_count ∙ sym (count_unknown types l first tag s c inner after e);
      same_paths = paths g.tree g.same_paths;
      each = λ q. each_unknown fr hc e (g.each (sym (below_unknown types l first tag c inner after s e) ∙ q));
    }
  where
    paths : (t : Members) → ((path : List ℕ) (j : ℕ) → path_row types l first path ≡ some j → at_path t path ≡ at_path after path)
        → (path : List ℕ) (j : ℕ) → path_row types l first path ≡ some j
        → at_path (mem tag false (pick s (bytes_of width inner) c) stop t) path ≡ at_path (mem tag s c inner after) path
    paths t same [] j h = none_some h
    paths t same (x ∷ path) j h = go (eqb (ident_of tag) x) refl
      where
        go : (b : Bool) → eqb (ident_of tag) x ≡ b
            → at_path (mem tag false (pick s (bytes_of width inner) c) stop t) (x ∷ path) ≡ at_path (mem tag s c inner after) (x ∷ path)
        go true q =
            let d = path_leads types l first x path j h in
            none_some (sym e ∙ ap (λ (y : ℕ). find l y (drop first types)) (eqb-true (ident_of tag) x q) ∙ d.found)
        go false q = at_other tag false _ stop t x path q ∙ same (x ∷ path) j h ∙ sym (at_other tag s c inner after x path q)
fits_seen {width} {types} {l} {first} (fits_leaf {tag = tag} {k = k} {c = c} {after = after} fr hc known ns fits f) =
    let g = fits_seen f in
    record {
      tree = mem tag false c stop g.tree;
      bytes_are = ap (member_bytes width tag c ++◌) g.bytes_are;
      same_idents = λ x. ap (or (eqb (ident_of tag) x)) (g.same_idents x);
      same_count =
          count_known types l first tag false c stop g.tree k known.found ∙ ap (0 +◌) g.same_count
          ∙ sym (count_known types l first tag false c stop after k known.found);
      same_paths = paths g.tree g.same_paths;
      each = λ q.
          each_leaf fr hc (known_as types l first tag k after g.tree (g.same_idents (ident_of tag)) known) ns fits
          (g.each (sym (below_leaf types l first tag c stop after k known.found) ∙ q));
    }
  where
    paths : (t : Members) → ((path : List ℕ) (j : ℕ) → path_row types l first path ≡ some j → at_path t path ≡ at_path after path)
        → (path : List ℕ) (j : ℕ) → path_row types l first path ≡ some j
        → at_path (mem tag false c stop t) path ≡ at_path (mem tag false c stop after) path
    paths t same [] j h = none_some h
    paths t same (x ∷ path) j h = go (eqb (ident_of tag) x) refl
      where
        go : (b : Bool) → eqb (ident_of tag) x ≡ b → at_path (mem tag false c stop t) (x ∷ path) ≡ at_path (mem tag false c stop after) (x ∷ path)
        go true q = at_own tag false c stop t x path q ∙ sym (at_own tag false c stop after x path q)
        go false q = at_other tag false c stop t x path q ∙ same (x ∷ path) j h ∙ sym (at_other tag false c stop after x path q)
fits_seen {width} {types} {l} {first} (fits_struct {tag = tag} {k = k} {inner = inner} {after = after} fr known is fi f) =
    let g = fits_seen f in
    let i = fits_seen fi in
    record {
      tree = mem tag true [] i.tree g.tree;
      bytes_are = ap₂ (λ (u v : List ℕ). member_bytes width tag u ++ v) i.bytes_are g.bytes_are;
      same_idents = λ x. ap (or (eqb (ident_of tag) x)) (g.same_idents x);
      same_count =
          count_known types l first tag true [] i.tree g.tree k known.found ∙ ap₂ ◌+◌ i.same_count g.same_count
          ∙ sym (count_known types l first tag true [] inner after k known.found);
      same_paths = paths i.tree g.tree i.same_paths g.same_paths;
      each = λ q.
          let b = sym (below_struct types l first tag [] inner after k known.found) ∙ q in
          let bi = or_left (lacks_any types (suc l) (suc (first + k)) inner) (lacks_below types l first after) b in
          each_struct {tag = tag} {inner = i.tree} (rw i.bytes_are fr)
          (known_as types l first tag k after g.tree (g.same_idents (ident_of tag)) known) is
          (i.each (or_left (lacks_below types (suc l) (suc (first + k)) inner) _ bi))
          (misses_same (suc l) (drop (suc (first + k)) types) i.tree inner i.same_idents
          ∙ or_right (lacks_below types (suc l) (suc (first + k)) inner) _ bi)
          (g.each (or_right (lacks_any types (suc l) (suc (first + k)) inner) (lacks_below types l first after) b));
    }
  where
    paths : (ti t : Members)
        → ((path : List ℕ) (j : ℕ) → path_row types (suc l) (suc (first + k)) path ≡ some j → at_path ti path ≡ at_path inner path)
        → ((path : List ℕ) (j : ℕ) → path_row types l first path ≡ some j → at_path t path ≡ at_path after path)
        → (path : List ℕ) (j : ℕ) → path_row types l first path ≡ some j
        → at_path (mem tag true [] ti t) path ≡ at_path (mem tag true [] inner after) path
    paths ti t samei same [] j h = none_some h
    paths ti t samei same (x ∷ path) j h = go path h (eqb (ident_of tag) x) refl
      where
        go : (path : List ℕ) → path_row types l first (x ∷ path) ≡ some j → (b : Bool) → eqb (ident_of tag) x ≡ b
            → at_path (mem tag true [] ti t) (x ∷ path) ≡ at_path (mem tag true [] inner after) (x ∷ path)
        go [] h true q = at_own tag true [] ti t x [] q ∙ sym (at_own tag true [] inner after x [] q)
        go (y ∷ path) h true q =
            let e : find l x (drop first types) ≡ some k = rw (eqb-true (ident_of tag) x q) at known.found in
            at_own tag true [] ti t x (y ∷ path) q ∙ samei (y ∷ path) j (sym (path_more types l first x k y path e) ∙ h)
            ∙ sym (at_own tag true [] inner after x (y ∷ path) q)
        go path h false q = at_other tag true [] ti t x path q ∙ same (x ∷ path) j h ∙ sym (at_other tag true [] inner after x path q)
