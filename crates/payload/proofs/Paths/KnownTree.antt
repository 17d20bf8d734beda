-- A tree that a table knows whole: every member has a row, no level has a Data ID twice. It fits any table that agrees with that one, and it
-- finds nothing where the table has no row.
-- Assumes nothing.
use mathlib.Core.Path.{◌≡◌, refl, sym, ap, ◌∙◌}
use Prim.Native.Nat.{ℕ, suc, ◌+◌}
use native.Mathlib.Omega.{arith}
use mathlib.Core.Bool.{Bool, true, false}
use mathlib.Core.Option.{Option, none, some}
use mathlib.Core.List.{List, [], ◌∷◌}
use lib.ListN.{drop}
use lib.Dec.{eqb}
use borrow.Author.Tests.{eqb-true}
use Rattle.wire.specs.Choose.{pick}
use Rattle.wire.specs.Number.{AreBytes}
use Rattle.wire.specs.Tag.{ident_of}
use Rattle.wire.specs.Kind.{struct}
use Rattle.wire.proofs.NumberLaws.{bytes_nil, bytes_append}
use Rattle.payload.specs.declared.table.TypeRow.{TypeRow}
use Rattle.payload.specs.Table.{find, row_at}
use Rattle.payload.specs.Reading.{content_fits}
use Rattle.payload.specs.Tree.{Members, stop, mem, member_bytes, bytes_of}
use Rattle.payload.specs.Formed.{row_for, unknowns, Framed, KnownAs, Each, each_stop, each_unknown, each_leaf, each_struct}
use Rattle.payload.specs.Writing.{nothing, leaf, branch}
use Rattle.payload.specs.Paths.{at_end, path_row, at_path, Fits, fits_stop, fits_unknown, fits_leaf, fits_struct}
use Rattle.payload.proofs.Trees.Level.{none_some}
use Rattle.payload.proofs.Trees.TreeLaws.{count_unknown, count_known, member_bytes_lem}
use Rattle.payload.proofs.Paths.PathLaws.{path_one, path_more}

-- each member of a level has a row, fits it, and stands there once
pub data Known (width : ℕ) (types : List TypeRow) : ℕ → ℕ → Members → Type 0 where
  known_stop : {l first : ℕ} → Known width types l first stop
  known_leaf : {l first tag k : ℕ} {c : List ℕ} {after : Members}
      → Framed width tag c → AreBytes c
      → KnownAs types l first tag k after
      → eqb (row_at types (first + k)).kind struct ≡ false
      → content_fits (row_at types (first + k)) c ≡ true
      → Known width types l first after
      → Known width types l first (mem tag false c stop after)
  known_struct : {l first tag k : ℕ} {inner after : Members}
      → Framed width tag (bytes_of width inner)
      → KnownAs types l first tag k after
      → eqb (row_at types (first + k)).kind struct ≡ true
      → Known width types (suc l) (suc (first + k)) inner
      → Known width types l first after
      → Known width types l first (mem tag true [] inner after)

-- a tree that fits and has no unknown member
pub each_known : {width : ℕ} {types : List TypeRow} {l first : ℕ} {m : Members} → Each width types l first m → unknowns types l first m ≡ 0
    → Known width types l first m
each_known each_stop e = known_stop
each_known {width} {types} {l} {first} (each_unknown {tag = tag} {c = c} {after = after} fr hc none_is f) e =
    absurd (omega (arith, count_unknown types l first tag false c stop after none_is))
each_known {width} {types} {l} {first} (each_leaf {tag = tag} {k = k} {c = c} {after = after} fr hc known ns fits f) e =
    known_leaf fr hc known ns fits (each_known f (omega (arith, count_known types l first tag false c stop after k known.found)))
each_known {width} {types} {l} {first} (each_struct {tag = tag} {k = k} {inner = inner} {after = after} fr known is fi wi f) e =
    let n = count_known types l first tag true [] inner after k known.found in
    known_struct fr known is (each_known fi (omega arith)) (each_known f (omega arith))

pub known_bytes : {width : ℕ} {types : List TypeRow} {l first : ℕ} {m : Members} → Known width types l first m → AreBytes (bytes_of width m)
unfolding bytes_of
known_bytes known_stop = bytes_nil
known_bytes {width} (known_leaf {tag = tag} {c = c} {after = after} fr hc known ns fits f) =
    bytes_append (member_bytes width tag c) (bytes_of width after) (member_bytes_lem width tag c hc) (known_bytes f)
known_bytes {width} (known_struct {tag = tag} {inner = inner} {after = after} fr known is fi f) =
    bytes_append (member_bytes width tag (bytes_of width inner)) (bytes_of width after)
    (member_bytes_lem width tag (bytes_of width inner) (known_bytes fi)) (known_bytes f)

-- ---- where the table has no row, nothing is found

pub known_nothing : {width : ℕ} {types : List TypeRow} {l first : ℕ} {m : Members} → Known width types l first m
    → (path : List ℕ) → path_row types l first path ≡ none → at_path m path ≡ nothing
unfolding at_path at_end
known_nothing known_stop path e = refl
known_nothing (known_leaf fr hc known ns fits f) [] e = refl
known_nothing {width} {types} {l} {first} (known_leaf {tag = tag} {k = k} {c = c} {after = after} fr hc known ns fits f) (x ∷ path) e =
    go path e (eqb (ident_of tag) x) refl (known_nothing f (x ∷ path) e)
  where
    go : (path : List ℕ) → path_row types l first (x ∷ path) ≡ none → (b : Bool) → eqb (ident_of tag) x ≡ b → at_path after (x ∷ path) ≡ nothing
        → pick b (at_end path (leaf c) nothing) (at_path after (x ∷ path)) ≡ nothing
    go [] e true q ih =
        none_some (sym e ∙ path_one types l first x k (ap (λ (y : ℕ). find l y (drop first types)) (sym (eqb-true (ident_of tag) x q)) ∙ known.found))
    go (y ∷ path) e true q ih = refl
    go path e false q ih = ih
known_nothing (known_struct fr known is fi f) [] e = refl
known_nothing {width} {types} {l} {first} (known_struct {tag = tag} {k = k} {inner = inner} {after = after} fr known is fi f) (x ∷ path) e =
    go path e (eqb (ident_of tag) x) refl (known_nothing f (x ∷ path) e) (known_nothing fi path)
  where
    own : eqb (ident_of tag) x ≡ true → find l x (drop first types) ≡ some k
    own q = ap (λ (y : ℕ). find l y (drop first types)) (sym (eqb-true (ident_of tag) x q)) ∙ known.found

    go : (path : List ℕ) → path_row types l first (x ∷ path) ≡ none → (b : Bool) → eqb (ident_of tag) x ≡ b → at_path after (x ∷ path) ≡ nothing
        → (path_row types (suc l) (suc (first + k)) path ≡ none → at_path inner path ≡ nothing)
        → pick b (at_end path branch (at_path inner path)) (at_path after (x ∷ path)) ≡ nothing
    go [] e true q ih ii = none_some (sym e ∙ path_one types l first x k (own q))
    go (y ∷ path) e true q ih ii = ii (sym (path_more types l first x k y path (own q)) ∙ e)
    go path e false q ih ii = ih

-- ---- it fits a table that agrees

-- where both tables have a path, from two levels on, the rows have one kind and one element kind
abbrev pub AgreeFrom : List TypeRow → List TypeRow → ℕ → ℕ → ℕ → Type 0
AgreeFrom types types2 l first first2 = (path : List ℕ) (i j : ℕ) → path_row types l first path ≡ some i → path_row types2 l first2 path ≡ some j
    → ((row_at types i).kind ≡ (row_at types2 j).kind) × ((row_at types i).elem ≡ (row_at types2 j).elem)

fits_same : (r r2 : TypeRow) (c : List ℕ) → r.kind ≡ r2.kind → r.elem ≡ r2.elem → content_fits r c ≡ content_fits r2 c
unfolding content_fits
fits_same r r2 c ek ee = rw (ek, ee)

module _ (types types2 : List TypeRow) (l first first2 x i j : ℕ) (agree : AgreeFrom types types2 l first first2)
    (e : find l x (drop first types) ≡ some i) (e2 : find l x (drop first2 types2) ≡ some j) where
  agree_here : ((row_at types (first + i)).kind ≡ (row_at types2 (first2 + j)).kind) × ((row_at types (first + i)).elem ≡ (row_at types2 (first2 + j)).elem)
  agree_here = agree (x ∷ []) (first + i) (first2 + j) (path_one types l first x i e) (path_one types2 l first2 x j e2)

  agree_in : AgreeFrom types types2 (suc l) (suc (first + i)) (suc (first2 + j))
  unfolding path_row
  agree_in [] a b h h2 = none_some h
  agree_in (y ∷ path) a b h h2 =
      agree (x ∷ y ∷ path) a b (path_more types l first x i y path e ∙ h) (path_more types2 l first2 x j y path e2 ∙ h2)

  -- a member that the one table knows is known by the other
  known_too : (tag : ℕ) (after : Members) → ident_of tag ≡ x → KnownAs types l first tag i after → KnownAs types2 l first2 tag j after
  known_too tag after z h =
      record { found = rw z e2; wire_fits_lem = rw agree_here.0 at h.wire_fits_lem; once = h.once }

pub known_fits : {width : ℕ} {types : List TypeRow} {l first : ℕ} {m : Members} → Known width types l first m
    → (types2 : List TypeRow) (first2 : ℕ) → AgreeFrom types types2 l first first2 → Fits width types2 l first2 m
known_fits known_stop types2 first2 agree = fits_stop
known_fits {width} {types} {l} {first} (known_leaf {tag = tag} {k = k} {c = c} {after = after} fr hc known ns fits f) types2 first2 agree =
    go (row_for types2 l first2 tag) refl (known_fits f types2 first2 agree)
  where
    go : (o : Option ℕ) → row_for types2 l first2 tag ≡ o → Fits width types2 l first2 after → Fits width types2 l first2 (mem tag false c stop after)
    go none e ih = fits_unknown fr hc e ih
    go (some j) e ih =
        let z = agree_here types types2 l first first2 (ident_of tag) k j agree known.found e in
        fits_leaf fr hc (known_too types types2 l first first2 (ident_of tag) k j agree known.found e tag after refl known) (rw z.0 at ns)
        (sym (fits_same (row_at types (first + k)) (row_at types2 (first2 + j)) c z.0 z.1) ∙ fits) ih
known_fits {width} {types} {l} {first} (known_struct {tag = tag} {k = k} {inner = inner} {after = after} fr known is fi f) types2 first2 agree =
    go (row_for types2 l first2 tag) refl (known_fits f types2 first2 agree) (known_fits fi types2)
  where
    go : (o : Option ℕ) → row_for types2 l first2 tag ≡ o → Fits width types2 l first2 after
        → ((i : ℕ) → AgreeFrom types types2 (suc l) (suc (first + k)) i → Fits width types2 (suc l) i inner)
        → Fits width types2 l first2 (mem tag true [] inner after)
    go none e ih ii = fits_unknown fr (known_bytes fi) e ih
    go (some j) e ih ii =
        let z = agree_here types types2 l first first2 (ident_of tag) k j agree known.found e in
        fits_struct fr (known_too types types2 l first first2 (ident_of tag) k j agree known.found e tag after refl known) (rw z.0 at is)
        (ii (suc (first2 + j)) (agree_in types types2 l first first2 (ident_of tag) k j agree known.found e)) ih
