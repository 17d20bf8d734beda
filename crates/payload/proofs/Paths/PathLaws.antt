-- Paths of Data IDs, step by step: in a table and in a tree of members. A path's row is its first Data ID's row, or stands below it.
-- Assumes nothing.
use mathlib.Core.Path.{◌≡◌, refl, sym, ◌∙◌}
use Prim.Native.Nat.{ℕ, suc, ◌+◌, ◌<◌}
use mathlib.Core.Bool.{Bool, true, false}
use mathlib.Core.Option.{Option, none, some}
use mathlib.Core.List.{List, [], ◌∷◌}
use lib.ListN.{length, drop}
use lib.Dec.{eqb}
use Rattle.wire.specs.Choose.{pick, or}
use Rattle.wire.specs.Tag.{ident_of}
use Rattle.payload.specs.declared.table.TypeRow.{TypeRow}
use Rattle.payload.specs.Table.{find}
use Rattle.payload.specs.Tree.{Members, stop, mem}
use Rattle.payload.specs.Formed.{for_row, has}
use Rattle.payload.specs.Writing.{nothing, leaf, branch}
use Rattle.payload.specs.Paths.{at_end, path_row, at_path}
use Rattle.payload.proofs.Trees.Level.{none_some, true_false, found_inside, Below, below_self, below_inner}

-- ---- in a table

module _ (types : List TypeRow) (l first x : ℕ) where
  pub path_none : (path : List ℕ) → find l x (drop first types) ≡ none → path_row types l first (x ∷ path) ≡ none
  unfolding path_row for_row
  path_none path e = rw e

  pub path_one : (k : ℕ) → find l x (drop first types) ≡ some k → path_row types l first (x ∷ []) ≡ some (first + k)
  unfolding path_row for_row at_end
  path_one k e = rw e

  pub path_more : (k y : ℕ) (path : List ℕ) → find l x (drop first types) ≡ some k
      → path_row types l first (x ∷ y ∷ path) ≡ path_row types (suc l) (suc (first + k)) (y ∷ path)
  unfolding path_row for_row at_end
  path_more k y path e = rw e

-- a path's row: the row of its first Data ID, and the path's own row there or below
pub record Leads (types : List TypeRow) (l first x j : ℕ) : Type 0 where
  pub head : ℕ
  pub found : find l x (drop first types) ≡ some head
  pub below : Below types l (first + head) j
  pub inside : j < length types

pub path_leads : (types : List TypeRow) (l first x : ℕ) (path : List ℕ) (j : ℕ) → path_row types l first (x ∷ path) ≡ some j → Leads types l first x j
path_leads types l first x [] j e = go (find l x (drop first types)) refl
  where
    go : (o : Option ℕ) → find l x (drop first types) ≡ o → Leads types l first x j
    go none q = none_some (sym (path_none types l first x [] q) ∙ e)
    go (some k) q =
        let o = path_one types l first x k q in
        let z : first + k ≡ j = cc in
        rw (← z) (record { head = k; found = q; below = below_self types l (first + k); inside = found_inside types l first x k q })
path_leads types l first x (y ∷ path) j e =
    go (find l x (drop first types)) refl (λ i h. path_leads types (suc l) i y path j h)
  where
    go : (o : Option ℕ) → find l x (drop first types) ≡ o
        → ((i : ℕ) → path_row types (suc l) i (y ∷ path) ≡ some j → Leads types (suc l) i y j) → Leads types l first x j
    go none q ih = none_some (sym (path_none types l first x (y ∷ path) q) ∙ e)
    go (some k) q ih =
        let d = ih (suc (first + k)) (sym (path_more types l first x k y path q) ∙ e) in
        record { head = k; found = q; below = below_inner types l first x k q y d.head j d.found d.below; inside = d.inside }

-- ---- in a tree

module _ (tag : ℕ) (s : Bool) (c : List ℕ) (inner after : Members) (x : ℕ) where
  pub at_other : (path : List ℕ) → eqb (ident_of tag) x ≡ false → at_path (mem tag s c inner after) (x ∷ path) ≡ at_path after (x ∷ path)
  unfolding at_path
  at_other path e = rw e

  -- of a struct, what the path finds inside; of a leaf, nothing
  pub at_own : (path : List ℕ) → eqb (ident_of tag) x ≡ true
      → at_path (mem tag s c inner after) (x ∷ path) ≡ pick s (at_end path branch (at_path inner path)) (at_end path (leaf c) nothing)
  unfolding at_path
  at_own path e = rw e

pub at_fresh : (m : Members) (x : ℕ) (path : List ℕ) → has x m ≡ false → at_path m (x ∷ path) ≡ nothing
unfolding at_path has
at_fresh stop x path h = refl
at_fresh (mem tag s c inner after) x path h = go (eqb (ident_of tag) x) refl h (at_fresh after x path)
  where
    go : (b : Bool) → eqb (ident_of tag) x ≡ b → or b (has x after) ≡ false → (has x after ≡ false → at_path after (x ∷ path) ≡ nothing)
        → pick b (pick s (at_end path branch (at_path inner path)) (at_end path (leaf c) nothing)) (at_path after (x ∷ path)) ≡ nothing
    go true e h ih = true_false h
    go false e h ih = ih h
