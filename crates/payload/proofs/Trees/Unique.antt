-- Bytes determine their tree: two trees that a table reads and that have the same bytes are the same. For the tree is a function of its bytes.
-- Assumes nothing.
use mathlib.Core.Path.{◌≡◌, refl, sym, ap, ap₂, ◌∙◌}
use Prim.Native.Nat.{ℕ, zero, suc, ◌+◌, ◌/◌, ◌%◌, ◌^◌, ◌<◌}
use native.Mathlib.Omega.{arith}
use mathlib.Core.Bool.{true, false}
use mathlib.Core.Option.{none, some}
use mathlib.Core.List.{List, [], ◌∷◌, ◌++◌}
use lib.ListN.{length}
use lib.Dec.{eqb}
use Rattle.wire.specs.Choose.{pick}
use Rattle.wire.specs.Number.{big, number_of, number_bytes}
use Rattle.wire.specs.Tag.{wire_of}
use Rattle.wire.specs.Kind.{struct}
use Rattle.payload.specs.declared.table.TypeRow.{TypeRow}
use Rattle.payload.specs.declared.row.Row.{Row}
use Rattle.payload.specs.Table.{row_at}
use Rattle.payload.specs.Reading.{Body, cut, content, body_of}
use Rattle.payload.specs.Tree.{Members, stop, mem, member_bytes, bytes_of}
use Rattle.payload.specs.Formed.{row_for, for_row, field_size, Framed, Each, each_stop, each_unknown, each_leaf, each_struct, Formed, TreeOf}
use Rattle.wire.proofs.NumberLaws.{number_back}
use Rattle.payload.proofs.Trees.Frame.{body_at}
use Rattle.payload.proofs.Trees.Follow.{shorter}

-- ---- the tree of bytes

-- a level's first member, with the trees that `deeper` gives of its content and of the bytes behind it
unfoldable tree_by : (ℕ → ℕ → List ℕ → Members) → List TypeRow → ℕ → ℕ → ℕ → Body → Members
tree_by deeper types l first tag (cut v p) = stop
tree_by deeper types l first tag (content p c next y) =
    for_row (row_for types l first tag) (mem tag false c stop (deeper l first y))
    (λ k. pick (eqb (row_at types (first + k)).kind struct)
    (mem tag true [] (deeper (suc l) (suc (first + k)) c) (deeper l first y))
    (mem tag false c stop (deeper l first y)))

unfoldable tree_at : (ℕ → ℕ → List ℕ → Members) → ℕ → List TypeRow → ℕ → ℕ → List ℕ → Members
tree_at deeper width types l first [] = stop
tree_at deeper width types l first (a ∷ []) = stop
tree_at deeper width types l first (a ∷ b ∷ bytes) =
    tree_by deeper types l first (number_of big (a ∷ b ∷ [])) (body_of width (wire_of (number_of big (a ∷ b ∷ []))) 0 bytes)

unfoldable tree_from : ℕ → ℕ → List TypeRow → ℕ → ℕ → List ℕ → Members
tree_from zero width types l first bytes = stop
tree_from (suc turns) width types l first bytes = tree_at (λ l2 i c. tree_from turns width types l2 i c) width types l first bytes

-- ---- of a tree's bytes it is that tree

module _ (turns width : ℕ) (types : List TypeRow) (l first tag : ℕ) (c y : List ℕ) (fr : Framed width tag c) where
  tree_member : tree_from (suc turns) width types l first (member_bytes width tag c ++ y)
      ≡ tree_by (λ l2 i xs. tree_from turns width types l2 i xs) types l first tag
      (content (0 + field_size width (wire_of tag)) c (0 + field_size width (wire_of tag) + length c) y)
  unfolding tree_from tree_at member_bytes number_bytes
  tree_member =
      let e : number_of big (tag / 256 ^ 1 % 256 ∷ tag / 256 ^ 0 % 256 ∷ []) ≡ tag = number_back 2 tag fr.tag_fits in
      rw (e, body_at width (wire_of tag) 0 c y fr.length_fits_lem)

  tree_unknown : row_for types l first tag ≡ none
      → tree_from (suc turns) width types l first (member_bytes width tag c ++ y) ≡ mem tag false c stop (tree_from turns width types l first y)
  unfolding tree_by for_row
  tree_unknown e = tree_member ∙ rw e

  module _ (k : ℕ) (e : row_for types l first tag ≡ some k) where
    tree_leaf : eqb (row_at types (first + k)).kind struct ≡ false
        → tree_from (suc turns) width types l first (member_bytes width tag c ++ y) ≡ mem tag false c stop (tree_from turns width types l first y)
    unfolding tree_by for_row
    tree_leaf s = tree_member ∙ rw (e, s)

    tree_struct : eqb (row_at types (first + k)).kind struct ≡ true
        → tree_from (suc turns) width types l first (member_bytes width tag c ++ y)
        ≡ mem tag true [] (tree_from turns width types (suc l) (suc (first + k)) c) (tree_from turns width types l first y)
    unfolding tree_by for_row
    tree_struct s = tree_member ∙ rw (e, s)

tree_again : {width : ℕ} {types : List TypeRow} {l first : ℕ} {m : Members} → Each width types l first m
    → (turns : ℕ) → length (bytes_of width m) < turns → tree_from turns width types l first (bytes_of width m) ≡ m
unfolding bytes_of tree_from tree_at
tree_again f zero h = absurd (omega arith)
tree_again each_stop (suc turns) h = refl
tree_again {width} {types} {l} {first} (each_unknown {tag = tag} {c = c} {after = after} fr hc e ea) (suc turns) h =
    let y : List ℕ = bytes_of width after in
    tree_unknown turns width types l first tag c y fr e ∙ ap (mem tag false c stop) (tree_again {m = after} ea turns (shorter width tag c y turns h).1)
tree_again {width} {types} {l} {first} (each_leaf {tag = tag} {k = k} {c = c} {after = after} fr hc known ns fits ea) (suc turns) h =
    let y : List ℕ = bytes_of width after in
    tree_leaf turns width types l first tag c y fr k known.found ns
    ∙ ap (mem tag false c stop) (tree_again {m = after} ea turns (shorter width tag c y turns h).1)
tree_again {width} {types} {l} {first} (each_struct {tag = tag} {k = k} {inner = inner} {after = after} fr known is ei wi ea) (suc turns) h =
    let c : List ℕ = bytes_of width inner in
    let y : List ℕ = bytes_of width after in
    tree_struct turns width types l first tag c y fr k known.found is
    ∙ ap₂ (mem tag true []) (tree_again {l = suc l} {first = suc (first + k)} {m = inner} ei turns (shorter width tag c y turns h).0) (tree_again {m = after} ea turns (shorter width tag c y turns h).1)

-- ---- so bytes have one tree

pub tree_unique : (width : ℕ) (types : List TypeRow) (l first : ℕ) (m m2 : Members) → Formed width types l first m → Formed width types l first m2
    → bytes_of width m ≡ bytes_of width m2 → m ≡ m2
tree_unique width types l first m m2 f f2 e =
    let n : ℕ = suc (length (bytes_of width m)) in
    let h : length (bytes_of width m2) < n = rw (← e) (omega arith) in
    sym (tree_again f.each n (omega arith)) ∙ ap (tree_from n width types l first) e ∙ tree_again f2.each n h

-- a payload has one tree
pub payload_tree_unique : (width : ℕ) (types : List TypeRow) (p : List ℕ) (rows rows2 : List Row) (n n2 : ℕ)
    (t : TreeOf width types p rows n) (t2 : TreeOf width types p rows2 n2) → t.tree ≡ t2.tree
payload_tree_unique width types p rows rows2 n n2 t t2 =
    tree_unique width types 1 0 t.tree t2.tree t.formed t2.formed (t.bytes_are ∙ sym t2.bytes_are)
