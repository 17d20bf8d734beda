-- A required member that is missing at a level that is present, by its path: some level of a tree lacks one exactly if there is such a path.
-- Assumes nothing.
use mathlib.Core.Path.{◌≡◌, refl, sym, ap, ◌∙◌}
use Prim.Native.Nat.{ℕ, suc, ◌+◌}
use mathlib.Core.Bool.{Bool, true, false}
use mathlib.Core.Option.{none, some}
use mathlib.Core.List.{List, [], ◌∷◌, ◌++◌}
use lib.ListN.{drop}
use lib.Dec.{eqb}
use borrow.Author.Tests.{eqb-true, eq-eqb}
use Rattle.wire.specs.Choose.{or}
use Rattle.wire.specs.Tag.{ident_of}
use Rattle.payload.specs.declared.table.TypeRow.{TypeRow}
use Rattle.payload.specs.Table.{find, idents_differ}
use Rattle.payload.specs.Tree.{Members, stop, mem}
use Rattle.payload.specs.Formed.{row_for, has, misses}
use Rattle.payload.specs.Writing.{branch}
use Rattle.payload.specs.Paths.{at_end, at_path, Present, at_start, at_struct, LacksAt, Fits, fits_stop, fits_unknown, fits_leaf, fits_struct}
use Rattle.payload.proofs.Joined.{or_true}
use Rattle.payload.proofs.Trees.Level.{none_some, true_false}
use Rattle.payload.proofs.Paths.PathLaws.{path_none, path_more, at_other, at_own, at_fresh}
use Rattle.payload.proofs.Paths.SeenBy.{lacks_below, lacks_any, below_unknown, below_leaf, below_struct}
use Rattle.payload.proofs.Paths.Missing.{nothing_branch, leaf_branch, end_lacks, lacks_end}

-- ---- the levels below

present_struct : {m : Members} {y : ℕ} {above : List ℕ} → Present m (y ∷ above) → at_path m (y ∷ above) ≡ branch
present_struct (at_struct e) = e

module _ (types : List TypeRow) (l first tag : ℕ) (s : Bool) (c : List ℕ) (inner after : Members) (y : ℕ) (above : List ℕ) where
  -- what is missing below a member is missing there whatever stands before it
  lacks_before : eqb (ident_of tag) y ≡ false → LacksAt types l first after (y ∷ above) → LacksAt types l first (mem tag s c inner after) (y ∷ above)
  lacks_before q h = record {
    ident = h.ident;
    row = h.row;
    row_is = h.row_is;
    required_is = h.required_is;
    present = at_struct (at_other tag s c inner after y above q ∙ present_struct h.present);
    absent = at_other tag s c inner after y (above ++ (h.ident ∷ [])) q ∙ h.absent;
  }

  lacks_behind : eqb (ident_of tag) y ≡ false → LacksAt types l first (mem tag s c inner after) (y ∷ above) → LacksAt types l first after (y ∷ above)
  lacks_behind q h = record {
    ident = h.ident;
    row = h.row;
    row_is = h.row_is;
    required_is = h.required_is;
    present = at_struct (sym (at_other tag s c inner after y above q) ∙ present_struct h.present);
    absent = sym (at_other tag s c inner after y (above ++ (h.ident ∷ [])) q) ∙ h.absent;
  }

  -- a path into a level has a Data ID that is known there, and that a member has
  other_unknown : row_for types l first tag ≡ none → (m : Members) → LacksAt types l first m (y ∷ above) → eqb (ident_of tag) y ≡ false
  other_unknown e m h = go (eqb (ident_of tag) y) refl
    where
      go : (b : Bool) → eqb (ident_of tag) y ≡ b → b ≡ false
      go true q =
          none_some
          (sym (path_none types l first y (above ++ (h.ident ∷ []))
          (ap (λ (x : ℕ). find l x (drop first types)) (sym (eqb-true (ident_of tag) y q)) ∙ e))
          ∙ h.row_is)
      go false q = refl

  other_once : has (ident_of tag) after ≡ false → LacksAt types l first after (y ∷ above) → eqb (ident_of tag) y ≡ false
  other_once o h = go (eqb (ident_of tag) y) refl
    where
      go : (b : Bool) → eqb (ident_of tag) y ≡ b → b ≡ false
      go true q =
          nothing_branch (sym (at_fresh after y above (rw (← eqb-true (ident_of tag) y q) o)) ∙ present_struct h.present)
      go false q = refl

module _ (types : List TypeRow) (l first tag : ℕ) (c : List ℕ) (inner after : Members) where
  -- nothing is missing inside a leaf
  lacks_leaf : (y : ℕ) (above : List ℕ) → eqb (ident_of tag) y ≡ true → LacksAt types l first (mem tag false c inner after) (y ∷ above) → ⊥
  unfolding at_end
  lacks_leaf y [] q h = leaf_branch (sym (at_own tag false c inner after y [] q) ∙ present_struct h.present)
  lacks_leaf y (z ∷ above) q h = nothing_branch (sym (at_own tag false c inner after y (z ∷ above) q) ∙ present_struct h.present)

  module _ (k : ℕ) (e : row_for types l first tag ≡ some k) where
    lacks_in : (above : List ℕ) → LacksAt types (suc l) (suc (first + k)) inner above
        → LacksAt types l first (mem tag true c inner after) (ident_of tag ∷ above)
    unfolding at_end
    lacks_in [] h = record {
      ident = h.ident;
      row = h.row;
      row_is = path_more types l first (ident_of tag) k h.ident [] e ∙ h.row_is;
      required_is = h.required_is;
      present = at_struct (at_own tag true c inner after (ident_of tag) [] (eq-eqb (ident_of tag) (ident_of tag) refl));
      absent = at_own tag true c inner after (ident_of tag) (h.ident ∷ []) (eq-eqb (ident_of tag) (ident_of tag) refl) ∙ h.absent;
    }
    lacks_in (y ∷ above) h = record {
      ident = h.ident;
      row = h.row;
      row_is = path_more types l first (ident_of tag) k y (above ++ (h.ident ∷ [])) e ∙ h.row_is;
      required_is = h.required_is;
      present =
          at_struct (at_own tag true c inner after (ident_of tag) (y ∷ above) (eq-eqb (ident_of tag) (ident_of tag) refl) ∙ present_struct h.present);
      absent = at_own tag true c inner after (ident_of tag) (y ∷ above ++ (h.ident ∷ [])) (eq-eqb (ident_of tag) (ident_of tag) refl) ∙ h.absent;
    }

    lacks_out : (x : ℕ) (above : List ℕ) → eqb (ident_of tag) x ≡ true → LacksAt types l first (mem tag true c inner after) (x ∷ above)
        → LacksAt types (suc l) (suc (first + k)) inner above
    unfolding at_end
    lacks_out x [] q h = record {
      ident = h.ident;
      row = h.row;
      row_is = sym (path_more types l first (ident_of tag) k h.ident [] e) ∙ (rw (← eqb-true (ident_of tag) x q) at h.row_is);
      required_is = h.required_is;
      present = at_start;
      absent = sym (at_own tag true c inner after x (h.ident ∷ []) q) ∙ h.absent;
    }
    lacks_out x (y ∷ above) q h = record {
      ident = h.ident;
      row = h.row;
      row_is =
          sym (path_more types l first (ident_of tag) k y (above ++ (h.ident ∷ [])) e) ∙ (rw (← eqb-true (ident_of tag) x q) at h.row_is);
      required_is = h.required_is;
      present = at_struct (sym (at_own tag true c inner after x (y ∷ above) q) ∙ present_struct h.present);
      absent = sym (at_own tag true c inner after x (y ∷ above ++ (h.ident ∷ [])) q) ∙ h.absent;
    }

-- ---- some level lacks a member exactly if a path says so

-- a path to a level, and what that level lacks
pub record Lacks (types : List TypeRow) (l first : ℕ) (m : Members) : Type 0 where
  pub above : List ℕ
  pub lacks_at_lem : LacksAt types l first m above

-- below this level
record LacksBelow (types : List TypeRow) (l first : ℕ) (m : Members) : Type 0 where
  head : ℕ
  above : List ℕ
  lacks_at_lem : LacksAt types l first m (head ∷ above)

module _ (width : ℕ) (types : List TypeRow) (d : idents_differ types ≡ true) where
  any_lacks : (l first : ℕ) (m : Members) → (lacks_below types l first m ≡ true → LacksBelow types l first m)
      → lacks_any types l first m ≡ true → Lacks types l first m
  any_lacks l first m below e = go (lacks_below types l first m) refl e
    where
      go : (b : Bool) → lacks_below types l first m ≡ b → or b (misses l (drop first types) m) ≡ true → Lacks types l first m
      go true q e = let h = below q in record { above = h.head ∷ h.above; lacks_at_lem = h.lacks_at_lem }
      go false q e = record { above = []; lacks_at_lem = end_lacks types d l first m e }

  below_path : {l first : ℕ} {m : Members} → Fits width types l first m → lacks_below types l first m ≡ true → LacksBelow types l first m
  unfolding lacks_below
  below_path fits_stop e = true_false (sym e)
  below_path {l} {first} (fits_unknown {tag = tag} {s = s} {c = c} {inner = inner} {after = after} fr hc none_is f) e =
      let h = below_path f (sym (below_unknown types l first tag c inner after s none_is) ∙ e) in
      let q = other_unknown types l first tag s c inner after h.head h.above none_is after h.lacks_at_lem in
      record { head = h.head; above = h.above; lacks_at_lem = lacks_before types l first tag s c inner after h.head h.above q h.lacks_at_lem }
  below_path {l} {first} (fits_leaf {tag = tag} {k = k} {c = c} {after = after} fr hc known ns fits f) e =
      let h = below_path f (sym (below_leaf types l first tag c stop after k known.found) ∙ e) in
      let q = other_once types l first tag false c stop after h.head h.above known.once h.lacks_at_lem in
      record { head = h.head; above = h.above; lacks_at_lem = lacks_before types l first tag false c stop after h.head h.above q h.lacks_at_lem }
  below_path {l} {first} (fits_struct {tag = tag} {k = k} {inner = inner} {after = after} fr known is fi f) e =
      go (lacks_any types (suc l) (suc (first + k)) inner) refl (sym (below_struct types l first tag [] inner after k known.found) ∙ e)
      (any_lacks (suc l) (suc (first + k)) inner (below_path fi)) (below_path f)
    where
      go : (b : Bool) → lacks_any types (suc l) (suc (first + k)) inner ≡ b → or b (lacks_below types l first after) ≡ true
          → (lacks_any types (suc l) (suc (first + k)) inner ≡ true → Lacks types (suc l) (suc (first + k)) inner)
          → (lacks_below types l first after ≡ true → LacksBelow types l first after)
          → LacksBelow types l first (mem tag true [] inner after)
      go true q e i a =
          let h = i q in
          record {
            head = ident_of tag;
            above = h.above;
            lacks_at_lem = lacks_in types l first tag [] inner after k known.found h.above h.lacks_at_lem;
          }
      go false q e i a =
          let h = a e in
          let q = other_once types l first tag true [] inner after h.head h.above known.once h.lacks_at_lem in
          record {
            head = h.head;
            above = h.above;
            lacks_at_lem = lacks_before types l first tag true [] inner after h.head h.above q h.lacks_at_lem;
          }

  pub fits_lacks : {l first : ℕ} {m : Members} → Fits width types l first m → lacks_any types l first m ≡ true → Lacks types l first m
  fits_lacks {l} {first} {m} f e = any_lacks l first m (below_path f) e

  lacks_any_lem : (l first : ℕ) (m : Members) → ((y : ℕ) (above : List ℕ) → LacksAt types l first m (y ∷ above) → lacks_below types l first m ≡ true)
      → (above : List ℕ) → LacksAt types l first m above → lacks_any types l first m ≡ true
  lacks_any_lem l first m below [] h = rw (lacks_end types d l first m h) (or_true (lacks_below types l first m))
  lacks_any_lem l first m below (y ∷ above) h = rw (below y above h)

  path_below : {l first : ℕ} {m : Members} → Fits width types l first m → (y : ℕ) (above : List ℕ)
      → LacksAt types l first m (y ∷ above) → lacks_below types l first m ≡ true
  unfolding at_path
  path_below fits_stop y above h = nothing_branch (present_struct h.present)
  path_below {l} {first} (fits_unknown {tag = tag} {s = s} {c = c} {inner = inner} {after = after} fr hc none_is f) y above h =
      let q = other_unknown types l first tag s c inner after y above none_is (mem tag s c inner after) h in
      below_unknown types l first tag c inner after s none_is ∙ path_below f y above (lacks_behind types l first tag s c inner after y above q h)
  path_below {l} {first} (fits_leaf {tag = tag} {k = k} {c = c} {after = after} fr hc known ns fits f) y above h =
      below_leaf types l first tag c stop after k known.found ∙ go (eqb (ident_of tag) y) refl (path_below f y above)
    where
      go : (b : Bool) → eqb (ident_of tag) y ≡ b → (LacksAt types l first after (y ∷ above) → lacks_below types l first after ≡ true)
          → lacks_below types l first after ≡ true
      go true q ih = absurd (lacks_leaf types l first tag c stop after y above q h)
      go false q ih = ih (lacks_behind types l first tag false c stop after y above q h)
  path_below {l} {first} (fits_struct {tag = tag} {k = k} {inner = inner} {after = after} fr known is fi f) y above h =
      below_struct types l first tag [] inner after k known.found
      ∙ go (eqb (ident_of tag) y) refl (lacks_any_lem (suc l) (suc (first + k)) inner (path_below fi)) (path_below f y above)
    where
      go : (b : Bool) → eqb (ident_of tag) y ≡ b
          → ((above : List ℕ) → LacksAt types (suc l) (suc (first + k)) inner above → lacks_any types (suc l) (suc (first + k)) inner ≡ true)
          → (LacksAt types l first after (y ∷ above) → lacks_below types l first after ≡ true)
          → or (lacks_any types (suc l) (suc (first + k)) inner) (lacks_below types l first after) ≡ true
      go true q i a = rw (i above (lacks_out types l first tag [] inner after k known.found y above q h))
      go false q i a =
          rw (a (lacks_behind types l first tag true [] inner after y above q h)) (or_true (lacks_any types (suc l) (suc (first + k)) inner))

  pub lacks_fits : {l first : ℕ} {m : Members} → Fits width types l first m → (above : List ℕ) → LacksAt types l first m above
      → lacks_any types l first m ≡ true
  lacks_fits {l} {first} {m} f above h = lacks_any_lem l first m (path_below f) above h
