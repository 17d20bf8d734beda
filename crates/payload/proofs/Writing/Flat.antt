-- The members one after the other, as the writer's passes have them, are the bytes of the tree, for rows that are nested as judging leaves
-- them.
-- Assumes nothing.
use mathlib.Core.Path.{◌≡◌, refl, ap, subst}
use Prim.Native.Nat.{ℕ, suc, ◌<◌}
use native.Mathlib.Omega.{arith}
use mathlib.Core.Bool.{Bool, true, false}
use mathlib.Core.List.{List, [], ◌∷◌, ◌++◌, append_assoc}
use lib.ListN.{length}
use lib.Dec.{ltb, eqb}
use borrow.Author.Tests.{ltb-true, ltb-false, eqb-true, eqb-false, lt-ltb, le-ltb}
use Rattle.wire.specs.Choose.{pick, or}
use Rattle.wire.specs.Number.{big, number_bytes}
use Rattle.wire.specs.Tag.{wire_of}
use Rattle.payload.specs.Tree.{stop, field_bytes, member_bytes, bytes_of}
use Rattle.payload.specs.Writing.{Put, nothing, leaf, branch, Part, placed, nested, too_wide, some_wide}
use Rattle.payload.specs.Parts.{piece, under, wide_here, wide_under}

-- ---- rows that are nested as they should be

-- the first of these parts, as far as they are of level l or deeper, put nothing
pub data Silent (l : ℕ) : List Part → Type 0 where
  none_left : Silent l []
  above : {p : Part} {ps : List Part} → p.level < l → Silent l (p ∷ ps)
  empty : {p : Part} {ps : List Part} → p.put ≡ nothing → Silent l ps → Silent l (p ∷ ps)

-- nothing is put below an absent row or a leaf, and nothing two levels below a struct comes first
unfoldable pub Quiet : ℕ → Put → List Part → Type 0
Quiet l nothing ps = Silent (suc l) ps
Quiet l (leaf c) ps = Silent (suc l) ps
Quiet l branch ps = Silent (suc (suc l)) ps

pub data Shaped : List Part → Type 0 where
  no_part : Shaped []
  a_part : {p : Part} {ps : List Part} → Quiet p.level p.put ps → Shaped ps → Shaped (p ∷ ps)

pub or_assoc : (a b c : Bool) → or (or a b) c ≡ or a (or b c)
or_assoc true b c = refl
or_assoc false b c = refl

module _ (w : ℕ) where
  under_silent : (l : ℕ) (ps : List Part) → Silent l ps → under w l ps ≡ []
  unfolding under piece
  under_silent l [] s = refl
  under_silent l (p ∷ ps) (above h) = rw (lt-ltb p.level l h)
  under_silent l (p ∷ ps) (empty e s) = rw e (go (ltb p.level l) (under_silent l ps s))
    where
      go : (a : Bool) → under w l ps ≡ [] → pick a [] (under w l ps) ≡ []
      go true e = refl
      go false e = e

  wide_silent : (l : ℕ) (ps : List Part) → Silent l ps → wide_under w l ps ≡ false
  unfolding wide_under wide_here
  wide_silent l [] s = refl
  wide_silent l (p ∷ ps) (above h) = rw (lt-ltb p.level l h)
  wide_silent l (p ∷ ps) (empty e s) = rw e (go (ltb p.level l) (wide_silent l ps s))
    where
      go : (a : Bool) → wide_under w l ps ≡ false → pick a false (wide_under w l ps) ≡ false
      go true e = refl
      go false e = e

  -- ---- the bytes

  -- a part of the level
  own_bytes : (l tag : ℕ) (t : Put) (ps : List Part) → Quiet l t ps
      → under w l ps ≡ under w (suc l) ps ++ bytes_of w (nested l ps)
      → under w (suc l) ps ≡ under w (suc (suc l)) ps ++ bytes_of w (nested (suc l) ps)
      → piece w tag t (length (under w (suc l) ps)) ++ under w l ps ≡ bytes_of w (placed tag t (nested (suc l) ps) (nested l ps))
  unfolding piece Quiet placed bytes_of member_bytes
  own_bytes l tag nothing ps q ea ek = rw (under_silent (suc l) ps q) at ea
  own_bytes l tag (leaf c) ps q ea ek = ap (member_bytes w tag c ++◌) (rw (under_silent (suc l) ps q) at ea)
  own_bytes l tag branch ps q ea ek = go (rw (under_silent (suc (suc l)) ps q) at ek)
    where
      go : under w (suc l) ps ≡ bytes_of w (nested (suc l) ps)
          → (number_bytes big 2 tag ++ field_bytes w (wire_of tag) (length (under w (suc l) ps))) ++ under w l ps
          ≡ member_bytes w tag (bytes_of w (nested (suc l) ps)) ++ bytes_of w (nested l ps)
      go kids = rw (ea, kids) (simp append_assoc)

  -- the parts of a level or deeper: those below what came before, and then the level's members
  split_bytes : (l : ℕ) (ps : List Part) → Shaped ps → under w l ps ≡ under w (suc l) ps ++ bytes_of w (nested l ps)
  unfolding under nested bytes_of
  split_bytes l [] s = refl
  split_bytes l (p ∷ ps) (a_part q s) = go (ltb p.level l) (eqb p.level l) refl refl (split_bytes l ps s) (split_bytes (suc l) ps s)
    where
      go : (a b : Bool) → ltb p.level l ≡ a → eqb p.level l ≡ b
          → under w l ps ≡ under w (suc l) ps ++ bytes_of w (nested l ps)
          → under w (suc l) ps ≡ under w (suc (suc l)) ps ++ bytes_of w (nested (suc l) ps)
          → pick a [] (piece w p.tag p.put (length (under w (suc p.level) ps)) ++ under w l ps)
          ≡ pick (ltb p.level (suc l)) [] (piece w p.tag p.put (length (under w (suc p.level) ps)) ++ under w (suc l) ps)
          ++ bytes_of w (pick a stop (pick b (placed p.tag p.put (nested (suc l) ps) (nested l ps)) (nested l ps)))
      go true b ea eb ha hk = let h = ltb-true p.level l ea in rw (lt-ltb p.level (suc l) (omega arith))
      go false true ea eb ha hk =
          let el = eqb-true p.level l eb in
          rw (lt-ltb p.level (suc l) (omega arith), el)
          (own_bytes l p.tag p.put ps (subst (λ (k : ℕ). Quiet k p.put ps) el q) ha hk)
      go false false ea eb ha hk =
          let h = ltb-false p.level l ea in
          let n = eqb-false p.level l eb in
          rw (le-ltb p.level (suc l) (omega arith), ha, append_assoc)

  -- ---- what is too wide

  own_wide : (l tag : ℕ) (t : Put) (ps : List Part) → Quiet l t ps
      → under w (suc l) ps ≡ under w (suc (suc l)) ps ++ bytes_of w (nested (suc l) ps)
      → wide_under w l ps ≡ or (wide_under w (suc l) ps) (some_wide w (nested l ps))
      → wide_under w (suc l) ps ≡ or (wide_under w (suc (suc l)) ps) (some_wide w (nested (suc l) ps))
      → or (wide_here w tag t (length (under w (suc l) ps))) (wide_under w l ps) ≡ some_wide w (placed tag t (nested (suc l) ps) (nested l ps))
  unfolding wide_here Quiet placed some_wide
  own_wide l tag nothing ps q eb ea ek = rw (wide_silent (suc l) ps q) at ea
  own_wide l tag (leaf c) ps q eb ea ek = ap (or (too_wide w tag (length c))) (rw (wide_silent (suc l) ps q) at ea)
  own_wide l tag branch ps q eb ea ek =
      let kids : under w (suc l) ps ≡ bytes_of w (nested (suc l) ps) = rw (under_silent (suc (suc l)) ps q) at eb in
      let wides : wide_under w (suc l) ps ≡ some_wide w (nested (suc l) ps) = rw (wide_silent (suc (suc l)) ps q) at ek in
      rw (ea, kids, wides)

  split_wide : (l : ℕ) (ps : List Part) → Shaped ps → wide_under w l ps ≡ or (wide_under w (suc l) ps) (some_wide w (nested l ps))
  unfolding wide_under nested some_wide
  split_wide l [] s = refl
  split_wide l (p ∷ ps) (a_part q s) = go (ltb p.level l) (eqb p.level l) refl refl (split_wide l ps s) (split_wide (suc l) ps s)
    where
      go : (a b : Bool) → ltb p.level l ≡ a → eqb p.level l ≡ b
          → wide_under w l ps ≡ or (wide_under w (suc l) ps) (some_wide w (nested l ps))
          → wide_under w (suc l) ps ≡ or (wide_under w (suc (suc l)) ps) (some_wide w (nested (suc l) ps))
          → pick a false (or (wide_here w p.tag p.put (length (under w (suc p.level) ps))) (wide_under w l ps))
          ≡ or (pick (ltb p.level (suc l)) false (or (wide_here w p.tag p.put (length (under w (suc p.level) ps)))
          (wide_under w (suc l) ps)))
          (some_wide w (pick a stop (pick b (placed p.tag p.put (nested (suc l) ps) (nested l ps)) (nested l ps))))
      go true b ea eb ha hk = let h = ltb-true p.level l ea in rw (lt-ltb p.level (suc l) (omega arith))
      go false true ea eb ha hk =
          let el = eqb-true p.level l eb in
          rw (lt-ltb p.level (suc l) (omega arith), el)
          (own_wide l p.tag p.put ps (subst (λ (k : ℕ). Quiet k p.put ps) el q) (split_bytes (suc l) ps s) ha hk)
      go false false ea eb ha hk =
          let h = ltb-false p.level l ea in
          let n = eqb-false p.level l eb in
          rw (le-ltb p.level (suc l) (omega arith), ha, or_assoc)

  -- ---- from a row of level 1 on, all is the tree's

  top_silent : (p : Part) (ps : List Part) → p.level ≡ 1 → Silent 2 (p ∷ ps)
  top_silent p ps e = above {p = p} (omega arith)

  pub flat_bytes : (p : Part) (ps : List Part) → p.level ≡ 1 → Shaped (p ∷ ps) → under w 1 (p ∷ ps) ≡ bytes_of w (nested 1 (p ∷ ps))
  flat_bytes p ps e s = rw (under_silent 2 (p ∷ ps) (top_silent p ps e)) at (split_bytes 1 (p ∷ ps) s)

  pub flat_wide : (p : Part) (ps : List Part) → p.level ≡ 1 → Shaped (p ∷ ps) → wide_under w 1 (p ∷ ps) ≡ some_wide w (nested 1 (p ∷ ps))
  flat_wide p ps e s = rw (wide_silent 2 (p ∷ ps) (top_silent p ps e)) at (split_wide 1 (p ∷ ps) s)
