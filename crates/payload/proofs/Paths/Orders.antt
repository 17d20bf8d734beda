-- The members of each level in any order: as many bytes, known as before, and each path finds the same.
-- Assumes nothing.
use mathlib.Core.Path.{◌≡◌, refl, sym, ap, ap₂, ◌∙◌}
use Prim.Native.Nat.{suc, ℕ, ◌+◌}
use native.Mathlib.Omega.{arith}
use mathlib.Core.Bool.{Bool, true, false}
use mathlib.Core.List.{List, [], ◌∷◌}
use lib.ListN.{length, length-append}
use lib.Dec.{eqb}
use borrow.Author.Tests.{eqb-true, eqb-false, ne_eqb}
use Rattle.wire.specs.Choose.{pick, or}
use Rattle.wire.specs.Tag.{wire_of, ident_of}
use Rattle.payload.specs.declared.table.TypeRow.{TypeRow}
use Rattle.payload.specs.Tree.{Members, stop, mem, member_bytes, bytes_of}
use Rattle.payload.specs.Formed.{field_size, has, Framed, KnownAs}
use Rattle.payload.specs.Writing.{Put, nothing, leaf, branch}
use Rattle.payload.specs.Paths.{at_end, at_path}
use Rattle.payload.specs.Demand3.{Reordered, as_is, swapped, within, again, Taken, taken_first, taken_later, AnyFirst}
use Rattle.payload.proofs.Joined.{or_left}
use Rattle.payload.proofs.Trees.Level.{true_false}
use Rattle.payload.proofs.Trees.Frame.{length_member}
use Rattle.payload.proofs.Paths.KnownTree.{Known, known_leaf, known_struct}

-- ---- every order

comes_first : {tag : ℕ} {s : Bool} {c : List ℕ} {inner m rest : Members} → Taken tag s c inner m rest → Reordered m (mem tag s c inner rest)
comes_first taken_first = as_is
comes_first (taken_later h) = again (within as_is (comes_first h)) swapped

pub any_first : AnyFirst
any_first tag s c inner m rest h = comes_first h

-- ---- the same members

pub reordered_has : {m m2 : Members} → Reordered m m2 → (x : ℕ) → has x m ≡ has x m2
unfolding has
reordered_has as_is x = refl
reordered_has (swapped {tag} {tag2}) x = go (eqb (ident_of tag) x) (eqb (ident_of tag2) x) _
  where
    go : (a b d : Bool) → or a (or b d) ≡ or b (or a d)
    go true true d = refl
    go true false d = refl
    go false true d = refl
    go false false d = refl
reordered_has (within {tag} r q) x = ap (or (eqb (ident_of tag) x)) (reordered_has q x)
reordered_has (again r q) x = reordered_has r x ∙ reordered_has q x

-- nothing is put in
reordered_stop : {m m2 : Members} → Reordered m m2 → m ≡ stop → m2 ≡ stop
reordered_stop as_is e = e
reordered_stop swapped e = let z : ◌≡◌ {A = ℕ} 0 1 = cc in absurd (omega arith)
reordered_stop (within r q) e = let z : ◌≡◌ {A = ℕ} 0 1 = cc in absurd (omega arith)
reordered_stop (again r q) e = reordered_stop q (reordered_stop r e)

-- ---- as many bytes

module _ (width tag : ℕ) (s : Bool) (c : List ℕ) where
  length_mem : (inner after : Members)
      → length (bytes_of width (mem tag s c inner after))
      ≡ 2 + field_size width (wire_of tag) + length (pick s (bytes_of width inner) c) + length (bytes_of width after)
  unfolding bytes_of
  length_mem inner after =
      length-append (member_bytes width tag (pick s (bytes_of width inner) c)) (bytes_of width after)
      ∙ ap (◌+ length (bytes_of width after)) (length_member width tag (pick s (bytes_of width inner) c))

  length_content : (s : Bool) (inner inner2 : Members) → length (bytes_of width inner) ≡ length (bytes_of width inner2)
      → length (pick s (bytes_of width inner) c) ≡ length (pick s (bytes_of width inner2) c)
  length_content true inner inner2 e = e
  length_content false inner inner2 e = refl

pub reordered_length : (width : ℕ) {m m2 : Members} → Reordered m m2 → length (bytes_of width m) ≡ length (bytes_of width m2)
reordered_length width as_is = refl
reordered_length width (swapped {tag} {tag2} {s} {s2} {c} {c2} {inner} {inner2} {after}) =
    omega (
      arith,
      length_mem width tag s c inner (mem tag2 s2 c2 inner2 after),
      length_mem width tag2 s2 c2 inner2 after,
      length_mem width tag2 s2 c2 inner2 (mem tag s c inner after),
      length_mem width tag s c inner after,
    )
reordered_length width (within {tag} {s} {c} {inner} {inner2} {after} {after2} r q) =
    omega (
      arith,
      length_mem width tag s c inner after,
      length_mem width tag s c inner2 after2,
      length_content width tag s c s inner inner2 (reordered_length width r),
      reordered_length width q,
    )
reordered_length width (again r q) = reordered_length width r ∙ reordered_length width q

-- ---- as known

module _ (types : List TypeRow) (l first : ℕ) where
  -- two neighbours that are known change places
  record Both (tag k tag2 k2 : ℕ) (s : Bool) (c : List ℕ) (inner after : Members) : Type 0 where
    one : KnownAs types l first tag k after
    two : KnownAs types l first tag2 k2 (mem tag s c inner after)

  both : (tag k tag2 k2 : ℕ) (s s2 : Bool) (c c2 : List ℕ) (inner inner2 after : Members)
      → KnownAs types l first tag k (mem tag2 s2 c2 inner2 after) → KnownAs types l first tag2 k2 after → Both tag k tag2 k2 s c inner after
  unfolding has
  both tag k tag2 k2 s s2 c c2 inner inner2 after known known2 =
      go (eqb (ident_of tag2) (ident_of tag)) refl known.once
    where
      go : (b : Bool) → eqb (ident_of tag2) (ident_of tag) ≡ b → or b (has (ident_of tag) after) ≡ false → Both tag k tag2 k2 s c inner after
      go true q e = true_false e
      go false q e = record {
        one = record { found = known.found; wire_fits_lem = known.wire_fits_lem; once = e };
        two = record {
          found = known2.found;
          wire_fits_lem = known2.wire_fits_lem;
          once = rw (ne_eqb (ident_of tag) (ident_of tag2) (λ z. eqb-false (ident_of tag2) (ident_of tag) q (sym z))) known2.once;
        };
      }

  known_re : (tag k : ℕ) (after after2 : Members) → Reordered after after2 → KnownAs types l first tag k after → KnownAs types l first tag k after2
  known_re tag k after after2 r h =
      record { found = h.found; wire_fits_lem = h.wire_fits_lem; once = sym (reordered_has r (ident_of tag)) ∙ h.once }

framed_re : (width tag : ℕ) (c c2 : List ℕ) → length c ≡ length c2 → Framed width tag c → Framed width tag c2
framed_re width tag c c2 e f = record { tag_fits = f.tag_fits; length_fits_lem = rw (← e) f.length_fits_lem }

pub reordered_known : {width : ℕ} {types : List TypeRow} {l first : ℕ} {m m2 : Members} → Reordered m m2 → Known width types l first m
    → Known width types l first m2
reordered_known as_is h = h
reordered_known {width} {types} {l} {first} (swapped {tag} {tag2} {s} {s2} {c} {c2} {inner} {inner2} {after})
    (known_leaf fr hc known ns fits (known_leaf fr2 hc2 known2 ns2 fits2 h)) =
    let b = both types l first tag _ tag2 _ s s2 c c2 inner inner2 after known known2 in
    known_leaf fr2 hc2 b.two ns2 fits2 (known_leaf fr hc b.one ns fits h)
reordered_known {width} {types} {l} {first} (swapped {tag} {tag2} {s} {s2} {c} {c2} {inner} {inner2} {after})
    (known_leaf fr hc known ns fits (known_struct fr2 known2 is2 i2 h)) =
    let b = both types l first tag _ tag2 _ s s2 c c2 inner inner2 after known known2 in
    known_struct fr2 b.two is2 i2 (known_leaf fr hc b.one ns fits h)
reordered_known {width} {types} {l} {first} (swapped {tag} {tag2} {s} {s2} {c} {c2} {inner} {inner2} {after})
    (known_struct fr known is i (known_leaf fr2 hc2 known2 ns2 fits2 h)) =
    let b = both types l first tag _ tag2 _ s s2 c c2 inner inner2 after known known2 in
    known_leaf fr2 hc2 b.two ns2 fits2 (known_struct fr b.one is i h)
reordered_known {width} {types} {l} {first} (swapped {tag} {tag2} {s} {s2} {c} {c2} {inner} {inner2} {after})
    (known_struct fr known is i (known_struct fr2 known2 is2 i2 h)) =
    let b = both types l first tag _ tag2 _ s s2 c c2 inner inner2 after known known2 in
    known_struct fr2 b.two is2 i2 (known_struct fr b.one is i h)
reordered_known {width} {types} {l} {first} (within {tag} {s} {c} {inner} {inner2} {after} {after2} r q) (known_leaf {k = k} fr hc known ns fits h) =
    let e : inner2 ≡ stop = reordered_stop r refl in
    rw e (known_leaf fr hc (known_re types l first tag k after after2 q known) ns fits (reordered_known q h))
reordered_known {width} {types} {l} {first} (within {tag} {s} {c} {inner} {inner2} {after} {after2} r q) (known_struct {k = k} fr known is i h) =
    known_struct (framed_re width tag (bytes_of width inner) (bytes_of width inner2) (reordered_length width r) fr)
    (known_re types l first tag k after after2 q known) is (reordered_known {l = suc l} {first = suc (first + k)} r i) (reordered_known q h)
reordered_known (again r q) h = reordered_known q (reordered_known r h)

-- ---- each path finds the same

swap_picks : (x id id2 : ℕ) → (eqb id2 id ≡ false) → (u v w : Put)
    → pick (eqb id x) u (pick (eqb id2 x) v w) ≡ pick (eqb id2 x) v (pick (eqb id x) u w)
swap_picks x id id2 ne u v w = go (eqb id x) (eqb id2 x) refl refl
  where
    go : (a b : Bool) → eqb id x ≡ a → eqb id2 x ≡ b → pick a u (pick b v w) ≡ pick b v (pick a u w)
    go true true ea eb = absurd (eqb-false id2 id ne (eqb-true id2 x eb ∙ sym (eqb-true id x ea)))
    go true false ea eb = refl
    go false true ea eb = refl
    go false false ea eb = refl

-- the first of two neighbours has another Data ID than the second
apart : {width : ℕ} {types : List TypeRow} {l first tag tag2 : ℕ} {s s2 : Bool} {c c2 : List ℕ} {inner inner2 after : Members}
    → Known width types l first (mem tag s c inner (mem tag2 s2 c2 inner2 after)) → eqb (ident_of tag2) (ident_of tag) ≡ false
unfolding has
apart {tag = tag} {tag2 = tag2} {after = after} (known_leaf fr hc known ns fits h) =
    or_left (eqb (ident_of tag2) (ident_of tag)) (has (ident_of tag) after) known.once
apart {tag = tag} {tag2 = tag2} {after = after} (known_struct fr known is i h) =
    or_left (eqb (ident_of tag2) (ident_of tag)) (has (ident_of tag) after) known.once

pub reordered_paths : {width : ℕ} {types : List TypeRow} {l first : ℕ} {m m2 : Members} → Reordered m m2 → Known width types l first m
    → (path : List ℕ) → at_path m path ≡ at_path m2 path
unfolding at_path
reordered_paths as_is h path = refl
reordered_paths swapped h [] = refl
reordered_paths (swapped {tag} {tag2}) h (x ∷ path) = swap_picks x (ident_of tag) (ident_of tag2) (apart h) _ _ _
reordered_paths (within r q) h [] = refl
reordered_paths (within {tag} {inner2 = inner2} r q) (known_leaf {c = c} fr hc known ns fits h) (x ∷ path) =
    ap (pick (eqb (ident_of tag) x) (at_end path (leaf c) nothing)) (reordered_paths q h (x ∷ path))
reordered_paths {l = l} {first = first} (within {tag} r q) (known_struct {k = k} fr known is i h) (x ∷ path) =
    ap₂ (λ (u v : Put). pick (eqb (ident_of tag) x) (at_end path branch u) v) (reordered_paths {l = suc l} {first = suc (first + k)} r i path) (reordered_paths q h (x ∷ path))
reordered_paths (again r q) h path = reordered_paths r h path ∙ reordered_paths q (reordered_known r h) path
