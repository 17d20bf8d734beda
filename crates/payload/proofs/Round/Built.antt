-- The tree of present rows, member by member: of rows that are fine, its tags, its lengths and its contents are right, its Data IDs differ
-- at each level, and no required row lacks its member.
-- Assumes nothing.
use mathlib.Core.Path.{◌≡◌, refl, sym, ◌∙◌}
use Prim.Native.Nat.{ℕ, suc, ◌≤◌, ◌<◌}
use native.Mathlib.Omega.{arith}
use mathlib.Core.Bool.{Bool, true, false}
use mathlib.Core.Option.{Option, none, some}
use mathlib.Core.List.{List, [], ◌∷◌}
use lib.ListN.{length}
use lib.Dec.{ltb, eqb}
use borrow.Author.Tests.{ltb-true, ltb-false, lt-ltb, le-ltb, eqb-true, eqb-false, eq-eqb, ne_eqb}
use Rattle.wire.specs.Choose.{pick, and, or}
use Rattle.wire.specs.Number.{AreBytes}
use Rattle.wire.specs.Tag.{ident_of}
use Rattle.wire.specs.Kind.{struct}
use Rattle.payload.specs.declared.table.TypeRow.{TypeRow}
use Rattle.payload.specs.declared.row.Row.{Row}
use Rattle.payload.specs.declared.row.Value.TheVariants.{Absent, Members as Branch}
use Rattle.payload.specs.Table.{later, find, is_none, idents_differ, RowRules}
use Rattle.payload.specs.Tree.{Members, stop, mem, bytes_of}
use Rattle.payload.specs.Formed.{has, misses, Framed}
use Rattle.payload.specs.Writing.{tag_for, Put, parts_of, placed, nested, too_wide, some_wide}
use Rattle.wire.proofs.ChooseLaws.{and_false}
use Rattle.payload.proofs.Trees.Level.{none_some, true_false, and_left, and_right}
use Rattle.payload.proofs.Round.PutLaws.{LengthWire, Content, content_bytes, content_length, tag_small, tag_ident_is, run_length}
use Rattle.payload.proofs.Round.Judgings.{Stands, is_under, is_absent_lem, is_leaf, is_struct, Passed, no_rows, a_row}

-- ---- the tree, row by row

-- The members of level l among the rows from here on, where l is present. Behind an absent row and behind a leaf the levels up to l are present,
-- behind a struct one more.
pub data Built (ws : ℕ) (buf : List ℕ) : ℕ → List TypeRow → List Row → Members → Type 0 where
  built_none : {l : ℕ} {vs : List Row} → Built ws buf l [] vs stop
  built_end : {l : ℕ} {r : TypeRow} {rs : List TypeRow} {vs : List Row} → r.level < l → Built ws buf l (r ∷ rs) vs stop
  built_deeper : {l : ℕ} {r : TypeRow} {rs : List TypeRow} {v : Row} {vs : List Row} {m : Members}
      → l < r.level → Built ws buf l rs vs m → Built ws buf l (r ∷ rs) (v ∷ vs) m
  built_absent : {l : ℕ} {r : TypeRow} {rs : List TypeRow} {v : Row} {vs : List Row} {m : Members}
      → r.level ≡ l → v.value ≡ Absent → r.required ≡ false → Passed buf l rs vs → Built ws buf l rs vs m
      → Built ws buf l (r ∷ rs) (v ∷ vs) m
  built_leaf : {l : ℕ} {r : TypeRow} {rs : List TypeRow} {v : Row} {vs : List Row} {c : List ℕ} {after : Members}
      → r.level ≡ l → RowRules r → Content buf r v.bits v.value c → Passed buf l rs vs → Built ws buf l rs vs after
      → Built ws buf l (r ∷ rs) (v ∷ vs) (mem (tag_for ws r) false c stop after)
  built_struct : {l : ℕ} {r : TypeRow} {rs : List TypeRow} {v : Row} {vs : List Row} {inner after : Members}
      → r.level ≡ l → RowRules r → v.value ≡ Branch → r.kind ≡ struct → Passed buf (suc l) rs vs
      → Built ws buf (suc l) rs vs inner → Built ws buf l rs vs after
      → Built ws buf l (r ∷ rs) (v ∷ vs) (mem (tag_for ws r) true [] inner after)

module _ (ws : ℕ) (buf : List ℕ) where
  -- the members of level l
  abbrev pub members_of : ℕ → List TypeRow → List Row → Members
  members_of l rs vs = nested l (parts_of ws buf rs vs)

  pub passed_built : {upto : ℕ} {rs : List TypeRow} {vs : List Row} → Passed buf upto rs vs → (l : ℕ) → l ≤ upto
      → Built ws buf l rs vs (members_of l rs vs)
  unfolding nested parts_of placed
  passed_built no_rows l h = built_none
  passed_built {upto} (a_row {next = next} {put = put} {r = r} {rs = rs} {v = v} {vs = vs} rules e s rest) l h =
      rw e (go s rest (λ k hk. passed_built rest k hk) (ltb r.level l) refl (eqb r.level l) refl)
    where
      Deeper : ℕ → Type 0
      Deeper n = (k : ℕ) → k ≤ n → Built ws buf k rs vs (members_of k rs vs)

      behind : {put2 : Put} {n : ℕ} → l < r.level → Stands buf upto r v put2 n → l ≤ n
      behind d (is_under u a) = h
      behind d (is_absent_lem u a q) = omega arith
      behind d (is_leaf u t) = omega arith
      behind d (is_struct u a k) = omega arith

      here : {put2 : Put} {n : ℕ} → r.level ≡ l → Stands buf upto r v put2 n → Passed buf n rs vs → Deeper n
          → Built ws buf l (r ∷ rs) (v ∷ vs) (placed (tag_for ws r) put2 (members_of (suc l) rs vs) (members_of l rs vs))
      here d (is_under u a) p ih = absurd (omega arith)
      here d (is_absent_lem u a q) p ih = built_absent d a q (rw d at p) (ih l (omega arith))
      here d (is_leaf u t) p ih = built_leaf d rules t (rw d at p) (ih l (omega arith))
      here d (is_struct u a k) p ih = built_struct d rules a k (rw d at p) (ih (suc l) (omega arith)) (ih l (omega arith))

      go : Stands buf upto r v put next → Passed buf next rs vs → Deeper next
          → (a : Bool) → ltb r.level l ≡ a → (b : Bool) → eqb r.level l ≡ b
          → Built ws buf l (r ∷ rs) (v ∷ vs)
          (pick a stop (pick b (placed (tag_for ws r) put (members_of (suc l) rs vs) (members_of l rs vs)) (members_of l rs vs)))
      go s p ih true ea b eb = built_end (ltb-true r.level l ea)
      go s p ih false ea true eb = here (eqb-true r.level l eb) s p ih
      go s p ih false ea false eb =
          let d : l < r.level = omega (arith, ltb-false r.level l ea, eqb-false r.level l eb) in
          built_deeper d (ih l (behind d s))

-- ---- Data IDs

module _ (l x : ℕ) (r : TypeRow) (rs : List TypeRow) (e : find l x (r ∷ rs) ≡ none) where
  -- no row from the next one on has a Data ID
  none_next : l ≤ r.level → find l x rs ≡ none
  unfolding find later
  none_next h = go (and (eqb r.level l) (eqb r.ident x)) (find l x rs) refl (rw (le-ltb r.level l h) at e)
    where
      go : (b : Bool) (o : Option ℕ) → find l x rs ≡ o → pick b (some 0) (later o) ≡ none → o ≡ none
      go true o eo d = none_some (sym d)
      go false none eo d = refl
      go false (some k) eo d = none_some (sym d)

  -- nor this one
  none_here : r.level ≡ l → eqb r.ident x ≡ false
  unfolding find
  none_here h = go (eqb r.ident x) refl (rw (le-ltb r.level l (omega arith), eq-eqb r.level l h) at e)
    where
      go : (b : Bool) → eqb r.ident x ≡ b → pick b (some 0) (later (find l x rs)) ≡ none → b ≡ false
      go true eb d = none_some (sym d)
      go false eb d = refl

or_right : (a b : Bool) → b ≡ true → or a b ≡ true
or_right true b e = refl
or_right false b e = e

-- a row of the level that has its member
row_there : (l : ℕ) (r : TypeRow) (rs : List TypeRow) (all : Members) → r.level ≡ l → has r.ident all ≡ true → misses l rs all ≡ false
    → misses l (r ∷ rs) all ≡ false
unfolding misses
row_there l r rs all d h e = rw (le-ltb r.level l (omega arith), eq-eqb r.level l d, h, and_false r.required) e

module _ {ws : ℕ} (lw : LengthWire ws) (buf : List ℕ) where
  -- a Data ID that no row of the level has is no member's
  pub built_fresh : {l : ℕ} {rs : List TypeRow} {vs : List Row} {m : Members} → Built ws buf l rs vs m
      → (x : ℕ) → find l x rs ≡ none → has x m ≡ false
  unfolding has
  built_fresh built_none x e = refl
  built_fresh (built_end h) x e = refl
  built_fresh {l} (built_deeper {r = r} {rs = rs} h b) x e = built_fresh b x (none_next l x r rs e (omega arith))
  built_fresh {l} (built_absent {r = r} {rs = rs} d a q p b) x e = built_fresh b x (none_next l x r rs e (omega arith))
  built_fresh {l} (built_leaf {r = r} {rs = rs} d rules t p b) x e =
      rw (tag_ident_is lw r rules, none_here l x r rs e d) (built_fresh b x (none_next l x r rs e (omega arith)))
  built_fresh {l} (built_struct {r = r} {rs = rs} d rules a k p bi b) x e =
      rw (tag_ident_is lw r rules, none_here l x r rs e d) (built_fresh b x (none_next l x r rs e (omega arith)))

  -- a member's Data ID is none after it
  pub built_once : {l : ℕ} {r : TypeRow} {rs : List TypeRow} {vs : List Row} {m : Members} → idents_differ (r ∷ rs) ≡ true → RowRules r
      → r.level ≡ l → Built ws buf l rs vs m → has (ident_of (tag_for ws r)) m ≡ false
  unfolding idents_differ
  built_once {l} {r} {rs} d rules e b =
      rw (tag_ident_is lw r rules)
      (built_fresh b r.ident (none_is (find l r.ident rs) (rw e at (and_left (is_none (find r.level r.ident rs)) (idents_differ rs) d))))
    where
      none_is : (o : Option ℕ) → is_none o ≡ true → o ≡ none
      none_is none q = refl
      none_is (some k) q = true_false (sym q)

  -- no required row of the level lacks its member, where all its members are among `all`
  pub built_whole : {l : ℕ} {rs : List TypeRow} {vs : List Row} {m : Members} → Built ws buf l rs vs m
      → (all : Members) → ((x : ℕ) → has x m ≡ true → has x all ≡ true) → misses l rs all ≡ false
  unfolding has misses
  built_whole built_none all h = refl
  built_whole {l} (built_end {r = r} d) all h = rw (lt-ltb r.level l d)
  built_whole {l} (built_deeper {r = r} d b) all h =
      rw (le-ltb r.level l (omega arith), ne_eqb r.level l (λ e. omega arith)) (built_whole b all h)
  built_whole {l} (built_absent {r = r} d a q p b) all h =
      rw (le-ltb r.level l (omega arith), eq-eqb r.level l d, q) (built_whole b all h)
  built_whole {l} (built_leaf {r = r} {rs = rs} d rules t p b) all h =
      row_there l r rs all d (h r.ident (rw (tag_ident_is lw r rules, eq-eqb r.ident r.ident refl)))
      (built_whole b all (λ x e. h x (or_right (eqb (ident_of (tag_for ws r)) x) _ e)))
  built_whole {l} (built_struct {r = r} {rs = rs} d rules a k p bi b) all h =
      row_there l r rs all d (h r.ident (rw (tag_ident_is lw r rules, eq-eqb r.ident r.ident refl)))
      (built_whole b all (λ x e. h x (or_right (eqb (ident_of (tag_for ws r)) x) _ e)))

-- ---- what a tree that is written is, whatever table reads it

-- Tags and length fields can be written, contents are bytes, the Data IDs of a level differ.
pub data Sound (width : ℕ) : Members → Type 0 where
  sound_stop : Sound width stop
  sound_leaf : {tag : ℕ} {c : List ℕ} {after : Members} → Framed width tag c → AreBytes c → has (ident_of tag) after ≡ false
      → Sound width after → Sound width (mem tag false c stop after)
  sound_struct : {tag : ℕ} {inner after : Members} → Framed width tag (bytes_of width inner) → has (ident_of tag) after ≡ false
      → Sound width inner → Sound width after → Sound width (mem tag true [] inner after)

-- no member is too wide
pub record Narrow (width tag : ℕ) (c : List ℕ) (inner after : Members) : Type 0 where
  pub own : too_wide width tag (length c) ≡ false
  pub inside : some_wide width inner ≡ false
  pub later : some_wide width after ≡ false

module _ (width tag : ℕ) (inner after : Members) where
  parts : (c : List ℕ) → or (too_wide width tag (length c)) (or (some_wide width inner) (some_wide width after)) ≡ false → Narrow width tag c inner after
  parts c e = go (too_wide width tag (length c)) (some_wide width inner) (some_wide width after) refl refl refl e
    where
      go : (x y z : Bool) → too_wide width tag (length c) ≡ x → some_wide width inner ≡ y → some_wide width after ≡ z → or x (or y z) ≡ false
          → Narrow width tag c inner after
      go true y z ex ey ez e = true_false e
      go false true z ex ey ez e = true_false e
      go false false z ex ey ez e = record { own = ex; inside = ey; later = ez ∙ e }

  pub leaf_narrow : (c : List ℕ) → some_wide width (mem tag false c inner after) ≡ false → Narrow width tag c inner after
  unfolding some_wide
  leaf_narrow c e = parts c e

  pub struct_narrow : some_wide width (mem tag true [] inner after) ≡ false → Narrow width tag (bytes_of width inner) inner after
  unfolding some_wide
  struct_narrow e = parts (bytes_of width inner) e

module _ {ws : ℕ} (lw : LengthWire ws) (buf : List ℕ) (width : ℕ) (r : TypeRow) (rules : RowRules r) where
  pub leaf_framed : (v : Row) (c : List ℕ) → Content buf r v.bits v.value c → too_wide width (tag_for ws r) (length c) ≡ false
      → Framed width (tag_for ws r) c
  leaf_framed v c t e = record {
    tag_fits = tag_small lw r rules;
    length_fits_lem = content_length buf r v.bits lw rules width t e;
  }

  pub struct_framed : (c : List ℕ) → r.kind ≡ struct → too_wide width (tag_for ws r) (length c) ≡ false → Framed width (tag_for ws r) c
  struct_framed c k e = record {
    tag_fits = tag_small lw r rules;
    length_fits_lem = run_length lw r rules (omega arith) width (length c) e;
  }

module _ {ws : ℕ} (lw : LengthWire ws) (buf : List ℕ) (h : AreBytes buf) (width : ℕ) where
  pub built_sound : {l : ℕ} {rs : List TypeRow} {vs : List Row} {m : Members} → Built ws buf l rs vs m → idents_differ rs ≡ true
      → some_wide width m ≡ false → Sound width m
  unfolding idents_differ
  built_sound built_none d e = sound_stop
  built_sound (built_end q) d e = sound_stop
  built_sound (built_deeper {r = r} {rs = rs} q b) d e = built_sound b (and_right (is_none (find r.level r.ident rs)) (idents_differ rs) d) e
  built_sound (built_absent {r = r} {rs = rs} q a n p b) d e = built_sound b (and_right (is_none (find r.level r.ident rs)) (idents_differ rs) d) e
  built_sound (built_leaf {r = r} {rs = rs} {v = v} {c = c} {after = after} q rules t p b) d e =
      let n = leaf_narrow width (tag_for ws r) stop after c e in
      sound_leaf (leaf_framed lw buf width r rules v c t n.own) (content_bytes buf r v.bits h t)
      (built_once lw buf d rules q b)
      (built_sound b (and_right (is_none (find r.level r.ident rs)) (idents_differ rs) d) n.later)
  built_sound (built_struct {r = r} {rs = rs} {inner = inner} {after = after} q rules a k p bi b) d e =
      let n = struct_narrow width (tag_for ws r) inner after e in
      let dr = and_right (is_none (find r.level r.ident rs)) (idents_differ rs) d in
      sound_struct (struct_framed lw buf width r rules (bytes_of width inner) k n.own) (built_once lw buf d rules q b)
      (built_sound bi dr n.inside) (built_sound b dr n.later)
