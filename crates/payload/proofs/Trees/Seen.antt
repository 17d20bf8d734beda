-- Which members of a level were met is what its rows show: a row is absent exactly if no member had its Data ID.
-- Assumes nothing.
use mathlib.Core.Path.{◌≡◌, refl, sym, ap, ◌∙◌}
use Prim.Native.Nat.{ℕ, zero, suc, ◌+◌, ◌≤◌, ◌<◌, zero-le, suc-le-suc}
use native.Mathlib.Omega.{arith}
use native.Mathlib.Nat.{le_of_suc-le-suc}
use mathlib.Core.Bool.{Bool, true, false, not}
use mathlib.Core.Option.{none, some}
use mathlib.Core.List.{List, [], ◌∷◌}
use lib.ListN.{length, drop, get_or, set, replicate, length-set, length-drop, length-replicate}
use lib.Seq.{get_or-set_same, get_or-set_other, get_or-drop}
use lib.Dec.{ltb, eqb}
use borrow.Author.Tests.{ltb-false, eqb-true, eqb-false}
use Rattle.wire.specs.Choose.{pick, and, or}
use Rattle.wire.specs.Tag.{ident_of}
use Rattle.wire.specs.Kind.{string, array}
use Rattle.payload.specs.declared.table.TypeRow.{TypeRow}
use Rattle.payload.specs.declared.row.Row.{Row}
use Rattle.payload.specs.Table.{find, idents_differ, row_at}
use Rattle.payload.specs.Row.{absent_row, members_row, is_absent, number_row, shown_of}
use Rattle.payload.specs.Reading.{lacks}
use Rattle.payload.specs.Tree.{Members}
use Rattle.payload.specs.Formed.{has, misses}
use Rattle.payload.proofs.Trees.Walk.{pick_all}
use Rattle.payload.proofs.Trees.Level.{
  none_some,
  true_false,
  found_inside,
  found_level,
  find_own,
  differ_drop,
  InLevel,
  Below,
  below_self,
  in_found,
  in_inner,
  below_inner,
  below_apart,
  below_out,
}
use Rattle.payload.proofs.Trees.Follow.{Follows, to_stop, to_skip, to_leaf, to_struct}

-- ---- rows that a member sets aren't absent

pub absent_members : is_absent members_row ≡ false
unfolding is_absent
absent_members = refl

pub absent_shown : (r : TypeRow) (p : ℕ) (c : List ℕ) → is_absent (shown_of r p c) ≡ false
unfolding shown_of number_row is_absent
absent_shown r p c =
    pick_all No (ltb r.kind string)
    (pick_all No (eqb r.kind 1) refl
    (pick_all No (ltb r.kind 6) refl (pick_all No (ltb r.kind 10) refl (pick_all No (eqb r.kind 10) refl refl))))
    (pick_all No (eqb r.kind string) refl (pick_all No (eqb r.kind array) refl refl))
  where
    No : Row → Type 0
    No v = is_absent v ≡ false

-- rows that no member sets
pub absent_at : (n j : ℕ) → get_or (replicate n absent_row) j absent_row ≡ absent_row
absent_at zero j = refl
absent_at (suc n) zero = refl
absent_at (suc n) (suc j) = absent_at n j

-- ---- members change rows of their own level only

module _ (width : ℕ) (types : List TypeRow) where
  pub record Kept (l first : ℕ) (rows rows2 : List Row) : Type 0 where
    pub size : length rows2 ≡ length rows
    pub same : (j : ℕ) → (InLevel types l first j → ⊥) → get_or rows2 j absent_row ≡ get_or rows j absent_row

  pub follows_kept : {l first place n : ℕ} {m : Members} {rows rows2 : List Row} → Follows width types l first place m rows rows2 n
      → Kept l first rows rows2
  follows_kept (to_stop e) = record { size = refl; same = λ j h. refl }
  follows_kept (to_skip fr hc e f) = follows_kept f
  follows_kept {l} {first} (to_leaf {tag = tag} {k = k} {rows = rows} fr hc e w ab s fits f) =
      let g = follows_kept f in
      record {
        size = g.size ∙ length-set rows (first + k) _;
        same = λ j h. g.same j h ∙ get_or-set_other rows (first + k) j _ absent_row (λ z. h (rw z (in_found types l first (ident_of tag) k e)));
      }
  follows_kept {l} {first} (to_struct {tag = tag} {k = k} {rows = rows} fr e w ab s fi f) =
      let g = follows_kept f in
      let i = follows_kept fi in
      record {
        size = g.size ∙ i.size ∙ length-set rows (first + k) members_row;
        same = λ j h.
            g.same j h ∙ i.same j (λ z. h (in_inner types l first (ident_of tag) k e j z))
            ∙ get_or-set_other rows (first + k) j members_row absent_row (λ z. h (rw z (in_found types l first (ident_of tag) k e)));
      }

-- ---- what the rows of a level show when some members were met

-- one more Data ID
abbrev pub also : ℕ → (ℕ → Bool) → ℕ → Bool
also y seen x = or (eqb y x) (seen x)

module _ (types : List TypeRow) where
  pub record Met (l first : ℕ) (seen : ℕ → Bool) (rows : List Row) : Type 0 where
    pub size : length rows ≡ length types
    pub fresh : (x k j : ℕ) → find l x (drop first types) ≡ some k → seen x ≡ false → Below types l (first + k) j
        → is_absent (get_or rows j absent_row) ≡ true
    pub there : (x k : ℕ) → find l x (drop first types) ≡ some k → seen x ≡ true → is_absent (get_or rows (first + k) absent_row) ≡ false

  module _ (l first : ℕ) (seen : ℕ → Bool) (rows : List Row) (met : Met l first seen rows) (y : ℕ) where
    pub met_unknown : find l y (drop first types) ≡ none → Met l first (also y seen) rows
    met_unknown e = record {
      size = met.size;
      fresh = λ x k j ex s b. met.fresh x k j ex (out (eqb y x) (seen x) s) b;
      there = λ x k ex s. go x k ex (eqb y x) refl s;
    }
      where
        out : (a b : Bool) → or a b ≡ false → b ≡ false
        out true b e = true_false e
        out false b e = e

        go : (x k : ℕ) → find l x (drop first types) ≡ some k → (b : Bool) → eqb y x ≡ b → or b (seen x) ≡ true
            → is_absent (get_or rows (first + k) absent_row) ≡ false
        go x k ex true q s = none_some (sym e ∙ (rw (← eqb-true y x q) at ex))
        go x k ex false q s = met.there x k ex s

    module _ (i : ℕ) (e : find l y (drop first types) ≡ some i) where
      pub met_known : (v : Row) → is_absent v ≡ false → Met l first (also y seen) (set rows (first + i) v)
      met_known v hv = record {
        size = length-set rows (first + i) v ∙ met.size;
        fresh = λ x k j ex s b. fresh x k j ex (eqb y x) refl s b;
        there = λ x k ex s. there x k ex (eqb y x) refl s;
      }
        where
          inside : first + i < length rows
          inside = omega (arith, found_inside types l first y i e, met.size)

          fresh : (x k j : ℕ) → find l x (drop first types) ≡ some k → (b : Bool) → eqb y x ≡ b → or b (seen x) ≡ false
              → Below types l (first + k) j → is_absent (get_or (set rows (first + i) v) j absent_row) ≡ true
          fresh x k j ex true q s b = true_false s
          fresh x k j ex false q s b =
              ap is_absent
              (get_or-set_other rows (first + i) j v absent_row (below_apart types l first x y k i ex e (λ z. eqb-false y x q (sym z)) j b))
              ∙ met.fresh x k j ex s b

          there : (x k : ℕ) → find l x (drop first types) ≡ some k → (b : Bool) → eqb y x ≡ b → or b (seen x) ≡ true
              → is_absent (get_or (set rows (first + i) v) (first + k) absent_row) ≡ false
          there x k ex true q s =
              let ex2 : find l y (drop first types) ≡ some k = rw (eqb-true y x q) ex in
              let z : i ≡ k = cc in
              rw (← z, get_or-set_same rows (first + i) v absent_row inside) hv
          there x k ex false q s =
              ap is_absent
              (get_or-set_other rows (first + i) (first + k) v absent_row
              (below_apart types l first x y k i ex e (λ z. eqb-false y x q (sym z)) (first + k) (below_self types l (first + k))))
              ∙ met.there x k ex s

      -- no member of a struct is met before the struct
      pub met_inner : seen y ≡ false → (v : Row) → Met (suc l) (suc (first + i)) (λ x. false) (set rows (first + i) v)
      met_inner s v = record {
        size = length-set rows (first + i) v ∙ met.size;
        fresh = λ x k j ex s2 b.
            let d : Below types l (first + i) j = below_inner types l first y i e x k j ex b in
            ap is_absent (get_or-set_other rows (first + i) j v absent_row (λ z. omega (arith, b.after))) ∙ met.fresh y i j e s d;
        there = λ x k ex s2. true_false (sym s2);
      }

  -- a struct's members change nothing at the outer level
  pub met_after : (width l first : ℕ) (seen : ℕ → Bool) (rows rows2 : List Row) → Met l first seen rows
      → (y i : ℕ) → find l y (drop first types) ≡ some i → seen y ≡ true → Kept width types (suc l) (suc (first + i)) rows rows2
      → Met l first seen rows2
  met_after width l first seen rows rows2 met y i e sy kept = record {
    size = kept.size ∙ met.size;
    fresh = λ x k j ex s b.
        ap is_absent (kept.same j (below_out types l first x y k i ex e (λ z. true_false (sym sy ∙ ap seen (sym z) ∙ s)) j b))
        ∙ met.fresh x k j ex s b;
    there = λ x k ex s.
        ap is_absent (kept.same (first + k) (λ z. omega (arith, z.above (first + k) z.after (omega arith), found_level types l first x k ex)))
        ∙ met.there x k ex s;
  }

  -- before the first member
  pub met_first : (l first : ℕ) → Met l first (λ x. false) (replicate (length types) absent_row)
  unfolding is_absent
  met_first l first = record {
    size = length-replicate (length types) absent_row;
    fresh = λ x k j ex s b. ap is_absent (absent_at (length types) j);
    there = λ x k ex s. true_false (sym s);
  }

-- ---- the level's end

lacks_misses : (l : ℕ) (m : Members) (rs : List TypeRow) (vs : List Row) → length vs ≡ length rs
    → ((i : ℕ) → i < length rs → (row_at rs i).level ≡ l → ((k : ℕ) → k ≤ i → l ≤ (row_at rs k).level)
    → is_absent (get_or vs i absent_row) ≡ not (has (row_at rs i).ident m))
    → lacks l rs vs ≡ misses l rs m
unfolding lacks misses
lacks_misses l m [] vs e h = refl
lacks_misses l m (r ∷ rs) [] e h = absurd (omega arith)
lacks_misses l m (r ∷ rs) (v ∷ vs) e h = go (ltb r.level l) (eqb r.level l) refl refl
    (λ d. lacks_misses l m rs vs (omega arith) (λ i hi el deep. h (suc i) (suc-le-suc hi) el (λ k hk. above d deep k hk)))
  where
    above : {i : ℕ} → l ≤ r.level → ((k : ℕ) → k ≤ i → l ≤ (row_at rs k).level) → (k : ℕ) → k ≤ suc i → l ≤ (row_at (r ∷ rs) k).level
    above d deep zero hk = d
    above d deep (suc k) hk = deep k (le_of_suc-le-suc hk)

    go : (a b : Bool) → ltb r.level l ≡ a → eqb r.level l ≡ b → (l ≤ r.level → lacks l rs vs ≡ misses l rs m)
        → pick a false (or (and b (and r.required (is_absent v))) (lacks l rs vs))
        ≡ pick a false (or (and b (and r.required (not (has r.ident m)))) (misses l rs m))
    go true b ea eb ih = refl
    go false true ea eb ih =
        let d : l ≤ r.level = ltb-false r.level l ea in
        let z : is_absent v ≡ not (has r.ident m) = h 0 (suc-le-suc zero-le) (eqb-true r.level l eb) (λ k hk. here d k hk) in
        rw (z, ih d)
      where
        here : l ≤ r.level → (k : ℕ) → k ≤ 0 → l ≤ (row_at (r ∷ rs) k).level
        here d zero hk = d
        here d (suc k) hk = absurd (omega arith)
    go false false ea eb ih = ih (ltb-false r.level l ea)

-- a required row is absent at the level's end exactly if no member had its Data ID
pub end_misses : (types : List TypeRow) (l first : ℕ) (seen : ℕ → Bool) (rows : List Row) (m : Members) → idents_differ types ≡ true
    → Met types l first seen rows → ((x : ℕ) → has x m ≡ seen x)
    → lacks l (drop first types) (drop first rows) ≡ misses l (drop first types) m
end_misses types l first seen rows m d met all =
    lacks_misses l m (drop first types) (drop first rows)
    (omega (arith, length-drop first types, length-drop first rows, met.size))
    (λ i hi el deep. go i (find_own l (drop first types) i (differ_drop first types d) hi el deep)
    (seen (row_at (drop first types) i).ident) refl)
  where
    go : (i : ℕ) → find l (row_at (drop first types) i).ident (drop first types) ≡ some i
        → (b : Bool) → seen (row_at (drop first types) i).ident ≡ b
        → is_absent (get_or (drop first rows) i absent_row) ≡ not (has (row_at (drop first types) i).ident m)
    go i e true s =
        rw (all (row_at (drop first types) i).ident, s, get_or-drop first rows i absent_row) (met.there (row_at (drop first types) i).ident i e s)
    go i e false s =
        rw (all (row_at (drop first types) i).ident, s, get_or-drop first rows i absent_row)
        (met.fresh (row_at (drop first types) i).ident i (first + i) e s (below_self types l (first + i)))
