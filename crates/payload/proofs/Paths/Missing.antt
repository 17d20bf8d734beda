-- A required member that is missing at a level: a row of the level that no member has, by the path of its Data ID.
-- Assumes nothing.
use mathlib.Core.Path.{◌≡◌, refl, sym, ap, ◌∙◌}
use Prim.Native.Nat.{ℕ, zero, suc, ◌+◌, ◌≤◌, ◌<◌, zero-le, suc-le-suc}
use native.Mathlib.Omega.{arith}
use native.Mathlib.Nat.{le_of_suc-le-suc}
use mathlib.Core.Bool.{Bool, true, false, not}
use mathlib.Core.Option.{Option, none, some}
use mathlib.Core.List.{List, [], ◌∷◌}
use lib.ListN.{length, drop}
use lib.Seq.{get_or-drop}
use lib.Dec.{ltb, eqb}
use borrow.Author.Tests.{ltb-false, eqb-true}
use Rattle.wire.specs.Choose.{pick, and, or}
use Rattle.wire.specs.Tag.{ident_of}
use Rattle.payload.specs.declared.table.TypeRow.{TypeRow}
use Rattle.payload.specs.Table.{later, find, idents_differ, no_row, row_at}
use Rattle.payload.specs.Tree.{Members, stop, mem}
use Rattle.payload.specs.Formed.{has, misses}
use Rattle.payload.specs.Writing.{nothing, leaf, branch}
use Rattle.payload.specs.Paths.{at_end, at_path, at_start, LacksAt}
use Rattle.payload.proofs.Joined.{or_true}
use Rattle.payload.proofs.Trees.Level.{none_some, true_false, and_left, and_right, find_own, differ_drop}
use Rattle.payload.proofs.Paths.PathLaws.{path_one, path_leads, at_fresh}

not_true : (b : Bool) → not b ≡ true → b ≡ false
not_true true e = sym e
not_true false e = refl

pub nothing_branch {ℓ} : {X : Type ℓ} → nothing ≡ branch → X
nothing_branch e = let z : ◌≡◌ {A = ℕ} 0 1 = cc in absurd (omega arith)

pub leaf_branch {ℓ} : {X : Type ℓ} {c : List ℕ} → leaf c ≡ branch → X
leaf_branch e = let z : ◌≡◌ {A = ℕ} 0 1 = cc in absurd (omega arith)

-- ---- a level's own rows

-- row k of the level is required and no member has its Data ID
record Wanted (l : ℕ) (rs : List TypeRow) (m : Members) : Type 0 where
  at : ℕ
  inside : at < length rs
  deep : (i : ℕ) → i ≤ at → l ≤ (row_at rs i).level
  level_is : (row_at rs at).level ≡ l
  required_is : (row_at rs at).required ≡ true
  fresh : has (row_at rs at).ident m ≡ false

misses_wanted : (l : ℕ) (rs : List TypeRow) (m : Members) → misses l rs m ≡ true → Wanted l rs m
unfolding misses
misses_wanted l [] m e = true_false (sym e)
misses_wanted l (r ∷ rs) m e =
    go (ltb r.level l) (and (eqb r.level l) (and r.required (not (has r.ident m)))) refl refl e (misses_wanted l rs m)
  where
    go : (a b : Bool) → ltb r.level l ≡ a → and (eqb r.level l) (and r.required (not (has r.ident m))) ≡ b
        → pick a false (or b (misses l rs m)) ≡ true → (misses l rs m ≡ true → Wanted l rs m) → Wanted l (r ∷ rs) m
    go true b ea eb e ih = true_false (sym e)
    go false true ea eb e ih =
        let own = and_right (eqb r.level l) (and r.required (not (has r.ident m))) eb in
        record {
          at = 0;
          inside = suc-le-suc zero-le;
          deep = here;
          level_is = eqb-true r.level l (and_left (eqb r.level l) (and r.required (not (has r.ident m))) eb);
          required_is = and_left r.required (not (has r.ident m)) own;
          fresh = not_true (has r.ident m) (and_right r.required (not (has r.ident m)) own);
        }
      where
        here : (i : ℕ) → i ≤ 0 → l ≤ (row_at (r ∷ rs) i).level
        here zero h = ltb-false r.level l ea
        here (suc i) h = absurd (omega arith)
    go false false ea eb e ih =
        let w = ih e in
        record {
          at = suc w.at;
          inside = suc-le-suc w.inside;
          deep = deeper w;
          level_is = w.level_is;
          required_is = w.required_is;
          fresh = w.fresh;
        }
      where
        deeper : (w : Wanted l rs m) (i : ℕ) → i ≤ suc w.at → l ≤ (row_at (r ∷ rs) i).level
        deeper w zero h = ltb-false r.level l ea
        deeper w (suc i) h = w.deep i (le_of_suc-le-suc h)

found_misses : (l x : ℕ) (rs : List TypeRow) (m : Members) (k : ℕ) → find l x rs ≡ some k → (row_at rs k).required ≡ true → has x m ≡ false
    → misses l rs m ≡ true
unfolding find misses later
found_misses l x [] m k e q h = none_some e
found_misses l x (r ∷ rs) m k e q h =
    go (ltb r.level l) (and (eqb r.level l) (eqb r.ident x)) (find l x rs) refl refl refl e (λ i ei qi. found_misses l x rs m i ei qi h)
  where
    go : (a b : Bool) (o : Option ℕ) → ltb r.level l ≡ a → and (eqb r.level l) (eqb r.ident x) ≡ b → find l x rs ≡ o
        → pick a none (pick b (some 0) (later o)) ≡ some k
        → ((i : ℕ) → find l x rs ≡ some i → (row_at rs i).required ≡ true → misses l rs m ≡ true)
        → pick a false (or (and (eqb r.level l) (and r.required (not (has r.ident m)))) (misses l rs m)) ≡ true
    go true b o ea eb eo e ih = none_some e
    go false true o ea eb eo e ih =
        let z : k ≡ 0 = cc in
        let ex : r.ident ≡ x = eqb-true r.ident x (and_right (eqb r.level l) (eqb r.ident x) eb) in
        let q2 : r.required ≡ true = rw z at q in
        rw (and_left (eqb r.level l) (eqb r.ident x) eb, q2, ex, h)
    go false false none ea eb eo e ih = none_some e
    go false false (some i) ea eb eo e ih =
        let z : k ≡ suc i = cc in
        let q2 : (row_at rs i).required ≡ true = rw z at q in
        rw (ih i eo q2) (or_true (and (eqb r.level l) (and r.required (not (has r.ident m)))))

at_none : (m : Members) (x : ℕ) → at_path m (x ∷ []) ≡ nothing → has x m ≡ false
unfolding at_path has at_end
at_none stop x e = refl
at_none (mem tag s c inner after) x e = go (eqb (ident_of tag) x) s refl e (at_none after x)
  where
    go : (b s : Bool) → eqb (ident_of tag) x ≡ b → pick b (pick s branch (leaf c)) (at_path after (x ∷ [])) ≡ nothing
        → (at_path after (x ∷ []) ≡ nothing → has x after ≡ false) → or b (has x after) ≡ false
    go true true q e ih = nothing_branch (sym e)
    go true false q e ih = let z : ◌≡◌ {A = ℕ} 0 1 = cc in absurd (omega arith)
    go false s q e ih = ih e

module _ (types : List TypeRow) (d : idents_differ types ≡ true) (l first : ℕ) (m : Members) where
  pub end_lacks : misses l (drop first types) m ≡ true → LacksAt types l first m []
  end_lacks e =
      let w = misses_wanted l (drop first types) m e in
      let f = find_own l (drop first types) w.at (differ_drop first types d) w.inside w.level_is w.deep in
      record {
        ident = (row_at (drop first types) w.at).ident;
        row = first + w.at;
        row_is = path_one types l first (row_at (drop first types) w.at).ident w.at f;
        required_is = ap (λ (r : TypeRow). r.required) (sym (get_or-drop first types w.at no_row)) ∙ w.required_is;
        present = at_start;
        absent = at_fresh m (row_at (drop first types) w.at).ident [] w.fresh;
      }

  pub lacks_end : LacksAt types l first m [] → misses l (drop first types) m ≡ true
  lacks_end h =
      let g = path_leads types l first h.ident [] h.row h.row_is in
      let o = path_one types l first h.ident g.head g.found in
      let r = h.row_is in
      let z : first + g.head ≡ h.row = cc in
      let q : (row_at (drop first types) g.head).required ≡ true =
      ap (λ (t : TypeRow). t.required) (get_or-drop first types g.head no_row ∙ ap (row_at types) z) ∙ h.required_is in
      found_misses l h.ident (drop first types) m g.head g.found q (at_none m h.ident h.absent)
