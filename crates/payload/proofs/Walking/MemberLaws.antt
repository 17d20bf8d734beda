-- A member, by the tests that the code makes: its tag, its row, its content.
-- Assumes nothing.
use Rattle.std.specs.Prelude.{Option, Some, None, Result, Ok, Err}
use mathlib.Core.Path.{◌≡◌, refl, sym, ap, ◌∙◌}
use Prim.Native.Nat.{ℕ, zero, suc, ◌+◌, ◌-◌, ◌*◌, ◌≤◌, ◌<◌}
use native.Mathlib.Numerals.{add-one}
use native.Mathlib.Omega.{arith}
use mathlib.Core.Bool.{true, false}
use mathlib.Core.Option.{Option as Place, none, some}
use mathlib.Core.List.{List, [], ◌∷◌}
use lib.ListN.{length, get_or, take, drop, set, length-set}
use lib.Seq.{slice, slice-cons, slice_empty, get_or-take}
use Rattle.std.proofs.lemmas.List.{drop-set-lt}
use Rattle.wire.specs.Choose.{pick}
use Rattle.wire.specs.Number.{big, number_of}
use Rattle.wire.specs.Tag.{wire_of, ident_of}
use Rattle.wire.specs.Kind.{wire_fits, struct}
use Rattle.wire.specs.declared.verdict.Verdict.TheVariants.{TagCut, Wire, Twice}
use Rattle.payload.specs.declared.row.Row.{Row}
use Rattle.payload.specs.declared.member.Span.{Span}
use Rattle.payload.specs.declared.member.Refusal.{Refusal}
use Rattle.payload.specs.declared.read.Level.{Level}
use Rattle.payload.specs.declared.read.Walker.{Walker}
use Rattle.payload.specs.Table.{find, row_at}
use Rattle.payload.specs.Cells.{row_in, kind_in, found_at, Stops}
use Rattle.payload.specs.Row.{is_absent, absent_row, members_row}
use Rattle.payload.specs.Reading.{content, Step, refuse, unknown, known, met, step_of, behind, member_by}
use Rattle.payload.specs.Walking.{body_in, Inside, RowShown, types_in, met_in, Ready, Onto, inner_of, walk_in, move_by, body_at, known_step, KnownRead, MemberRead, LevelRead}
use Rattle.payload.proofs.Rules.CellLaws.{row_at_lem}
use Rattle.payload.proofs.Walking.LevelLaws.{onto_self, onto_next}

-- a member's row is kept among the table's
take_set : (n i : ℕ) (rows : List Row) (r : Row) → i < n → take n (set rows i r) ≡ set (take n rows) i r
take_set zero i rows r h = absurd (omega arith)
take_set (suc n) i [] r h = refl
take_set (suc n) zero (x ∷ xs) r h = refl
take_set (suc n) (suc i) (x ∷ xs) r h = ap (x ∷◌) (take_set n i xs r (omega arith))

-- a walker that keeps a row
abbrev pub keep : Walker → ℕ → Row → Walker
keep w i r = record w { rows = set w.rows i r }

module _ (w : Walker) (at : ℕ) (f : Level) (ready : Ready w at f) where
  stays : Onto w w
  stays = onto_self w ready.long

  -- ---- the known member of a row

  module _ (i wire : ℕ) (in_table : i < w.table.now.count) (h : at + 2 ≤ f.span.end) where
    abbrev cell : ℕ
    cell = get_or w.table.now.cells i 0

    type_is : row_at (types_in w) i ≡ row_in cell
    type_is = row_at_lem w.table.now.cells w.table.now.count i _ in_table

    step_is : known_step w i wire at f
        ≡ pick (wire_fits (kind_in cell) wire)
        (pick (is_absent (get_or w.rows i absent_row)) (known i (row_in cell) (body_at w wire at f)) (refuse Twice at))
        (refuse Wire at)
    step_is = rw (type_is, get_or-take w.table.now.count w.rows i absent_row in_table)

    keeps : (r : Row) → Onto w (keep w i r)
    keeps r = record {
      bytes_are = refl;
      table_is = refl;
      beyond = drop-set-lt w.table.now.count w.rows i r in_table;
      long = length-set w.rows i r ∙ ready.long;
    }

    pub known_wire : wire_fits (kind_in cell) wire ≡ false → KnownRead w i wire at f (Err (record { verdict = Wire; place = at })) w
    unfolding member_by
    known_wire d = record { is = λ turns k. rw (step_is, d); onto = stays; onward = tt }

    module _ (d : wire_fits (kind_in cell) wire ≡ true) where
      pub known_twice : is_absent (get_or w.rows i absent_row) ≡ false → KnownRead w i wire at f (Err (record { verdict = Twice; place = at })) w
      unfolding member_by
      known_twice a = record { is = λ turns k. rw (step_is, d, a); onto = stays; onward = tt }

      module _ (a : is_absent (get_or w.rows i absent_row) ≡ true) where
        pub known_cut : (e : Refusal) → body_in w.bytes.now f.span.end (Err e) ≡ body_at w wire at f → KnownRead w i wire at f (Err e) w
        unfolding known member_by
        known_cut e b = record { is = λ turns k. rw (step_is, d, a, ← b); onto = stays; onward = tt }

        module _ (c : Span) (b : body_in w.bytes.now f.span.end (Ok c) ≡ body_at w wire at f) (s : Inside (at + 2) f.span.end (Ok c)) where
          step_in : known_step w i wire at f ≡ known i (row_in cell) (content c.from (slice c.from c.end w.bytes.now) c.end (slice c.end f.span.end w.bytes.now))
          step_in = step_is ∙ rw (d, a, ← b)

          -- ---- a leaf

          module _ (r : Result Row Refusal) (sh : RowShown w.bytes.now (row_in cell) c r) where
            pub known_unshown : (e : Refusal) → r ≡ Err e → KnownRead w i wire at f (Err e) w
            unfolding member_by
            known_unshown e z =
                record {
                  is = λ turns k. rw (step_in, ← sh.is i c.end (slice c.end f.span.end w.bytes.now), z);
                  onto = stays;
                  onward = tt;
                }

            pub known_shown : (row : Row) → r ≡ Ok row → KnownRead w i wire at f (Ok c.end) (keep w i row)
            unfolding member_by
            known_shown row z =
                record {
                  is = λ turns k.
                      rw (
                        step_in,
                        ← sh.is i c.end (slice c.end f.span.end w.bytes.now),
                        z,
                        take_set w.table.now.count i w.rows row in_table,
                      );
                  onto = keeps row;
                  onward = (omega arith, s.2, omega (arith, ready.few));
                }

          -- ---- a struct

          module _ (kind_is : kind_in cell ≡ struct) (low : f.number ≤ 4) (g : Level) (dg : g ≡ inner_of f.number i c g.stop)
              (stops : Stops w.table.now.cells (i + 1) g.stop w.table.now.count (f.number + 1)) where
            pub known_less : (g.span.end - g.span.from) * 3 + 2 < (f.span.end - at) * 3
            known_less = rw dg (omega arith)

            module _ (r : Result (Unit {0}) Refusal) (v : Walker) (l : LevelRead (keep w i members_row) g.span.from g r v) where
              inner_is : (turns : ℕ) → f.span.end - at ≤ turns
                  → move_by turns w f (known_step w i wire at f) ≡ behind c.end (slice c.end f.span.end w.bytes.now) (walk_in v r)
              unfolding known member_by
              inner_is turns k =
                  let less : g.span.end - g.span.from < turns = omega (arith, known_less) in
                  let e = rw (dg, add-one f.number, add-one i, take_set w.table.now.count i w.rows members_row in_table) at (l.is turns less) in
                  rw (step_in, kind_is, ← e)

              went : Onto w v
              went = onto_next w (keep w i members_row) v (keeps members_row) l.onto

              pub known_entered : r ≡ Ok tt → KnownRead w i wire at f (Ok c.end) v
              unfolding behind
              known_entered z =
                  let few = rw (z, dg) at l.few in
                  record {
                    is = λ turns k. sym (inner_is turns k ∙ rw (z, ← went.bytes_are));
                    onto = went;
                    onward = (omega arith, s.2, few);
                  }

              pub known_stuck : (e : Refusal) → r ≡ Err e → KnownRead w i wire at f (Err e) v
              unfolding behind
              known_stuck e z = record { is = λ turns k. sym (inner_is turns k ∙ rw z); onto = went; onward = tt }

  -- ---- the member at a place

  abbrev step : Step
  step = step_of w.table.now.width (types_in w) f.number f.first at (slice at f.span.end w.bytes.now) (met_in w)

  pub member_cut : at < f.span.end → f.span.end - at < 2 → MemberRead w at f (Err (record { verdict = TagCut; place = at })) w
  unfolding step_of member_by
  member_cut h k =
      let e : suc at ≡ f.span.end = omega arith in
      record {
        is = λ turns x. rw (slice-cons at f.span.end w.bytes.now 0 h ready.steady.bounded, e, slice_empty f.span.end w.bytes.now);
        onto = stays;
        onward = tt;
      }

  module _ (h : 2 ≤ f.span.end - at) (tag : ℕ) (t : tag ≡ number_of big (slice at (at + 2) w.bytes.now))
      (wire : ℕ) (ew : wire ≡ wire_of tag) (ident : ℕ) (ei : ident ≡ ident_of tag)
      (found : Option ℕ) (e : found ≡ found_at f.first (find f.number ident (drop f.first (types_in w)))) where
    tag_bytes_lem : (end : ℕ) → at + 2 ≤ end → end ≤ length w.bytes.now
        → slice at end w.bytes.now ≡ get_or w.bytes.now at 0 ∷ get_or w.bytes.now (suc at) 0 ∷ slice (at + 2) end w.bytes.now
    tag_bytes_lem end a b =
        let z : suc (suc at) ≡ at + 2 = omega arith in
        slice-cons at end w.bytes.now 0 (omega arith) b ∙ ap (get_or w.bytes.now at 0 ∷◌) (slice-cons (suc at) end w.bytes.now 0 (omega arith) b ∙ rw z)

    tag_is : number_of big (get_or w.bytes.now at 0 ∷ get_or w.bytes.now (suc at) 0 ∷ []) ≡ tag
    tag_is =
        let l = ready.steady.bounded in
        sym (t ∙ ap (number_of big) (tag_bytes_lem (at + 2) (omega arith) (omega arith) ∙ rw (slice_empty (at + 2) w.bytes.now)))

    abbrev looked : Place ℕ
    looked = find f.number ident (drop f.first (types_in w))

    -- the step behind the tag
    step_met : step ≡ met (types_in w) f.first wire at (body_at w wire at f) (met_in w) looked
    unfolding step_of
    step_met = rw (tag_bytes_lem f.span.end (omega arith) ready.steady.bounded, tag_is, ew, ei)

    found_none : (o : Place ℕ) → None ≡ found_at f.first o → o ≡ none
    found_none none q = refl
    found_none (some k) q = let z : ◌≡◌ {A = ℕ} 0 1 = cc in absurd (omega arith)

    module _ (d : found ≡ None) where
      step_unknown : step ≡ unknown (body_at w wire at f)
      unfolding met
      step_unknown = step_met ∙ rw (found_none looked (sym d ∙ e))

      pub member_unread : (x : Refusal) → body_in w.bytes.now f.span.end (Err x) ≡ body_at w wire at f → MemberRead w at f (Err x) w
      unfolding unknown member_by
      member_unread x b = record { is = λ turns k. rw (step_unknown, ← b); onto = stays; onward = tt }

      pub member_skipped : (c : Span) → body_in w.bytes.now f.span.end (Ok c) ≡ body_at w wire at f → Inside (at + 2) f.span.end (Ok c)
          → MemberRead w at f (Ok c.end) (record w { skipped = w.skipped + 1 })
      unfolding unknown member_by
      member_skipped c b s =
          record {
            is = λ turns k. rw (step_unknown, ← b, add-one w.skipped);
            onto = record { bytes_are = refl; table_is = refl; beyond = refl; long = ready.long };
            onward = (omega arith, s.2, omega (arith, ready.few));
          }

    module _ (i : ℕ) (d : found ≡ Some i) where
      step_known : step ≡ known_step w i wire at f
      unfolding met
      step_known = step_met ∙ go looked (sym d ∙ e)
        where
          go : (o : Place ℕ) → Some i ≡ found_at f.first o
              → met (types_in w) f.first wire at (body_at w wire at f) (met_in w) o ≡ known_step w i wire at f
          go none y = let z : ◌≡◌ {A = ℕ} 0 1 = cc in absurd (omega arith)
          go (some k) y = let z : i ≡ f.first + k = cc in rw (← z)

      pub member_known : (r : Result ℕ Refusal) (v : Walker) → KnownRead w i wire at f r v → MemberRead w at f r v
      member_known r v k =
          record { is = λ turns x. k.is turns x ∙ ap (move_by turns w f) (sym step_known); onto = k.onto; onward = k.onward }
