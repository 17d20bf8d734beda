-- The row that a known member's content shows, kind by kind.
-- Assumes nothing.
use Rattle.std.specs.Prelude.{Result, Ok, Err}
use mathlib.Core.Path.{◌≡◌}
use Prim.Native.Nat.{ℕ, ◌+◌, ◌-◌, ◌%◌, ◌≤◌, ◌<◌}
use native.Mathlib.Omega.{arith}
use mathlib.Core.Bool.{true, false}
use mathlib.Core.List.{List}
use lib.ListN.{length}
use lib.Seq.{slice, length-slice}
use borrow.Author.Tests.{leb-true, lt-ltb, eq-eqb, ne_eqb}
use Rattle.wire.specs.Number.{big, number_of}
use Rattle.wire.specs.Kind.{size_of}
use Rattle.wire.specs.Text.{string_fits}
use Rattle.wire.specs.declared.verdict.Verdict.TheVariants.{Array, Text}
use Rattle.payload.specs.declared.table.TypeRow.{TypeRow}
use Rattle.payload.specs.declared.row.Row.{Row}
use Rattle.payload.specs.declared.row.Value.TheVariants.{Bytes}
use Rattle.payload.specs.declared.member.Span.{Span}
use Rattle.payload.specs.declared.member.Refusal.{Refusal}
use Rattle.payload.specs.Row.{plain, number_row, shown_of}
use Rattle.payload.specs.Reading.{content_fits, known}
use Rattle.payload.specs.Walking.{RowShown}
use Rattle.payload.proofs.Joined.{and_left}

-- a string has mark and terminator
pub string_long : (p : List ℕ) (from end : ℕ) → end ≤ length p → string_fits (slice from end p) ≡ true → 4 ≤ end - from
unfolding string_fits
string_long p from end l h = omega (arith, leb-true 4 (length (slice from end p)) (and_left _ _ h), length-slice from end p l)

module _ (p : List ℕ) (t : TypeRow) (c : Span) (l : c.end ≤ length p) (r : Result Row Refusal) where
  pub shows_number : t.kind < 12 → (n : ℕ) → c.from + n ≡ c.end → (v : ℕ) → v ≡ number_of big (slice c.from (c.from + n) p)
      → r ≡ Ok (number_row t.kind v) → RowShown p t c r
  unfolding known content_fits shown_of
  shows_number few n to v e d =
      record {
        is = λ i next bytes.
            rw (
              d,
              lt-ltb t.kind 12 few,
              ne_eqb t.kind 14 (λ z. absurd (omega arith)),
              ne_eqb t.kind 13 (λ z. absurd (omega arith)),
              ne_eqb t.kind 12 (λ z. absurd (omega arith)),
              rw to at e,
            );
      }

  pub shows_text : t.kind ≡ 12 → string_fits (slice c.from c.end p) ≡ true → (n : ℕ) → n ≡ c.end - c.from - 4
      → r ≡ Ok (plain (Bytes (c.from + 3) n)) → RowShown p t c r
  unfolding known content_fits shown_of
  shows_text k fits n e d = record { is = λ i next bytes. rw (d, k, fits, e, length-slice c.from c.end p l) }

  pub shows_no_text : t.kind ≡ 12 → string_fits (slice c.from c.end p) ≡ false → r ≡ Err (record { verdict = Text; place = c.from }) → RowShown p t c r
  unfolding known content_fits
  shows_no_text k fits d = record { is = λ i next bytes. rw (d, k, fits) }

  module _ (k : t.kind ≡ 13) (n : ℕ) (e : n ≡ size_of t.elem) where
    pub shows_array : (c.end - c.from) % n ≡ 0 → r ≡ Ok (plain (Bytes c.from (c.end - c.from))) → RowShown p t c r
    unfolding known content_fits shown_of
    shows_array fits d = record { is = λ i next bytes. rw (d, k, length-slice c.from c.end p l, ← e, eq-eqb ((c.end - c.from) % n) 0 fits) }

    pub shows_no_array : ((c.end - c.from) % n ≡ 0 → ⊥) → r ≡ Err (record { verdict = Array; place = c.from }) → RowShown p t c r
    unfolding known content_fits
    shows_no_array fits d = record { is = λ i next bytes. rw (d, k, length-slice c.from c.end p l, ← e, ne_eqb ((c.end - c.from) % n) 0 fits) }
