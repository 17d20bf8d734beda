-- What the trailer of a file says.
use Rattle.std.specs.Prelude.{◌≡◌, ℕ, ◌≤◌, List, length}
use Rattle.archive.specs.Form.{trailer_len}
use Rattle.archive.specs.Opening.{trailer_at, index_at, entries_in, form_in}
use Rattle.depot.specs.declared.trailer.Trailer.{Trailer}

-- of a file that has a trailer: where it starts, and what it says, as the library's definition of opening names it
abbrev pub TrailerOf : List ℕ → Trailer → Type 0
TrailerOf file t = trailer_len ≤ length file
    → (t.at ≡ trailer_at file) × (t.size ≡ index_at file) × (t.entries ≡ entries_in file) × (t.form ≡ form_in file)
