-- What a record of a file is, as this program goes over them.
use Rattle.std.specs.Prelude.{◌≡◌, ℕ, ◌+◌, List}
use Rattle.wire.specs.Part.{part, part_of}
use Rattle.depot.specs.Layout.{field_or}
use Rattle.depot.specs.declared.record.Record.{Record}

-- its length, its end and its message are what the file has at its place
abbrev pub IsRecordOf : List ℕ → Record → Type 0
IsRecordOf file r = (r.len ≡ field_or r.at 2 file) × (r.end ≡ r.at + 2 + field_or r.at 2 file)
    × (r.message.now ≡ part_of file (part (r.at + 2) (field_or r.at 2 file)))
