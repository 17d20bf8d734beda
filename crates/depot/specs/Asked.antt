-- What the library finds of an archive, by what is asked.
use Rattle.std.specs.Prelude.{List, ℕ}
use Rattle.archive.specs.declared.find.Found.{Found}
use Rattle.archive.specs.Opening.{archive_of}
use Rattle.archive.specs.Finding.{reading_by, finding_by}
use Rattle.depot.specs.declared.reason.Asked.{Asked}
use Rattle.depot.specs.declared.reason.Asked.TheVariants.{Number, Session}

-- the message of a number, or the first of a session
abbrev pub found_of : List ℕ → Asked → Found
found_of file (Number n) = reading_by n (archive_of file)
found_of file (Session s) = finding_by s (archive_of file)
