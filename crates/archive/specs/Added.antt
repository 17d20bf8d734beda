-- Messages added one by one, each call told the size that the one before it answered.
use Rattle.std.specs.Prelude.{ℕ, List, [], ◌∷◌}
use Rattle.archive.specs.declared.verdict.Verdict.{Verdict}
use Rattle.archive.specs.declared.add.Kept.{Kept}
use Rattle.archive.specs.Adding.{adding, kept_by, file_by}

-- the calls' verdicts, and the file and the records' size after them
pub record Added : Type 0 where
  pub verdicts : List Verdict
  pub file : List ℕ
  pub size : ℕ

-- the calls behind one with that answer
abbrev pub behind : Kept → Added → Added
behind k a = record { verdicts = k.verdict ∷ a.verdicts; file = a.file; size = a.size }

unfoldable pub add_all : List ℕ → ℕ → List (List ℕ) → Added
add_all file told [] = record { verdicts = []; file = file; size = told }
add_all file told (m ∷ ms) =
    behind (kept_by told (adding file told m)) (add_all (file_by file told (adding file told m)) (kept_by told (adding file told m)).size ms)
