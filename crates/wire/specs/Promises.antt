-- What this crate promises, a statement under each sentence. The proofs cite them in proofs/Promises.antt, in the same order.
use Rattle.std.specs.Prelude.{◌≡◌, ℕ, ◌-◌, ◌/◌, ◌%◌, ◌^◌, ◌≤◌, ◌<◌, true, List, length, get_or, leb, ℤ}
use Rattle.wire.specs.Number.{AreBytes, big, number_of, number_bytes, signed_of, twos_of, Within}
use Rattle.wire.specs.Tag.{reserved_of, wire_of, ident_of, tag_of, tag_bytes, fixed_size}
use Rattle.wire.specs.Kind.{size_of, wire_fits}
use Rattle.wire.specs.Text.{text_fits, Text, string_bytes, text_of, string_fits}
use Rattle.wire.specs.Verdict.{verdict_number}
use Rattle.wire.specs.declared.verdict.Verdict.{Verdict}

-- W1. A number that was written in w bytes is read as it was, if w bytes hold it.
abbrev pub NumberReadBack : Type 0
NumberReadBack = (w v : ℕ) → v < 256 ^ w → number_of big (number_bytes big w v) ≡ v

-- W2. Bytes that were read as a number are written as they were.
abbrev pub BytesWrittenBack : Type 0
BytesWrittenBack = (xs : List ℕ) → AreBytes xs → number_bytes big (length xs) (number_of big xs) ≡ xs

-- W3. Byte i of w bytes is the number's digit w - 1 - i: the first byte is the highest.
abbrev pub FirstByteHighest : Type 0
FirstByteHighest = (w v i : ℕ) → i < w → get_or (number_bytes big w v) i 0 ≡ v / 256 ^ (w - 1 - i) % 256

-- W4. A signed number of w bytes is read as it was written.
abbrev pub SignedReadBack : Type 0
SignedReadBack = (w : ℕ) (z : ℤ) → Within w z → signed_of w (twos_of w z) ≡ z

-- W5. Two bytes are a tag in one way: reserved bit, wire type and Data ID.
abbrev pub TagParts : Type 0
TagParts = (reserved wire ident : ℕ) → reserved < 2 → wire < 8 → ident < 4096
    → (reserved_of (tag_of reserved wire ident) ≡ reserved) × (wire_of (tag_of reserved wire ident) ≡ wire)
    × (ident_of (tag_of reserved wire ident) ≡ ident)

-- W6. A tag that was written is read as it was, with the reserved bit 0.
abbrev pub TagReadBack : Type 0
TagReadBack = (wire ident : ℕ) → wire < 8 → ident < 4096 → number_of big (tag_bytes wire ident) ≡ tag_of 0 wire ident

-- W7. A number comes with one wire type, which tells its size; what has a length field comes with any of 4 to 7.
abbrev pub NumberKinds : Type 0
NumberKinds = (k : ℕ) → 0 < k → k < 12 → (wire : ℕ) → wire_fits k wire ≡ true → (wire < 4) × (fixed_size wire ≡ size_of k)

abbrev pub LengthedKinds : Type 0
LengthedKinds = (k : ℕ) → 12 ≤ k → k < 15 → (wire : ℕ) → wire_fits k wire ≡ leb 4 wire

-- W8. Bytes pass the test of text exactly when they are text.
pub record TextIs (xs : List ℕ) : Type 0 where
  pub text_fits_lem : Text xs → text_fits xs ≡ true
  pub fits_text : text_fits xs ≡ true → Text xs

abbrev pub TextDecided : Type 0
TextDecided = (xs : List ℕ) → TextIs xs

-- W9. A content is a string exactly when it is mark, text and terminator.
abbrev pub StringReadBack : Type 0
StringReadBack = (text : List ℕ) → string_fits (string_bytes text) ≡ text_fits text

abbrev pub StringParts : Type 0
StringParts = (c : List ℕ) → string_fits c ≡ true → (c ≡ string_bytes (text_of c)) × (text_fits (text_of c) ≡ true)

-- W10. Two verdicts have two numbers.
abbrev pub VerdictsDiffer : Type 0
VerdictsDiffer = (v u : Verdict) → verdict_number v ≡ verdict_number u → v ≡ u

-- W11. Each function's contract is an equation with a definition: any two results that meet it are equal, a number, a list or an answer.
abbrev pub OneResult : Type 1
OneResult = (X : Type 0) (x r s : X) → r ≡ x → s ≡ x → r ≡ s
