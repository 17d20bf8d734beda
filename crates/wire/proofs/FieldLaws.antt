-- A header's field is the number of its bytes.
-- Assumes nothing.
use mathlib.Core.Path.{◌≡◌}
use Prim.Native.Nat.{ℕ, suc, ◌+◌, ◌*◌, ◌≤◌, ◌<◌}
use native.Mathlib.Omega.{arith}
use mathlib.Core.List.{List}
use lib.ListN.{length, get_or}
use lib.Seq.{slice-cons, slice_empty}
use Rattle.wire.specs.Number.{number_of}
use Rattle.wire.specs.Header.{field_at}

module _ (at : ℕ) (d : List ℕ) where
  -- a field of one byte is that byte
  pub byte_field : at < length d → field_at at 1 d ≡ get_or d at 0
  unfolding field_at number_of
  byte_field h =
      let s : at + 1 ≡ suc at = omega arith in
      rw (s, slice-cons at (suc at) d 0 (omega arith) (omega arith), slice_empty (suc at) d) (omega arith)

  pub two_field : at + 2 ≤ length d → field_at at 2 d ≡ get_or d at 0 * 256 + get_or d (suc at) 0
  unfolding field_at number_of
  two_field h =
      let s : at + 2 ≡ suc (suc at) = omega arith in
      rw (
        s,
        slice-cons at (suc (suc at)) d 0 (omega arith) (omega arith),
        slice-cons (suc at) (suc (suc at)) d 0 (omega arith) (omega arith),
        slice_empty (suc (suc at)) d,
      ) (omega arith)

  pub four_field : at + 4 ≤ length d
      → field_at at 4 d ≡ ((get_or d at 0 * 256 + get_or d (suc at) 0) * 256 + get_or d (suc (suc at)) 0) * 256 + get_or d (suc (suc (suc at))) 0
  unfolding field_at number_of
  four_field h =
      let end = suc (suc (suc (suc at))) in
      let s : at + 4 ≡ end = omega arith in
      rw (
        s,
        slice-cons at end d 0 (omega arith) (omega arith),
        slice-cons (suc at) end d 0 (omega arith) (omega arith),
        slice-cons (suc (suc at)) end d 0 (omega arith) (omega arith),
        slice-cons (suc (suc (suc at))) end d 0 (omega arith) (omega arith),
        slice_empty end d,
      ) (omega arith)
