-- A tag's parts make it, and it gives them back, as its bytes do; and how many bytes a length field and a number have at most.
-- Assumes nothing.
use mathlib.Core.Path.{◌≡◌}
use mathlib.Core.Bool.{Bool, true, false}
use Prim.Native.Nat.{ℕ, ◌≤◌, ◌<◌}
use native.Mathlib.Omega.{arith}
use lib.Dec.{eqb}
use lib.ListN.{length}
use Rattle.wire.specs.Choose.{pick}
use Rattle.wire.specs.Number.{AreBytes, big, number_of}
use Rattle.wire.specs.Tag.{reserved_of, wire_of, ident_of, tag_of, tag_bytes, fixed_size, field_width}
use Rattle.wire.proofs.NumberLaws.{length_number_bytes, bytes_number_bytes, number_back}

module _ (reserved wire ident : ℕ) (r : reserved < 2) (w : wire < 8) (i : ident < 4096) where
  pub tag_below : tag_of reserved wire ident < 65536
  tag_below = omega arith

  pub tag_reserved : reserved_of (tag_of reserved wire ident) ≡ reserved
  tag_reserved = omega arith

  pub tag_wire : wire_of (tag_of reserved wire ident) ≡ wire
  tag_wire = omega arith

  pub tag_ident : ident_of (tag_of reserved wire ident) ≡ ident
  tag_ident = omega arith

module _ (tag : ℕ) (h : tag < 65536) where
  pub tag_parts : tag ≡ tag_of (reserved_of tag) (wire_of tag) (ident_of tag)
  tag_parts = omega arith

  pub reserved_below : reserved_of tag < 2
  reserved_below = omega arith

  pub wire_below : wire_of tag < 8
  wire_below = omega arith

  pub ident_below : ident_of tag < 4096
  ident_below = omega arith

-- ---- the bytes of a tag

module _ (wire ident : ℕ) where
  pub length_tag_bytes : length (tag_bytes wire ident) ≡ 2
  unfolding tag_bytes
  length_tag_bytes = length_number_bytes 2 (tag_of 0 wire ident)

  pub bytes_tag_bytes : AreBytes (tag_bytes wire ident)
  unfolding tag_bytes
  bytes_tag_bytes = bytes_number_bytes 2 (tag_of 0 wire ident)

  pub tag_back : wire < 8 → ident < 4096 → number_of big (tag_bytes wire ident) ≡ tag_of 0 wire ident
  unfolding tag_bytes
  tag_back w i = number_back 2 (tag_of 0 wire ident) (omega arith)

-- ---- sizes

pub fixed_small : (wire : ℕ) → fixed_size wire ≤ 8
fixed_small wire = go (eqb wire 0) (eqb wire 1) (eqb wire 2)
  where
    go : (a b c : Bool) → pick a 1 (pick b 2 (pick c 4 8)) ≤ 8
    go true b c = omega arith
    go false true c = omega arith
    go false false true = omega arith
    go false false false = omega arith

pub field_small : (width wire : ℕ) → width ≤ 4 → field_width width wire ≤ 4
field_small width wire h = go (eqb wire 4) (eqb wire 5) (eqb wire 6)
  where
    go : (a b c : Bool) → pick a width (pick b 1 (pick c 2 4)) ≤ 4
    go true b c = h
    go false true c = omega arith
    go false false true = omega arith
    go false false false = omega arith
