-- The content behind a tag, by the tests that the code makes.
-- Assumes nothing.
use Rattle.std.specs.Prelude.{Ok, Err}
use mathlib.Core.Path.{◌≡◌, ◌∙◌}
use Prim.Native.Nat.{ℕ, ◌+◌, ◌-◌, ◌≤◌, ◌<◌}
use native.Mathlib.Omega.{arith}
use mathlib.Core.Bool.{Bool, true, false}
use mathlib.Core.List.{List}
use lib.ListN.{length, take, drop}
use lib.Seq.{slice, length-slice}
use lib.Dec.{leb}
use borrow.Author.Tests.{lt-ltb, le-ltb, lt-leb, le-leb}
use Rattle.wire.specs.Choose.{pick}
use Rattle.wire.specs.Number.{big, number_of}
use Rattle.wire.specs.Tag.{fixed_size, field_width}
use Rattle.wire.specs.declared.verdict.Verdict.TheVariants.{FieldCut, Overrun}
use Rattle.payload.specs.Reading.{cut, content, content_of, lengthed_of, body_of}
use Rattle.payload.specs.Walking.{body_in}
use Rattle.payload.proofs.Walking.Slices.{part_take, part_drop}

module _ (p : List ℕ) (at end : ℕ) (l : end ≤ length p) where
  -- ---- so many bytes at a place

  module _ (n : ℕ) where
    pub taken_cut : end - at < n → body_in p end (Err (record { verdict = Overrun; place = at })) ≡ content_of n at (slice at end p)
    unfolding content_of
    taken_cut k = rw (length-slice at end p l, lt-leb n (end - at) k)

    pub taken_in : at ≤ end → n ≤ end - at → body_in p end (Ok (record { from = at; end = at + n })) ≡ content_of n at (slice at end p)
    unfolding content_of
    taken_in h k = rw (length-slice at end p l, le-leb n (end - at) k, part_take p at end n (omega arith), part_drop p at end n)

  -- ---- a body by its tag

  module _ (width wire : ℕ) where
    pub fixed_body : wire < 4 → (n : ℕ) → n ≡ fixed_size wire → content_of n at (slice at end p) ≡ body_of width wire at (slice at end p)
    unfolding body_of
    fixed_body few n e = rw (lt-ltb wire 4 few, e)

    module _ (many : 4 ≤ wire) (w : ℕ) (e : w ≡ field_width width wire) where
      pub field_cut : end - at < w → body_in p end (Err (record { verdict = FieldCut; place = at })) ≡ body_of width wire at (slice at end p)
      unfolding body_of lengthed_of
      field_cut k = rw (le-ltb wire 4 many, ← e, length-slice at end p l, lt-leb w (end - at) k)

      pub lengthed_body : (n : ℕ) → n ≡ number_of big (slice at (at + w) p) → at ≤ end → w ≤ end - at
          → content_of n (at + w) (slice (at + w) end p) ≡ body_of width wire at (slice at end p)
      unfolding body_of lengthed_of
      lengthed_body n d h k =
          rw (
            le-ltb wire 4 many,
            ← e,
            length-slice at end p l,
            le-leb w (end - at) k,
            part_take p at end w (omega arith),
            ← d,
            part_drop p at end w,
          )

-- a number's content has the bytes of its wire type
pub fixed_sized : (width wire at : ℕ) (bytes : List ℕ) → wire < 4 → (a : ℕ) (x : List ℕ) (e : ℕ) (y : List ℕ) → content a x e y ≡ body_of width wire at bytes
    → e ≡ a + fixed_size wire
unfolding body_of content_of
fixed_sized width wire at bytes few a x e y d = go (leb (fixed_size wire) (length bytes)) (d ∙ rw (lt-ltb wire 4 few))
  where
    go : (b : Bool) → content a x e y ≡ pick b (content at (take (fixed_size wire) bytes) (at + fixed_size wire) (drop (fixed_size wire) bytes)) (cut Overrun at)
        → e ≡ a + fixed_size wire
    go true q = cc
    go false q = let z : ◌≡◌ {A = ℕ} 0 1 = cc in absurd (omega arith)
