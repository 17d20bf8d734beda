-- Where bytes stand in a payload: the parts of what stands at a place, a member's content, and the run of it.
-- Assumes nothing.
use mathlib.Core.Path.{◌≡◌, refl, sym, ap, ◌∙◌}
use Prim.Native.Nat.{ℕ, ◌+◌, ◌≤◌}
use native.Mathlib.Omega.{arith}
use mathlib.Core.List.{List, [], ◌++◌, append_assoc, append-nil}
use lib.ListN.{length, take, drop, length-append, length-drop, take-append-drop}
use lib.Seq.{length-take-le, take_at, drop_at}
use Rattle.wire.specs.Number.{big, number_bytes}
use Rattle.wire.specs.Tag.{wire_of}
use Rattle.wire.specs.Part.{run_of}
use Rattle.wire.proofs.NumberLaws.{length_number_bytes}
use Rattle.payload.specs.Tree.{field_bytes, member_bytes}
use Rattle.payload.specs.Formed.{content_at}
use Rattle.payload.specs.Paths.{Lies}
use Rattle.payload.proofs.Trees.Frame.{length_field, length_member}

pub lies_whole : (p : List ℕ) → Lies p 0 p
lies_whole p = record { before = []; behind = []; whole = sym (append-nil p); place_is = refl }

module _ (p : List ℕ) (place : ℕ) (a b : List ℕ) (h : Lies p place (a ++ b)) where
  pub lies_first : Lies p place a
  lies_first = record {
    before = h.before;
    behind = b ++ h.behind;
    whole = h.whole ∙ ap (λ (l : List ℕ). h.before ++ l) (append_assoc a b h.behind);
    place_is = h.place_is;
  }

  pub lies_second : Lies p (place + length a) b
  unfolding lies_first
  lies_second = record {
    before = h.before ++ a;
    behind = h.behind;
    whole = lies_first.whole ∙ sym (append_assoc h.before a (b ++ h.behind));
    place_is = length-append h.before a ∙ ap (λ (n : ℕ). n + length a) h.place_is;
  }

module _ (p : List ℕ) (place : ℕ) (c : List ℕ) (h : Lies p place c) where
  pub lies_run : run_of p place (length c) ≡ c
  lies_run =
      ap (λ (l : List ℕ). take (length c) (drop place l)) h.whole
      ∙ ap (λ (l : List ℕ). take (length c) l) (drop_at h.before (c ++ h.behind) place h.place_is)
      ∙ take_at c h.behind (length c) refl

  pub lies_inside : place + length c ≤ length p
  lies_inside =
      rw h.whole (omega (arith, length-append h.before (c ++ h.behind), length-append c h.behind, h.place_is))

-- a part of it
module _ (p : List ℕ) (place : ℕ) (c : List ℕ) (h : Lies p place c) (i n : ℕ) (fits : i + n ≤ length c) where
  part : Lies p (place + i) (run_of c i n)
  part =
      let e : length (take i c) ≡ i = length-take-le i c (omega arith) in
      let a : Lies p place (take i c ++ drop i c) = rw (take-append-drop i c) h in
      let b : Lies p (place + i) (drop i c) = rw e at (lies_second p place (take i c) (drop i c) a) in
      lies_first p (place + i) (take n (drop i c)) (drop n (drop i c)) (rw (take-append-drop n (drop i c)) b)

  length_part : length (run_of c i n) ≡ n
  length_part = length-take-le n (drop i c) (simp length-drop (omega arith))

  pub lies_part : run_of p (place + i) n ≡ run_of c i n
  lies_part = ap (run_of p (place + i)) (sym length_part) ∙ lies_run p (place + i) (run_of c i n) part

  pub part_inside : place + i + n ≤ length p
  part_inside = omega (arith, length_part, lies_inside p (place + i) (run_of c i n) part)

-- a member's content, and what stands behind the member
module _ (p : List ℕ) (width place tag : ℕ) (c y : List ℕ) (h : Lies p place (member_bytes width tag c ++ y)) where
  -- what stands behind the tag
  tagged : Lies p (place + 2) (field_bytes width (wire_of tag) (length c) ++ c)
  unfolding member_bytes
  tagged =
      rw (length_number_bytes 2 tag) at
      (lies_second p place (number_bytes big 2 tag) (field_bytes width (wire_of tag) (length c) ++ c) (lies_first p place (member_bytes width tag c) y h))

  pub lies_content : Lies p (content_at width tag place) c
  lies_content = rw (length_field width (wire_of tag) (length c)) at (lies_second p (place + 2) (field_bytes width (wire_of tag) (length c)) c tagged)

  pub lies_behind : Lies p (content_at width tag place + length c) y
  lies_behind =
      let e : place + length (member_bytes width tag c) ≡ content_at width tag place + length c = omega (arith, length_member width tag c) in
      rw e at (lies_second p place (member_bytes width tag c) y h)
