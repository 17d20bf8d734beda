-- Reading and finding in a file that was opened, as the code goes.
-- Assumes nothing.
use mathlib.Core.Path.{◌≡◌, refl, sym, ap, subst, ◌∙◌}
use mathlib.Core.Bool.{Bool, true, false}
use mathlib.Core.List.{List, []}
use Prim.Native.Nat.{ℕ, zero, suc, ◌+◌, ◌-◌, ◌*◌, ◌≤◌, ◌<◌}
use native.Mathlib.Nat.{mul-suc, mul-le-mul_left}
use native.Mathlib.Omega.{arith}
use lib.ListN.{length, drop, drop_of_length-le}
use lib.Seq.{drop-cons}
use lib.Dec.{eqb}
use borrow.Author.Tests.{lt-ltb, le-ltb, eq-eqb, ne_eqb}
use Rattle.wire.specs.Choose.{pick}
use Rattle.wire.specs.Number.{AreBytes}
use Rattle.wire.specs.Part.{part}
use Rattle.wire.specs.Header.{field_at, session_of}
use Rattle.archive.specs.declared.verdict.Verdict.TheVariants.{Accepted, NoRecord}
use Rattle.archive.specs.declared.form.Form.{Form}
use Rattle.archive.specs.Form.{offset_width, entry_size, limit, AreMessages, file_of}
use Rattle.archive.specs.Opening.{Archive, refused, holds, archive_of}
use Rattle.archive.specs.Finding.{message_at, offset_at, none_found, reading_by, counted, first_of, first_in}
use Rattle.archive.specs.Walking.{Opened}
use Rattle.archive.proofs.RecordLaws.{length_file}
use Rattle.archive.proofs.PlaceLaws.{record_there, file_length, file_offset, file_session}
use Rattle.archive.proofs.AcceptLaws.{held_is}

-- ---- what opening says

-- the messages of an archive
abbrev pub held_by : Archive → List (List ℕ)
held_by (refused v) = []
held_by (holds f ms) = ms

module _ (file : List ℕ) (f : Form) (size count : ℕ) (o : Opened file f size count) where
  abbrev ms : List (List ℕ)
  ms = o.messages

  pub shown_zero : (n : ℕ) → n ≡ 0 → none_found NoRecord ≡ reading_by n (archive_of file)
  shown_zero n e = rw e (sym (ap (reading_by 0) o.are_held))

  pub shown_past : (n : ℕ) → count < n → none_found NoRecord ≡ reading_by n (archive_of file)
  shown_past zero h = absurd (omega arith)
  shown_past (suc i) h = sym (ap (reading_by (suc i)) o.are_held ∙ rw (le-ltb i (length ms) (omega (arith, o.count_is))))

  shown_nth : (i : ℕ) → i < count
      → record { verdict = Accepted; number = suc i; message = part (offset_at ms i + 2) (length (message_at ms i)) }
      ≡ reading_by (suc i) (archive_of file)
  shown_nth i h = sym (ap (reading_by (suc i)) o.are_held ∙ rw (lt-ltb i (length ms) (omega (arith, o.count_is))))

  module _ (are : AreBytes file) where
    whole : (file ≡ file_of f ms) × AreMessages ms × (length file ≤ limit f)
    whole = held_is file f ms o.are_held

    module _ (i : ℕ) (h : i < count) where
      there : i < length ms
      there = omega (arith, o.count_is)

      in_file : {A : Type 0} (g : List ℕ → A) (x : A) → g (file_of f ms) ≡ x → g file ≡ x
      in_file g x e = ap g whole.0 ∙ e

      are_file : AreBytes (file_of f ms)
      are_file = subst AreBytes whole.0 are

      most_file : length (file_of f ms) ≤ limit f
      most_file = subst (λ x. length x ≤ limit f) whole.0 whole.2

      file_long : length file ≡ size + entry_size f * count + 8
      file_long = omega (arith, ap length whole.0, length_file f ms, o.size_is, ap (entry_size f *◌) o.count_is)

      -- the entry that i entries precede
      entry_in : size + entry_size f * i + entry_size f + 8 ≤ length file
      entry_in =
          let l : suc i ≤ count = omega arith in
          omega (arith, file_long, mul-suc (entry_size f) i, mul-le-mul_left (entry_size f) l)

      offset_is : field_at (size + entry_size f * i) (offset_width f) file ≡ offset_at ms i
      offset_is =
          ap (λ k. field_at (k + entry_size f * i) (offset_width f) file) o.size_is
          ∙ in_file (field_at _ _) _ (file_offset f ms i there whole.1 are_file most_file)

      session_is : field_at (size + entry_size f * i + offset_width f) 2 file ≡ session_of (message_at ms i)
      session_is =
          ap (λ k. field_at (k + entry_size f * i + offset_width f) 2 file) o.size_is
          ∙ in_file (field_at _ _) _ (file_session f ms i there whole.1 are_file most_file)

      -- its record
      length_is : field_at (offset_at ms i) 2 file ≡ length (message_at ms i)
      length_is = in_file (field_at _ _) _ (file_length f ms i there whole.1)

      length_in_lem : offset_at ms i + 2 ≤ length file
      length_in_lem = omega (arith, ap length whole.0, record_there f ms i there)

    -- the n-th from 1, as the code goes
    module _ (n : ℕ) (first : 0 < n) (last : n ≤ count) (e w : ℕ) (ee : e ≡ entry_size f) (ew : w ≡ offset_width f) where
      under : n - 1 < count
      under = omega arith

      pub nth_entry : size + e * (n - 1) + w ≤ length file
      nth_entry = rw (ee, ew) (omega (arith, entry_in (n - 1) under))

      module _ (at : ℕ) (ea : at ≡ field_at (size + e * (n - 1)) w file) where
        at_is : at ≡ offset_at ms (n - 1)
        at_is = ea ∙ rw (ee, ew) (offset_is (n - 1) under)

        pub nth_there : at + 2 ≤ length file
        nth_there = rw at_is (length_in_lem (n - 1) under)

        pub nth_is : (len : ℕ) → len ≡ field_at at 2 file
            → record { verdict = Accepted; number = n; message = part (at + 2) len } ≡ reading_by n (archive_of file)
        nth_is len el =
            let l : len ≡ length (message_at ms (n - 1)) = el ∙ rw at_is (length_is (n - 1) under) in
            let s : suc (n - 1) ≡ n = omega arith in
            rw (at_is, l) (rw s at (shown_nth (n - 1) under))

-- ---- the search

-- a number from 1 among what i messages precede, as one among all
abbrev pub numbered : ℕ → ℕ → ℕ
numbered i zero = zero
numbered i (suc k) = suc (i + k)

numbered_none : (k : ℕ) → numbered 0 k ≡ k
numbered_none zero = refl
numbered_none (suc k) = omega arith

numbered_more : (i k : ℕ) → numbered i (counted k) ≡ numbered (i + 1) k
numbered_more i zero = refl
numbered_more i (suc k) = omega arith

first_start : (session : ℕ) (a : Archive) → first_in session a ≡ numbered 0 (first_of session (held_by a))
unfolding first_of
first_start session (refused v) = refl
first_start session (holds f ms) = sym (numbered_none (first_of session ms))

module _ (session : ℕ) (ms : List (List ℕ)) (i : ℕ) where
  first_none : length ms ≤ i → numbered i (first_of session (drop i ms)) ≡ 0
  unfolding first_of
  first_none h = rw (drop_of_length-le ms h)

  module _ (h : i < length ms) where
    next : (b : Bool) → eqb (session_of (message_at ms i)) session ≡ b
        → first_of session (drop i ms) ≡ pick b 1 (counted (first_of session (drop (suc i) ms)))
    unfolding first_of
    next b e = rw (drop-cons ms i [] h, e)

    first_hit : session_of (message_at ms i) ≡ session → numbered i (first_of session (drop i ms)) ≡ i + 1
    first_hit e = ap (numbered i) (next true (eq-eqb _ _ e)) ∙ omega arith

    first_miss : (session_of (message_at ms i) ≡ session → ⊥)
        → numbered i (first_of session (drop i ms)) ≡ numbered (i + 1) (first_of session (drop (i + 1) ms))
    first_miss e =
        let s : i + 1 ≡ suc i = omega arith in
        ap (numbered i) (next false (ne_eqb _ _ e)) ∙ numbered_more i (first_of session (drop (suc i) ms)) ∙ rw s

-- ---- as the code searches

-- no message of the first i has the Session ID
abbrev pub Seeking : List ℕ → ℕ → ℕ → Type 0
Seeking file session i = first_in session (archive_of file) ≡ numbered i (first_of session (drop i (held_by (archive_of file))))

module _ (file : List ℕ) (session : ℕ) where
  pub seek_start : Seeking file session 0
  seek_start = first_start session (archive_of file)

  module _ (f : Form) (size count : ℕ) (o : Opened file f size count) where
    many : length (held_by (archive_of file)) ≡ count
    many = ap (λ a. length (held_by a)) o.are_held ∙ sym o.count_is

    pub seek_end : (i : ℕ) → Seeking file session i → count ≤ i → 0 ≡ first_in session (archive_of file)
    seek_end i s h = sym (s ∙ first_none session (held_by (archive_of file)) i (omega (arith, many)))

    module _ (are : AreBytes file) (i : ℕ) (more : i < count) (e w : ℕ) (ee : e ≡ entry_size f) (ew : w ≡ offset_width f) where
      pub seek_in : size + e * i + w + 2 ≤ length file
      seek_in = rw (ee, ew) (omega (arith, entry_in file f size count o are i more))

      module _ (s : Seeking file session i) (v : ℕ) (ev : v ≡ field_at (size + e * i + w) 2 file) where
        v_is : v ≡ session_of (message_at (held_by (archive_of file)) i)
        v_is = ev ∙ rw (ee, ew, o.are_held) (session_is file f size count o are i more)

        listed : i < length (held_by (archive_of file))
        listed = omega (arith, many)

        pub seek_hit : v ≡ session → i + 1 ≡ first_in session (archive_of file)
        seek_hit d = sym (s ∙ first_hit session (held_by (archive_of file)) i listed (sym v_is ∙ d))

        pub seek_on : (v ≡ session → ⊥) → Seeking file session (i + 1)
        seek_on other = s ∙ first_miss session (held_by (archive_of file)) i listed (λ q. other (v_is ∙ q))
