-- Whole records: what was put together is cut as it was, and what was cut was put together so.
-- Assumes nothing.
use mathlib.Core.Path.{◌≡◌, refl, sym, ap, subst, ◌∙◌}
use Prim.Native.Nat.{ℕ, zero, suc, ◌+◌, ◌*◌, ◌≤◌, ◌<◌}
use native.Mathlib.Omega.{arith}
use mathlib.Core.Bool.{Bool, true, false}
use mathlib.Core.Option.{Option, none, some, none-ne-some, some-injective}
use mathlib.Core.List.{List, [], ◌∷◌, ◌++◌, append_assoc}
use lib.ListN.{length, take, drop, length-append, length-drop, take-append-drop}
use lib.Seq.{length-take-le, take_at, drop_at, take-add}
use lib.Dec.{leb}
use borrow.Author.Tests.{le-leb, leb-true}
use Rattle.wire.specs.Choose.{pick}
use Rattle.wire.specs.Number.{AreBytes, big, number_bytes}
use Rattle.wire.specs.Header.{field_at, header_len}
use Rattle.wire.proofs.ChooseLaws.{and_left, and_right}
use Rattle.wire.proofs.NumberLaws.{length_number_bytes, number_back, bytes_back, bytes_take}
use Rattle.archive.specs.declared.form.Form.{Form}
use Rattle.archive.specs.Form.{
  offset_width,
  entry_size,
  message_fits,
  message_most,
  AreMessages,
  record_bytes,
  record_size,
  records_bytes,
  entry_bytes,
  index_bytes,
  trailer_len,
  trailer_bytes,
  closing_bytes,
  file_of,
  file_size,
}
use Rattle.archive.specs.Records.{length_in, message_in, record_fits, before, cut_all, messages_in}
use Rattle.archive.proofs.ListLaws.{bytes_drop}

-- ---- sizes

pub length_record : (m : List ℕ) → length (record_bytes m) ≡ record_size m
unfolding record_bytes
length_record m = rw (length-append (number_bytes big 2 (length m)) m, length_number_bytes 2 (length m))

pub length_entry : (f : Form) (at : ℕ) (m : List ℕ) → length (entry_bytes f at m) ≡ entry_size f
unfolding entry_bytes
length_entry f at m = rw (length-append (number_bytes big (offset_width f) at), length_number_bytes (offset_width f) at, length_number_bytes)

pub length_index : (f : Form) (at : ℕ) (ms : List (List ℕ)) → length (index_bytes f at ms) ≡ entry_size f * length ms
unfolding index_bytes
length_index f at [] = omega arith
length_index f at (m ∷ ms) =
    rw (length-append (entry_bytes f at m), length_entry f at m, length_index f (at + record_size m) ms) (omega arith)

length_trailer : (f : Form) (at n : ℕ) → length (trailer_bytes f at n) ≡ trailer_len
unfolding trailer_bytes number_bytes
length_trailer f at n = refl

pub length_closing : (f : Form) (ms : List (List ℕ)) → length (closing_bytes f ms) ≡ entry_size f * length ms + trailer_len
unfolding closing_bytes
length_closing f ms = rw (length-append (index_bytes f 0 ms), length_index f 0 ms, length_trailer)

pub length_file : (f : Form) (ms : List (List ℕ)) → length (file_of f ms) ≡ file_size f (length (records_bytes ms)) (length ms)
unfolding file_of
length_file f ms = rw (length-append (records_bytes ms), length_closing f ms) (omega arith)

-- ---- a message

module _ (m : List ℕ) (h : message_fits m ≡ true) where
  pub message_least : 16 ≤ length m
  unfolding message_fits
  message_least = leb-true header_len (length m) (and_left _ _ h)

  pub message_most_lem : length m ≤ message_most
  unfolding message_fits
  message_most_lem = leb-true (length m) message_most (and_left _ _ (and_right (leb header_len (length m)) _ h))

-- ---- lists of messages

-- their records have 18 bytes or more each
pub records_least : (ms : List (List ℕ)) → AreMessages ms → 18 * length ms ≤ length (records_bytes ms)
unfolding records_bytes
records_least [] a = omega arith
records_least (m ∷ ms) a =
    omega (
      arith,
      length-append (record_bytes m) (records_bytes ms),
      length_record m,
      message_least m a.0,
      records_least ms a.1,
    )

pub records_append : (ms ns : List (List ℕ)) → records_bytes (ms ++ ns) ≡ records_bytes ms ++ records_bytes ns
unfolding records_bytes
records_append [] ns = refl
records_append (m ∷ ms) ns = rw (records_append ms ns) (sym (append_assoc (record_bytes m) (records_bytes ms) (records_bytes ns)))

pub messages_append : (ms ns : List (List ℕ)) → AreMessages ms → AreMessages ns → AreMessages (ms ++ ns)
messages_append [] ns a b = b
messages_append (m ∷ ms) ns a b = (a.0, messages_append ms ns a.1 b)

-- ---- one record

-- one turn
pub cut_step : (turns : ℕ) (bytes : List ℕ) → 0 < length bytes
    → cut_all (suc turns) bytes
    ≡ pick (record_fits bytes) (before (message_in bytes) (cut_all turns (drop (2 + length_in bytes) bytes))) none
unfolding cut_all
cut_step turns [] h = absurd (omega arith)
cut_step turns (x ∷ xs) h = refl

pub cut_nothing : (turns : ℕ) → cut_all turns [] ≡ some []
unfolding cut_all
cut_nothing zero = refl
cut_nothing (suc turns) = refl

module _ (m rest : List ℕ) (h : message_fits m ≡ true) where
  pub length_back : length_in (record_bytes m ++ rest) ≡ length m
  unfolding record_bytes number_bytes field_at
  length_back = number_back 2 (length m) (omega (arith, message_most_lem m h))

  behind_length : drop 2 (record_bytes m ++ rest) ≡ m ++ rest
  unfolding record_bytes number_bytes
  behind_length = refl

  message_back : message_in (record_bytes m ++ rest) ≡ m
  message_back = rw (length_back, behind_length) (take_at m rest (length m) refl)

  fits_back : record_fits (record_bytes m ++ rest) ≡ true
  unfolding record_fits
  fits_back =
      rw (
        message_back,
        length_back,
        h,
        le-leb (2 + length m) (length (record_bytes m ++ rest)) (omega (arith, length-append (record_bytes m) rest, length_record m)),
      )

  rest_back : drop (2 + length_in (record_bytes m ++ rest)) (record_bytes m ++ rest) ≡ rest
  rest_back = drop_at (record_bytes m) rest _ (length_record m ∙ ap (λ n. 2 + n) (sym length_back))

  -- a record before other bytes
  cut_record : (turns : ℕ) → cut_all (suc turns) (record_bytes m ++ rest) ≡ before m (cut_all turns rest)
  cut_record turns =
      let some_bytes : 0 < length (record_bytes m ++ rest) = omega (arith, length-append (record_bytes m) rest, length_record m) in
      rw (cut_step turns (record_bytes m ++ rest) some_bytes, fits_back, message_back, rest_back)

-- ---- all records

-- More turns than bytes change nothing.
pub turns_enough : (t u : ℕ) (bytes : List ℕ) → length bytes ≤ t → length bytes ≤ u → cut_all t bytes ≡ cut_all u bytes
turns_enough zero u [] h k = cut_nothing 0 ∙ sym (cut_nothing u)
turns_enough zero u (x ∷ xs) h k = absurd (omega arith)
turns_enough (suc t) zero [] h k = cut_nothing (suc t) ∙ sym (cut_nothing 0)
turns_enough (suc t) zero (x ∷ xs) h k = absurd (omega arith)
turns_enough (suc t) (suc u) [] h k = cut_nothing (suc t) ∙ sym (cut_nothing (suc u))
turns_enough (suc t) (suc u) (x ∷ xs) h k =
    let rest = drop (2 + length_in (x ∷ xs)) (x ∷ xs) in
    let shorter : length rest + 1 ≤ length (x ∷ xs) = omega (arith, length-drop (2 + length_in (x ∷ xs)) (x ∷ xs)) in
    rw (
      cut_step t (x ∷ xs) (omega arith),
      cut_step u (x ∷ xs) (omega arith),
      turns_enough t u rest (omega arith) (omega arith),
    )

-- Records of messages are cut as they were put together.
pub cut_back : (ms : List (List ℕ)) → AreMessages ms → messages_in (records_bytes ms) ≡ some ms
unfolding records_bytes
cut_back [] a = cut_nothing 0
cut_back (m ∷ ms) a = go (length (record_bytes m ++ records_bytes ms)) (length-append (record_bytes m) (records_bytes ms)) (cut_back ms a.1)
  where
    go : (n : ℕ) → n ≡ length (record_bytes m) + length (records_bytes ms) → messages_in (records_bytes ms) ≡ some ms
        → cut_all n (record_bytes m ++ records_bytes ms) ≡ some (m ∷ ms)
    go zero e back = absurd (omega (arith, length_record m))
    go (suc n) e back =
        rw (
          cut_record m (records_bytes ms) a.0 n,
          turns_enough n (length (records_bytes ms)) (records_bytes ms) (omega (arith, length_record m)) (omega arith),
          back,
        )

-- ---- and back

-- a record that fits is the message in it
module _ (bytes : List ℕ) (h : record_fits bytes ≡ true) where
  pub record_whole : 2 + length_in bytes ≤ length bytes
  unfolding record_fits
  record_whole = leb-true _ _ (and_left _ _ h)

  pub record_message : message_fits (message_in bytes) ≡ true
  unfolding record_fits
  record_message = and_right (leb (2 + length_in bytes) (length bytes)) _ h

  pub message_length : length (message_in bytes) ≡ length_in bytes
  message_length = length-take-le (length_in bytes) (drop 2 bytes) (omega (arith, record_whole, length-drop 2 bytes))

  module _ (bs : AreBytes bytes) where
    length_bytes : number_bytes big 2 (length_in bytes) ≡ take 2 bytes
    unfolding field_at
    length_bytes =
        let two : length (take 2 bytes) ≡ 2 = length-take-le 2 bytes (omega (arith, record_whole)) in
        rw two at (bytes_back (take 2 bytes) (bytes_take 2 bytes bs))

    record_is : record_bytes (message_in bytes) ≡ take (2 + length_in bytes) bytes
    unfolding record_bytes
    record_is = rw (message_length, length_bytes) (sym (take-add 2 (length_in bytes) bytes))

    record_first : bytes ≡ record_bytes (message_in bytes) ++ drop (2 + length_in bytes) bytes
    record_first = sym (ap (λ xs. xs ++ drop (2 + length_in bytes) bytes) record_is ∙ take-append-drop (2 + length_in bytes) bytes)

-- bytes that were cut into messages, record by record
data Cut : List ℕ → List (List ℕ) → Type 0 where
  cut_none : Cut [] []
  cut_more : (bytes : List ℕ) (ms : List (List ℕ)) → record_fits bytes ≡ true → Cut (drop (2 + length_in bytes) bytes) ms
      → Cut bytes (message_in bytes ∷ ms)

is_cut : (turns : ℕ) (bytes : List ℕ) (ms : List (List ℕ)) → cut_all turns bytes ≡ some ms → Cut bytes ms
unfolding cut_all
is_cut zero [] ms e = subst (Cut []) (some-injective [] ms e) cut_none
is_cut zero (x ∷ xs) ms e = absurd (none-ne-some ms e)
is_cut (suc turns) [] ms e = subst (Cut []) (some-injective [] ms e) cut_none
is_cut (suc turns) (x ∷ xs) ms e = go (record_fits (x ∷ xs)) (cut_all turns rest) refl (is_cut turns rest) e
  where
    rest : List ℕ
    rest = drop (2 + length_in (x ∷ xs)) (x ∷ xs)

    go : (c : Bool) (r : Option (List (List ℕ))) → record_fits (x ∷ xs) ≡ c → ((more : List (List ℕ)) → r ≡ some more → Cut rest more)
        → pick c (before (message_in (x ∷ xs)) r) none ≡ some ms → Cut (x ∷ xs) ms
    go false r ec ih q = absurd (none-ne-some ms q)
    go true none ec ih q = absurd (none-ne-some ms q)
    go true (some more) ec ih q = subst (Cut (x ∷ xs)) (some-injective _ ms q) (cut_more (x ∷ xs) more ec (ih more refl))

messages_cut : {bytes : List ℕ} {ms : List (List ℕ)} → Cut bytes ms → AreMessages ms
messages_cut cut_none = tt
messages_cut (cut_more bytes ms h c) = (record_message bytes h, messages_cut c)

bytes_cut : {bytes : List ℕ} {ms : List (List ℕ)} → AreBytes bytes → Cut bytes ms → bytes ≡ records_bytes ms
unfolding records_bytes
bytes_cut b cut_none = refl
bytes_cut b (cut_more bytes ms h c) =
    record_first bytes h b
    ∙ ap (λ l. record_bytes (message_in bytes) ++ l) (bytes_cut (bytes_drop (2 + length_in bytes) bytes b) c)

few_cut : {bytes : List ℕ} {ms : List (List ℕ)} → Cut bytes ms → length ms ≤ length bytes
few_cut cut_none = omega arith
few_cut (cut_more bytes ms h c) = omega (arith, record_whole bytes h, length-drop (2 + length_in bytes) bytes, few_cut c)

module _ (bytes : List ℕ) (ms : List (List ℕ)) (e : messages_in bytes ≡ some ms) where
  -- what was cut are messages, no more than there are bytes
  pub cut_messages : AreMessages ms
  cut_messages = messages_cut (is_cut (length bytes) bytes ms e)

  pub cut_few : length ms ≤ length bytes
  cut_few = few_cut (is_cut (length bytes) bytes ms e)

  -- and the bytes are their records
  pub cut_is : AreBytes bytes → bytes ≡ records_bytes ms
  cut_is b = bytes_cut b (is_cut (length bytes) bytes ms e)
