-- The header's fields as the code reads them, and the verdicts 12 to 16 in their order.
-- Assumes nothing.
use mathlib.Core.Path.{◌≡◌, refl, sym, ◌∙◌}
use Prim.Native.Nat.{ℕ, ◌+◌, ◌-◌, ◌≤◌, ◌<◌}
use native.Mathlib.Omega.{arith}
use mathlib.Core.Bool.{Bool, true, false}
use mathlib.Core.Logic.{◌⊎◌, inl, inr}
use mathlib.Core.List.{List}
use lib.ListN.{length, get_or}
use lib.Dec.{ltb}
use borrow.Author.Tests.{lt-ltb, le-ltb, ltb-true, ltb-false, eq-eqb, ne_eqb}
use Rattle.wire.specs.Choose.{or}
use Rattle.wire.specs.Header.{field_at, service_of, method_of, version_of, interface_of, type_of, header_len, protocol_version}
use Rattle.wire.specs.Part.{part}
use Rattle.wire.specs.declared.verdict.Verdict.{Verdict}
use Rattle.wire.specs.declared.verdict.Verdict.TheVariants.{
  Accepted,
  Table as NoTable,
  Room,
  Short,
  Length,
  Protocol,
  Service,
  Interface,
  Method,
  MessageType,
  Large,
  TagCut,
  Wire,
  Twice,
  FieldCut,
  Overrun,
  Array,
  Text,
  Missing,
  Value as NoValue,
  Outside as Past,
  Wide,
  Heavy,
}
use Rattle.wire.proofs.FieldLaws.{byte_field}
use Rattle.message.specs.declared.read.Expected.{Expected}
use Rattle.message.specs.Reading.{length_fails, header_verdict, payload_shown}

-- ---- 11

pub true_false : true ≡ false → ⊥
true_false e = let z : ◌≡◌ {A = ℕ} 0 1 = cc in omega arith

pub length_small : (len size : ℕ) → len < 8 → true ≡ length_fails len size
unfolding length_fails
length_small len size h = rw (lt-ltb len 8 h)

pub length_past : (len size : ℕ) → 16 ≤ size → 8 ≤ len → ltb (size - 8) len ≡ length_fails len size
unfolding length_fails
length_past len size h l = go (ltb (size - 8) len) refl
  where
    go : (b : Bool) → ltb (size - 8) len ≡ b → b ≡ length_fails len size
    go true e = rw (le-ltb len 8 l, lt-ltb size (8 + len) (omega (arith, ltb-true (size - 8) len e)))
    go false e = rw (le-ltb len 8 l, le-ltb size (8 + len) (omega (arith, ltb-false (size - 8) len e)))

-- a Length that is in order: at least the header's own bytes, and the message ends in the datagram
pub length_fine : (len size : ℕ) → length_fails len size ≡ false → (8 ≤ len) × (8 + len ≤ size)
unfolding length_fails
length_fine len size e = go (ltb len 8) (ltb size (8 + len)) refl refl e
  where
    go : (a b : Bool) → ltb len 8 ≡ a → ltb size (8 + len) ≡ b → or a b ≡ false → (8 ≤ len) × (8 + len ≤ size)
    go true b ea eb t = absurd (true_false t)
    go false true ea eb t = absurd (true_false t)
    go false false ea eb t = (ltb-false len 8 ea, ltb-false size (8 + len) eb)

pub length_fails_by : (len size : ℕ) → length_fails len size ≡ true → (len < 8) ⊎ (size < 8 + len)
unfolding length_fails
length_fails_by len size e = go (ltb len 8) refl e
  where
    go : (a : Bool) → ltb len 8 ≡ a → or a (ltb size (8 + len)) ≡ true → (len < 8) ⊎ (size < 8 + len)
    go true ea t = inl (ltb-true len 8 ea)
    go false ea t = inr (ltb-true size (8 + len) t)

pub length_by_fails : (len size : ℕ) → (len < 8) ⊎ (size < 8 + len) → length_fails len size ≡ true
unfolding length_fails
length_by_fails len size (inl h) = rw (lt-ltb len 8 h)
length_by_fails len size (inr h) = go (ltb len 8)
  where
    go : (a : Bool) → or a (ltb size (8 + len)) ≡ true
    go true = refl
    go false = lt-ltb size (8 + len) h

-- ---- 12 to 16, by the header's fields

module _ (d : List ℕ) (e : Expected) where
  pub verdict_version : (version_of d ≡ protocol_version → ⊥) → header_verdict d e ≡ Protocol
  unfolding header_verdict
  verdict_version n = rw (ne_eqb (version_of d) protocol_version n)

  module _ (version : version_of d ≡ protocol_version) where
    pub verdict_service : (service_of d ≡ e.service.0 → ⊥) → header_verdict d e ≡ Service
    unfolding header_verdict
    verdict_service n = rw (eq-eqb (version_of d) protocol_version version, ne_eqb (service_of d) e.service.0 n)

    module _ (service : service_of d ≡ e.service.0) where
      pub verdict_interface : (interface_of d ≡ e.interface → ⊥) → header_verdict d e ≡ Interface
      unfolding header_verdict
      verdict_interface n =
          rw (
            eq-eqb (version_of d) protocol_version version,
            eq-eqb (service_of d) e.service.0 service,
            ne_eqb (interface_of d) e.interface n,
          )

      module _ (interface : interface_of d ≡ e.interface) where
        pub verdict_method : (method_of d ≡ e.method.0 → ⊥) → header_verdict d e ≡ Method
        unfolding header_verdict
        verdict_method n =
            rw (
              eq-eqb (version_of d) protocol_version version,
              eq-eqb (service_of d) e.service.0 service,
              eq-eqb (interface_of d) e.interface interface,
              ne_eqb (method_of d) e.method.0 n,
            )

        module _ (method : method_of d ≡ e.method.0) where
          pub verdict_type : (type_of d ≡ e.kind.0 → ⊥) → header_verdict d e ≡ MessageType
          unfolding header_verdict
          verdict_type n =
              rw (
                eq-eqb (version_of d) protocol_version version,
                eq-eqb (service_of d) e.service.0 service,
                eq-eqb (interface_of d) e.interface interface,
                eq-eqb (method_of d) e.method.0 method,
                ne_eqb (type_of d) e.kind.0 n,
              )

          pub verdict_none : type_of d ≡ e.kind.0 → header_verdict d e ≡ Accepted
          unfolding header_verdict
          verdict_none kind =
              rw (
                eq-eqb (version_of d) protocol_version version,
                eq-eqb (service_of d) e.service.0 service,
                eq-eqb (interface_of d) e.interface interface,
                eq-eqb (method_of d) e.method.0 method,
                eq-eqb (type_of d) e.kind.0 kind,
              )

-- ---- the same, by the bytes and numbers that the code compares

module _ (d : List ℕ) (e : Expected) (h : 16 ≤ length d) where
  is_byte : (at x : ℕ) → at < 16 → get_or d at 0 ≡ x → field_at at 1 d ≡ x
  is_byte at x l q = byte_field at d (omega arith) ∙ q

  no_byte : (at x : ℕ) → at < 16 → (get_or d at 0 ≡ x → ⊥) → field_at at 1 d ≡ x → ⊥
  no_byte at x l n q = n (sym (byte_field at d (omega arith)) ∙ q)

  pub by_version : (get_or d 12 0 ≡ protocol_version → ⊥) → Protocol ≡ header_verdict d e
  by_version n = sym (verdict_version d e (no_byte 12 _ (omega arith) n))

  module _ (version : get_or d 12 0 ≡ protocol_version) (s : ℕ) (se : s ≡ service_of d) where
    is_version : version_of d ≡ protocol_version
    is_version = is_byte 12 _ (omega arith) version

    pub by_service : (s ≡ e.service.0 → ⊥) → Service ≡ header_verdict d e
    by_service n = sym (verdict_service d e is_version (λ q. n (se ∙ q)))

    module _ (service : s ≡ e.service.0) where
      is_service : service_of d ≡ e.service.0
      is_service = sym se ∙ service

      pub by_interface : (get_or d 13 0 ≡ e.interface → ⊥) → Interface ≡ header_verdict d e
      by_interface n = sym (verdict_interface d e is_version is_service (no_byte 13 _ (omega arith) n))

      module _ (interface : get_or d 13 0 ≡ e.interface) (m : ℕ) (me : m ≡ method_of d) where
        is_interface : interface_of d ≡ e.interface
        is_interface = is_byte 13 _ (omega arith) interface

        pub by_method : (m ≡ e.method.0 → ⊥) → Method ≡ header_verdict d e
        by_method n = sym (verdict_method d e is_version is_service is_interface (λ q. n (me ∙ q)))

        module _ (method : m ≡ e.method.0) where
          pub by_type : (get_or d 14 0 ≡ e.kind.0 → ⊥) → MessageType ≡ header_verdict d e
          by_type n = sym (verdict_type d e is_version is_service is_interface (sym me ∙ method) (no_byte 14 _ (omega arith) n))

          pub as_expected : get_or d 14 0 ≡ e.kind.0 → Accepted ≡ header_verdict d e
          as_expected k = sym (verdict_none d e is_version is_service is_interface (sym me ∙ method) (is_byte 14 _ (omega arith) k))

-- ---- the payload's part

-- no verdict but those from 12 to 17 leaves it out
pub shown_given : (v : Verdict) (end : ℕ) → (v ≡ Protocol → ⊥) → (v ≡ Service → ⊥) → (v ≡ Interface → ⊥) → (v ≡ Method → ⊥) → (v ≡ MessageType → ⊥)
    → (v ≡ Large → ⊥) → part header_len (end - header_len) ≡ payload_shown v end
unfolding payload_shown
shown_given Accepted end a b c d e f = refl
shown_given NoTable end a b c d e f = refl
shown_given Room end a b c d e f = refl
shown_given Short end a b c d e f = refl
shown_given Length end a b c d e f = refl
shown_given Protocol end a b c d e f = absurd (a refl)
shown_given Service end a b c d e f = absurd (b refl)
shown_given Interface end a b c d e f = absurd (c refl)
shown_given Method end a b c d e f = absurd (d refl)
shown_given MessageType end a b c d e f = absurd (e refl)
shown_given Large end a b c d e f = absurd (f refl)
shown_given TagCut end a b c d e f = refl
shown_given Wire end a b c d e f = refl
shown_given Twice end a b c d e f = refl
shown_given FieldCut end a b c d e f = refl
shown_given Overrun end a b c d e f = refl
shown_given Array end a b c d e f = refl
shown_given Text end a b c d e f = refl
shown_given Missing end a b c d e f = refl
shown_given NoValue end a b c d e f = refl
shown_given Past end a b c d e f = refl
shown_given Wide end a b c d e f = refl
shown_given Heavy end a b c d e f = refl
