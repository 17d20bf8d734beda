-- The Message Types are the five; each header field is the number of its bytes; and a header's bytes hold each field at its place.
-- Assumes nothing.
use mathlib.Core.Path.{◌≡◌, refl}
use Prim.Native.Nat.{◌+◌}
use native.Mathlib.Omega.{arith}
use mathlib.Core.Bool.{Bool, true, false}
use mathlib.Core.Logic.{◌⊎◌, inl, inr}
use lib.Dec.{eqb}
use borrow.Author.Tests.{eqb-true}
use Rattle.wire.specs.Choose.{or}
use Rattle.wire.specs.Number.{number_bytes}
use Rattle.wire.specs.Header.{field_at}
use Rattle.wire.proofs.NumberLaws.{number_back}
use Rattle.wire.proofs.FieldLaws.{byte_field, two_field, four_field}
use Rattle.message.specs.MessageType.{request, request_no_return, notification, response, error, is_one}
use Rattle.message.specs.Header.{header_bytes}
use Rattle.message.specs.Promises.{OneOfFive, FieldsByByte, HeaderReadBack}

-- A number passes the membership test exactly when it is one of the five.
pub one_law : OneOfFive
unfolding is_one
one_law x = (found (eqb x request) (eqb x request_no_return) (eqb x notification) (eqb x response) refl refl refl refl, back)
  where
    found : (a b c d : Bool) → eqb x request ≡ a → eqb x request_no_return ≡ b → eqb x notification ≡ c → eqb x response ≡ d
        → or a (or b (or c (or d (eqb x error)))) ≡ true
        → (x ≡ request) ⊎ (x ≡ request_no_return) ⊎ (x ≡ notification) ⊎ (x ≡ response) ⊎ (x ≡ error)
    found true b c d ea eb ec ed t = inl (eqb-true x request ea)
    found false true c d ea eb ec ed t = inr (inl (eqb-true x request_no_return eb))
    found false false true d ea eb ec ed t = inr (inr (inl (eqb-true x notification ec)))
    found false false false true ea eb ec ed t = inr (inr (inr (inl (eqb-true x response ed))))
    found false false false false ea eb ec ed t = inr (inr (inr (inr (eqb-true x error t))))

    back : (x ≡ request) ⊎ (x ≡ request_no_return) ⊎ (x ≡ notification) ⊎ (x ≡ response) ⊎ (x ≡ error) → is_one x ≡ true
    back (inl e) = rw e
    back (inr (inl e)) = rw e
    back (inr (inr (inl e))) = rw e
    back (inr (inr (inr (inl e)))) = rw e
    back (inr (inr (inr (inr e)))) = rw e

-- ---- fields by byte number

-- Each field is the number of its bytes.
pub field_law : FieldsByByte
field_law d h =
    record {
      service_is = two_field 0 d (omega arith);
      method_is = two_field 2 d (omega arith);
      length_is = four_field 4 d (omega arith);
      client_is = two_field 8 d (omega arith);
      session_is = two_field 10 d (omega arith);
      version_is = byte_field 12 d (omega arith);
      interface_is = byte_field 13 d (omega arith);
      type_is = byte_field 14 d (omega arith);
      code_is = byte_field 15 d (omega arith);
    }

-- ---- a header's bytes

-- A header's bytes are 16, and each field is found at its place whatever follows.
pub header_law : HeaderReadBack
unfolding field_at header_bytes number_bytes
header_law h n f l =
    record {
      size = refl;
      service_back = λ x. number_back 2 h.service.0 f.service_in;
      method_back = λ x. number_back 2 h.method.0 f.method_in;
      length_back = λ x. number_back 4 (8 + n) l;
      client_back = λ x. number_back 2 h.client.0 f.client_in;
      session_back = λ x. number_back 2 h.session.0 f.session_in_lem;
      version_back = λ x. number_back 1 1 (omega arith);
      interface_back = λ x. number_back 1 h.interface f.interface_in;
      type_back = λ x. number_back 1 h.kind.0 f.kind_in_lem;
      code_back = λ x. number_back 1 h.code f.code_in;
    }
