-- A header as bytes (document 01, Header). `wire`'s Header has the places of its fields.
use Rattle.std.specs.Prelude.{ℕ, ◌+◌, ◌<◌, ◌^◌, List, ◌++◌}
use Rattle.wire.specs.Number.{big, number_bytes}
use Rattle.wire.specs.Header.{protocol_version}
use Rattle.message.specs.declared.header.Header.{Header}

-- the fields in their order, before a payload of n bytes
unfoldable pub header_bytes : Header → ℕ → List ℕ
header_bytes h n =
    number_bytes big 2 h.service.0
    ++ (number_bytes big 2 h.method.0
    ++ (number_bytes big 4 (8 + n)
    ++ (number_bytes big 2 h.client.0
    ++ (number_bytes big 2 h.session.0
    ++ (number_bytes big 1 protocol_version
    ++ (number_bytes big 1 h.interface
    ++ (number_bytes big 1 h.kind.0
    ++ number_bytes big 1 h.code)))))))

-- each field is as wide as its type
pub record Fitting (h : Header) : Type 0 where
  pub service_in : h.service.0 < 256 ^ 2
  pub method_in : h.method.0 < 256 ^ 2
  pub client_in : h.client.0 < 256 ^ 2
  pub session_in_lem : h.session.0 < 256 ^ 2
  pub interface_in : h.interface < 256
  pub kind_in_lem : h.kind.0 < 256
  pub code_in : h.code < 256
