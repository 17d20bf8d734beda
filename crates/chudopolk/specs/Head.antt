-- What crosses beside rows and bytes, as the library's own types (document 01, Header and Verdicts).
use Rattle.std.specs.Prelude.{ℕ, Option, Some, None, ◌*◌, ◌/◌, List, ◌++◌, length, take, drop}
use Rattle.wire.specs.declared.verdict.Verdict.{Verdict}
use Rattle.wire.specs.Verdict.{verdict_number, return_code}
use Rattle.payload.specs.declared.write.Written.{Written}
use Rattle.message.specs.declared.header.Header.{Header}
use Rattle.message.specs.declared.read.Expected.{Expected}
use Rattle.message.specs.declared.read.Head.{Head}
use Rattle.message.specs.declared.read.MessageReading.{MessageReading}
use Rattle.chudopolk.specs.declared.head.Expectation.{Expectation}
use Rattle.chudopolk.specs.declared.head.Answer.{Answer}
use Rattle.chudopolk.specs.declared.head.Fields.{Fields}
use Rattle.chudopolk.specs.declared.head.Sent.{Sent}
use Rattle.chudopolk.specs.Rows.{flat}

-- ---- reading

abbrev pub expected_of : Expectation → Expected
expected_of e =
    record { service = record { 0 = e.service }; method = record { 0 = e.method }; interface = e.interface; kind = record { 0 = e.kind } }

-- a return code, or 256 where there is none
abbrev pub code_number : Option ℕ → ℕ
code_number (Some c) = c
code_number None = 256

unfoldable pub answer_is : Head → Verdict → ℕ → ℕ → Answer
answer_is h v place skipped =
    record {
      verdict = verdict_number v;
      code = code_number (return_code v);
      place = place;
      skipped = skipped;
      client = h.client.0;
      session = h.session.0;
      found_code = h.found_code;
      payload_at = h.payload.at;
      payload_len = h.payload.len;
      rest_at = h.rest.at;
      rest_len = h.rest.len;
    }

abbrev pub answer_of : MessageReading → Answer
answer_of m = answer_is m.head m.reading.verdict m.reading.place m.reading.skipped

-- how many value rows numbers hold, four to a row
abbrev pub room_of : List ℕ → ℕ
room_of values = length values / 4

-- The first rows, as many as the reading sets, are the reading's; the numbers beyond stay as they were.
abbrev pub values_after : MessageReading → List ℕ → List ℕ
values_after m old = flat (take m.reading.filled m.reading.rows) ++ drop (4 * m.reading.filled) old

-- ---- writing

abbrev pub header_of : Fields → Header
header_of f =
    record {
      service = record { 0 = f.service };
      method = record { 0 = f.method };
      client = record { 0 = f.client };
      session = record { 0 = f.session };
      interface = f.interface;
      kind = record { 0 = f.kind };
      code = f.code;
    }

abbrev pub sent_is : Verdict → ℕ → Sent
sent_is v len = record { verdict = verdict_number v; len = len }

abbrev pub sent_of : Written → Sent
sent_of w = sent_is w.verdict w.len
