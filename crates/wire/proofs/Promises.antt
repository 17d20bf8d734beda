-- The promises of specs/Promises.antt, each by the law that shows it.
-- Assumes nothing.
use mathlib.Core.Path.{sym, ◌∙◌}
use Rattle.wire.specs.Promises.{NumberReadBack, BytesWrittenBack, FirstByteHighest, SignedReadBack, TagParts, TagReadBack, NumberKinds, LengthedKinds, TextDecided, StringReadBack, StringParts, VerdictsDiffer, OneResult}
use Rattle.wire.proofs.NumberLaws.{number_back, bytes_back, get_d_number_bytes, signed_twos}
use Rattle.wire.proofs.TagLaws.{tag_reserved, tag_wire, tag_ident, tag_back}
use Rattle.wire.proofs.KindLaws.{number_fixed, lengthed_fits}
use Rattle.wire.proofs.TextLaws.{text_fits_lem, fits_text, string_is, string_fits_lem}
use Rattle.wire.proofs.VerdictLaws.{verdict_one}

pub number_read_back : NumberReadBack
number_read_back = number_back

pub bytes_written_back : BytesWrittenBack
bytes_written_back = bytes_back

pub first_byte_highest : FirstByteHighest
first_byte_highest = get_d_number_bytes

pub signed_read_back : SignedReadBack
signed_read_back w z h = signed_twos w h

pub tag_parts_are : TagParts
tag_parts_are r w i hr hw hi = (tag_reserved r w i hr hw hi, tag_wire r w i hr hw hi, tag_ident r w i hr hw hi)

pub tag_read_back : TagReadBack
tag_read_back = tag_back

pub number_kinds : NumberKinds
number_kinds = number_fixed

pub lengthed_kinds : LengthedKinds
lengthed_kinds = lengthed_fits

pub text_decided : TextDecided
text_decided xs = record { text_fits_lem = λ t. text_fits_lem t; fits_text = fits_text xs }

pub string_read_back : StringReadBack
string_read_back = string_is

pub string_parts : StringParts
string_parts = string_fits_lem

pub verdicts_differ : VerdictsDiffer
verdicts_differ = verdict_one

pub one_result : OneResult
one_result X x r s d e = d ∙ sym e
