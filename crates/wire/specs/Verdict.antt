-- The verdicts (document 01, Verdicts): each one's number and its return code.
use Rattle.std.specs.Prelude.{ℕ, Option, Some, None}
use Rattle.wire.specs.declared.verdict.Verdict.{Verdict}
use Rattle.wire.specs.declared.verdict.Verdict.TheVariants.{
  Accepted,
  Table,
  Room,
  Short,
  Length,
  Protocol,
  Service,
  Interface,
  Method,
  MessageType,
  Large,
  TagCut,
  Wire,
  Twice,
  FieldCut,
  Overrun,
  Array,
  Text,
  Missing,
  Value,
  Outside,
  Wide,
  Heavy,
}

abbrev pub verdict_number : Verdict → ℕ
verdict_number Accepted = 0
verdict_number Table = 1
verdict_number Room = 2
verdict_number Short = 10
verdict_number Length = 11
verdict_number Protocol = 12
verdict_number Service = 13
verdict_number Interface = 14
verdict_number Method = 15
verdict_number MessageType = 16
verdict_number Large = 17
verdict_number TagCut = 20
verdict_number Wire = 21
verdict_number Twice = 22
verdict_number FieldCut = 23
verdict_number Overrun = 24
verdict_number Array = 25
verdict_number Text = 26
verdict_number Missing = 27
verdict_number Value = 30
verdict_number Outside = 31
verdict_number Wide = 32
verdict_number Heavy = 33

abbrev pub return_code : Verdict → Option ℕ
return_code Accepted = Some 0x00
return_code Table = None
return_code Room = None
return_code Short = Some 0x09
return_code Length = Some 0x09
return_code Protocol = Some 0x07
return_code Service = Some 0x02
return_code Interface = Some 0x08
return_code Method = Some 0x03
return_code MessageType = Some 0x0A
return_code Large = Some 0x09
return_code TagCut = Some 0x09
return_code Wire = Some 0x09
return_code Twice = Some 0x09
return_code FieldCut = Some 0x09
return_code Overrun = Some 0x09
return_code Array = Some 0x09
return_code Text = Some 0x09
return_code Missing = Some 0x09
return_code Value = None
return_code Outside = None
return_code Wide = None
return_code Heavy = None
