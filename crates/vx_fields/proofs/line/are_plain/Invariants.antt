-- Whether each byte so far is plain.
use Rattle.std.proofs.Common.{◌≡◌, take}
use Rattle.std.specs.List.{list_all}
use Rattle.vx_fields.specs.Lines.{is_plain}
use Rattle.vx_fields.proofs.line.are_plain.Given as goal

abbrev pub invariant-loop-byte : goal.invariant-loop-byte
invariant-loop-byte l = l.are_all ≡ list_all is_plain (take l.byte-index l.bytes)
