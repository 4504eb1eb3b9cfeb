use Rattle.std.proofs.Common.{◌↔◌, drop, None}
use Rattle.vx_tests.specs.Stated.{AreWidths}
use Rattle.vx_tests.proofs.strip.are_widths.Given as goal

abbrev pub invariant-loop-place : goal.invariant-loop-place
invariant-loop-place l = AreWidths None l.stated ↔ AreWidths l.below (drop l.place l.stated)
