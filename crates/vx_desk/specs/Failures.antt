-- The counts of failures that a device keeps.
use Rattle.std.specs.Prelude.{ℕ, ◌+◌, min}
use Rattle.vx_desk.specs.declared.failures.Failures.{Failures}
use Rattle.vx_desk.specs.Told.{LAST_COUNT}

-- no call failed yet
abbrev pub no_failures : Failures
no_failures = record { opens = 0; reads = 0; writes = 0 }

-- a count with one more, which stops at its last value
abbrev pub raised : ℕ → ℕ
raised count = min (count + 1) LAST_COUNT
