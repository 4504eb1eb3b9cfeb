use Rattle.std.proofs.Common.{ℕ, ◌+◌, ◌*◌, ◌<◌, ◌≤◌, slice_index}
use Rattle.vx_formula.specs.declared.limits.TheConstants.{YEAR_MINUTES, RATE_UNITS}
use Rattle.vx_tests.proofs.exponential.are_low.Given as goal

abbrev pub invariant-loop-place : goal.invariant-loop-place
invariant-loop-place l =
    (k : ℕ) → k < l.place → slice_index l.terms (k + 1) * (YEAR_MINUTES * RATE_UNITS * (k + 1)) ≤ slice_index l.terms k * l.p
