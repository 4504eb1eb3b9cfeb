use Rattle.std.proofs.Common.{◌≡◌, length}
use Rattle.vx_cert.proofs.tokens.rows.Given as goal

abbrev pub invariant-loop : goal.invariant-loop
invariant-loop l = length l.rows ≡ l.counter
