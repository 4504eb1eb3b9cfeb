use Rattle.std.proofs.Common.{◌<◌, arith}
use Rattle.std.proofs.lemmas.Nat.{one_shl}
use Rattle.vx_bounds.proofs.exponential.units.Goals as goal

pub returns : goal.returns
returns c = let small : c.args.scale < 64 = omega arith in one_shl c.args.scale 64 small
