use Rattle.std.proofs.Common.{◌^◌, ◌<◌, arith}
use Rattle.std.proofs.Math.Pow.{pow-lt}
use Rattle.std.proofs.lemmas.Int.{to_z_pos}
use Rattle.std.proofs.lemmas.Nat.{one_shl}
use mir.Syntax.{w128}
use Rattle.vx_interval.specs.Ends.{unit}
use Rattle.vx_interval.proofs.product.power_of_two.Goals as goal

pub returns : goal.returns
unfolding unit
returns c =
    let small : c.args.exponent < 64 = omega arith in
    let below : c.args.exponent < 127 = omega arith in
    rw (one_shl c.args.exponent 64 small) (to_z_pos w128 (2 ^ c.args.exponent) (pow-lt below))
