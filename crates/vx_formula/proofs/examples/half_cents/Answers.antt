use Rattle.vx_formula.proofs.ExampleProofs.{half_cent_straddles, half_cent_belongs_above, none_below_half_cent, zero_straddles, none_below_zero, half_rounds_up}
use Rattle.vx_formula.proofs.examples.half_cents.Goals as goal

pub returns : goal.returns
returns c = record { straddles = half_cent_straddles; belongs_above = half_cent_belongs_above; none_below = none_below_half_cent; zero = zero_straddles; none_below_zero = none_below_zero; rounds_up = half_rounds_up }
