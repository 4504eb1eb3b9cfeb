-- The tests of acceptance by their numbers: the test numbered n is printed as `An`. This project's own.
use Rattle.std.specs.Prelude.{ℕ}
use Rattle.vx_claims.specs.declared.acceptance.Test.{Test}
use Rattle.vx_claims.specs.declared.acceptance.Test.TheVariants.{Place, Terms, Minutes, Rate, TaylorTerms, Exponential, ClosestPair, Forward, Level, Excess, Strip, Contributions, Total, Variance, Square, IndexEnds}

abbrev pub test_number : Test → ℕ
test_number Place = 1
test_number Terms = 2
test_number Minutes = 3
test_number Rate = 4
test_number TaylorTerms = 5
test_number Exponential = 6
test_number ClosestPair = 7
test_number Forward = 8
test_number Level = 9
test_number Excess = 10
test_number Strip = 11
test_number Contributions = 12
test_number Total = 13
test_number Variance = 14
test_number Square = 15
test_number IndexEnds = 16
