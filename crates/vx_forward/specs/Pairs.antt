-- The closest put-call pair: the code's type, as the formula reads it.
use Rattle.vx_formula.specs.Pair.{Pair as FormulaPair}
use Rattle.vx_forward.specs.declared.pairs.Pair.{Pair}

abbrev pub formula_pair : Pair → FormulaPair
formula_pair pair = record { strike = pair.strike; d = pair.d }
