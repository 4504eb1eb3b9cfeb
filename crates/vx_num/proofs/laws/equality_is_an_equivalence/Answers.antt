-- The laws are lemmas.
use Rattle.vx_num.proofs.Fractions.{≃ᶠ_refl, ≃ᶠ_sym, ≃ᶠ_trans}
use Rattle.vx_num.proofs.laws.equality_is_an_equivalence.Goals as goal

pub returns : goal.returns
returns c = record { reflexive = ≃ᶠ_refl; symmetric = ≃ᶠ_sym; transitive = ≃ᶠ_trans }
