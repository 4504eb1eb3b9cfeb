-- The laws are lemmas.
use Rattle.vx_num.proofs.Fractions.{*ᶠ_mono_right, *ᶠ_anti_right, *ᶠ_mono}
use Rattle.vx_num.proofs.laws.products_are_monotone.Goals as goal

pub returns : goal.returns
returns c = record { growing = *ᶠ_mono_right; falling = *ᶠ_anti_right; both = *ᶠ_mono }
