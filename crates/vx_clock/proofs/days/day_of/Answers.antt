use Rattle.std.proofs.Common.{◌≡◌, ℤ, pos, ◌≤ℤ◌, arith, subst, sym, ap, FitsSigned, w16, w32, ◌∙◌}
use Rattle.std.proofs.lemmas.Int.{to_z-of_z, to_z_pos}
use Rattle.jiff_core.specs.Date.{epoch_day}
use Rattle.jiff_core.proofs.SignedLemmas.{signed_arith}
use Rattle.vx_clock.proofs.DayNumbers.{epoch_day_in_range}
use Rattle.vx_clock.proofs.days.day_of.Goals as goal

abbrev InRange : ℤ → Type 0
InRange z = (pos 10957 ≤ℤ z) × (z ≤ℤ pos 47481)

pub returns-in-Ok-clause-in_range : goal.returns-in-Ok-clause-in_range
returns-in-Ok-clause-in_range c =
    let year : c.in-Ok.date.year ≡ pos c.args.year = c.in-Ok.ensures.value.0 ∙ to_z_pos w16 c.args.year (omega arith) in
    let range = epoch_day_in_range c.in-Ok.date c.args.year year (omega arith) (omega arith) in
    let same = c.to_unix_epoch_day.ensures.value ∙ ap epoch_day c.to_plain.ensures in
    let fits : FitsSigned w32 c.to_unix_epoch_day.result = omega (arith, signed_arith) in
    subst InRange (sym (to_z-of_z w32 c.to_unix_epoch_day.result fits)) (subst InRange (sym same) range)
