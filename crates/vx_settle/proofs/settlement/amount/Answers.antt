use Rattle.std.proofs.Common.{ℕ, pos, ℤ, ◌*ℤ◌, ap, sym, ◌∙◌}
use Rattle.vx_settle.proofs.Amounts.{amount_bound, amount_fits, amount_is, quantity_is, times_hundred}
use Rattle.vx_settle.specs.Position.{multiplier_of}
use Rattle.vx_settle.proofs.settlement.amount.Goals as goal

pub overflow_mul-result-2 : goal.overflow_mul-result-2
overflow_mul-result-2 c =
    let quantity : ℤ = c.args.p.now.quantity in
    amount_fits c.gain.result c.from.result c.from-2.result c.cents_a_unit.result quantity c.from.ensures (c.from-2.ensures ∙ quantity_is quantity c.requires.in_range.0) c.gain.ensures.bound c.cents_a_unit.ensures.bound c.requires.in_range.0

pub returns-clause-value : goal.returns-clause-value
returns-clause-value c =
    let quantity : ℤ = c.args.p.now.quantity in
    let cents : ℕ = c.cents_a_unit.result in
    ap (λ z. pos 100 *ℤ z) (amount_is c.gain.result c.from.result c.from-2.result cents quantity c.from.ensures (c.from-2.ensures ∙ quantity_is quantity c.requires.in_range.0) c.gain.ensures.bound c.cents_a_unit.ensures.bound c.requires.in_range.0) ∙
    (times_hundred c.gain.result quantity cents (multiplier_of c.args.p.now.contract) (sym c.cents_a_unit.ensures.whole) ∙
    ap (λ z. z *ℤ pos (multiplier_of c.args.p.now.contract) *ℤ quantity) c.gain.ensures.value)

pub returns-clause-bound : goal.returns-clause-bound
returns-clause-bound c =
    let quantity : ℤ = c.args.p.now.quantity in
    amount_bound c.gain.result c.from.result c.from-2.result c.cents_a_unit.result quantity c.from.ensures (c.from-2.ensures ∙ quantity_is quantity c.requires.in_range.0) c.gain.ensures.bound c.cents_a_unit.ensures.bound c.requires.in_range.0
