use Rattle.std.proofs.Common.{◌≡◌, ◌↔◌, IsTrue, IsSomeAnd, Option, false, true, sym, subst}
use Rattle.vx_clock.specs.declared.days.DayNo.{DayNo}
use Rattle.vx_claims.specs.Seen.{opening_expiry}
use Rattle.vx_check.proofs.AtOpening.{expiry_by_day, no_expiry}
use Rattle.vx_check.proofs.soq.is_opening_expiry.Goals as goal

pub returns-in-Some : goal.returns-in-Some
returns-in-Some c = λ events line time h.
    let x = c.args.expiry in
    let kept = rw c.in-Some.is at c.opening_term.ensures in
    let F : Option DayNo → Type 0 = λ k. IsTrue c.is_after_trade_date.result ↔ IsSomeAnd k (λ d. x ≡ opening_expiry d) in
    expiry_by_day c.args.book.now events line time h c.in-Some.field-0.now (sym kept) x c.is_after_trade_date.result (subst F c.day.ensures c.is_after_trade_date.ensures)

pub returns-in-None : goal.returns-in-None
returns-in-None c = λ events line time h.
    let kept = rw c.in-None.is at c.opening_term.ensures in
    let never : IsTrue false → ⊥ = λ t. let e : false ≡ true = t in cc e in
    (λ t. absurd (never t), λ m. absurd (no_expiry c.args.book.now events line time h c.args.expiry (sym kept) m))
