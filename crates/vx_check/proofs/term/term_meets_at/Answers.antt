use Rattle.std.proofs.Common.{◌≡◌, IsTrue, false, true, sym, ◌∙◌}
use Rattle.vx_claims.specs.Accepts.{TermMeetsAt}
use Rattle.vx_check.specs.Reached.{IsAtTick}
use Rattle.vx_check.proofs.term.term_meets_at.Goals as goal

pub returns-then-is_tick_at-clause-exact : goal.returns-then-is_tick_at-clause-exact
returns-then-is_tick_at-clause-exact c = λ events reached.
    let a = c.args in
    let h : IsAtTick a.book.now events a.line a.time = record { reached = reached; is_tick = (c.is_tick_at.ensures events reached).0 c.if-is_tick_at.true } in
    c.term_meets.ensures.exact events a.line h

pub returns-else-is_tick_at-clause-exact : goal.returns-else-is_tick_at-clause-exact
returns-else-is_tick_at-clause-exact c = λ events reached.
    let a = c.args in
    let never : IsTrue c.is_tick_at.result → ⊥ = λ t. let q : true ≡ false = sym t ∙ c.if-is_tick_at.false in cc q in
    (λ t. absurd (never t), λ (m : TermMeetsAt events a.version a.line a.time a.term.now a.test). absurd (never ((c.is_tick_at.ensures events reached).1 m.is_tick)))
