use Rattle.std.proofs.Common.{◌≡◌, IsTrue, false, true, sym, ◌∙◌}
use Rattle.vx_check.proofs.index.both_meet.Goals as goal

pub returns-then-term_meets-clause-exact : goal.returns-then-term_meets-clause-exact
returns-then-term_meets-clause-exact c = λ events line h.
    let near = c.term_meets.ensures.exact events line h in
    let next = c.term_meets-then-term_meets.ensures.exact events line h in
    let met = near.0 c.if-term_meets.true in
    (λ t. (met, next.0 t), λ m. next.1 m.1)

pub returns-else-term_meets-clause-exact : goal.returns-else-term_meets-clause-exact
returns-else-term_meets-clause-exact c = λ events line h.
    let near = c.term_meets.ensures.exact events line h in
    let never : IsTrue c.term_meets.result → ⊥ = λ t. let q : true ≡ false = sym t ∙ c.if-term_meets.false in cc q in
    (λ t. absurd (never t), λ m. near.1 m.0)
