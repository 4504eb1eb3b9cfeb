use Rattle.std.proofs.Common.{◌≡◌, IsTrue, false, true, sym, ◌∙◌}
use Rattle.vx_check.proofs.single.single_term_meets.Goals as goal

pub returns-then-has_single_basis-clause-exact : goal.returns-then-has_single_basis-clause-exact
returns-then-has_single_basis-clause-exact c = λ events line h.
    let met = c.term_meets.ensures.exact events line h in
    let basis = c.has_single_basis.ensures.0 c.if-has_single_basis.true in
    (λ t. (basis, met.0 t), λ m. met.1 m.1)

pub returns-else-has_single_basis-clause-exact : goal.returns-else-has_single_basis-clause-exact
returns-else-has_single_basis-clause-exact c = λ events line h.
    let never : IsTrue c.has_single_basis.result → ⊥ = λ t. let q : true ≡ false = sym t ∙ c.if-has_single_basis.false in cc q in
    (λ t. absurd (never t), λ m. c.has_single_basis.ensures.1 m.0)
