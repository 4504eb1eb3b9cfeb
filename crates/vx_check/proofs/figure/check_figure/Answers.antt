use Rattle.std.proofs.Common.{◌≡◌, ℕ, IsTrue, false, true, sym, subst, ◌∙◌, arith}
use Rattle.vx_claims.specs.declared.acceptance.Test.{Test}
use Rattle.vx_claims.specs.declared.acceptance.Test.TheVariants.{Square, IndexEnds}
use Rattle.vx_claims.specs.FigureTests.{EnclosesIndex}
use Rattle.vx_claims.specs.Accepts.{FigureMeets}
use Rattle.vx_claims.proofs.TestNumbers.{same_test}
use Rattle.vx_check.proofs.figure.check_figure.Goals as goal

pub returns-then-not-encloses_joined_square : goal.returns-then-not-encloses_joined_square
returns-then-not-encloses_joined_square c =
    let never : IsTrue c.encloses_joined_square.result → ⊥ = λ t. let q : true ≡ false = sym t ∙ c.if-not-encloses_joined_square.true in cc q in (
      Square,
      c.number_of.ensures,
      record {
        from = omega arith;
        to = omega arith;
        fails = λ m. never (c.encloses_joined_square.ensures.exact.1 m);
        all_before = λ other high low. absurd (omega arith);
      },
    )

pub returns-then-not-encloses_index : goal.returns-then-not-encloses_index
returns-then-not-encloses_index c =
    let a = c.args in
    let never : IsTrue c.encloses_index.result → ⊥ = λ t. let q : true ≡ false = sym t ∙ c.if-not-encloses_index.true in cc q in
    let met : FigureMeets a.v a.days a.near.now a.next.now a.f.now Square = c.encloses_joined_square.ensures.exact.0 c.if-not-encloses_joined_square.false in (
      IndexEnds,
      c.number_of-then-not-encloses_index.ensures,
      record {
        from = omega arith;
        to = omega arith;
        fails = λ m. never (c.encloses_index.ensures.1 (subst (λ (P : ℕ). EnclosesIndex P a.f.now) (sym c.scale_of.ensures.value) m));
        all_before = λ other high low. subst (λ (t : Test). FigureMeets a.v a.days a.near.now a.next.now a.f.now t) (same_test Square other (omega arith)) met;
      },
    )
