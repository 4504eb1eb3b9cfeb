use Rattle.std.proofs.Common.{◌≡◌, IsTrue, false, true, sym, ◌∙◌, arith}
use Rattle.vx_claims.specs.declared.acceptance.Test.TheVariants.{Exponential}
use Rattle.vx_claims.specs.Test.{test_number}
use Rattle.vx_claims.specs.Accepts.{scale_of, TermMeetsAt}
use Rattle.vx_tests.specs.Terms.{NumbersMeet}
use Rattle.vx_check.specs.Reached.{IsReached}
use Rattle.vx_check.proofs.Verdicts.{met_one_further_from, fails_from, met_from}
use Rattle.vx_check.proofs.term.check_term.Goals as goal

pub loop-number-init : goal.loop-number-init
loop-number-init c = record {
  from = omega arith;
  numbers = λ other high low. absurd (omega arith);
  tests = λ events reached other high low. absurd (omega arith);
}

pub term_meets_at-requires : goal.term_meets_at-requires
term_meets_at-requires c = λ other high low. let at = c.numbered.ensures in c.loop-number.invariant.numbers other high (omega arith)

pub loop-number-preserved : goal.loop-number-preserved
loop-number-preserved c =
    let a = c.args in
    let number = c.loop-number.number in
    let test = c.numbered.result in
    let at : test_number test ≡ number = c.numbered.ensures in
    let met = c.if-not-term_meets_at.false in
    let from = c.loop-number.invariant.from in
    record {
      from = omega arith;
      numbers = met_one_further_from (NumbersMeet (scale_of a.v) a.t.now) (test_number Exponential) number test at c.loop-number.invariant.numbers (c.term_meets_at.ensures.numbers met);
      tests = λ events reached.
          met_one_further_from (TermMeetsAt events a.v a.line a.time a.t.now) a.first number test at (c.loop-number.invariant.tests events reached)
          ((c.term_meets_at.ensures.exact events reached).0 met);
    }

pub returns-then-not-term_meets_at : goal.returns-then-not-term_meets_at
returns-then-not-term_meets_at c = λ events stands short.
    let a = c.args in
    let number = c.loop-number.number in
    let test = c.numbered.result in
    let at : test_number test ≡ number = c.numbered.ensures in
    let reached : IsReached a.book.now events a.line = record { stands = stands; within = short } in
    let never : IsTrue c.term_meets_at.result → ⊥ = λ t. let q : true ≡ false = sym t ∙ c.if-not-term_meets_at.true in cc q in
    let from = c.loop-number.invariant.from in
    fails_from (TermMeetsAt events a.v a.line a.time a.t.now) a.first a.last number test at from (omega arith) (c.loop-number.invariant.tests events reached)
    (λ m. never ((c.term_meets_at.ensures.exact events reached).1 m))

pub returns : goal.returns
returns c = λ events stands short.
    let a = c.args in
    let reached : IsReached a.book.now events a.line = record { stands = stands; within = short } in
    met_from (TermMeetsAt events a.v a.line a.time a.t.now) a.first a.last c.loop-number.number (omega arith) (c.loop-number.invariant.tests events reached)
