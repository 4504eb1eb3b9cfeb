use Rattle.std.proofs.Common.{◌≡◌, IsTrue, false, true, refl, sym, ◌∙◌, arith}
use Rattle.vx_claims.specs.Test.{test_number}
use Rattle.vx_claims.specs.Accepts.{scale_of}
use Rattle.vx_check.specs.Answers.{MeetsAsIndex}
use Rattle.vx_check.specs.declared.verdict.Verdict.TheVariants.{Yes}
use Rattle.vx_check.specs.Numbers.{IndexNumbersMeet}
use Rattle.vx_check.specs.Reached.{IsReached}
use Rattle.vx_check.proofs.Verdicts.{first_number, met_one_further, fails_at, all_met}
use Rattle.vx_check.proofs.Sound.{index_yes_means}
use Rattle.vx_check.proofs.index.check_index.Goals as goal

pub loop-number-init : goal.loop-number-init
loop-number-init c = record {
  numbers = λ other low. let high = first_number other in absurd (omega arith);
  tests = λ events reached other low. let high = first_number other in absurd (omega arith);
}

pub index_meets-requires-clause-earlier : goal.index_meets-requires-clause-earlier
index_meets-requires-clause-earlier c = λ other low. let at = c.numbered.ensures in c.loop-number.invariant.numbers other (omega arith)

pub loop-number-preserved : goal.loop-number-preserved
loop-number-preserved c =
    let cert = c.args.c.now in
    let number = c.loop-number.number in
    let test = c.numbered.result in
    let at : test_number test ≡ number = c.numbered.ensures in
    let met = c.if-not-index_meets.false in
    record {
      numbers = met_one_further (IndexNumbersMeet (scale_of cert.v) cert.body) number test at c.loop-number.invariant.numbers (c.index_meets.ensures.numbers met);
      tests = λ events reached.
          met_one_further (MeetsAsIndex c.args.days c.args.window events cert) number test at (c.loop-number.invariant.tests events reached)
          ((c.index_meets.ensures.exact events reached (λ other low. c.loop-number.invariant.tests events reached other (omega arith))).0 met);
    }

pub returns-then-not-index_meets-clause-answer : goal.returns-then-not-index_meets-clause-answer
returns-then-not-index_meets-clause-answer c = λ events stands short.
    let cert = c.args.c.now in
    let number = c.loop-number.number in
    let test = c.numbered.result in
    let at : test_number test ≡ number = c.numbered.ensures in
    let reached : IsReached c.args.book.now events cert.line = record { stands = stands; within = short } in
    let before = c.loop-number.invariant.tests events reached in
    let never : IsTrue c.index_meets.result → ⊥ = λ t. let q : true ≡ false = sym t ∙ c.if-not-index_meets.true in cc q in
    fails_at (MeetsAsIndex c.args.days c.args.window events cert) number test at before (λ met. never ((c.index_meets.ensures.exact events reached (λ other low. before other (omega arith))).1 met))

pub returns-then-not-index_meets-clause-sound : goal.returns-then-not-index_meets-clause-sound
returns-then-not-index_meets-clause-sound c = λ events stands short lawful version e. absurd (cc e)

pub returns-clause-answer : goal.returns-clause-answer
returns-clause-answer c = λ events stands short.
    let cert = c.args.c.now in
    let reached : IsReached c.args.book.now events cert.line = record { stands = stands; within = short } in
    all_met (MeetsAsIndex c.args.days c.args.window events cert) c.loop-number.number (omega arith) (c.loop-number.invariant.tests events reached)

pub returns-clause-sound : goal.returns-clause-sound
returns-clause-sound c = λ events stands short lawful version e.
    index_yes_means c.args.days c.args.window events c.args.c.now Yes (returns-clause-answer c events stands short) (omega arith) lawful version refl
