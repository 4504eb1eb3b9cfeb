use Rattle.std.proofs.Common.{◌≡◌, IsTrue, false, true, refl, sym, ◌∙◌, arith}
use Rattle.vx_claims.specs.Test.{test_number}
use Rattle.vx_claims.specs.Accepts.{scale_of, Meets}
use Rattle.vx_check.specs.declared.verdict.Verdict.TheVariants.{Yes}
use Rattle.vx_check.specs.Numbers.{BodyNumbersMeet}
use Rattle.vx_check.specs.Reached.{IsReached}
use Rattle.vx_check.proofs.Verdicts.{first_number, met_one_further, fails_at, all_met}
use Rattle.vx_check.proofs.Sound.{yes_means}
use Rattle.vx_check.proofs.check.check_cert.Goals as goal

pub loop-number-init : goal.loop-number-init
loop-number-init c = record {
  numbers = λ other low. let high = first_number other in absurd (omega arith);
  tests = λ events reached lawful other low. let high = first_number other in absurd (omega arith);
}

pub cert_meets-requires : goal.cert_meets-requires
cert_meets-requires c = λ other low. let at = c.numbered.ensures in c.loop-number.invariant.numbers other (omega arith)

pub loop-number-preserved : goal.loop-number-preserved
loop-number-preserved c =
    let cert = c.args.c.now in
    let number = c.loop-number.number in
    let test = c.numbered.result in
    let at : test_number test ≡ number = c.numbered.ensures in
    let met = c.if-not-cert_meets.false in
    record {
      numbers = met_one_further (BodyNumbersMeet (scale_of cert.v) cert.body) number test at c.loop-number.invariant.numbers (c.cert_meets.ensures.numbers met);
      tests = λ events reached lawful.
          met_one_further (Meets events cert) number test at (c.loop-number.invariant.tests events reached lawful)
          ((c.cert_meets.ensures.exact events reached lawful (λ other low. c.loop-number.invariant.tests events reached lawful other (omega arith))).0 met);
    }

pub returns-then-not-cert_meets-clause-answer : goal.returns-then-not-cert_meets-clause-answer
returns-then-not-cert_meets-clause-answer c = λ events stands lawful short.
    let cert = c.args.c.now in
    let number = c.loop-number.number in
    let test = c.numbered.result in
    let at : test_number test ≡ number = c.numbered.ensures in
    let reached : IsReached c.args.book.now events cert.line = record { stands = stands; within = short } in
    let before = c.loop-number.invariant.tests events reached lawful in
    let never : IsTrue c.cert_meets.result → ⊥ = λ t. let q : true ≡ false = sym t ∙ c.if-not-cert_meets.true in cc q in
    fails_at (Meets events cert) number test at before (λ met. never ((c.cert_meets.ensures.exact events reached lawful (λ other low. before other (omega arith))).1 met))

pub returns-then-not-cert_meets-clause-sound : goal.returns-then-not-cert_meets-clause-sound
returns-then-not-cert_meets-clause-sound c = λ events stands lawful short version e. absurd (cc e)

pub returns-clause-answer : goal.returns-clause-answer
returns-clause-answer c = λ events stands lawful short.
    let cert = c.args.c.now in
    let reached : IsReached c.args.book.now events cert.line = record { stands = stands; within = short } in
    all_met (Meets events cert) c.loop-number.number (omega arith) (c.loop-number.invariant.tests events reached lawful)

pub returns-clause-sound : goal.returns-clause-sound
returns-clause-sound c = λ events stands lawful short version e.
    yes_means events c.args.c.now Yes (returns-clause-answer c events stands lawful short) lawful version refl
