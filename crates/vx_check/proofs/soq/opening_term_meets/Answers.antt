use Rattle.std.proofs.Common.{◌≡◌, ◌↔◌, ℕ, IsTrue, sym, subst}
use Rattle.vx_formula.specs.declared.limits.TheConstants.{THIRTY_DAYS}
use Rattle.vx_formula.specs.Level.{StrikesRise}
use Rattle.vx_formula.specs.Term.{TermFacts}
use Rattle.vx_claims.specs.TermTests.{TermMeets}
use Rattle.vx_claims.specs.Accepts.{scale_of}
use Rattle.vx_tests.specs.Terms.{facts_of, AreNumbersMet, NumbersMeet}
use Rattle.vx_check.specs.Opening.{facts_of_term}
use Rattle.vx_check.proofs.AtOpening.{opening_meets_at, opening_rise, no_expiry}
use Rattle.vx_check.proofs.soq.opening_term_meets.Goals as goal

pub meets-requires-clause-earlier : goal.meets-requires-clause-earlier
meets-requires-clause-earlier c =
    subst (λ (P : ℕ). AreNumbersMet P c.args.term.now c.args.test) (sym c.scale_of.ensures.value) c.requires

pub returns-in-Some-clause-exact : goal.returns-in-Some-clause-exact
returns-in-Some-clause-exact c = λ events line time h expiry.
    let book = c.args.book.now in
    let term = c.args.term.now in
    let test = c.args.test in
    let shown = c.in-Some.shown.now in
    let kept = rw c.in-Some.is at c.opening_term.ensures in
    let rise : StrikesRise c.rows.result.now = subst StrikesRise (sym c.rows.ensures) (opening_rise book events line time h expiry.day expiry.day_is shown (sym kept)) in
    let minutes : c.from.result ≡ THIRTY_DAYS = c.from.ensures in
    let rows = c.rows.ensures in
    let seen : facts_of (record { rows = c.rows.result; rate = shown.rate; minutes = c.from.result }) ≡ facts_of_term shown =
    λ i. record { rows = rows i; rate = shown.rate; minutes = minutes i } in
    let F : ℕ → TermFacts → Type 0 = λ P f. IsTrue c.meets.result ↔ TermMeets P f term test in
    let met : F (scale_of c.args.version) (facts_of_term shown) =
    subst (λ (P : ℕ). F P (facts_of_term shown)) c.scale_of.ensures.value (subst (F c.scale_of.result) seen (c.meets.ensures.exact rise)) in
    opening_meets_at book events line time h expiry.day expiry.day_is shown (sym kept) c.args.version term test c.meets.result met

pub returns-in-Some-clause-numbers : goal.returns-in-Some-clause-numbers
returns-in-Some-clause-numbers c = λ t.
    subst (λ (P : ℕ). NumbersMeet P c.args.term.now c.args.test) c.scale_of.ensures.value (c.meets.ensures.numbers t)

pub returns-in-None-clause-exact : goal.returns-in-None-clause-exact
returns-in-None-clause-exact c = λ events line time h expiry.
    let kept = rw c.in-None.is at c.opening_term.ensures in
    absurd (no_expiry c.args.book.now events line time h c.args.term.now.expiry (sym kept) expiry)
