use Rattle.std.proofs.Common.{◌≡◌, ◌↔◌, ℕ, IsTrue, false, true, sym, subst, ◌∙◌}
use Rattle.vx_formula.specs.Term.{TermFacts}
use Rattle.vx_claims.specs.Seen.{events_before, moment_of, term_facts}
use Rattle.vx_claims.specs.TermTests.{TermMeets}
use Rattle.vx_claims.specs.Accepts.{scale_of}
use Rattle.vx_tests.specs.Terms.{facts_of, AreNumbersMet, NumbersMeet}
use Rattle.vx_check.proofs.AtTick.{facts_rise, meets_at, no_day}
use Rattle.vx_check.proofs.tick.term_meets.Goals as goal

pub meets-requires-clause-earlier : goal.meets-requires-clause-earlier
meets-requires-clause-earlier c =
    subst (λ (P : ℕ). AreNumbersMet P c.args.term.now c.args.test) (sym c.scale_of.ensures.value) c.requires

pub returns-in-Some-clause-exact : goal.returns-in-Some-clause-exact
returns-in-Some-clause-exact c = λ events line h.
    let book = c.args.book.now in
    let term = c.args.term.now in
    let test = c.args.test in
    let day = c.in-Some.day in
    let facts = term_facts (events_before events line) (moment_of day c.args.time) term.expiry in
    let seen : facts_of c.seen_term-seen.result ≡ facts = c.seen_term-seen.ensures events line h in
    let rise = facts_rise book events line c.args.time h (facts_of c.seen_term-seen.result) day term.expiry seen in
    let F : ℕ → TermFacts → Type 0 = λ P f. IsTrue c.meets.result ↔ TermMeets P f term test in
    let met : F (scale_of c.args.version) facts = subst (λ (P : ℕ). F P facts) c.scale_of.ensures.value (subst (F c.scale_of.result) seen (c.meets.ensures.exact rise)) in
    let is = sym c.day.ensures ∙ c.in-Some.is in
    meets_at book events line c.args.time h c.args.version term test day is c.meets.result met

pub returns-in-Some-clause-numbers : goal.returns-in-Some-clause-numbers
returns-in-Some-clause-numbers c = λ t.
    subst (λ (P : ℕ). NumbersMeet P c.args.term.now c.args.test) c.scale_of.ensures.value (c.meets.ensures.numbers t)

pub returns-in-None-clause-exact : goal.returns-in-None-clause-exact
returns-in-None-clause-exact c = λ events line h.
    let is = sym c.day.ensures ∙ c.in-None.is in
    let never : IsTrue false → ⊥ = λ t. let e : false ≡ true = t in cc e in
    (λ t. absurd (never t), λ m. absurd (no_day c.args.book.now events line c.args.time h c.args.version c.args.term.now c.args.test is m))
