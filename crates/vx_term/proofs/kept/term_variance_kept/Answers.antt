use Rattle.std.proofs.Common.{◌∙◌, ℤ, Some, sym, ap}
use Rattle.vx_formula.specs.Term.{TermFacts}
use Rattle.vx_term.specs.Ranges.{AreFactsLawful}
use Rattle.vx_term.proofs.ToldLevels.{rate_given, term_from_given}
use Rattle.vx_term.proofs.TermLaws.{term_answer_means, term_answer_is_tight, term_answer_is_decided, term_run_is_exact}
use Rattle.vx_term.proofs.Results.{if_ok}
use Rattle.vx_term.proofs.KeptTerms.{kept_of_term}
use Rattle.vx_term.proofs.kept.term_variance_kept.Goals as goal

pub returns-in-Some-clause-answer : goal.returns-in-Some-clause-answer
returns-in-Some-clause-answer g c =
    let facts : TermFacts = record { rows = c.args.term.now.rows.now; rate = c.args.term.now.rate; minutes = c.args.minutes } in
    let rate = rate_given c.args.term.now.rate c.in-Some.rate c.in-Some.is c.requires.lawful.rate in
    let stands = c.in-Some.is ∙ ap (λ (z : ℤ). Some z) (sym rate) in
    term_from_given g.row.P c.args.term.now.expiry facts _ c.given_at.result.minutes c.given_at.result.rate c.given_at.result.exp c.answer_kept.result
    stands c.given_at.ensures.rate c.given_at.ensures.minutes c.given_at.ensures.run c.answer_kept.ensures.answer

pub returns-in-Some-clause-means : goal.returns-in-Some-clause-means
returns-in-Some-clause-means g c =
    let facts : TermFacts = record { rows = c.args.term.now.rows.now; rate = c.args.term.now.rate; minutes = c.args.minutes } in
    let lawful : AreFactsLawful facts = record { rows = c.requires.lawful.rows; rate = c.requires.lawful.rate; minutes = c.requires.minutes } in
    if_ok c.answer_kept.result (returns-in-Some-clause-answer g c) (term_answer_means g.row.P c.args.term.now.expiry facts lawful)

pub returns-in-Some-clause-tight : goal.returns-in-Some-clause-tight
returns-in-Some-clause-tight g c =
    let facts : TermFacts = record { rows = c.args.term.now.rows.now; rate = c.args.term.now.rate; minutes = c.args.minutes } in
    let lawful : AreFactsLawful facts = record { rows = c.requires.lawful.rows; rate = c.requires.lawful.rate; minutes = c.requires.minutes } in
    if_ok c.answer_kept.result (returns-in-Some-clause-answer g c) (term_answer_is_tight g.row.P c.args.term.now.expiry facts lawful c.requires.scale)

pub returns-in-Some-clause-decided : goal.returns-in-Some-clause-decided
returns-in-Some-clause-decided g c = λ term of one.
    let facts : TermFacts = record { rows = c.args.term.now.rows.now; rate = c.args.term.now.rate; minutes = c.args.minutes } in
    let lawful : AreFactsLawful facts = record { rows = c.requires.lawful.rows; rate = c.requires.lawful.rate; minutes = c.requires.minutes } in
    if_ok c.answer_kept.result (returns-in-Some-clause-answer g c) (term_answer_is_decided g.row.P c.args.term.now.expiry facts lawful term of one)

pub returns-in-Some-clause-kept : goal.returns-in-Some-clause-kept
returns-in-Some-clause-kept g c =
    let facts : TermFacts = record { rows = c.args.term.now.rows.now; rate = c.args.term.now.rate; minutes = c.args.minutes } in
    let rate = rate_given c.args.term.now.rate c.in-Some.rate c.in-Some.is c.requires.lawful.rate in
    let stands = c.in-Some.is ∙ ap (λ (z : ℤ). Some z) (sym rate) in
    kept_of_term g.row.P facts _ c.given_at.result.exp c.args.kept.now c.answer_kept.new.kept c.args.steps.now c.answer_kept.new.steps c.answer_kept.result
    stands c.given_at.ensures.run c.answer_kept.ensures.kept

pub returns-in-Some-clause-exact : goal.returns-in-Some-clause-exact
returns-in-Some-clause-exact g c =
    let facts : TermFacts = record { rows = c.args.term.now.rows.now; rate = c.args.term.now.rate; minutes = c.args.minutes } in
    let lawful : AreFactsLawful facts = record { rows = c.requires.lawful.rows; rate = c.requires.lawful.rate; minutes = c.requires.minutes } in
    if_ok c.answer_kept.result (returns-in-Some-clause-answer g c) (term_run_is_exact g.row.P c.args.term.now.expiry facts lawful)
