-- The answer for one term is that of its facts, and its strip is kept.
use Rattle.std.proofs.Common.{◌≡◌, ◌∙◌, sym, subst, refl, get_or, arith}
use Rattle.std.specs.Prelude.{IfOk}
use Rattle.std.proofs.lemmas.Option.{same_Some, slice_get-get_or}
use Rattle.vx_clock.specs.declared.terms.Expiry.{Expiry}
use Rattle.vx_formula.specs.Term.{TermFacts}
use Rattle.vx_claims.specs.declared.limits.TheConstants.{SCALE}
use Rattle.vx_term.specs.Answer.{IsTermAnswer}
use Rattle.vx_term.specs.KeptAfter.{IsSelectedStrip, IsKeptAfter}
use Rattle.vx_replay.proofs.TermsShown.{facts_shown}
use Rattle.vx_replay.proofs.tick.answer_term.Goals as goal

pub returns-clause-answer : goal.returns-clause-answer
returns-clause-answer g c = λ events x stands at.
    let term = c.term-term.result in
    let result = c.term_variance_kept.result in
    let shown = c.term-term.ensures.standing events stands in
    let facts : TermFacts = record { rows = term.rows.now; rate = term.rate; minutes = c.minutes_to-minutes.result } in
    let same : term.expiry ≡ x = same_Some term.expiry x (sym c.term-term.ensures.expiry ∙ at) in
    let is = facts_shown events c.args.now term.expiry x term.rows.now term.rate c.minutes_to-minutes.result same shown.rate shown.rows c.minutes_to-minutes.ensures.value in
    subst (λ (f : TermFacts). IfOk result (IsTermAnswer SCALE x f)) is
    (subst (λ (y : Expiry). IfOk result (IsTermAnswer SCALE y facts)) same c.term_variance_kept.ensures.answer)

pub returns-clause-kept : goal.returns-clause-kept
returns-clause-kept g c = λ events x stands at.
    let term = c.term-term.result in
    let result = c.term_variance_kept.result in
    let shown = c.term-term.ensures.standing events stands in
    let same : term.expiry ≡ x = same_Some term.expiry x (sym c.term-term.ensures.expiry ∙ at) in
    let is = facts_shown events c.args.now term.expiry x term.rows.now term.rate c.minutes_to-minutes.result same shown.rate shown.rows c.minutes_to-minutes.ensures.value in
    let held = get_or c.args.kept.now c.args.place c.index-kept-place.result in
    let as_many = (c.requires.strips).as_many in
    let within = c.requires.within in
    record {
      held = held;
      holds = c.term_variance_kept.new.kept;
      is_held = slice_get-get_or c.args.kept.now c.args.place c.index-kept-place.result (omega (arith, as_many, within));
      after_is = refl;
      kept = subst (λ (f : TermFacts). IsKeptAfter SCALE (IsSelectedStrip SCALE f) held c.term_variance_kept.new.kept c.args.steps.now c.term_variance_kept.new.steps result) is
          c.term_variance_kept.ensures.kept;
    }
