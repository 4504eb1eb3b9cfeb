-- The step that was found is the first one that passes: the last one does.
use Rattle.std.proofs.Common.{◌≡◌, ◌-◌, ◌*◌, ◌≤◌, true, [], ◌∷◌, arith, rules, tests}
use Rattle.std.proofs.lemmas.Iterator.{YieldsList-from_slice}
use Rattle.std.proofs.lemmas.Iterator.Consumers.{YieldsList-from_copied}
use Rattle.std.proofs.lemmas.Iterator.Search.{find_from_yields_List}
use Rattle.vixplot.specs.declared.axis.TheConstants.{CENT_STEPS}
use Rattle.vixplot.specs.declared.limits.TheConstants.{STEPS_MAX}
use Rattle.vixplot.specs.Scales.{reaches}
use Rattle.vixplot.proofs.StepLemmas.{step_found}
use Rattle.vixplot.proofs.axis.cent_step.Goals as goal

pub returns-clause-first : goal.returns-clause-first
returns-clause-first c =
    let enough : (c.args.high - c.args.low) ≤ STEPS_MAX * 50000 = omega arith in
    let passes : reaches (c.args.high - c.args.low) STEPS_MAX 50000 ≡ true = search (rules, tests) in
    step_found (reaches (c.args.high - c.args.low) STEPS_MAX) 50000 (1 ∷ 2 ∷ 5 ∷ 10 ∷ 20 ∷ 50 ∷ 100 ∷ 200 ∷ 500 ∷ 1000 ∷ 2000 ∷ 5000 ∷ 10000 ∷ 20000 ∷ []) c.find-reaching.result c.unwrap_or.result
    (find_from_yields_List (reaches (c.args.high - c.args.low) STEPS_MAX) _ _ c.find-reaching.result c.find-reaching.ensures.ran
    (YieldsList-from_copied (YieldsList-from_slice CENT_STEPS cc)) (λ x b q k. search (rules, tests)))
    c.unwrap_or.ensures passes
