-- The laws of the run that answers ticks.
use Rattle.std.proofs.Common.{◌≡◌, ◌∙◌, sym, ap, refl, List, [], ◌∷◌, ◌++◌, Option, Some, None}
use Rattle.std.proofs.lemmas.List.{append_assoc}
use Rattle.vx_feed.specs.declared.events.Event.{Event}
use Rattle.vx_feed.specs.Feed.{BadLine}
use Rattle.vx_drivers.specs.declared.exit.Exit.{Exit}
use Rattle.vx_drivers.specs.declared.exit.Exit.TheVariants.{Done, BadFeed}
use Rattle.vx_drivers.specs.Along.{Along}
use Rattle.vx_drivers.specs.TickLaws.{GivesEach, TickRunIsOne, TickRunIsThere}
use Rattle.vx_drivers.specs.TickRun.{EndsTicks, TickRules, TickStand, TakesEvent}
use Rattle.vx_drivers.specs.TickRun.{certificates_text, counts_text, lines_text, no_events, one_more, unless_bad}
use Rattle.vx_drivers.proofs.AlongLemmas.{along_one}
use Rattle.vx_drivers.proofs.CauseLemmas.{cause_of, cause_one}

-- ---- the exit

exit_one : (bad : Option BadLine) (exit other : Exit) → EndsTicks bad exit → EndsTicks bad other → exit ≡ other
exit_one None exit other h k = h ∙ sym k
exit_one (Some bad) exit other (why, is, has) (why_other, is_other, has_other) =
    is ∙ ap (λ w. BadFeed bad.line w) (cause_one why why_other (sym has ∙ has_other)) ∙ sym is_other

exit_of : (bad : Option BadLine) → (exit : Exit) × EndsTicks bad exit
exit_of None = (Done, refl)
exit_of (Some bad) = let why = cause_of bad.cause in (BadFeed bad.line why.0, (why.0, refl, why.1))

-- ---- the steps

module _ {A : Type 0} (rules : TickRules A) where
  step_one : ((events : List Event) (a b : Option A) → rules.IsGiven events a → rules.IsGiven events b → a ≡ b)
      → (stand : TickStand A) (event : Event) (a b : TickStand A) → TakesEvent rules stand event a
      → TakesEvent rules stand event b → a ≡ b
  step_one one stand event a b (said, gives, is) (other, gives_other, is_other) =
      is ∙ ap (one_more stand event) (one (stand.events ++ event ∷ []) said other gives gives_other) ∙ sym is_other

  pub run_is_one : ((events : List Event) (a b : Option A) → rules.IsGiven events a → rules.IsGiven events b → a ≡ b)
      → TickRunIsOne rules
  run_is_one one feed exit other out certs out_other certs_other run run_other =
      let same : run.stand ≡ run_other.stand = along_one (TakesEvent rules) (step_one one)
      feed.events no_events run.stand run_other.stand run.steps run_other.steps in (
        exit_one feed.bad exit other run.ends run_other.ends,
        run.out_is ∙ ap (λ (s : TickStand A). lines_text rules s.answers ++ unless_bad feed.bad
            (counts_text rules s.answers)) same ∙ sym run_other.out_is,
        run.certs_are ∙ ap (λ (s : TickStand A). certificates_text rules s.answers) same ∙ sym run_other.certs_are,
      )

  -- events that are each given something lead on from where a run stands
  steps_there : (all : List Event) → GivesEach rules all → (events : List Event) (stand : TickStand A)
      → all ≡ stand.events ++ events
      → (last : TickStand A) × Along (TakesEvent rules) stand events last
  steps_there all each [] stand is = (stand, refl)
  steps_there all each (event ∷ events) stand is =
      let given = each stand.events event events is in
      let next = one_more stand event given.0 in
      let rest = steps_there all each events next (is ∙ sym (append_assoc stand.events (event ∷ []) events)) in
      (rest.0, (next, (given.0, given.1, refl), rest.1))

  pub run_is_there : TickRunIsThere rules
  run_is_there feed each =
      let steps = steps_there feed.events each feed.events no_events refl in
      let ends = exit_of feed.bad in (
        ends.0,
        lines_text rules steps.0.answers ++ unless_bad feed.bad (counts_text rules steps.0.answers),
        certificates_text rules steps.0.answers,
        record { stand = steps.0; steps = steps.1; ends = ends.1; out_is = refl; certs_are = refl },
      )
