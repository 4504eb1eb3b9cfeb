use Rattle.std.proofs.Common.{List, ℕ, ◌∙◌, Ok, Err, subst}
use Rattle.vx_cli.specs.DrillRuns.{CountsText}
use Rattle.vx_cli.proofs.SampleLemmas.{sample_counted, sample_stops}
use Rattle.vx_cli.proofs.drill.count_sample.Goals as goal

pub returns-in-Ok : goal.returns-in-Ok
returns-in-Ok c =
    sample_counted c.args.number c.args.ticks c.in-Ok.counts c.requires.most
    (subst (λ (t : List ℕ). CountsText t (Ok c.in-Ok.counts)) (c.as_slice.ensures.value ∙ c.in_ok-feed.ensures) c.in-Ok.ensures)

pub want_of-requires : goal.want_of-requires
want_of-requires c =
    sample_stops c.args.number c.args.ticks c.in-Err.stop c.requires.most
    (subst (λ (t : List ℕ). CountsText t (Err c.in-Err.stop)) (c.as_slice.ensures.value ∙ c.in_ok-feed.ensures) c.in-Err.ensures)
