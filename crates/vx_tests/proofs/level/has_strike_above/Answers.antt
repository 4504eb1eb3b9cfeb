use Rattle.std.proofs.lemmas.Bool.Decides.{Decides-at}
use Rattle.std.specs.List.{list_any}
use Rattle.vx_tests.specs.Rows.{is_just_above}
use Rattle.vx_tests.proofs.Decisions.{above_listed}
use Rattle.vx_tests.proofs.level.has_strike_above.Goals as goal

pub returns : goal.returns
returns c =
    let rows = c.args.rows.now in
    Decides-at c.is_any_just_above.result (list_any (is_just_above c.args.k0) rows) c.is_any_just_above.ensures (above_listed c.args.k0 rows)
