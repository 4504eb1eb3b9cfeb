use Rattle.std.proofs.lemmas.Bool.Decides.{Decides-at}
use Rattle.std.specs.List.{list_any}
use Rattle.vx_tests.specs.Rows.{has_strike}
use Rattle.vx_tests.proofs.Decisions.{listed_decides}
use Rattle.vx_tests.proofs.level.is_listed.Goals as goal

pub returns : goal.returns
returns c =
    let rows = c.args.rows.now in
    Decides-at c.any_has_strike.result (list_any (has_strike c.args.k0) rows) c.any_has_strike.ensures (listed_decides c.args.k0 rows)
