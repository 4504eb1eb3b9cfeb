use Rattle.std.proofs.Common.{to_z-of_z}
use Rattle.std.proofs.lemmas.Bool.Decides.{Decides-at}
use Rattle.std.specs.List.{list_all}
use Rattle.vx_tests.specs.Rows.{is_other_above}
use Rattle.vx_tests.proofs.Decisions.{others_decide}
use Rattle.vx_tests.proofs.level.are_others_above.Goals as goal

pub returns : goal.returns
returns c =
    let rows = c.args.rows.now in
    let P = c.args.scale in
    let f = c.args.forward in
    let k0 = c.args.k0 in
    let clean = to_z-of_z c.ranges.forward in
    let computed = rw clean at c.are_all_above.ensures in
    Decides-at c.are_all_above.result (list_all (is_other_above P f k0) rows) computed (others_decide P f k0 rows)
