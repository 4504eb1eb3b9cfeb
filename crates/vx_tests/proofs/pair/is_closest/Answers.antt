use Rattle.std.specs.List.{list_any, list_all}
use Rattle.vx_formula.specs.Pair.{IsClosestPair}
use Rattle.vx_claims.specs.TermTests.{stated_pair}
use Rattle.vx_tests.specs.Rows.{is_pair_of_row, is_as_close}
use Rattle.vx_tests.proofs.Decisions.{closest_decides, and_then, and_else}
use Rattle.vx_tests.proofs.pair.is_closest.Goals as goal

pub returns-then-has_pair : goal.returns-then-has_pair
returns-then-has_pair c =
    let rows = c.args.rows.now in
    let pair = c.args.pair in
    and_then c.has_pair.result c.are_as_close.result (list_any (is_pair_of_row pair) rows) (list_all (is_as_close pair) rows) (IsClosestPair rows (stated_pair pair))
    (closest_decides pair rows) c.has_pair.ensures c.are_as_close.ensures c.if-has_pair.true

pub returns-else-has_pair : goal.returns-else-has_pair
returns-else-has_pair c =
    let rows = c.args.rows.now in
    let pair = c.args.pair in
    and_else c.has_pair.result (list_any (is_pair_of_row pair) rows) (list_all (is_as_close pair) rows) (IsClosestPair rows (stated_pair pair))
    (closest_decides pair rows) c.has_pair.ensures c.if-has_pair.false
