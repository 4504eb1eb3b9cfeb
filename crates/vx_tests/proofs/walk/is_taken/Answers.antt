use Rattle.std.proofs.Common.{arith}
use Rattle.vx_formula.proofs.Walks.{no_row, put_within, put_beyond, call_within, call_beyond, level_taken}
use Rattle.vx_tests.proofs.walk.is_taken.Goals as goal

pub returns-then-reach-place : goal.returns-then-reach-place
returns-then-reach-place c = λ rise row is.
    put_within c.args.rows.now c.args.reach.level c.args.place no_row row rise c.requires.listed is c.args.reach.low c.requires.low c.if-place-reach.true c.if-reach-place.true

pub returns-else-reach-place : goal.returns-else-reach-place
returns-else-reach-place c = λ rise row is.
    put_beyond c.args.rows.now c.args.reach.level c.args.place no_row row rise c.requires.listed is c.args.reach.low c.requires.low c.if-place-reach.true c.if-reach-place.false

pub returns-then-place-reach-2 : goal.returns-then-place-reach-2
returns-then-place-reach-2 c = λ rise row is.
    level_taken c.args.rows.now c.args.reach.level c.args.place no_row row rise c.requires.listed is c.if-place-reach-2.true

pub returns-then-place-reach-3 : goal.returns-then-place-reach-3
returns-then-place-reach-3 c = λ rise row is.
    call_within c.args.rows.now c.args.reach.level c.args.place no_row row rise c.requires.listed is c.args.reach.high c.requires.high (omega (arith, c.if-place-reach.false, c.if-place-reach-2.false)) c.if-place-reach-3.true

pub returns-else-place-reach-3 : goal.returns-else-place-reach-3
returns-else-place-reach-3 c = λ rise row is.
    call_beyond c.args.rows.now c.args.reach.level c.args.place no_row row rise c.requires.listed is c.args.reach.high c.requires.high (omega (arith, c.if-place-reach.false, c.if-place-reach-2.false)) c.if-place-reach-3.false
