use Rattle.std.proofs.Common.{arith}
use Rattle.vx_formula.proofs.Walks.{no_row, put_within, put_beyond, call_within, call_beyond, level_taken}
use Rattle.vx_strip.proofs.walk.is_taken.Goals as goal

pub returns-then-reach-place : goal.returns-then-reach-place
returns-then-reach-place c = λ row is.
    put_within c.args.rows.now c.args.k0 c.args.place no_row row c.requires.rising c.requires.listed is c.args.reach.low c.requires.low c.if-place-k0.true c.if-reach-place.true

pub returns-else-reach-place : goal.returns-else-reach-place
returns-else-reach-place c = λ row is.
    put_beyond c.args.rows.now c.args.k0 c.args.place no_row row c.requires.rising c.requires.listed is c.args.reach.low c.requires.low c.if-place-k0.true c.if-reach-place.false

pub returns-then-place-k0-2 : goal.returns-then-place-k0-2
returns-then-place-k0-2 c = λ row is.
    level_taken c.args.rows.now c.args.k0 c.args.place no_row row c.requires.rising c.requires.listed is c.if-place-k0-2.true

pub returns-then-place-reach : goal.returns-then-place-reach
returns-then-place-reach c = λ row is.
    call_within c.args.rows.now c.args.k0 c.args.place no_row row c.requires.rising c.requires.listed is c.args.reach.high c.requires.high (omega (arith, c.if-place-k0.false, c.if-place-k0-2.false)) c.if-place-reach.true

pub returns-else-place-reach : goal.returns-else-place-reach
returns-else-place-reach c = λ row is.
    call_beyond c.args.rows.now c.args.k0 c.args.place no_row row c.requires.rising c.requires.listed is c.args.reach.high c.requires.high (omega (arith, c.if-place-k0.false, c.if-place-k0-2.false)) c.if-place-reach.false
