use Rattle.std.proofs.Common.{◌==◌, ◌∙◌, sym, subst, ap, refl, ◌+◌, ◌≤◌, arith}
use Rattle.vx_lines.specs.TextLines.{ended, too_many}
use Rattle.vx_desk.specs.declared.device.Slot.TheVariants.{Feed, Side, Out, Certs}
use Rattle.vx_drivers.specs.declared.exit.PositionCause.TheVariants.{TooMany}
use Rattle.vx_drivers.specs.declared.limits.TheConstants.{POSITION_LINES_MAX}
use Rattle.vx_blocks.specs.declared.split_lines.Rest.{Rest}
use Rattle.vx_blocks.proofs.ComingLemmas.{all_taken, at_hand}
use Rattle.vx_blocks.proofs.TakeLemmas.{takes_next}
use Rattle.vx_drivers.specs.PositionLines.{bad_behind as cause_behind}
use Rattle.vx_drivers.specs.PositionSteps.{EndsAllSent, allowed_positions}
use Rattle.vx_drivers.specs.Sending.{Text}
use Rattle.vx_desk.proofs.CallLemmas.{step_after}
use Rattle.vx_drivers.specs.Exits.{exit_calls}
use Rattle.vx_drivers.proofs.ExitLemmas.{certs_not_out, feed_not_out, side_not_out}
use Rattle.vx_drivers.proofs.PositionLinesLemmas.{ends_behind, next_given, next_lines}
use Rattle.vx_drivers.proofs.PositionRunLemmas.{allowed_full, allowed_step, bad_next, line_bad, line_bad_sent, line_ended, none_next, none_unsent, settled_on}
use Rattle.vx_drivers.proofs.position_run.PositionRun.settle_next.Goals as goal

pub returns-in-None-clause-goes : goal.returns-in-None-clause-goes
returns-in-None-clause-goes g c = λ held feed positions before way.
    let run = c.read_more.new.self in
    let lines = c.read_more.new.positions in
    let now = g.D.Desk.told c.read_more.new.desk in
    let ready = c.in-Ok.ensures.reads held feed positions before way in
    let none_split = sym c.has_line.ensures ∙ c.if-not-has_line.true in
    let taken = all_taken lines none_split in
    let none = ap (λ (r : Rest). cause_behind r (run.count == POSITION_LINES_MAX)) (sym c.rest.ensures) ∙ sym c.bad_behind.ensures ∙ c.in-None.is in
    let end = ends_behind lines.rest (run.count == POSITION_LINES_MAX) none (λ more. let below = c.in-Ok.ensures.next more in omega (arith, below, taken)) in (
      lines,
      allowed_positions run.count lines now,
      ready.0,
      none_next run.count lines now c.in-Ok.ensures.lines none_split end,
      ready.1 none_split,
    )

pub returns-in-Some-clause-goes : goal.returns-in-Some-clause-goes
returns-in-Some-clause-goes g c = λ held feed positions before way.
    let run = c.read_more.new.self in
    let lines = c.read_more.new.positions in
    let now = g.D.Desk.told c.read_more.new.desk in
    let ready = c.in-Ok.ensures.reads held feed positions before way in
    let none_split = sym c.has_line.ensures ∙ c.if-not-has_line.true in
    let is_bad = ap (λ (r : Rest). cause_behind r (run.count == POSITION_LINES_MAX)) (sym c.rest.ensures) ∙ sym c.bad_behind.ensures ∙ c.in-Some.is in
    let few : run.count ≤ POSITION_LINES_MAX = omega (arith, c.requires.few, c.in-Ok.ensures.count) in
    let bad = bad_next g.S.SettlesPositions.rules run.count lines now c.in-Some.cause g.met.S.SettlesPositions.none_unsplit c.in-Ok.ensures.lines none_split few is_bad in
    line_bad g.S.SettlesPositions.rules g.S.SettlesPositions.StandsAt held feed positions before run lines now now
    (allowed_positions run.count lines now) bad.left c.bad_line.result c.in-Some.cause ready.0
    (none_unsent g.S.SettlesPositions.rules g.S.SettlesPositions.StandsAt held feed positions before run now (ready.1 none_split)) refl c.bad_line.ensures bad.left_is
    bad.bad

pub returns-then-self-eq-POSITION_LINES_MAX-clause-goes : goal.returns-then-self-eq-POSITION_LINES_MAX-clause-goes
returns-then-self-eq-POSITION_LINES_MAX-clause-goes g c = λ held feed positions before way.
    let run = c.read_more.new.self in
    let lines = c.read_more.new.positions in
    let told = g.D.Desk.told c.read_more.new.desk in
    let now = g.D.Desk.told c.end_at.new.desk in
    let ready = c.in-Ok.ensures.reads held feed positions before way in
    let below = at_hand lines c.has_line.result c.has_line.ensures c.if-not-has_line.false in
    line_bad_sent g.S.SettlesPositions.rules g.S.SettlesPositions.StandsAt held feed positions before run lines told now
    (allowed_positions run.count lines told) (ended too_many) c.bad_line-then-self-eq-POSITION_LINES_MAX.result c.end_at.result TooMany ready.0
    (c.end_at.ensures.others Feed feed_not_out) (c.end_at.ensures.others Side side_not_out) (c.end_at.ensures.others Certs certs_not_out)
    c.bad_line-then-self-eq-POSITION_LINES_MAX.ensures
    (allowed_full run.count lines told c.in-Ok.ensures.lines below c.if-self-eq-POSITION_LINES_MAX.true)
    (λ answer. refl) c.end_at.ensures.ends

pub settle_line-requires-clause-items : goal.settle_line-requires-clause-items
settle_line-requires-clause-items g c =
    let may = c.requires.may in
    let ready = c.in-Ok.ensures.reads may.0 may.1 may.2 may.3 may.4 in
    (ready.0.answer, ready.0.items, ready.0.sheet, ready.0.count)

pub settle_line-requires-clause-split : goal.settle_line-requires-clause-split
settle_line-requires-clause-split g c =
    let takes = takes_next c.fields.result c.read_more.new.positions c.in-Ok.ensures.lines.are_ahead c.fields.ensures in
    (takes.line, takes.is_split)

pub returns-in-Ok-settle_line-clause-reads : goal.returns-in-Ok-settle_line-clause-reads
returns-in-Ok-settle_line-clause-reads g c =
    next_lines c.read_more.new.positions c.take.new.self c.fields.result c.in-Ok.ensures.lines c.take.ensures.taken
    (c.take.ensures.takes c.fields.result c.fields.ensures)

pub returns-in-Ok-settle_line-clause-goes : goal.returns-in-Ok-settle_line-clause-goes
returns-in-Ok-settle_line-clause-goes g c = λ held feed positions before way.
    let run = c.read_more.new.self in
    let new = c.settle_line.new.self in
    let lines = c.read_more.new.positions in
    let next = c.take.new.self in
    let now = g.D.Desk.told c.read_more.new.desk in
    let ready = c.in-Ok.ensures.reads held feed positions before way in
    let kept = ready.0 in
    let takes = c.take.ensures.takes c.fields.result c.fields.ensures in
    let slot = (next_lines lines next c.fields.result c.in-Ok.ensures.lines c.take.ensures.taken takes).slot in
    settled_on g.S.SettlesPositions.rules g.S.SettlesPositions.StandsAt held feed positions before run new lines next now
    (allowed_positions run.count lines now) (allowed_positions new.count next now) takes.line kept
    (allowed_step run.count new.count c.fields.result lines next now now takes slot refl c.in-Ok-settle_line.ensures.lines
    (omega (arith, c.requires.few, c.in-Ok.ensures.count, c.if-self-eq-POSITION_LINES_MAX.false)))
    slot (next_given kept.lines held.side lines next c.fields.result now now takes slot refl kept.lines_read)
    c.in-Ok-settle_line.ensures.lines
    (c.in-Ok-settle_line.ensures.settles takes.line takes.is_split kept.answer kept.items kept.sheet kept.count)

pub returns-in-Err-settle_line-clause-goes : goal.returns-in-Err-settle_line-clause-goes
returns-in-Err-settle_line-clause-goes g c = λ held feed positions before way.
    let run = c.read_more.new.self in
    let lines = c.read_more.new.positions in
    let next = record lines { taken = lines.taken + 1 } in
    let told = g.D.Desk.told c.read_more.new.desk in
    let now = g.D.Desk.told c.end_at-in-Err-settle_line.new.desk in
    let ready = c.in-Ok.ensures.reads held feed positions before way in
    let kept = ready.0 in
    let takes = takes_next c.fields.result lines c.in-Ok.ensures.lines.are_ahead c.fields.ensures in
    line_ended g.S.SettlesPositions.rules g.S.SettlesPositions.StandsAt held feed positions before run c.settle_line.new.self lines told now
    (allowed_positions run.count lines told) (allowed_positions (run.count + 1) next told) takes.line
    c.in-Err-settle_line.exit c.end_at-in-Err-settle_line.result kept
    (allowed_step run.count (run.count + 1) c.fields.result lines next told told takes c.in-Ok.ensures.lines.slot refl refl
    (omega (arith, c.requires.few, c.in-Ok.ensures.count, c.if-self-eq-POSITION_LINES_MAX.false)))
    (c.end_at-in-Err-settle_line.ensures.others Feed feed_not_out) (c.end_at-in-Err-settle_line.ensures.others Side side_not_out)
    (c.end_at-in-Err-settle_line.ensures.others Certs certs_not_out)
    (c.in-Err-settle_line.ensures.settles takes.line takes.is_split kept.answer kept.items kept.sheet kept.count)
    (subst (λ (t : Text). EndsAllSent t (told Out) (now Out) c.in-Err-settle_line.exit c.end_at-in-Err-settle_line.result)
    c.in-Err-settle_line.ensures.unsent c.end_at-in-Err-settle_line.ensures.ends)

pub returns-in-Err-settle_line-clause-step : goal.returns-in-Err-settle_line-clause-step
returns-in-Err-settle_line-clause-step g c =
    step_after (exit_calls c.end_at-in-Err-settle_line.result) (g.D.Desk.told c.args.desk.now) (g.D.Desk.told c.read_more.new.desk)
    (g.D.Desk.told c.end_at-in-Err-settle_line.new.desk)
    c.in-Ok.ensures.step c.end_at-in-Err-settle_line.ensures.step

pub returns-then-self-eq-POSITION_LINES_MAX-clause-step : goal.returns-then-self-eq-POSITION_LINES_MAX-clause-step
returns-then-self-eq-POSITION_LINES_MAX-clause-step g c =
    step_after (exit_calls c.end_at.result) (g.D.Desk.told c.args.desk.now) (g.D.Desk.told c.read_more.new.desk)
    (g.D.Desk.told c.end_at.new.desk)
    c.in-Ok.ensures.step c.end_at.ensures.step
