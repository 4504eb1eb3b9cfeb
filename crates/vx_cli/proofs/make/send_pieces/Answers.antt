use Rattle.std.proofs.Common.{◌≡◌, ◌∙◌, subst, None, arith}
use Rattle.std.proofs.lemmas.Result.{err_from_is_err_and}
use Rattle.vx_desk.specs.declared.device.Slot.TheVariants.{Out}
use Rattle.vx_desk.proofs.CallLemmas.{step_after}
use Rattle.vx_drivers.specs.Exits.{calls_in, exit_calls}
use Rattle.vx_drivers.specs.Sending.{Sent}
use Rattle.vx_make.specs.Pieces.{made_text}
use Rattle.vx_cli.proofs.PiecesLemmas.{head_cut, head_sent, last_sends, tick_cut, tick_sent}
use Rattle.vx_cli.proofs.make.send_pieces.Goals as goal

pub loop-init : goal.loop-init
loop-init g c = record {
  made = c.in-Ok.ensures;
  sent = head_sent c.args.number c.head.result.now (g.D.Desk.told c.args.desk.now Out) (g.D.Desk.told c.send_line.new.desk Out) (c.head.ensures c.args.number c.args.ticks 0 c.in-Ok.ensures) c.in_ok-send_line.ensures.sends;
  others = c.in_ok-send_line.ensures.others;
  step = c.in_ok-send_line.ensures.step;
}

pub loop-preserved : goal.loop-preserved
loop-preserved g c =
    let inv = c.loop.invariant in record {
      made = c.make_tick.ensures.made c.args.number c.args.ticks c.loop.counter inv.made;
      sent = tick_sent c.args.number c.loop.counter c.tick_lines.result.now (g.D.Desk.told c.args.desk.now Out) (g.D.Desk.told c.loop.desk Out) (g.D.Desk.told c.send_line-in-loop.new.desk Out)
          (c.tick_lines.ensures ∙ c.make_tick.ensures.lines c.args.number c.args.ticks c.loop.counter inv.made) inv.sent c.in_ok-send_line-2.ensures.sends;
      others = λ s ne. c.in_ok-send_line-2.ensures.others s ne ∙ inv.others s ne;
      step = step_after None (g.D.Desk.told c.args.desk.now) (g.D.Desk.told c.loop.desk) (g.D.Desk.told c.send_line-in-loop.new.desk) inv.step c.in_ok-send_line-2.ensures.step;
    }

pub returns-in_err-send_line-clause-makes : goal.returns-in_err-send_line-clause-makes
returns-in_err-send_line-clause-makes g c =
    let before = g.D.Desk.told c.args.desk.now in
    let after = g.D.Desk.told c.send_line.new.desk in
    let exit = c.in_err-send_line.field-0.0 in
    let p = err_from_is_err_and c.from_residual.result c.from_residual.ensures.1 in
    rw (p.1, p.2)
    (head_cut c.args.number c.args.ticks c.head.result.now (before Out) (after Out) exit
    (c.head.ensures c.args.number c.args.ticks 0 c.in-Ok.ensures) c.in_err-send_line.ensures.sends)

pub returns-in_err-send_line-2-clause-makes : goal.returns-in_err-send_line-2-clause-makes
returns-in_err-send_line-2-clause-makes g c =
    let before = g.D.Desk.told c.args.desk.now in
    let between = g.D.Desk.told c.loop.desk in
    let after = g.D.Desk.told c.send_line-in-loop.new.desk in
    let inv = c.loop.invariant in
    let exit = c.in_err-send_line-2.field-0.0 in
    let p = err_from_is_err_and c.from_residual-in_err-send_line-2.result c.from_residual-in_err-send_line-2.ensures.1 in
    rw (p.1, p.2)
    (tick_cut c.args.number c.args.ticks c.loop.counter c.tick_lines.result.now (before Out) (between Out) (after Out) exit
    c.loop-test.true (c.tick_lines.ensures ∙ c.make_tick.ensures.lines c.args.number c.args.ticks c.loop.counter inv.made)
    inv.sent c.in_err-send_line-2.ensures.sends)

pub returns-in_err-send_line-2-clause-step : goal.returns-in_err-send_line-2-clause-step
returns-in_err-send_line-2-clause-step g c =
    let before = g.D.Desk.told c.args.desk.now in
    let between = g.D.Desk.told c.loop.desk in
    let after = g.D.Desk.told c.send_line-in-loop.new.desk in
    let exit = c.in_err-send_line-2.field-0.0 in
    let p = err_from_is_err_and c.from_residual-in_err-send_line-2.result c.from_residual-in_err-send_line-2.ensures.1 in
    rw (p.1, p.2)
    (step_after (exit_calls exit) before between after c.loop.invariant.step c.in_err-send_line-2.ensures.step)

pub returns-clause-makes : goal.returns-clause-makes
returns-clause-makes g c =
    let inv = c.loop.invariant in
    let all : c.loop.counter ≡ c.args.ticks = omega (arith, c.loop-test.false, c.loop.auto.counter-end) in
    last_sends c.args.number c.args.ticks c.last_line.result.now (g.D.Desk.told c.args.desk.now Out) (g.D.Desk.told c.loop.desk Out)
    (g.D.Desk.told c.send_line-2.new.desk Out) c.send_line-2.result
    (c.last_line.ensures c.args.number c.args.ticks c.loop.counter inv.made)
    (subst (λ made. Sent (made_text c.args.number made) (g.D.Desk.told c.args.desk.now Out) (g.D.Desk.told c.loop.desk Out)) all inv.sent)
    c.send_line-2.ensures.sends

pub returns-clause-step : goal.returns-clause-step
returns-clause-step g c =
    step_after (calls_in c.send_line-2.result) (g.D.Desk.told c.args.desk.now) (g.D.Desk.told c.loop.desk)
    (g.D.Desk.told c.send_line-2.new.desk) c.loop.invariant.step c.send_line-2.ensures.step
