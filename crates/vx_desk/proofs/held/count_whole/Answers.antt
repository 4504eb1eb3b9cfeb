use Rattle.std.proofs.Common.{arith, length-drop}
use Rattle.std.proofs.lemmas.List.{take_rest}
use Rattle.vx_desk.proofs.HeldLemmas.{lines_behind}
use Rattle.vx_desk.proofs.held.count_whole.Goals as goal

pub lines-preserved : goal.lines-preserved
lines-preserved c =
    let within = rw take_rest at c.lines_within-more.ensures.within in
    record {
      within = omega (arith, within, length-drop c.lines.taken c.args.bytes.now, c.lines.invariant.within);
      lines = lines_behind c.args.limit c.args.bytes.now c.lines.taken c.lines_within-more.result c.lines.invariant.lines (rw take_rest at c.lines_within-more.ensures.lines);
    }
