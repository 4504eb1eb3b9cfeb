use Rattle.vx_blocks.proofs.BlockLemmas.{line_steps}
use Rattle.vx_blocks.proofs.split_lines.SplitLines.read_line.Goals as goal

pub returns-in-Ok-Some-clause-steps : goal.returns-in-Ok-Some-clause-steps
returns-in-Ok-Some-clause-steps g c =
    line_steps c.args.self.now c.add.new.self c.next.new.self (g.D.Desk.told c.args.desk.now) (g.D.Desk.told c.next.new.desk) c.in-Ok-Some.field-0 c.in-Ok-Some.line c.in-Ok-Some.field-0-is
    c.requires.more c.next.ensures.slot c.in-Ok-Some.ensures.answers (c.in-Ok-Some.ensures.takes (c.requires.reading.may_read c.requires.more))
    c.in_ok-add-in-Ok-Some.ensures.reading c.add.ensures.lines c.in_ok-add-in-Ok-Some.ensures.adds
