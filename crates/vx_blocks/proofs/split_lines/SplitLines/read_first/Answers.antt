use Rattle.vx_blocks.specs.Given.{still_to_come}
use Rattle.vx_blocks.proofs.GivenLemmas.{comes_twice}
use Rattle.vx_blocks.proofs.split_lines.SplitLines.read_first.Goals as goal

pub returns-in_err-add_held-clause-comes_on : goal.returns-in_err-add_held-clause-comes_on
returns-in_err-add_held-clause-comes_on g c =
    let after = g.D.Desk.told c.read_line.new.desk in
    comes_twice (still_to_come c.args.self.now (g.D.Desk.told c.args.desk.now)) (still_to_come c.read_line.new.self after) (still_to_come c.add_held.new.self after)
    c.read_line.ensures.comes_on (c.add_held.ensures.comes_on after)

pub returns-in_ok-add_held-clause-comes_on : goal.returns-in_ok-add_held-clause-comes_on
returns-in_ok-add_held-clause-comes_on g c =
    let after = g.D.Desk.told c.read_line.new.desk in
    comes_twice (still_to_come c.args.self.now (g.D.Desk.told c.args.desk.now)) (still_to_come c.read_line.new.self after) (still_to_come c.add_held.new.self after)
    c.read_line.ensures.comes_on (c.add_held.ensures.comes_on after)
