use Rattle.vx_blocks.specs.Given.{still_to_come}
use Rattle.vx_blocks.proofs.GivenLemmas.{comes_twice}
use Rattle.vx_blocks.proofs.split_lines.SplitLines.fill_block.Goals as goal

pub returns-then-not-is_empty-clause-steps : goal.returns-then-not-is_empty-clause-steps
returns-then-not-is_empty-clause-steps g c = c.in_ok-add_held.ensures.steps (g.D.Desk.told c.args.desk.now)

pub read_first-requires-clause-reading : goal.read_first-requires-clause-reading
read_first-requires-clause-reading g c = (c.in_ok-add_held.ensures.steps (g.D.Desk.told c.args.desk.now)).reading

pub returns-clause-comes_on : goal.returns-clause-comes_on
returns-clause-comes_on g c =
    let before = g.D.Desk.told c.args.desk.now in
    comes_twice (still_to_come c.args.self.now before) (still_to_come c.add_held.new.self before) (still_to_come c.read_first.new.self (g.D.Desk.told c.read_first.new.desk))
    (c.add_held.ensures.comes_on before) c.read_first.ensures.comes_on
