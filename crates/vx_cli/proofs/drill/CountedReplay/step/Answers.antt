use Rattle.vx_cli.proofs.DrillLemmas.{counted_few, counts_more, room_for_counted_line}
use Rattle.vx_cli.proofs.drill.CountedReplay.step.Goals as goal

pub count-requires-clause-room : goal.count-requires-clause-room
count-requires-clause-room c =
    let some = c.requires.lawful in room_for_counted_line some.0 c.args.event c.args.self.now.counts some.2 some.1.counted

pub count-requires-clause-few : goal.count-requires-clause-few
count-requires-clause-few c = let some = c.requires.lawful in counted_few some.0 c.args.self.now.counts some.1.counted

pub returns-clause-taken : goal.returns-clause-taken
returns-clause-taken c = λ events h next. record {
  stands = c.in_ok-answer.ensures.stands events h.stands next;
  counted = counts_more events c.args.event c.in_ok-answer.answer c.args.self.now.counts c.count.new.self
      (c.in_ok-answer.ensures.answer events h.stands next)
      (record {
        lines = c.count.ensures.lines;
        published = c.count.ensures.published;
        undecided = c.count.ensures.undecided;
        refused = c.count.ensures.refused;
      }) h.counted;
}
