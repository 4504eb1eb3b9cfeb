-- A line that is no tick is counted, and gives no answer.
use Rattle.std.proofs.Common.{◌∙◌, sym, add-zero}
use Rattle.vx_cli.proofs.AnswerLemmas.{is_no_tick}
use Rattle.vx_cli.proofs.DrillLemmas.{counts_quiet, room_for_counted_line}
use Rattle.vx_cli.proofs.drill.CountedReplay.take_up.Goals as goal

pub take_up-requires-clause-no_tick : goal.take_up-requires-clause-no_tick
take_up-requires-clause-no_tick c = is_no_tick c.args.event c.requires.no_tick

pub count_line-requires : goal.count_line-requires
count_line-requires c =
    let some = c.requires.lawful in
    record { room = room_for_counted_line some.0 c.args.event c.args.self.now.counts some.2 some.1.counted }

pub returns-clause-taken : goal.returns-clause-taken
returns-clause-taken c = λ events h next. let old = c.args.self.now.counts in record {
  stands = c.in_ok-take_up.ensures.stands events h.stands next;
  counted = counts_quiet events c.args.event old c.count_line.new.self c.requires.no_tick
      (record {
        lines = c.count_line.ensures.lines;
        published = c.count_line.ensures.published ∙ sym (add-zero old.published);
        undecided = c.count_line.ensures.undecided ∙ sym (add-zero old.undecided);
        refused = c.count_line.ensures.refused ∙ sym (add-zero old.refused);
      }) h.counted;
}
