-- The one form of eight fields says an undecided forward.
use Rattle.std.proofs.Common.{◌∙◌, ap}
use Rattle.vixplot.specs.Lines as spec
use Rattle.vixplot.proofs.LineLemmas.{forward_said, text_at}
use Rattle.vixplot.proofs.line.line_of.Goals as goal

pub returns-in-UND-2-clause-line : goal.returns-in-UND-2-clause-line
returns-in-UND-2-clause-line c =
    let fields = c.args.fields.now in
    forward_said fields c.tick_line-in-UND-2.result c.in-UND-2.len_at_least c.in-UND-2.len_below c.in-UND-2.is-UND c.in-UND-2.is-forward
    (c.tick_line-in-UND-2.ensures.line ∙ ap (spec.tick_line (text_at fields 1) (text_at fields 2)) c.forward_answer.ensures.answer)
