use Rattle.std.proofs.Common.{◌∙◌, sym, ap}
use Rattle.vx_fields.specs.Lines.{lines_in, text_of}
use Rattle.vx_fields.proofs.TextLemmas.{head_all}
use Rattle.vx_fields.proofs.line.plain_lines.Goals as goal

pub returns-then-are_plain_lines-clause-head : goal.returns-then-are_plain_lines-clause-head
returns-then-are_plain_lines-clause-head c =
    c.requires.whole ∙ ap text_of (sym (head_all (lines_in c.args.text.now) (sym c.are_plain_lines.ensures ∙ c.if-are_plain_lines.true)))
