use Rattle.std.proofs.Common.{◌∙◌, ap, arith, ◌++◌}
use Rattle.std.proofs.lemmas.List.{length-append}
use Rattle.vx_fields.specs.Lines.{lines_in}
use Rattle.vx_fields.proofs.BlockLines.{length-lines_in}
use Rattle.vx_fields.proofs.TextLemmas.{lines_in-more, plain-more, whole-more}
use Rattle.vx_fields.proofs.block.LineBlock.push_text.Goals as goal

pub overflow_add-self : goal.overflow_add-self
overflow_add-self c =
    let few = length-lines_in c.self.inside.text.items in
    let in_room = c.self.inside.text.ok in
    let small = c.self.inside.text.small in
    let count = c.self.invariant.2 in
    let more = length-lines_in c.args.text.now in
    let size = c.type_inv.text in
    let counted = c.count_lines.ensures in
    omega arith

pub invariant_of-self-2 : goal.invariant_of-self-2
invariant_of-self-2 c =
    let whole = c.self.invariant.0 in
    let plain = c.self.invariant.1 in
    let count = c.self.invariant.2 in
    let old = c.self.inside.text.items in
    let text = c.args.text.now in
    let lines = lines_in-more old c.append_text.new.text.items text whole plain c.in_ok-append_text.ensures.ok in (
      whole-more old c.append_text.new.text.items text whole plain c.requires.whole c.in_ok-append_text.ensures.ok,
      rw lines (plain-more (lines_in old) (lines_in text) plain c.requires.plain),
      rw lines (omega (arith, count, c.count_lines.ensures, length-append (lines_in old) (lines_in text))),
    )

pub returns-clause-ok : goal.returns-clause-ok
returns-clause-ok c =
    lines_in-more c.self.inside.text.items c.append_text.new.text.items c.args.text.now c.self.invariant.0 c.self.invariant.1 c.in_ok-append_text.ensures.ok
    ∙ ap (λ ls. ls ++ lines_in c.args.text.now) c.self.view_is
