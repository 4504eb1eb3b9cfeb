use Rattle.std.proofs.Common.{◌∙◌, ap, arith, ◌++◌, ◌∷◌, []}
use Rattle.std.proofs.lemmas.List.{length-append}
use Rattle.vx_fields.specs.Lines.{lines_in}
use Rattle.vx_fields.proofs.BlockLines.{all-append, length-lines_in, lines_in-push, whole-push}
use Rattle.vx_fields.proofs.block.LineBlock.push.Goals as goal

pub overflow_add-self : goal.overflow_add-self
overflow_add-self c =
    let few = length-lines_in c.self.inside.text.items in
    let in_room = c.self.inside.text.ok in
    let small = c.self.inside.text.small in
    let count = c.self.invariant.2 in
    omega arith

pub invariant_of-self-2 : goal.invariant_of-self-2
invariant_of-self-2 c =
    let whole = c.self.invariant.0 in
    let plain = c.self.invariant.1 in
    let count = c.self.invariant.2 in
    let lines = lines_in-push c.self.inside.text.items c.append_line.new.text.items c.args.line.now whole plain c.requires c.in_ok-append_line.ensures.ok in (
      whole-push c.self.inside.text.items c.append_line.new.text.items c.args.line.now whole plain c.requires c.in_ok-append_line.ensures.ok,
      rw lines (all-append (lines_in c.self.inside.text.items) c.args.line.now plain c.requires),
      rw lines (omega (arith, count, length-append (lines_in c.self.inside.text.items) (c.args.line.now ∷ []))),
    )

pub returns-clause-ok : goal.returns-clause-ok
returns-clause-ok c =
    lines_in-push c.self.inside.text.items c.append_line.new.text.items c.args.line.now c.self.invariant.0 c.self.invariant.1 c.requires c.in_ok-append_line.ensures.ok
    ∙ ap (λ ls. ls ++ c.args.line.now ∷ []) c.self.view_is
