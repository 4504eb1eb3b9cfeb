use Rattle.std.proofs.Common.{◌≡◌, ◌∙◌, ◌≤◌, sym, refl, length}
use Rattle.std.proofs.lemmas.Result.{err_from_is_err_and}
use Rattle.vx_blocks.specs.declared.split_lines.SplitLines.{SplitLines}
use Rattle.vx_blocks.specs.SplitLines.{lines_coming}
use Rattle.vx_blocks.specs.Given.{HasGiven}
use Rattle.vx_blocks.specs.Steps.{IsFaulted, StepsBlock}
use Rattle.vx_blocks.proofs.ComingLemmas.{all_taken}
use Rattle.vx_blocks.proofs.BlockLemmas.{fault_coming, fault_given, given_split, on_fault, start_given}
use Rattle.vx_blocks.proofs.split_lines.SplitLines.read_on.Goals as goal

pub returns-in_err-fill_block-clause-coming : goal.returns-in_err-fill_block-clause-coming
returns-in_err-fill_block-clause-coming g c =
    let old = c.args.self.now in
    let new = c.fill_block.new.self in
    let before = g.D.Desk.told c.args.desk.now in
    let after = g.D.Desk.told c.fill_block.new.desk in
    let start : SplitLines = record old { block = c.clear.new.self } in
    let taken : length old.table ≤ old.taken = all_taken old (sym c.has_line.ensures ∙ c.if-has_line.false) in
    let p = err_from_is_err_and c.from_residual.result c.from_residual.ensures.1 in
    rw (p.1, p.2)
    (on_fault c.in_err-fill_block.field-0.0 (StepsBlock start before new after) (IsFaulted start new) (lines_coming new after ≡ lines_coming old before)
    (λ steps fault. fault_coming old new start before after refl refl c.clear.ensures c.requires.ahead taken fault.block steps)
    c.in_err-fill_block.ensures.steps c.in_err-fill_block.ensures.fault)

pub returns-in_err-fill_block-clause-given : goal.returns-in_err-fill_block-clause-given
returns-in_err-fill_block-clause-given g c = λ given held has.
    let old = c.args.self.now in
    let new = c.fill_block.new.self in
    let before = g.D.Desk.told c.args.desk.now in
    let after = g.D.Desk.told c.fill_block.new.desk in
    let start : SplitLines = record old { block = c.clear.new.self } in
    let taken : length old.table ≤ old.taken = all_taken old (sym c.has_line.ensures ∙ c.if-has_line.false) in
    let p = err_from_is_err_and c.from_residual.result c.from_residual.ensures.1 in
    rw (p.1, p.2)
    (on_fault c.in_err-fill_block.field-0.0 (StepsBlock start before new after) (IsFaulted start new) (HasGiven given held new after)
    (λ steps fault. fault_given given held old new start before after refl refl c.clear.ensures c.requires.ahead taken fault.block steps has)
    c.in_err-fill_block.ensures.steps c.in_err-fill_block.ensures.fault)

pub returns-clause-given : goal.returns-clause-given
returns-clause-given g c = λ given held has.
    let old = c.args.self.now in
    let before = g.D.Desk.told c.args.desk.now in
    let after = g.D.Desk.told c.fill_block.new.desk in
    let start : SplitLines = record old { block = c.clear.new.self } in
    let taken : length old.table ≤ old.taken = all_taken old (sym c.has_line.ensures ∙ c.if-has_line.false) in
    given_split given held c.fill_block.new.self c.split.new.self after c.split.ensures.lines.0 c.split.ensures.lines.1 c.split.ensures.block c.in_ok-split.ensures.first
    (c.in_ok-fill_block.ensures.steps.reads given held (start_given given held old start before refl refl c.clear.ensures c.requires.ahead taken has))
