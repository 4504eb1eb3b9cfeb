use Rattle.std.proofs.Common.{rules, ◌≡◌, ◌∙◌, ap, ◌+◌, ◌+ℤ◌, ◌++◌}
use Rattle.vx_cli.specs.SettleText.{position_text}
use Rattle.vx_cli.proofs.SheetLemmas.{adds_amount, adds_fault, adds_nothing}
use Rattle.vx_cli.proofs.settle.SettlementSettlesPositions.settle.Goals as goal

pub returns-in-Err : goal.returns-in-Err
returns-in-Err c = λ text split answer items stands count.
    adds_fault answer items text c.args.fields.now c.args.line.now.items c.args.self.now c.position_of_fields.result c.in-Err.fault split
    c.position_of_fields.ensures.value c.in-Err.is

pub returns-in-None : goal.returns-in-None
returns-in-None c = λ text split answer items stands count.
    adds_nothing answer items text c.args.fields.now c.args.line.now.items c.args.self.now c.position_of_fields.result c.in-Ok.position stands
    split c.position_of_fields.ensures.value c.in-Ok.is c.in-None.is c.requires.empty

pub returns : goal.returns
returns c = λ text split answer items stands count.
    let number = c.args.count + 1 in
    let amount = c.amount-amount.result in
    let line_is : c.push_position.new.line.items ≡ c.args.line.now.items ++ position_text number c.in-Ok.position amount = search rules in
    let total_is : c.add.new.self.total ≡ c.args.self.now.total +ℤ amount = search rules in
    adds_amount answer items text c.args.fields.now c.push_position.new.line.items c.args.self.now c.add.new.self c.position_of_fields.result c.in-Ok.position
    c.in-Some.figure number amount stands split c.position_of_fields.ensures.value c.in-Ok.is c.in-Some.is
    c.amount-amount.ensures.value c.amount-amount.ensures.bound c.add.ensures.figure total_is
    (line_is ∙ ap (λ t. t ++ position_text number c.in-Ok.position amount) c.requires.empty)
    (ap (λ n. n + 1) count)
