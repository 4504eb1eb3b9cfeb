use Rattle.std.proofs.Common.{◌∙◌, sym, subst, ap, ◌+◌, ◌++◌, inl, refl, Option}
use Rattle.vx_drivers.specs.PositionExits.{IsPositionExit}
use Rattle.vx_drivers.specs.PositionSteps.{AddsUnless}
use Rattle.vx_drivers.specs.Exits.{exit_calls}
use Rattle.vx_drivers.specs.Sending.{Text}
use Rattle.vx_drivers.proofs.PositionRunLemmas.{fault_ends, item_kept}
use Rattle.vx_drivers.proofs.position_run.PositionRun.settle_line.Goals as goal

pub returns-in-Ok-Some-clause-settles : goal.returns-in-Ok-Some-clause-settles
returns-in-Ok-Some-clause-settles g c = λ text split answer items stands count.
    let adds = subst (λ (o : Option _). AddsUnless g.S.SettlesPositions.rules g.S.SettlesPositions.StandsAt answer items text
    c.settle.new.line.items c.settle.new.self o) c.in-Ok-Some.field-0-is (c.in-Ok-Some.ensures text split answer items stands count) in
    fault_ends g.S.SettlesPositions.rules g.S.SettlesPositions.StandsAt answer items text c.args.self.now
    (record c.args.self.now { sheet = c.settle.new.self; line = c.settle.new.line }) c.args.self.now.count c.in-Ok-Some.fault c.bad_line.result count c.bad_line.ensures adds.0

pub returns-in-Ok-Some-clause-exits : goal.returns-in-Ok-Some-clause-exits
returns-in-Ok-Some-clause-exits g c =
    let split = c.requires.split in
    let items = c.requires.items in
    let adds = subst (λ (o : Option _). AddsUnless g.S.SettlesPositions.rules g.S.SettlesPositions.StandsAt items.0 items.1 split.0
    c.settle.new.line.items c.settle.new.self o) c.in-Ok-Some.field-0-is (c.in-Ok-Some.ensures split.0 split.1 items.0 items.1 items.2 items.3) in
    subst IsPositionExit (sym c.bad_line.ensures) adds.1

pub returns-in-Ok-Some-clause-calls : goal.returns-in-Ok-Some-clause-calls
returns-in-Ok-Some-clause-calls g c = ap exit_calls c.bad_line.ensures

pub returns-in-Err-clause-settles : goal.returns-in-Err-clause-settles
returns-in-Err-clause-settles g c = λ text split answer items stands count. inl refl

pub returns-in-Err-extend_from_slice-clause-settles : goal.returns-in-Err-extend_from_slice-clause-settles
returns-in-Err-extend_from_slice-clause-settles g c = λ text split answer items stands count. inl refl

pub returns-clause-settles : goal.returns-clause-settles
returns-clause-settles g c = λ text split answer items stands count.
    let adds = subst (λ (o : Option _). AddsUnless g.S.SettlesPositions.rules g.S.SettlesPositions.StandsAt answer items text
    c.settle.new.line.items c.settle.new.self o) c.in-Ok-None.field-0-is (c.in-Ok-None.ensures text split answer items stands count) in
    item_kept g.S.SettlesPositions.rules g.S.SettlesPositions.StandsAt answer items text c.settle.new.line.items c.settle.new.self c.args.self.now
    (record c.args.self.now { sheet = c.settle.new.self; count = c.args.self.now.count + 1; line = c.settle.new.line; unsent = c.extend_from_slice.new.self })
    adds refl (c.in-Ok.ensures.items ∙ ap (λ (t : Text). c.args.self.now.unsent.items ++ t) c.as_slice.ensures.value)
