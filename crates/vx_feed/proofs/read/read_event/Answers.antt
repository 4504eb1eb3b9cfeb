use Rattle.std.proofs.Common.{◌∙◌, ap, sym, inr}
use Rattle.vx_feed.specs.Feed.{next_event}
use Rattle.vx_feed.proofs.ReadLemmas.{fields_of_one, split_says}
use Rattle.vx_feed.proofs.read.read_event.Goals as goal

pub returns-clause-value : goal.returns-clause-value
returns-clause-value c = λ events stands.
    let line = c.args.line.now in
    let split = c.in_ok-fill.ensures.ok in
    let one = c.in_ok-push.ensures.ok in
    let fields = fields_of_one c.fill.new.self c.push.new.self c.new-block.result line c.line.result c.line.ensures split one c.new-block.ensures in
    let none = sym c.why_unsplit.ensures.cause ∙ c.in_default.is in
    inr (c.event_of_fields.ensures.value events stands ∙ ap (next_event events) fields ∙ sym (split_says events line none))
