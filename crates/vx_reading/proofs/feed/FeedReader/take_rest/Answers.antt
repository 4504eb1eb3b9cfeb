use Rattle.std.proofs.Common.{◌∙◌, sym, ap}
use Rattle.vx_reading.specs.FeedAhead.{cause_of_rest}
use Rattle.vx_reading.proofs.NextLemmas.{bad_rest_read, end_read}
use Rattle.vx_reading.proofs.feed.FeedReader.take_rest.Goals as goal

pub returns-in-None-clause-takes : goal.returns-in-None-clause-takes
returns-in-None-clause-takes g c = λ told held whole events at.
    end_read g.T.TakesEvents.StandsFor held whole events c.args.self.now told c.end.result at c.requires.next c.requires.none (ap cause_of_rest (sym c.rest.ensures) ∙ sym c.in-None.ensures) c.end.ensures

pub returns-in-Some-clause-takes : goal.returns-in-Some-clause-takes
returns-in-Some-clause-takes g c = λ told held whole events at.
    bad_rest_read g.T.TakesEvents.StandsFor held whole events c.args.self.now told c.in-Some.cause at c.requires.none (ap cause_of_rest (sym c.rest.ensures) ∙ sym c.in-Some.ensures)
