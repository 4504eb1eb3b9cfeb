use Rattle.vx_reading.proofs.RunLemmas.{IsReadOn}
use Rattle.vx_reading.proofs.feed.FeedReader.read_to.Given as goal

abbrev pub invariant-loop : goal.invariant-loop
invariant-loop g l = IsReadOn g.T.TakesEvents.StandsFor l.initial.self (g.D.Desk.told l.initial.desk) l.self (g.D.Desk.told l.desk) l.counter
