use Rattle.std.proofs.Common.{◌<◌, List}
use Rattle.vx_feed.specs.declared.events.Event.{Event}
use Rattle.vx_feed.specs.Order.{AreLawful}
use Rattle.vx_claims.specs.declared.acceptance.Test.{Test}
use Rattle.vx_claims.specs.Test.{test_number}
use Rattle.vx_claims.specs.Accepts.{scale_of, Meets}
use Rattle.vx_check.specs.Reached.{IsReached}
use Rattle.vx_check.specs.Numbers.{BodyNumbersMeet}
use Rattle.vx_check.proofs.check.check_cert.Given as goal

abbrev pub invariant-loop-number : goal.invariant-loop-number
invariant-loop-number l = record {
  numbers : (other : Test) → test_number other < l.number → BodyNumbersMeet (scale_of l.c.v) l.c.body other;
  tests : (events : List Event) → IsReached l.book events l.c.line → AreLawful events → (other : Test) → test_number other < l.number → Meets events l.c other;
}
