use Rattle.std.proofs.Common.{◌<◌, List}
use Rattle.vx_feed.specs.declared.events.Event.{Event}
use Rattle.vx_claims.specs.declared.acceptance.Test.{Test}
use Rattle.vx_claims.specs.Test.{test_number}
use Rattle.vx_claims.specs.Accepts.{scale_of}
use Rattle.vx_check.specs.Answers.{MeetsAsIndex}
use Rattle.vx_check.specs.Reached.{IsReached}
use Rattle.vx_check.specs.Numbers.{IndexNumbersMeet}
use Rattle.vx_check.proofs.index.check_index.Given as goal

abbrev pub invariant-loop-number : goal.invariant-loop-number
invariant-loop-number l = record {
  numbers : (other : Test) → test_number other < l.number → IndexNumbersMeet (scale_of l.c.v) l.c.body other;
  tests : (events : List Event) → IsReached l.book events l.c.line → (other : Test) → test_number other < l.number → MeetsAsIndex l.days l.window events l.c other;
}
