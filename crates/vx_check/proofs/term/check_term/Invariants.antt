use Rattle.std.proofs.Common.{◌<◌, ◌≤◌, List}
use Rattle.vx_feed.specs.declared.events.Event.{Event}
use Rattle.vx_claims.specs.declared.acceptance.Test.{Test}
use Rattle.vx_claims.specs.declared.acceptance.Test.TheVariants.{Exponential}
use Rattle.vx_claims.specs.Test.{test_number}
use Rattle.vx_claims.specs.Accepts.{scale_of, TermMeetsAt}
use Rattle.vx_tests.specs.Terms.{NumbersMeet}
use Rattle.vx_check.specs.Reached.{IsReached}
use Rattle.vx_check.proofs.term.check_term.Given as goal

abbrev pub invariant-loop-number : goal.invariant-loop-number
invariant-loop-number l = record {
  from : l.first ≤ l.number;
  numbers : (other : Test) → test_number Exponential ≤ test_number other → test_number other < l.number → NumbersMeet (scale_of l.v) l.t other;
  tests : (events : List Event) → IsReached l.book events l.line → (other : Test) → l.first ≤ test_number other → test_number other < l.number
      → TermMeetsAt events l.v l.line l.time l.t other;
}
