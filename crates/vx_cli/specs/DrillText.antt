-- What `drill` writes: how the ticks of a sample feed are answered. This project's own format.
use Rattle.std.specs.Prelude.{◌≡◌, ℕ, List, ◌∷◌, length, codes}
use Rattle.vx_clock.specs.declared.limits.TheConstants.{INDEX_DAYS, INDEX_WINDOW}
use Rattle.vx_feed.specs.Written.{count_text}
use Rattle.vx_make.specs.Feed.{make_events}
use Rattle.vx_drivers.specs.Sending.{Text}
use Rattle.vx_cli.specs.OutputLines.{line_of}
use Rattle.vx_cli.specs.ReplayText.{Answered, AnswerTicks, tally_of}

-- `DRILL,lines,ticks,published,undecided,refused`, of the sample feed with this number and so many ticks
pub record Drills (number ticks : ℕ) (out : Text) : Type 0 where
  pub answers : List Answered
  pub are_answers : AnswerTicks INDEX_DAYS INDEX_WINDOW (make_events number ticks) answers
  pub out_is : out ≡ line_of (codes "DRILL" ∷ count_text (length (make_events number ticks)) ∷ tally_of answers)
