-- What a request that was read asks for, and the ranges of its numbers.
use Rattle.std.specs.Prelude.{ℕ, ◌<◌, ◌≤◌}
use Rattle.vx_make.specs.declared.limits.TheConstants.{STATES, TICKS_MAX}
use Rattle.vx_cli.specs.declared.request.Request.{Request}
use Rattle.vx_cli.specs.declared.request.Request.TheVariants.{Check, Drill, Make, Replay, Settle}
use Rattle.vx_cli.specs.Words.{Command, check, drill, make, replay, settle}

abbrev pub asked : Request → Command
asked (Replay feed certs) = replay feed.now certs.now
asked (Check feed certs) = check feed.now certs.now
asked (Settle feed positions certs) = settle feed.now positions.now certs.now
asked (Make number ticks) = make number ticks
asked (Drill number ticks) = drill number ticks

-- there is a sample feed of a number and so many ticks
abbrev pub IsSample : ℕ → ℕ → Type 0
IsSample number ticks = (number < STATES) × (1 ≤ ticks) × (ticks ≤ TICKS_MAX)

-- the numbers of a request for a sample feed are those of one
abbrev pub IsRequestInRange : Request → Type 0
IsRequestInRange (Replay feed certs) = Unit {0}
IsRequestInRange (Check feed certs) = Unit {0}
IsRequestInRange (Settle feed positions certs) = Unit {0}
IsRequestInRange (Make number ticks) = IsSample number ticks
IsRequestInRange (Drill number ticks) = IsSample number ticks
