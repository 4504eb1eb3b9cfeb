-- The opening stands at the line that follows those before it.
use Rattle.std.proofs.Common.{◌≡◌, sym, subst, ℕ, ◌+◌, ◌-◌, List, length, Some, arith}
use Rattle.std.specs.List.{slice_get}
use Rattle.vx_feed.specs.declared.events.Event.{Event}
use Rattle.vx_feed.specs.declared.events.Event.TheVariants as event
use Rattle.vx_feed.specs.Standing.{before_opening}
use Rattle.vx_feed.specs.Opening.{opening_line, opening_time}
use Rattle.vx_feed.proofs.OpeningLemmas.{taken_at}
use Rattle.vx_claims.specs.Seen.{IsOpeningAt}

less_one : (n : ℕ) → n + 1 - 1 ≡ n
less_one n = omega arith

-- an opening that was taken stands at its line and minute
pub opening_stands : (events : List Event) (time : ℕ) → opening_time events ≡ Some time → IsOpeningAt events (opening_line events) time
opening_stands events time h =
    let n : ℕ = length (before_opening events) in
    (omega arith, subst (λ (k : ℕ). slice_get events k ≡ Some (event.Opening time)) (sym (less_one n)) (taken_at events time h))
