-- The theorem: an accepted certificate means what it says, whoever made it.
use Rattle.std.specs.Prelude.{ℕ, ◌+◌, ◌≤◌, List}
use Rattle.vx_clock.specs.declared.limits.TheConstants.{DAYS_AHEAD_MAX}
use Rattle.vx_feed.specs.declared.events.Event.{Event}
use Rattle.vx_feed.specs.Order.{AreLawful}
use Rattle.vx_cert.specs.declared.certificate.Certificate.{Certificate}
use Rattle.vx_claims.specs.Accepts.{AcceptsFor}
use Rattle.vx_claims.specs.Means.{MeansFor}

-- for any days and window that a feed may reach; the index is the case of 30 and 7
abbrev pub AcceptedMeans : Type 0
AcceptedMeans = (days window : ℕ) (events : List Event) (c : Certificate) → days + window ≤ DAYS_AHEAD_MAX → AreLawful events →
    AcceptsFor days window events c → MeansFor days window events c
