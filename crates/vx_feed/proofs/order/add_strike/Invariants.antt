use Rattle.std.proofs.Common.{◌≡◌, false, take}
use Rattle.std.specs.List.{list_any}
use Rattle.vx_feed.specs.Noted.{keeps}
use Rattle.vx_feed.proofs.order.add_strike.Given as goal

-- none of those before is of the expiry, and none was changed
abbrev pub invariant-loop-declared : goal.invariant-loop-declared
invariant-loop-declared l = (list_any (keeps l.expiry) (take l.declared-index l.expiries) ≡ false) × (l.expiries ≡ l.initial.expiries)
