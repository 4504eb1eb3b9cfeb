-- The minutes of picked terms.
use Rattle.std.proofs.Common.{ℕ, ◌+◌, ◌-◌, ◌*◌, ◌<◌, ◌≤◌, inl, inr, ℤ, pos, negsuc, ◌-ℤ◌, ◌≤ℤ◌, ◌<ℤ◌, nat_abs, arith}
use Rattle.std.proofs.lemmas.Int.{ints}
use Rattle.std.proofs.lemmas.Bool.{cases_lt}
use Rattle.vx_clock.specs.declared.terms.Root.{Root}
use Rattle.vx_clock.specs.declared.terms.Root.TheVariants.{Spx, Spxw}
use Rattle.vx_clock.specs.declared.terms.Expiry.{Expiry}
use Rattle.vx_clock.specs.declared.terms.Moment.{Moment}
use Rattle.vx_clock.specs.Minutes.{settlement_minute, days_until, minutes_between}
use Rattle.vx_clock.specs.Terms.{IsInNearWindow, IsInNextWindow}
use Rattle.vx_term.specs.Ranges.{AreMinutesInRange, AreDaysInRange}
use Rattle.vx_interval.proofs.Widths.{within}
use Rattle.vx_accepted.specs.Picked.{IsWindowInRange, AreMinutesOfPicked, PickedMinutesAreInRange}

-- a term settles at 8:30 or at 15:00
settles_from : (root : Root) → 510 ≤ settlement_minute root
settles_from Spx = omega arith
settles_from Spxw = omega arith

settles_until : (root : Root) → settlement_minute root ≤ 900
settles_until Spx = omega arith
settles_until Spxw = omega arith

-- how far two numbers lie apart
apart : (a b m : ℕ) → a ≤ b + m → b ≤ a + m → nat_abs (pos a -ℤ pos b) ≤ m
apart a b m above below = within (pos a -ℤ pos b) m (omega (arith, ints, above)) (omega (arith, ints, below))

-- the weights of a term at most 900 minutes past the time ahead, and one at least 510 past it
weights_small : (target n1 n2 : ℕ) → n1 ≤ target + 900 → target + 510 ≤ n2 → n1 + 1050 ≤ n2 → nat_abs (pos n2 -ℤ pos target) + nat_abs (pos target -ℤ pos n1) ≤ 3 * (n2 - n1)
weights_small target n1 n2 reaches past later =
    let next = apart n2 target (n2 - target) (omega (arith, past)) (omega (arith, past)) in
    elim (cases_lt target n1) [
      | inl beyond ↦ let near = apart target n1 (n1 - target) (omega (arith, beyond)) (omega (arith, beyond)) in omega (arith, next, near, reaches, past, later, beyond)
      | inr within_time ↦ let near = apart target n1 (target - n1) (omega (arith, within_time)) (omega (arith, within_time)) in omega (arith, next, near, past, later, within_time)
    ]

-- of terms that are a and b days ahead
minutes_of : (days m a b r s : ℕ) → 7 ≤ days → days ≤ 120 → 1 ≤ a → a ≤ days → days < b → b ≤ days + 35 → 510 ≤ r → r ≤ 900 → 510 ≤ s → s ≤ 900
    → AreMinutesOfPicked days ((1440 - m) + 1440 * (a - 1) + r) ((1440 - m) + 1440 * (b - 1) + s)
minutes_of days m a b r s few many some last after until r_from r_until s_from s_until =
    let n1 : ℕ = (1440 - m) + 1440 * (a - 1) + r in
    let n2 : ℕ = (1440 - m) + 1440 * (b - 1) + s in
    let later : n1 + 1050 ≤ n2 = omega arith in
    let reaches : n1 ≤ 1440 * days + 900 = omega arith in
    let past : 1440 * days + 510 ≤ n2 = omega arith in
    let most : n2 ≤ 262800 = omega arith in
    record { near = (omega arith, omega (arith, later, most)); next = (omega arith, most); rising = omega (arith, later); weights = weights_small (1440 * days) n1 n2 reaches past later }

minutes_at : (days window m : ℕ) (y z : ℤ) (r s : ℕ) → 7 ≤ days → days ≤ 120 → window ≤ 35 → pos 1 ≤ℤ y → y ≤ℤ pos days → pos days <ℤ z → z ≤ℤ pos (days + window)
    → 510 ≤ r → r ≤ 900 → 510 ≤ s → s ≤ 900 → AreMinutesOfPicked days ((1440 - m) + 1440 * (nat_abs y - 1) + r) ((1440 - m) + 1440 * (nat_abs z - 1) + s)
minutes_at days window m (negsuc y) z r s few many short some last after until a b c d = absurd (omega (arith, ints, some))
minutes_at days window m (pos y) (negsuc z) r s few many short some last after until a b c d = absurd (omega (arith, ints, after))
minutes_at days window m (pos y) (pos z) r s few many short some last after until a b c d =
    minutes_of days m y z r s few many (omega (arith, ints, some)) (omega (arith, ints, last)) (omega (arith, ints, after)) (omega (arith, ints, until, short)) a b c d

-- the minutes of picked terms are as their interpolation asks
pub picked_minutes_are_in_range : PickedMinutesAreInRange
picked_minutes_are_in_range days window now expiries near next in_days in_window is_near is_next =
    minutes_at days window now.minute (days_until now.day near.date) (days_until now.day next.date) (settlement_minute near.root) (settlement_minute next.root)
    in_days.0 in_days.1 in_window is_near.in_window.0 is_near.in_window.2 is_next.in_window.0 is_next.in_window.1
    (settles_from near.root) (settles_until near.root) (settles_from next.root) (settles_until next.root)

-- the minutes of a term that is from 1 to 155 days ahead
minutes_ahead : (m r : ℕ) (z : ℤ) → pos 1 ≤ℤ z → z ≤ℤ pos 155 → 510 ≤ r → r ≤ 900 → AreMinutesInRange ((1440 - m) + 1440 * (nat_abs z - 1) + r)
minutes_ahead m r (negsuc z) some most from until = absurd (omega (arith, ints, some))
minutes_ahead m r (pos z) some most from until = let n : z ≤ 155 = omega (arith, ints, most) in (omega (arith, from), omega (arith, n, until))

-- the minutes of a near term, and of a next one, are in range
pub near_minutes_are_in_range : (days window : ℕ) (now : Moment) (x : Expiry) → AreDaysInRange days → IsInNearWindow now.day days window x → AreMinutesInRange (minutes_between now x)
near_minutes_are_in_range days window now x in_days inside =
    let most = in_days.1 in
    let until = inside.2 in
    minutes_ahead now.minute (settlement_minute x.root) (days_until now.day x.date) inside.0 (omega (arith, ints, until, most)) (settles_from x.root) (settles_until x.root)

-- the minutes to an expiry in the next term's window are in range
pub next_minutes_are_in_range : (days window : ℕ) (now : Moment) (x : Expiry) → AreDaysInRange days → IsWindowInRange window → IsInNextWindow now.day days window x → AreMinutesInRange (minutes_between now x)
next_minutes_are_in_range days window now x in_days in_window inside =
    let few = in_days.0 in
    let most = in_days.1 in
    let after = inside.0 in
    let until = inside.1 in
    minutes_ahead now.minute (settlement_minute x.root) (days_until now.day x.date) (omega (arith, ints, after, few)) (omega (arith, ints, until, most, in_window)) (settles_from x.root) (settles_until x.root)
