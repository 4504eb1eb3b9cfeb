-- What the digits of a text read so far are known to be worth: the numbers are exact below a cap, and above it only known to be there.
use Rattle.std.specs.Prelude.{◌≡◌, ℕ, ◌+◌, ◌*◌, ◌^◌, List, min}
use Rattle.vx_num.specs.Decimal.{digits_worth}

-- the value is the worth, or both are at least the cap
abbrev pub IsWorth : ℕ → ℕ → ℕ → Type 0
IsWorth cap value worth = min value cap ≡ min worth cap

-- the value is what these digits are worth behind digits worth `start`, which they raise by `count` places, as far as it is below the cap
abbrev pub IsWorthBehind : ℕ → ℕ → ℕ → List ℕ → ℕ → Type 0
IsWorthBehind cap start count digits value = IsWorth cap value (start * 10 ^ count + digits_worth digits)
