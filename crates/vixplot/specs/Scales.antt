-- Scales with round numbers, and where a value stands in them.
use Rattle.std.specs.Prelude.{ℕ, ◌*◌, ◌/◌, Bool, nat_le}

-- so few steps of this width reach over a distance
abbrev pub reaches : ℕ → ℕ → ℕ → Bool
reaches distance count step = nat_le distance (count * step)

-- how far from the beginning of a scale of this length a part of it lies, in a picture of that length
abbrev pub place_in : ℕ → ℕ → ℕ → ℕ
place_in part whole picture = part * picture / whole
