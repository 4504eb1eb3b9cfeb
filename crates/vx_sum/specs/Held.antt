-- What every kept strip keeps: that the sum it holds is its own strip's. This project's own.
use Rattle.std.specs.Prelude.{ℕ, Option, Some, None}
use Rattle.vx_strip.specs.Entries.{entries_of, DoStrikesRise}
use Rattle.vx_sum.specs.declared.kept.Kept.{Kept}
use Rattle.vx_sum.specs.Sums.{IsSumOf}

pub record IsOwnSum (P : ℕ) (kept : Kept P) : Type 0 where
  pub sum_is : IsSumOf P (entries_of kept.strip) kept.sum
  pub rising : DoStrikesRise kept.strip

abbrev pub IsOwn : (P : ℕ) → Option (Kept P) → Type 0
IsOwn P None = Unit {0}
IsOwn P (Some kept) = IsOwnSum P kept
