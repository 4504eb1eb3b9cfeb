-- What a kept strip holds: the strip of the last successful refresh, and its sum. This project's own.
use Rattle.std.specs.Prelude.{◌≡◌, ℕ, List, [], Option, Some, None}
use Rattle.vx_formula.specs.Strip.{StripEntry}
use Rattle.vx_strip.specs.declared.strip.Strip.{Strip}
use Rattle.vx_strip.specs.Entries.{entries_of}
use Rattle.vx_sum.specs.declared.kept.Kept.{Kept}
use Rattle.vx_sum.specs.declared.sum.StripSum.{StripSum}
use Rattle.vx_sum.specs.Sums.{IsSumOf}

-- the entries that a refresh compares with: none before the first one
abbrev pub kept_entries : {P : ℕ} → Option (Kept P) → List StripEntry
kept_entries None = []
kept_entries (Some kept) = entries_of kept.strip

-- the strip is held, with its sum
pub record Holds (P : ℕ) (strip : Strip) (held : Option (Kept P)) : Type 0 where
  pub sum : StripSum P
  pub is_held : held ≡ Some (record { strip = strip; sum = sum })
  pub sum_is : IsSumOf P (entries_of strip) sum
