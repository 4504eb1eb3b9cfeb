-- The names of the roots. They are Cboe's.
use Rattle.std.specs.Prelude.{ℕ, List, codes, bytes_eq, Option, Some, None, if◌then◌else◌}
use Rattle.vx_clock.specs.declared.terms.Root.{Root}
use Rattle.vx_clock.specs.declared.terms.Root.TheVariants.{Spx, Spxw}

-- the name, not padded
abbrev pub bare_root_text : Root → List ℕ
bare_root_text Spx = codes "SPX"
bare_root_text Spxw = codes "SPXW"

-- the root of a name
abbrev pub root_of_text : List ℕ → Option Root
root_of_text text =
    if bytes_eq text (bare_root_text Spx) then Some Spx
    else (if bytes_eq text (bare_root_text Spxw) then Some Spxw else None)
