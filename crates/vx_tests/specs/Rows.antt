-- What is tested of each listed row, as yes or no. This project's own.
use Rattle.std.specs.Prelude.{ℕ, ◌*◌, ◌^◌, ◌&&◌, ◌||◌, ◌==◌, not, nat_lt, nat_le, Bool, ℤ, pos, nat_abs, int_lt}
use Rattle.std.specs.Ordering.{int_eq}
use Rattle.vx_symbol.specs.declared.rows.StrikeRow.{StrikeRow}
use Rattle.vx_cert.specs.declared.certificate.Pair.{Pair}
use Rattle.vx_formula.specs.Pair.{pair_of, is_both_live}

-- the row's call and put are both live, and the stated pair is theirs
abbrev pub is_pair_of_row : Pair → StrikeRow → Bool
is_pair_of_row pair row = is_both_live row && (row.strike == pair.strike) && int_eq (pair_of row).d pair.d

-- the row has no pair, or the stated one is closer, or as close at a strike that is not above
abbrev pub is_as_close : Pair → StrikeRow → Bool
is_as_close pair row =
    not (is_both_live row) || nat_lt (nat_abs pair.d) (nat_abs (pair_of row).d)
    || ((nat_abs pair.d == nat_abs (pair_of row).d) && nat_le pair.strike row.strike)

abbrev pub has_strike : ℕ → StrikeRow → Bool
has_strike strike row = row.strike == strike

-- the row's strike is above a forward in units of 2^-P, if it is above the level
abbrev pub is_other_above : ℕ → ℤ → ℕ → StrikeRow → Bool
is_other_above P forward k0 row = nat_le row.strike k0 || int_lt forward (pos (row.strike * 2 ^ P))

-- the row's strike is above the level and at most twice the level
abbrev pub is_just_above : ℕ → StrikeRow → Bool
is_just_above k0 row = nat_lt k0 row.strike && nat_le row.strike (2 * k0)
