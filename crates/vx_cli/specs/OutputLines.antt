-- How output lines are written. This project's own format.
use Rattle.std.specs.Prelude.{ℕ, ℤ, List, [], ◌∷◌, ◌++◌}
use Rattle.vx_num.specs.Written.{decimal_text, signed_text}
use Rattle.vx_drivers.specs.Sending.{Text}

-- pieces with commas (44) between
abbrev pub comma_separated : List Text → Text
comma_separated [] = []
comma_separated (piece ∷ []) = piece
comma_separated (piece ∷ more ∷ pieces) = piece ++ 44 ∷ comma_separated (more ∷ pieces)

-- a line of pieces, with its LF (10)
abbrev pub line_of : List Text → Text
line_of pieces = comma_separated pieces ++ 10 ∷ []

-- a strike in points, of thousandths
abbrev pub strike_text : ℕ → Text
strike_text strike = decimal_text strike 3

-- a figure in points, of hundredths
abbrev pub cents_text : ℕ → Text
cents_text cents = decimal_text cents 2

-- an end of an index in points, of millionths
abbrev pub index_end_text : ℤ → Text
index_end_text end = signed_text end 6

-- an end of a forward in points, of units of 10^-12
abbrev pub forward_end_text : ℤ → Text
forward_end_text end = signed_text end 12
