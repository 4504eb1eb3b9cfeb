-- Which entries of a strip differ from those of a strip that was kept, and have to be divided anew. This project's own.
use Rattle.std.specs.Prelude.{ℕ, Bool, not, ◌&&◌, ◌==◌, List, count_by}
use Rattle.std.specs.List.{list_any}
use Rattle.vx_formula.specs.Strip.{StripEntry}

abbrev pub is_same_entry : StripEntry → StripEntry → Bool
is_same_entry a b = a.strike == b.strike && a.d == b.d && a.q4 == b.q4

-- the entry's strike is not among those kept, or its width or its price was another one
abbrev pub is_touched : List StripEntry → StripEntry → Bool
is_touched kept entry = not (list_any (is_same_entry entry) kept)

-- how many entries of a strip are touched
abbrev pub touched_count : List StripEntry → List StripEntry → ℕ
touched_count kept entries = count_by (is_touched kept) entries
