-- The words of a command line, those after the program's name. The command forms are this project's own.
use Rattle.std.specs.Prelude.{◌==◌, ◌-◌, ℕ, Bool, false, not, List, [], ◌∷◌, Option, Some, None, codes, if◌then◌else◌, option_map, option_and_then}
use Rattle.std.specs.List.{list_all}
use Rattle.std.specs.Option.{option_zip}
use Rattle.std.specs.Result.{result_ok}
use Rattle.std.specs.Str.{bytes_eq}
use Rattle.vx_num.specs.Decimal.{decimal_of}
use Rattle.vx_feed.specs.Form.{if_positive}
use Rattle.vx_make.specs.declared.limits.TheConstants.{STATES, TICKS_MAX}
use Rattle.vx_drivers.specs.Sending.{Text}

-- the word is not empty and does not begin with `-` (45)
abbrev pub is_plain_word : Text → Bool
is_plain_word [] = false
is_plain_word (byte ∷ rest) = not (byte == 45)

-- the two words, where there are just two
abbrev pub two_of : List Text → Option (Text × Text)
two_of (first ∷ second ∷ []) = Some (first, second)
two_of _ = None

-- the three words, where there are just three
abbrev pub three_of : List Text → Option (Text × Text × Text)
three_of (first ∷ second ∷ third ∷ []) = Some (first, second, third)
three_of _ = None

-- what a command line asks for: `replay`, `check` and `settle` with the names of their files, `make` and `drill` with
-- the number and the ticks of a sample feed
pub data Command : Type 0 where
  replay : Text → Text → Command
  check : Text → Text → Command
  settle : Text → Text → Text → Command
  make : ℕ → ℕ → Command
  drill : ℕ → ℕ → Command

-- no file is named twice
abbrev pub two_files : Text × Text → Option (Text × Text)
two_files files = if bytes_eq files.0 files.1 then None else Some files

-- `replay FEED CERTS`
abbrev pub replay_form : List Text → Option Command
replay_form operands = option_map (λ files. replay files.0 files.1) (option_and_then two_files (two_of operands))

-- `check FEED CERTS`
abbrev pub check_form : List Text → Option Command
check_form operands = option_map (λ files. check files.0 files.1) (option_and_then two_files (two_of operands))

abbrev pub three_files : Text × Text × Text → Option (Text × Text × Text)
three_files files =
    if bytes_eq files.0 files.1 then None
    else if bytes_eq files.0 files.2 then None
    else if bytes_eq files.1 files.2 then None
    else Some files

-- `settle FEED POSITIONS CERTS`
abbrev pub settle_form : List Text → Option Command
settle_form operands =
    option_map (λ files. settle files.0 files.1 files.2) (option_and_then three_files (three_of operands))

-- the number of a sample feed: a state of the generator, in digits
abbrev pub sample_number_of : Text → Option ℕ
sample_number_of text = result_ok (decimal_of text 0 (STATES - 1))

-- how many ticks a sample feed has: at least one, in digits
abbrev pub sample_ticks_of : Text → Option ℕ
sample_ticks_of text = if_positive (result_ok (decimal_of text 0 TICKS_MAX))

abbrev pub sample_of : Text × Text → Option (ℕ × ℕ)
sample_of texts = option_zip (sample_number_of texts.0) (sample_ticks_of texts.1)

-- `make NUMBER TICKS`
abbrev pub make_form : List Text → Option Command
make_form operands = option_map (λ sample. make sample.0 sample.1) (option_and_then sample_of (two_of operands))

-- `drill NUMBER TICKS`
abbrev pub drill_form : List Text → Option Command
drill_form operands = option_map (λ sample. drill sample.0 sample.1) (option_and_then sample_of (two_of operands))

-- the form that a command's name asks for
abbrev pub named_form : Text → List Text → Option Command
named_form name operands =
    if bytes_eq name (codes "replay") then replay_form operands
    else if bytes_eq name (codes "check") then check_form operands
    else if bytes_eq name (codes "settle") then settle_form operands
    else if bytes_eq name (codes "make") then make_form operands
    else if bytes_eq name (codes "drill") then drill_form operands
    else None

abbrev pub form_of : List Text → Option Command
form_of [] = None
form_of (name ∷ operands) = named_form name operands

-- the command that the words ask for, where they are a command form
abbrev pub command_of : List Text → Option Command
command_of words = if list_all is_plain_word words then form_of words else None
