-- What a line of a position says (the form is this project's own). A line's fields are the pieces between
-- its commas, counted from 1: the contract, the quantity and the last price.
use Rattle.std.specs.Prelude.{ℕ, ◌==◌, ℤ, List, length, codes, bytes_eq, Option, Some, None, Result, Ok, Err, if◌then◌else◌}
use Rattle.std.specs.Option.{option_map}
use Rattle.std.specs.Result.{result_ok}
use Rattle.vx_num.specs.Decimal.{decimal_of, signed_decimal_of}
use Rattle.vx_fields.specs.Lines.{field, fields_of_line, why_unsplit}
use Rattle.vx_fields.specs.declared.line.Unsplit.{Unsplit}
use Rattle.vx_fields.specs.declared.line.Unsplit.TheVariants.{Empty, Byte}
use Rattle.vx_settle.specs.declared.fault.PositionFault.{PositionFault}
use Rattle.vx_settle.specs.declared.fault.PositionFault.TheVariants as fault
use Rattle.vx_settle.specs.declared.limits.TheConstants.{LAST_MAX, QUANTITY_MAX}
use Rattle.vx_settle.specs.declared.position.Contract.{Contract}
use Rattle.vx_settle.specs.declared.position.Contract.TheVariants.{Vx, Vxm}
use Rattle.vx_settle.specs.declared.position.Position.{Position}

-- a contract by its name
abbrev pub contract_of_text : List ℕ → Option Contract
contract_of_text text =
    if bytes_eq text (codes "VX") then Some Vx
    else (if bytes_eq text (codes "VXM") then Some Vxm else None)

-- how many contracts, at most a million, below zero after a `-`
abbrev pub quantity_of_text : List ℕ → Option ℤ
quantity_of_text text = signed_decimal_of text 0 QUANTITY_MAX QUANTITY_MAX

-- a price in points of at most 4 places, from 0 to 1,000 points, in ten-thousandths of a point
abbrev pub last_of_text : List ℕ → Option ℕ
last_of_text text = result_ok (decimal_of text 4 LAST_MAX)

-- the position of three fields by what each says, or the first field that says nothing
abbrev pub position_of_parts : Option Contract → Option ℤ → Option ℕ → Result Position PositionFault
position_of_parts None _ _ = Err (fault.Field 1)
position_of_parts (Some c) None _ = Err (fault.Field 2)
position_of_parts (Some c) (Some n) None = Err (fault.Field 3)
position_of_parts (Some c) (Some n) (Some price) = Ok (record { contract = c; quantity = n; last = price })

-- the position of a line's fields, or else the first fault
abbrev pub position_of_fields : List (List ℕ) → Result Position PositionFault
position_of_fields f =
    if length f == 3
    then position_of_parts (contract_of_text (field f 1)) (quantity_of_text (field f 2)) (last_of_text (field f 3))
    else Err fault.Fields

-- the fault of a line that has no fields
abbrev pub fault_unsplit : Unsplit → PositionFault
fault_unsplit Empty = fault.Fields
fault_unsplit Byte = fault.Byte

abbrev pub unsplit_fault : List ℕ → Option PositionFault
unsplit_fault line = option_map fault_unsplit (why_unsplit line)

-- the position of a line that can be split, or the fault of one that can't
abbrev pub position_unless : Option PositionFault → List ℕ → Result Position PositionFault
position_unless (Some fault) line = Err fault
position_unless None line = position_of_fields (fields_of_line line)

-- the position of a line, or else the first fault
abbrev pub position_of_line : List ℕ → Result Position PositionFault
position_of_line line = position_unless (unsplit_fault line) line
