use Rattle.std.proofs.Common.{◌≡◌, map, take, drop}
use Rattle.csv.specs.Records.{fields_of}
use Rattle.vx_fields.specs.Lines.{fields_of_line, lines_in, text_of}
use Rattle.vx_fields.proofs.CsvReader.{HasLeft}
use Rattle.vx_fields.proofs.table.read_rows.Given as goal

-- the rows so far have the fields of the lines so far, and the reader has the other lines left
abbrev pub invariant-loop-i : goal.invariant-loop-i
invariant-loop-i l = record {
  so_far : map fields_of (take l.i l.rows) ≡ map fields_of_line (take l.i (lines_in l.text));
  left : HasLeft l.reader (text_of (drop l.i (lines_in l.text)));
}
