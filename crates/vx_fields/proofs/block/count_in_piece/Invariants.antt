-- How many LFs were passed.
use Rattle.std.proofs.Common.{◌≡◌, ◌+◌, drop}
use Rattle.vx_fields.specs.Lines.{lf_count}
use Rattle.vx_fields.proofs.block.count_in_piece.Given as goal

abbrev pub invariant-loop-byte : goal.invariant-loop-byte
invariant-loop-byte l = l.count + lf_count (drop l.byte-index l.piece) ≡ lf_count l.piece
