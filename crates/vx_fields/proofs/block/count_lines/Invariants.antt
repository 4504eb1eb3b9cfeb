-- How many lines ended in the pieces so far.
use Rattle.std.proofs.Common.{◌≡◌, ◌+◌}
use Rattle.std.specs.Slice.Iter.{chunks_rest, chunks_size}
use Rattle.vx_fields.specs.declared.block.TheConstants.{PIECE_LEN}
use Rattle.vx_fields.specs.Lines.{lf_count}
use Rattle.vx_fields.proofs.block.count_lines.Given as goal

abbrev pub invariant-loop-piece : goal.invariant-loop-piece
invariant-loop-piece l =
    goal.iterator-loop-piece.can_next l.piece-iterator
    × goal.iterator-loop-piece.is_finite l.piece-iterator
    × (chunks_size l.piece-iterator ≡ PIECE_LEN)
    × (l.count + lf_count (chunks_rest l.piece-iterator) ≡ lf_count l.fn.text)
