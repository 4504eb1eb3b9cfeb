use Rattle.std.proofs.Common.{◌≡◌, ◌+◌, ap, drop, arith}
use Rattle.std.proofs.lemmas.List.{drop_all}
use Rattle.vx_fields.specs.Lines.{lf_count}
use Rattle.vx_fields.proofs.TextLemmas.{count_few}
use Rattle.vx_fields.proofs.block.count_in_piece.Goals as goal

pub overflow_add-count : goal.overflow_add-count
overflow_add-count c =
    let few = count_few c.args.piece.now in
    let so_far : c.loop-byte.count + lf_count (drop c.loop-byte.byte-index c.args.piece.now) ≡ lf_count c.args.piece.now = c.loop-byte.invariant in
    let size = c.requires in
    let one = c.from-count.ensures in
    grind (arith, few, so_far, size, one)

pub returns : goal.returns
returns c =
    let so_far : c.loop-byte.count + lf_count (drop c.loop-byte.byte-index c.args.piece.now) ≡ lf_count c.args.piece.now = c.loop-byte.invariant in
    let none : lf_count (drop c.loop-byte.byte-index c.args.piece.now) ≡ 0 = ap lf_count (drop_all c.loop-byte.byte-index c.args.piece.now (omega (arith, c.loop-byte-test.false))) in
    omega (arith, so_far, none)
