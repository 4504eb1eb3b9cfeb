use Rattle.std.proofs.Common.{◌≡◌, ◌+◌, ◌∙◌, ap, rules, arith}
use Rattle.std.proofs.lemmas.List.{nil_from_length}
use Rattle.std.specs.Slice.Iter.{chunks_rest}
use Rattle.vx_fields.specs.Lines.{lf_count}
use Rattle.vx_fields.proofs.TextLemmas.{count_both, count_few, count_whole}
use Rattle.vx_fields.proofs.block.count_lines.Goals as goal

pub overflow_add-count : goal.overflow_add-count
overflow_add-count c =
    let few = count_few c.args.text.now in
    let so_far : c.loop-piece.count + lf_count (chunks_rest c.loop-piece.piece-iterator) ≡ lf_count c.args.text.now = c.loop-piece.invariant.3 in
    let parts = ap lf_count c.in-Some.ensures.steps.1.0 ∙ count_both c.in-Some.piece.now (chunks_rest c.next.new.self) in
    omega (arith, few, so_far, parts, c.count_in_piece.ensures, c.from-count.ensures)

pub loop-piece-preserved : goal.loop-piece-preserved
loop-piece-preserved c =
    let steps = c.in-Some.ensures.steps in
    let so_far : c.loop-piece.count + lf_count (chunks_rest c.loop-piece.piece-iterator) ≡ lf_count c.args.text.now = c.loop-piece.invariant.3 in
    let parts = ap lf_count steps.1.0 ∙ count_both c.in-Some.piece.now (chunks_rest c.next.new.self) in (
      search rules,
      tt,
      steps.0 ∙ c.loop-piece.invariant.2,
      omega (arith, so_far, parts, c.count_in_piece.ensures, c.from-count.ensures),
    )

pub returns : goal.returns
returns c =
    let so_far : c.loop-piece.count + lf_count (chunks_rest c.loop-piece.piece-iterator) ≡ lf_count c.args.text.now = c.loop-piece.invariant.3 in
    let none : lf_count (chunks_rest c.loop-piece.piece-iterator) ≡ 0 = ap lf_count (nil_from_length _ c.in-None.ensures.steps.1.0) in
    omega (arith, so_far, none, count_whole c.args.text.now c.requires.whole)
