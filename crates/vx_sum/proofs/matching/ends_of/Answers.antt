use Rattle.std.proofs.Common.{◌≡◌, true, sym, ◌∙◌, ap}
use Rattle.vx_sum.specs.declared.sum.SumRow.{SumRow}
use Rattle.vx_sum.specs.Matching.{is_kept_at}
use Rattle.vx_sum.proofs.Matches.{no_ends, kept_row_ends}
use Rattle.vx_sum.proofs.matching.ends_of.Goals as goal

pub returns-then-is_kept-clause-lo : goal.returns-then-is_kept-clause-lo
returns-then-is_kept-clause-lo g c =
    let same : is_kept_at c.args.kept.now c.args.place c.args.row.now ≡ true = sym c.is_kept.ensures ∙ c.if-is_kept.true in
    c.from.ensures ∙ ap (λ (e : SumRow). e.lo) (kept_row_ends c.args.scale c.args.kept.now c.args.kept_ends.now c.args.place no_ends c.args.row.now c.requires.belong same)

pub returns-then-is_kept-clause-hi : goal.returns-then-is_kept-clause-hi
returns-then-is_kept-clause-hi g c =
    let same : is_kept_at c.args.kept.now c.args.place c.args.row.now ≡ true = sym c.is_kept.ensures ∙ c.if-is_kept.true in
    c.from-then-is_kept.ensures ∙ ap (λ (e : SumRow). e.hi) (kept_row_ends c.args.scale c.args.kept.now c.args.kept_ends.now c.args.place no_ends c.args.row.now c.requires.belong same)
