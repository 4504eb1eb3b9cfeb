use Rattle.std.proofs.Common.{◌≡◌, sym, subst, arith, rules}
use Rattle.vx_interval.specs.Ends.{Ends}
use Rattle.vx_interval.specs.Membership.{IsMember}
use Rattle.vx_formula.specs.Strip.{total_of}
use Rattle.vx_strip.specs.Entries.{entries_of}
use Rattle.vx_sum.specs.Sums.{total_ends}
use Rattle.vx_sum.proofs.RowByRow.{totals_ordered}
use Rattle.vx_sum.proofs.Enclosure.{total_encloses, total_narrow, accepted_fits}
use Rattle.vx_sum.proofs.summing.sum_strip.Goals as goal

pub into_sum-requires : goal.into_sum-requires
into_sum-requires g c =
    let ordered = totals_ordered g.row.P c.args.strip.now.rows c.requires.in_range.each in
    let fits = accepted_fits g.row.P (entries_of c.args.strip.now) c.requires.scale.1 c.in_ok-totals.ensures.sum.accepted in
    (omega arith, (c.requires.scale, (omega (arith, ordered, c.in_ok-totals.ensures.sum.lower, c.in_ok-totals.ensures.sum.upper), omega (arith, fits, c.in_ok-totals.ensures.sum.upper))))

pub returns-clause-encloses : goal.returns-clause-encloses
returns-clause-encloses g c =
    let total : c.into_sum.result.total ≡ total_ends g.row.P (entries_of c.args.strip.now) = search rules in
    let Holds : Ends → Type 0 = λ x. IsMember g.row.P x (total_of (entries_of c.args.strip.now)) in
    subst Holds (sym total) (total_encloses g.row.P c.args.strip.now.rows c.requires.in_range.each)

pub returns-clause-width : goal.returns-clause-width
returns-clause-width g c =
    let total : c.into_sum.result.total ≡ total_ends g.row.P (entries_of c.args.strip.now) = search rules in
    rw total (total_narrow g.row.P c.args.strip.now.rows c.requires.in_range.each)
