use Rattle.std.proofs.Common.{◌≡◌, sym, subst, arith, rules}
use Rattle.vx_strip.specs.declared.strip.Strip.{Strip}
use Rattle.vx_strip.specs.Entries.{DoStrikesRise, entries_of}
use Rattle.vx_sum.specs.Sums.{IsSumOf}
use Rattle.vx_sum.proofs.RowByRow.{totals_ordered}
use Rattle.vx_sum.proofs.Enclosure.{accepted_fits}
use Rattle.vx_sum.proofs.kept.KeptStrip.refresh.Goals as goal

pub into_sum-requires : goal.into_sum-requires
into_sum-requires g c =
    let ordered = totals_ordered g.row.P c.args.strip.now.rows c.requires.in_range.each in
    let fits = accepted_fits g.row.P (entries_of c.args.strip.now) c.requires.scale.1 c.in_ok-totals.ensures.sum.accepted in
    (omega arith, (c.requires.scale, (omega (arith, ordered, c.in_ok-totals.ensures.sum.lower, c.in_ok-totals.ensures.sum.upper), omega (arith, fits, c.in_ok-totals.ensures.sum.upper))))

pub invariant_of-self : goal.invariant_of-self
invariant_of-self g c =
    let same : c.in_ok-strip.strip ≡ c.args.strip.now = search rules in
    let sum : IsSumOf g.row.P (entries_of c.args.strip.now) c.into_sum.result = search rules in
    record {
      sum_is = subst (λ (s : Strip). IsSumOf g.row.P (entries_of s) c.into_sum.result) (sym same) sum;
      rising = subst (λ (s : Strip). DoStrikesRise s) (sym same) c.requires.rising;
    }
