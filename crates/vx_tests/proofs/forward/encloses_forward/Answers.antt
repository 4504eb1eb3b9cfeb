use Rattle.std.proofs.Common.{◌≡◌, FitsSigned, to_z, of_z, to_z-of_z, ◌∙◌, rules}
use Rattle.std.specs.Int.{w128}
use Rattle.vx_claims.specs.TermTests.{forward_end}
use Rattle.vx_tests.proofs.forward.encloses_forward.Goals as goal

pub returns-then-are_around : goal.returns-then-are_around
returns-then-are_around c =
    let e_lo : FitsSigned w128 c.args.e.lo = search rules in
    let e_hi : FitsSigned w128 c.args.e.hi = search rules in
    let first : FitsSigned w128 c.forward_end.result = search rules in
    let last : FitsSigned w128 c.forward_end-2.result = search rules in
    let low : to_z w128 (of_z w128 c.forward_end.result) ≡ forward_end c.args.scale c.args.pair c.args.e.lo =
    to_z-of_z first ∙ (rw (to_z-of_z e_lo) at c.forward_end.ensures) in
    let high : to_z w128 (of_z w128 c.forward_end-2.result) ≡ forward_end c.args.scale c.args.pair c.args.e.hi =
    to_z-of_z last ∙ (rw (to_z-of_z e_hi) at c.forward_end-2.ensures) in
    let both = rw (low, high) at c.are_around.ensures in
    let around = both.0 c.if-are_around.true in (
      λ t. let range = c.are_in_range.ensures.0 t in record {
        low_at_low = around.0;
        low_at_high = around.2;
        high_at_low = around.1;
        high_at_high = around.3;
        low_range = range.0;
        high_range = range.1;
      },
      λ h. c.are_in_range.ensures.1 (h.low_range, h.high_range),
    )
