use Rattle.std.proofs.Common.{get_or, refl, subst, below_more, arith}
use Rattle.std.proofs.lemmas.List.{get_or_default}
use Rattle.vx_cert.specs.declared.rows.CertRow.{CertRow}
use Rattle.vx_claims.specs.TermTests.{EnclosesContribution}
use Rattle.vx_tests.proofs.sums.enclose_contributions.Goals as goal

abbrev no_row : CertRow
no_row = record { strike = 0; d = 0; q4 = 0; lo = 0; hi = 0 }

pub loop-row-preserved : goal.loop-row-preserved
loop-row-preserved c =
    let rows = c.args.rows.now in
    let place = c.loop-row.row-index in
    let here : EnclosesContribution c.args.scale (get_or rows place no_row) = c.encloses_contribution.ensures.0 c.if-not-encloses_contribution.false in
    below_more (λ k. (d : CertRow) → EnclosesContribution c.args.scale (get_or rows k d)) place c.loop-row.invariant
    (λ d. subst (EnclosesContribution c.args.scale) (get_or_default rows place no_row d (omega arith)) here)

pub returns : goal.returns
returns c = (λ t k d within. c.loop-row.invariant k (omega arith) d, λ h. refl)
