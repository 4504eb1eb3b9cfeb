-- The law is a lemma of RisingRows.
use Rattle.vx_claims.proofs.RisingRows.{listed_rows_rise as proof}
use Rattle.vx_claims.proofs.laws.listed_rows_rise.Goals as goal

pub returns : goal.returns
returns c = proof
