-- The law is a lemma of Readings.
use Rattle.vx_whole.proofs.Readings.{line_is_read as proof}
use Rattle.vx_whole.proofs.laws.every_line_is_read.Goals as goal

pub returns : goal.returns
returns c = proof
