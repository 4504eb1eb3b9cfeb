-- The law is a lemma of ShownProofs.
use Rattle.vx_facts.proofs.ShownProofs.{standing_is_lawful as proof}
use Rattle.vx_facts.proofs.laws.standing_is_lawful.Goals as goal

pub returns : goal.returns
returns c = proof
