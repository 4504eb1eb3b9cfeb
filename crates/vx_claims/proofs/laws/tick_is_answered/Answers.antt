-- Each part of the law is a lemma of its own.
use Rattle.vx_claims.proofs.TickOutcomes.{tick_is_answered, refused_tick_is_not_sound, undecided_near_comes_first, undecided_next_comes_first}
use Rattle.vx_claims.proofs.laws.tick_is_answered.Goals as goal

pub returns : goal.returns
returns c = record {
  answered = tick_is_answered;
  refused = refused_tick_is_not_sound;
  undecided_near = undecided_near_comes_first;
  undecided_next = undecided_next_comes_first;
}
