use Rattle.vx_formula.proofs.TermOutcomes.{term_of_facts_is_one, term_is_answered, refused_is_not_sound, undecided_comes_first}
use Rattle.vx_formula.proofs.answers.term_is_answered.Goals as goal

pub returns : goal.returns
returns c = record {
  one_term = term_of_facts_is_one;
  answered = term_is_answered;
  refused = refused_is_not_sound;
  undecided = undecided_comes_first;
}
