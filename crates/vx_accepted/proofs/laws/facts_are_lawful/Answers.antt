-- Each clause of the law is a lemma of its own.
use Rattle.vx_accepted.proofs.FactsLawful.{tick_has_lawful_facts, tick_facts_are_lawful, opening_facts_are_lawful}
use Rattle.vx_accepted.proofs.laws.facts_are_lawful.Goals as goal

pub returns-clause-there : goal.returns-clause-there
returns-clause-there c = tick_has_lawful_facts

pub returns-clause-tick : goal.returns-clause-tick
returns-clause-tick c = tick_facts_are_lawful

pub returns-clause-opening : goal.returns-clause-opening
returns-clause-opening c = opening_facts_are_lawful
