-- The ledger is the one that the blank starts.
use Rattle.vx_num.proofs.tests.steps_are_counted.Given as goal

abbrev pub ghosts-ticked : goal.ghosts-ticked
ghosts-ticked a = record { name = a.blank.name; parts = a.blank.parts }
