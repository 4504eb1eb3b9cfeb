-- The ledger is the one that the blank starts.
use Rattle.vx_term.proofs.tests.kept_numbers.Given as goal

abbrev pub ghosts-counted_numbers : goal.ghosts-counted_numbers
ghosts-counted_numbers a = record { name = a.blank.name; parts = a.blank.parts }
