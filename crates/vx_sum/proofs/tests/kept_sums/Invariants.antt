-- The ledger is the one that the blank starts.
use Rattle.vx_sum.proofs.tests.kept_sums.Given as goal

abbrev pub ghosts-three_refreshes : goal.ghosts-three_refreshes
ghosts-three_refreshes g a = record { name = a.blank.name; parts = a.blank.parts }
