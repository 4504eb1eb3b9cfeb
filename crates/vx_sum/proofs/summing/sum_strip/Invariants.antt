-- The ledger is the one that the blank starts.
use Rattle.vx_sum.proofs.summing.sum_strip.Given as goal

abbrev pub ghosts-counted : goal.ghosts-counted
ghosts-counted g a = record { name = a.blank.name; parts = a.blank.parts }
