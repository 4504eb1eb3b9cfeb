-- The ledger is the one that the blank starts.
use Rattle.vx_replay.proofs.replay.Replay.step.Given as goal

abbrev pub ghosts-step_with : goal.ghosts-step_with
ghosts-step_with a = record { name = a.blank.name; parts = a.blank.parts }
