use Rattle.std.proofs.Common.{[], ◌∷◌, ◌++◌}
use Rattle.vx_feed.proofs.tests.read_line.Goals as goal

pub note-requires : goal.note-requires
note-requires c = (c.requires.0, c.requires.1, c.in-Ok.ensures.lawful c.requires.0 c.requires.1)

pub returns-in_ok-note-in-Ok : goal.returns-in_ok-note-in-Ok
returns-in_ok-note-in-Ok c = (c.requires.0 ++ c.in-Ok.event ∷ [], c.in_ok-note-in-Ok.ensures.noted c.requires.0 c.requires.1)
