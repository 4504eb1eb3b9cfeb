use Rattle.vx_make.proofs.WrittenEvents.{lines_are_of_events, texts_are_read_back}
use Rattle.vx_make.proofs.laws.written_events_are_read_back.Goals as goal

pub returns : goal.returns
returns c = record { lines = lines_are_of_events; events = texts_are_read_back }
