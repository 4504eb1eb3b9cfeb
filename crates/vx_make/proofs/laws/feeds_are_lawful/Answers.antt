use Rattle.vx_make.proofs.SampleEvents.{samples_are_lawful}
use Rattle.vx_make.proofs.SampleFeeds.{samples_end, sample_lines_are_of_events, samples_are_read_back, sample_texts_are_lawful}
use Rattle.vx_make.proofs.laws.feeds_are_lawful.Goals as goal

pub returns : goal.returns
returns c = record {
  events = samples_are_lawful;
  end = samples_end;
  lines = sample_lines_are_of_events;
  read_back = samples_are_read_back;
  text = sample_texts_are_lawful;
}
