-- Each part of the law is a lemma of its own.
use Rattle.vx_days.proofs.TextExampleProofs.{sample_text_is_read, sample_text_is_lawful}
use Rattle.vx_days.proofs.days.sample_text.Goals as goal

pub returns : goal.returns
returns c = record { read = sample_text_is_read; lawful = sample_text_is_lawful }
