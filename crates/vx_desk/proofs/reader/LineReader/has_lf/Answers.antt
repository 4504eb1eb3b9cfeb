use Rattle.std.proofs.Common.{◌∙◌}
use Rattle.vx_desk.proofs.ReaderLemmas.{lf_found}
use Rattle.vx_desk.proofs.reader.LineReader.has_lf.Goals as goal

pub returns : goal.returns
returns c = c.is_some.ensures ∙ lf_found c.args.self.now.waiting c.find_lf.result c.find_lf.ensures
