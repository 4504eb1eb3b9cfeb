use Rattle.std.proofs.Common.{◌∙◌}
use Rattle.std.proofs.lemmas.List.{take_rest}
use Rattle.vx_desk.proofs.SendingLemmas.{SentSoFar-more}
use Rattle.vx_desk.proofs.sending.send.Goals as goal

pub loop-sent-preserved : goal.loop-sent-preserved
loop-sent-preserved g c = record {
  part = SentSoFar-more _ _ _ _ _ _ c.loop-sent.invariant.part c.loop-sent-test.true (rw take_rest at c.in-Ok.ensures.writes);
  others = λ s ne. c.in-Ok.ensures.others s ne ∙ c.loop-sent.invariant.others s ne;
  names = c.in-Ok.ensures.names ∙ c.loop-sent.invariant.names;
}
