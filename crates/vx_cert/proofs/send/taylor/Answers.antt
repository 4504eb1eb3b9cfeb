use Rattle.std.proofs.lemmas.Result.{on_ok_weaker}
use Rattle.vx_cert.proofs.WrittenBack.{taylor_back}
use Rattle.vx_cert.proofs.WrittenData.{on_ok}
use Rattle.vx_cert.proofs.send.taylor.Goals as goal

pub returns-clause-read_back : goal.returns-clause-read_back
returns-clause-read_back g c =
    on_ok c.end_seq.result (taylor_back c.args.low.now c.args.high.now c.in_ok-taylor_terms.ensures.read_back c.in_ok-taylor_terms-2.ensures.read_back)

pub returns-clause-sent : goal.returns-clause-sent
returns-clause-sent g c =
    let w = g.S.Serializer.written in
    on_ok_weaker c.end_seq.result (λ e. (
      w c.begin_seq.new.self,
      c.in_ok-begin_seq.ensures,
      (w c.taylor_terms.new.out, c.in_ok-taylor_terms.ensures.sent, (w c.taylor_terms-2.new.out, c.in_ok-taylor_terms-2.ensures.sent, e)),
    )) c.end_seq.ensures
