use Rattle.std.proofs.Common.{subst, sym}
use Rattle.std.proofs.lemmas.Result.{on_ok_weaker}
use Rattle.serde_json.specs.Events.{SendsValue}
use Rattle.vx_cert.specs.Written.{data_by_kind}
use Rattle.vx_cert.specs.Ranges.{IsBodyInRange}
use Rattle.vx_cert.proofs.WrittenData.{ok_then, both_then}
use Rattle.vx_cert.proofs.WrittenBack.{level_is_back, single_is_back, index_is_back, soq_is_back}
use Rattle.vx_cert.proofs.write.certificate.Goals as goal

pub returns-in-K0-clause-read_back : goal.returns-in-K0-clause-read_back
returns-in-K0-clause-read_back g c =
    let is = c.in-K0.is in
    ok_then c.level.result (λ back h. level_is_back c.args.c.now c.in-K0.expiry c.in-K0.pair c.in-K0.k0 h is (back (subst IsBodyInRange is h.body))) c.level.ensures.read_back

pub returns-in-Single-clause-read_back : goal.returns-in-Single-clause-read_back
returns-in-Single-clause-read_back g c =
    let is = c.in-Single.is in
    ok_then c.one_term.result (λ back h. single_is_back c.args.c.now c.in-Single.term c.in-Single.figure h is (back (subst IsBodyInRange is h.body).0)) c.one_term.ensures.read_back

pub returns-in-Index-clause-read_back : goal.returns-in-Index-clause-read_back
returns-in-Index-clause-read_back g c =
    let is = c.in-Index.is in
    both_then c.index.result (λ first second h.
    let inside = subst IsBodyInRange is h.body in
    index_is_back c.args.c.now c.in-Index.days c.in-Index.near c.in-Index.next c.in-Index.figure h is (first inside.1) (second inside.2)) c.index.ensures.near c.index.ensures.next

pub returns-in-Soq-clause-read_back : goal.returns-in-Soq-clause-read_back
returns-in-Soq-clause-read_back g c =
    let is = c.in-Soq.is in
    ok_then c.one_term-in-Soq.result (λ back h. soq_is_back c.args.c.now c.in-Soq.term c.in-Soq.figure h is (back (subst IsBodyInRange is h.body).0)) c.one_term-in-Soq.ensures.read_back

pub returns-in-Single-clause-sent : goal.returns-in-Single-clause-sent
returns-in-Single-clause-sent g c =
    let w = g.S.Serializer.written in
    on_ok_weaker c.one_term.result (λ e. subst (λ body. SendsValue (data_by_kind c.args.c.now body) (w c.args.out.now) (w c.one_term.new.out)) (sym c.in-Single.is) e) c.one_term.ensures.sent

pub returns-in-Index-clause-sent : goal.returns-in-Index-clause-sent
returns-in-Index-clause-sent g c =
    let w = g.S.Serializer.written in
    on_ok_weaker c.index.result (λ e. subst (λ body. SendsValue (data_by_kind c.args.c.now body) (w c.args.out.now) (w c.index.new.out)) (sym c.in-Index.is) e) c.index.ensures.sent

pub returns-in-Soq-clause-sent : goal.returns-in-Soq-clause-sent
returns-in-Soq-clause-sent g c =
    let w = g.S.Serializer.written in
    on_ok_weaker c.one_term-in-Soq.result (λ e. subst (λ body. SendsValue (data_by_kind c.args.c.now body) (w c.args.out.now) (w c.one_term-in-Soq.new.out)) (sym c.in-Soq.is) e) c.one_term-in-Soq.ensures.sent
