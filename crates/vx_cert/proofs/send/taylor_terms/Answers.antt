use Rattle.std.proofs.Common.{arith, map, pos, refl, Some, sym, ◌∙◌, subst}
use Rattle.std.proofs.lemmas.Result.{on_ok_weaker}
use Rattle.serde.specs.Event.{Logs, seq_begins}
use Rattle.serde_json.specs.Events.{SendsItems}
use Rattle.serde_json.specs.View.{items_of}
use Rattle.vx_cert.specs.Written.{wide_number}
use Rattle.vx_cert.proofs.Values.{mapped_len, sent_all}
use Rattle.vx_cert.proofs.WrittenBack.{terms_back}
use Rattle.vx_cert.proofs.WrittenData.{on_ok}
use Rattle.vx_cert.proofs.send.taylor_terms.Goals as goal

pub returns-clause-sent : goal.returns-clause-sent
returns-clause-sent g c =
    let w = g.S.Serializer.written in
    let first = w c.begin_seq.new.self in
    let end = w c.end_seq.new.self in
    let terms = c.args.terms.now in
    let many = mapped_len (λ term. wide_number (pos term)) terms ∙ c.told-terms in
    let begun = subst (λ n. Logs (w c.args.out.now) first (seq_begins (Some n))) (sym many) c.in_ok-begin_seq.ensures in
    on_ok_weaker c.end_seq.result (λ e. (
      first,
      begun,
      sent_all (λ term. wide_number (pos term)) terms terms c.loop-term.term-index (w c.loop-term.out) end
          (λ end. SendsItems (items_of (map (λ term. wide_number (pos term)) terms)) first end) refl (omega (arith, c.told-terms, c.loop-term-test.false)) c.loop-term.invariant e,
    )) c.end_seq.ensures

pub returns-clause-read_back : goal.returns-clause-read_back
returns-clause-read_back g c = on_ok c.end_seq.result (terms_back c.args.terms.now c.told-terms c.fits-terms)
