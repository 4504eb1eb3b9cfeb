use Rattle.std.proofs.Common.{map, length, Some, sym, ap, ◌∙◌, subst}
use Rattle.std.proofs.lemmas.Result.{on_ok_weaker}
use Rattle.serde.specs.Event.{Logs, seq_begins}
use Rattle.serde_json.specs.Events.{SendsItems}
use Rattle.serde_json.specs.View.{items_of}
use Rattle.vx_cert.specs.Form.{row_in}
use Rattle.vx_cert.specs.Written.{row_data}
use Rattle.vx_cert.proofs.Values.{mapped_len, sent_item, sent_all}
use Rattle.vx_cert.proofs.WrittenBack.{back_in, back_all}
use Rattle.vx_cert.proofs.WrittenData.{on_ok}
use Rattle.vx_cert.proofs.send.rows.Goals as goal

pub loop-item-preserved : goal.loop-item-preserved
loop-item-preserved g c = record {
  sent =
      sent_item row_data c.items-items.result.now c.args.rows.now c.loop-item.item-index _ (g.S.Serializer.written c.loop-item.out) (g.S.Serializer.written c.row.new.out)
      (λ end. SendsItems (items_of (map row_data c.args.rows.now)) (g.S.Serializer.written c.begin_seq.new.self) end) c.items-items.ensures c.loop-item-test.true c.in_ok-row.ensures.sent c.loop-item.invariant.sent;
  read_back =
      back_in row_in row_data c.items-items.result.now c.args.rows.now c.loop-item.item-index _ c.items-items.ensures c.loop-item-test.true
      c.in_ok-row.ensures.read_back c.loop-item.invariant.read_back;
}

pub returns-clause-sent : goal.returns-clause-sent
returns-clause-sent g c =
    let first = g.S.Serializer.written c.begin_seq.new.self in
    let many = mapped_len row_data c.args.rows.now ∙ ap length (sym c.items-items.ensures) in
    let begun = subst (λ n. Logs (g.S.Serializer.written c.args.out.now) first (seq_begins (Some n))) (sym many) c.in_ok-begin_seq.ensures in
    on_ok_weaker c.end_seq.result (λ e. (
      first,
      begun,
      sent_all row_data c.items-items.result.now c.args.rows.now c.loop-item.item-index (g.S.Serializer.written c.loop-item.out)
          (g.S.Serializer.written c.end_seq.new.self) (λ end. SendsItems (items_of (map row_data c.args.rows.now)) first end) c.items-items.ensures c.loop-item-test.false c.loop-item.invariant.sent e,
    )) c.end_seq.ensures

pub returns-clause-read_back : goal.returns-clause-read_back
returns-clause-read_back g c =
    on_ok c.end_seq.result (back_all row_in row_data c.items-items.result.now c.args.rows.now c.loop-item.item-index c.items-items.ensures c.loop-item-test.false c.loop-item.invariant.read_back)
