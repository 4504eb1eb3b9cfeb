use Rattle.std.proofs.Common.{◌≡◌, drop, map, take, Some}
use Rattle.serde.specs.Event.{Log}
use Rattle.serde_json.specs.Events.{SendsItems}
use Rattle.serde_json.specs.View.{items_of}
use Rattle.vx_cert.specs.Form.{all_read, row_in}
use Rattle.vx_cert.specs.Written.{row_data}
use Rattle.vx_cert.proofs.send.rows.Given as goal

-- whatever ends the list well from here ends it well from the start
abbrev pub invariant-loop-item : goal.invariant-loop-item
invariant-loop-item g l = record {
  sent : (end : Log) → SendsItems (items_of (map row_data (drop l.item-index l.rows))) (g.S.Serializer.written l.out) end
      → SendsItems (items_of (map row_data l.rows)) (g.S.Serializer.written l.initial.out) end;
  read_back : all_read row_in (map row_data (take l.item-index l.rows)) ≡ Some (take l.item-index l.rows);
}
