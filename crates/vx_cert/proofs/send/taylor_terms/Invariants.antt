use Rattle.std.proofs.Common.{drop, map, pos}
use Rattle.serde.specs.Event.{Log}
use Rattle.serde_json.specs.Events.{SendsItems}
use Rattle.serde_json.specs.View.{items_of}
use Rattle.vx_cert.specs.Written.{wide_number}
use Rattle.vx_cert.proofs.send.taylor_terms.Given as goal

-- whatever ends the list well from here ends it well from the start
abbrev pub invariant-loop-term : goal.invariant-loop-term
invariant-loop-term g l =
    (end : Log) → SendsItems (items_of (map (λ term. wide_number (pos term)) (drop l.term-index l.terms))) (g.S.Serializer.written l.out) end
    → SendsItems (items_of (map (λ term. wide_number (pos term)) l.terms)) (g.S.Serializer.written l.initial.out) end
