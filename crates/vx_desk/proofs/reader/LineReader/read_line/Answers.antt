use Rattle.std.proofs.Common.{◌∙◌, sym, subst, ap, List, ℕ, take, arith}
use Rattle.vx_desk.specs.Lines.{HasNoLf}
use Rattle.vx_desk.proofs.NextLemmas.{answers_cut, counts_cut, cut_is_line_or_long, held_is_found, reads_once_more, others_once_more, still_not_held}
use Rattle.vx_desk.proofs.reader.LineReader.read_line.Goals as goal

pub returns-in-Some-clause-answers : goal.returns-in-Some-clause-answers
returns-in-Some-clause-answers g c = answers_cut c.args.self.now c.fill.self c.cut.new.self _ _ c.in-Some.length c.cut.result c.fill.invariant.on c.in-Some.ensures c.cut.ensures.cuts

pub returns-in-Some-clause-counts : goal.returns-in-Some-clause-counts
returns-in-Some-clause-counts g c = counts_cut c.fill.self c.cut.new.self c.in-Some.length c.cut.result _ _ c.cut.ensures.cuts c.fill.invariant.on.counts

pub returns-in-Some-clause-in_hand : goal.returns-in-Some-clause-in_hand
returns-in-Some-clause-in_hand g c = λ held. ((c.fill.invariant.held held).0, cut_is_line_or_long c.fill.self c.cut.new.self c.in-Some.length c.cut.result c.cut.ensures.cuts)

pub returns-in-Ok-eq0-clause-in_hand : goal.returns-in-Ok-eq0-clause-in_hand
returns-in-Ok-eq0-clause-in_hand g c =
    held_is_found c.args.self.now c.fill.self c.args.desk.now c.fill.desk c.is_past_limit.result c.fill.invariant.held c.in_default.ensures c.if-is_past_limit.false c.is_past_limit.ensures

pub returns-in-Err-clause-in_hand : goal.returns-in-Err-clause-in_hand
returns-in-Err-clause-in_hand g c =
    held_is_found c.args.self.now c.fill.self c.args.desk.now c.fill.desk c.is_past_limit.result c.fill.invariant.held c.in_default.ensures c.if-is_past_limit.false c.is_past_limit.ensures

pub returns-in-Err-clause-fault : goal.returns-in-Err-clause-fault
returns-in-Err-clause-fault g c = λ is.
    still_not_held c.fill.self c.refill.new.self (g.D.Desk.told c.fill.desk c.fill.self.slot) (g.D.Desk.told c.refill.new.desk c.fill.self.slot) c.is_past_limit.result _
    c.in_default.ensures c.if-is_past_limit.false c.is_past_limit.ensures c.in-Err.ensures.refills

pub fill-preserved : goal.fill-preserved
fill-preserved g c =
    let old : List ℕ = c.fill.self.waiting in
    let new : List ℕ = c.refill.new.self.waiting in
    let more = c.in-Ok.ensures.refills in
    let none : HasNoLf old = c.in_default.ensures in
    record {
      on = reads_once_more c.args.self.now c.fill.self c.refill.new.self (g.D.Desk.told c.args.desk.now) (g.D.Desk.told c.fill.desk) (g.D.Desk.told c.refill.new.desk) c.in-Ok.field-0 c.fill.invariant.on more c.in-Ok.ensures.counts c.in-Ok.ensures.rest;
      within = omega (arith, c.count_waiting-searched.ensures, more.grown);
      no_lf = subst HasNoLf (sym more.first ∙ ap (λ n. take n new) (sym c.count_waiting-searched.ensures)) none;
      others = others_once_more c.args.self.now c.fill.self c.refill.new.self (g.D.Desk.told c.args.desk.now) (g.D.Desk.told c.fill.desk) (g.D.Desk.told c.refill.new.desk) c.fill.invariant.on.state c.fill.invariant.others c.in-Ok.ensures.others;
      held = held_is_found c.args.self.now c.fill.self c.args.desk.now c.fill.desk c.is_past_limit.result c.fill.invariant.held none c.if-is_past_limit.false c.is_past_limit.ensures;
      names = c.in-Ok.ensures.names ∙ c.fill.invariant.names;
    }
