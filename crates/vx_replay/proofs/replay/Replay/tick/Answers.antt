-- A tick is answered by the events before it, and after a refusal the replay stands for what it stood for.
use Rattle.std.proofs.Common.{◌≡◌, ◌∙◌, sym, ap, subst, refl, List, length}
use Rattle.std.proofs.lemmas.List.{with_items_is}
use Rattle.vx_feed.specs.declared.events.Event.TheVariants.{Tick}
use Rattle.vx_replay.specs.StripsAfter.{Holding, AreKeptAfterAnswer}
use Rattle.vx_replay.proofs.StripSteps.{answer_otherwise}
use Rattle.vx_replay.proofs.TermsKept.{kept_of_error}
use Rattle.vx_replay.proofs.TickSteps.{day_of, answer_next}
use Rattle.vx_replay.proofs.NextReplay.{on_err, replay_stands_still, steps_undeclared}
use Rattle.vx_replay.proofs.replay.Replay.tick.Goals as goal

pub returns-in_err-apply-clause-refused : goal.returns-in_err-apply-clause-refused
returns-in_err-apply-clause-refused g c =
    let old = c.args.self.now in
    let strips = c.answer_tick.new.kept in
    let few : length strips ≡ length old.kept.items = c.answer_tick.auto.kept ∙ ap (λ (l : List Holding). length l) c.as_mut_slice-kept.ensures.value in
    let same = with_items_is old.kept strips (few ∙ sym old.kept.ok.0) in
    on_err c.from_residual-in_err-apply.result (replay_stands_still old (record old { book = c.apply.new.self; kept = _ }) c.in_err-apply.ensures.refused
    (ap (λ (l : List Holding). length l) same ∙ few))

pub returns-in_err-apply-clause-kept : goal.returns-in_err-apply-clause-kept
returns-in_err-apply-clause-kept g c = λ events h next.
    let old = c.args.self.now in
    let strips = c.answer_tick.new.kept in
    let few : length strips ≡ length old.kept.items = c.answer_tick.auto.kept ∙ ap (λ (l : List Holding). length l) c.as_mut_slice-kept.ensures.value in
    let same = with_items_is old.kept strips (few ∙ sym old.kept.ok.0) in
    let answer = c.in_ok-answer.answer in
    let start = c.args.steps.now in
    let count = c.answer_tick.new.steps in
    let at_slice = subst (λ (l : List Holding). AreKeptAfterAnswer events c.args.time l strips start count answer) c.as_mut_slice-kept.ensures.value (c.in_ok-answer.ensures.kept events h.book) in
    let at_items = subst (λ (l : List Holding). AreKeptAfterAnswer events c.args.time old.kept.items l start count answer) (sym same) at_slice in
    kept_of_error events c.args.time old.kept.items _ start count c.from_residual-in_err-apply.result c.from_residual-in_err-apply.ensures.0
    (answer_otherwise events c.args.time old.kept.items _ start count answer at_items)

pub returns-clause-stands : goal.returns-clause-stands
returns-clause-stands g c =
    let old = c.args.self.now in
    let strips = c.answer_tick.new.kept in
    let few : length strips ≡ length old.kept.items = c.answer_tick.auto.kept ∙ ap (λ (l : List Holding). length l) c.as_mut_slice-kept.ensures.value in
    let same = with_items_is old.kept strips (few ∙ sym old.kept.ok.0) in
    steps_undeclared old (record old { book = c.apply.new.self; kept = _ }) (Tick c.args.time) c.in_ok-apply.ensures.applied refl
    (ap (λ (l : List Holding). length l) same ∙ few)

pub returns-clause-answer : goal.returns-clause-answer
returns-clause-answer g c = λ events h next.
    let day = day_of events c.args.time h.lawful next in
    answer_next events c.args.time day.0 c.in_ok-answer.answer h.lawful next day.1 (c.in_ok-answer.ensures.answer events day.0 h.book day.1) c.in_ok-answer.ensures.in_range

pub returns-clause-kept : goal.returns-clause-kept
returns-clause-kept g c = λ events h next.
    let old = c.args.self.now in
    let strips = c.answer_tick.new.kept in
    let few : length strips ≡ length old.kept.items = c.answer_tick.auto.kept ∙ ap (λ (l : List Holding). length l) c.as_mut_slice-kept.ensures.value in
    let same = with_items_is old.kept strips (few ∙ sym old.kept.ok.0) in
    let answer = c.in_ok-answer.answer in
    let start = c.args.steps.now in
    let count = c.answer_tick.new.steps in
    let at_slice = subst (λ (l : List Holding). AreKeptAfterAnswer events c.args.time l strips start count answer) c.as_mut_slice-kept.ensures.value (c.in_ok-answer.ensures.kept events h.book) in
    subst (λ (l : List Holding). AreKeptAfterAnswer events c.args.time old.kept.items l start count answer) (sym same) at_slice
