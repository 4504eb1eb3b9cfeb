-- The answers for both terms are joined, and what each left of its strip is kept.
use Rattle.std.proofs.Common.{ap, refl, ℕ, ◌+◌, get_or, None, inr, arith}
use Rattle.std.proofs.lemmas.Option.{slice_get-get_or, slice_get_within}
use Rattle.vx_clock.specs.declared.limits.TheConstants.{INDEX_DAYS, INDEX_WINDOW}
use Rattle.vx_replay.specs.StripsAfter.{Holding}
use Rattle.vx_replay.proofs.Joining.{picked_answers_are_joinable}
use Rattle.vx_replay.proofs.TickSteps.{index_days, index_window}
use Rattle.vx_replay.proofs.TermsKept.{picked_at, at_same_place, answer_of_terms, kept_of_error, count_stays, after_near_refused, both_may_hold, after_both}
use Rattle.vx_replay.proofs.tick.answer_terms.Goals as goal

pub returns-in_err-near-clause-kept : goal.returns-in_err-near-clause-kept
returns-in_err-near-clause-kept g c = λ events stands day_is.
    let now = c.args.now in
    let xs = c.args.book.now.expiries.items in
    let i = (c.args.places).0 in
    let j = (c.args.places).1 in
    let picked = picked_at events now xs i j stands.expiries c.requires.near c.requires.next in
    let strips = c.args.kept.now in
    let none : Holding = None in
    let within = slice_get_within xs j picked.next (at_same_place xs _ j picked.next stands.expiries picked.next_at) in
    let as_many = (c.requires.strips).as_many in
    let held = slice_get-get_or strips j none (omega (arith, within, as_many)) in
    kept_of_error events now.minute strips c.answer_term.new.kept c.args.steps.now c.answer_term.new.steps c.from_residual.result c.from_residual.ensures.0
    (after_near_refused events now strips day_is i j picked c.answer_term.new.kept c.args.steps.now c.answer_term.new.steps (c.in_err-near.field-0).0
    (c.in_err-near.ensures.kept events picked.near stands (at_same_place xs _ i picked.near stands.expiries picked.near_at)) (get_or strips j none) held)

pub answer_term-requires-2-clause-within : goal.answer_term-requires-2-clause-within
answer_term-requires-2-clause-within g c =
    let strips = c.requires.strips in
    let xs = c.args.book.now.expiries.items in
    let picked = picked_at strips.events c.args.now xs (c.args.places).0 (c.args.places).1 (strips.stands).expiries c.requires.near c.requires.next in
    slice_get_within xs (c.args.places).1 picked.next (at_same_place xs _ (c.args.places).1 picked.next (strips.stands).expiries picked.next_at)

pub answer_term-requires-2-clause-count : goal.answer_term-requires-2-clause-count
answer_term-requires-2-clause-count g c =
    let strips = c.requires.strips in
    let xs = c.args.book.now.expiries.items in
    let i = (c.args.places).0 in
    let picked = picked_at strips.events c.args.now xs i (c.args.places).1 (strips.stands).expiries c.requires.near c.requires.next in
    let at = at_same_place xs _ i picked.near (strips.stands).expiries picked.near_at in
    count_stays strips.events c.args.now picked.near i c.args.kept.now c.answer_term.new.kept c.args.steps.now c.answer_term.new.steps c.answer_term.result strips.lawful
    (c.answer_term.ensures.answer strips.events picked.near strips.stands at) (c.answer_term.ensures.kept strips.events picked.near strips.stands at) c.requires.count

pub returns-in_err-next-clause-kept : goal.returns-in_err-next-clause-kept
returns-in_err-next-clause-kept g c = λ events stands day_is.
    let now = c.args.now in
    let xs = c.args.book.now.expiries.items in
    let i = (c.args.places).0 in
    let j = (c.args.places).1 in
    let picked = picked_at events now xs i j stands.expiries c.requires.near c.requires.next in
    let near_at = at_same_place xs _ i picked.near stands.expiries picked.near_at in
    let next_at = at_same_place xs _ j picked.next stands.expiries picked.next_at in
    kept_of_error events now.minute c.args.kept.now c.answer_term-2.new.kept c.args.steps.now c.answer_term-2.new.steps c.from_residual-in_err-next.result c.from_residual-in_err-next.ensures.0
    (inr (both_may_hold events now c.args.kept.now day_is i j picked c.answer_term.new.kept c.answer_term-2.new.kept c.args.steps.now c.answer_term.new.steps c.answer_term-2.new.steps
    c.in_ok-near.near c.answer_term-2.result (c.in_ok-near.ensures.kept events picked.near stands near_at) (c.answer_term-2.ensures.kept events picked.next stands next_at)
    (c.in_ok-near.ensures.answer events picked.near stands near_at) (c.answer_term-2.ensures.answer events picked.next stands next_at)))

pub join_terms-requires : goal.join_terms-requires
join_terms-requires g c =
    let strips = c.requires.strips in
    let xs = c.args.book.now.expiries.items in
    let i = (c.args.places).0 in
    let j = (c.args.places).1 in
    let picked = picked_at strips.events c.args.now xs i j (strips.stands).expiries c.requires.near c.requires.next in
    let near_at = at_same_place xs _ i picked.near (strips.stands).expiries picked.near_at in
    let next_at = at_same_place xs _ j picked.next (strips.stands).expiries picked.next_at in
    let line = c.lines.ensures.kept in
    let last = c.requires.line in
    let joinable = picked_answers_are_joinable INDEX_DAYS INDEX_WINDOW strips.events c.args.now picked.near picked.next c.in_ok-near.near c.in_ok-next.next index_days index_window strips.lawful
    picked.is_near picked.is_next (c.in_ok-near.ensures.answer strips.events picked.near strips.stands near_at) (c.in_ok-next.ensures.answer strips.events picked.next strips.stands next_at) in
    (omega arith, (refl, ((omega (arith, line, last), omega (arith, line, last)), (c.requires.minute, (index_days, joinable)))))

pub returns-clause-answer : goal.returns-clause-answer
returns-clause-answer g c = λ events stands.
    let xs = c.args.book.now.expiries.items in
    let i = (c.args.places).0 in
    let j = (c.args.places).1 in
    let picked = picked_at events c.args.now xs i j stands.expiries c.requires.near c.requires.next in
    let near_at = at_same_place xs _ i picked.near stands.expiries picked.near_at in
    let next_at = at_same_place xs _ j picked.next stands.expiries picked.next_at in
    answer_of_terms events c.args.now _ i j picked c.in_ok-near.near c.in_ok-next.next (ap (λ (n : ℕ). n + 1) (c.lines.ensures.value events stands))
    (c.in_ok-near.ensures.answer events picked.near stands near_at) (c.in_ok-next.ensures.answer events picked.next stands next_at) c.join_terms.result c.join_terms.ensures.joined

pub returns-clause-kept : goal.returns-clause-kept
returns-clause-kept g c = λ events stands day_is.
    let now = c.args.now in
    let xs = c.args.book.now.expiries.items in
    let i = (c.args.places).0 in
    let j = (c.args.places).1 in
    let picked = picked_at events now xs i j stands.expiries c.requires.near c.requires.next in
    let near_at = at_same_place xs _ i picked.near stands.expiries picked.near_at in
    let next_at = at_same_place xs _ j picked.next stands.expiries picked.next_at in
    after_both events now c.args.kept.now day_is i j picked c.answer_term.new.kept c.answer_term-2.new.kept c.args.steps.now c.answer_term.new.steps c.answer_term-2.new.steps
    _ INDEX_DAYS c.in_ok-near.near c.in_ok-next.next (c.in_ok-near.ensures.kept events picked.near stands near_at) (c.in_ok-next.ensures.kept events picked.next stands next_at)
    (c.in_ok-near.ensures.answer events picked.near stands near_at) (c.in_ok-next.ensures.answer events picked.next stands next_at) c.join_terms.result c.join_terms.ensures.joined
