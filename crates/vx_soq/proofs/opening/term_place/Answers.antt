-- What the search for the term's place finds.
use Rattle.std.proofs.Common.{◌∙◌, sym, ap}
use Rattle.std.specs.List.{position}
use Rattle.std.proofs.lemmas.List.{length-take-le}
use Rattle.vx_feed.specs.Same.{is_same_expiry}
use Rattle.vx_claims.specs.Seen.{opening_expiry}
use Rattle.vx_soq.proofs.FromBook.{declared_before, finds, opened_parts}
use Rattle.vx_soq.proofs.opening.term_place.Goals as goal

pub slice_bounds-place_of_term-end : goal.slice_bounds-place_of_term-end
slice_bounds-place_of_term-end c =
    let events = (c.requires.stands).0 in
    let h = (c.requires.stands).1 in
    let when = opened_parts events c.args.opened (sym h.opened ∙ c.requires.opened) in
    let first =
    declared_before events c.args.opened.expiries c.expiries-declared.result.now when.expiries_are
    (c.expiries-declared.ensures.value events h) in
    sym (length-take-le c.args.opened.expiries c.expiries-declared.result.now first.0)

pub returns : goal.returns
returns c = λ events h.
    let day = c.in_ok-day.day in
    let when = opened_parts events c.args.opened (sym h.opened ∙ c.requires.opened) in
    let first =
    declared_before events c.args.opened.expiries c.expiries-declared.result.now when.expiries_are
    (c.expiries-declared.ensures.value events h) in
    finds events day (sym (c.in_ok-day.ensures.value events h)) c.place_of_term.result
    (c.place_of_term.ensures ∙ ap (position (is_same_expiry (opening_expiry day))) first.1)
