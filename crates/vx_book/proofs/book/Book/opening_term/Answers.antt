use Rattle.std.proofs.Common.{◌≡◌, ◌∙◌, Some, None, length, ap, subst, sym, refl}
use Rattle.std.specs.Prelude.{slice_get}
use Rattle.std.proofs.lemmas.Option.{slice_get_past, slice_get_read}
use Rattle.vx_symbol.specs.Rows.{AreLawfulRows}
use Rattle.vx_feed.specs.Opening.{opening_rate, opening_rows}
use Rattle.vx_book.proofs.NextSeries.{opening_shown}
use Rattle.vx_book.proofs.Openings.{shown_by, shown_by_none}
use Rattle.vx_book.proofs.book.Book.opening_term.Goals as goal

pub returns-in-Some-clause-at_opening : goal.returns-in-Some-clause-at_opening
returns-in-Some-clause-at_opening c = λ events h.
    let book = c.args.self.now in
    let i = c.args.i in
    let x = c.index-expiry.result.now in
    let term = c.in-Some.term.now in
    let at = slice_get_read book.expiries.items (length book.expiries.items) i x refl c.requires.within c.index-expiry.ensures in
    let kept : slice_get book.opening.items i ≡ Some term = ap (λ l. slice_get l i) (sym c.deref.ensures.value)
    ∙ slice_get_read c.deref.result.now (length c.deref.result.now) i term refl c.in-Some.ensures.lookup.3.0 c.in-Some.ensures.lookup.1 in
    let shows = shown_by book.opening.items i term (opening_rate x events) (opening_rows x events) kept (opening_shown book events i x h c.requires.opened at) in
    record { rate = shows.rate_is; rows = c.rows.ensures ∙ shows.rows_are }

pub returns-in-Some-clause-lawful : goal.returns-in-Some-clause-lawful
returns-in-Some-clause-lawful c =
    let book = c.args.self.now in
    let i = c.args.i in
    let x = c.index-expiry.result.now in
    let term = c.in-Some.term.now in
    let events = (c.requires.stands).0 in
    let at = slice_get_read book.expiries.items (length book.expiries.items) i x refl c.requires.within c.index-expiry.ensures in
    let kept : slice_get book.opening.items i ≡ Some term = ap (λ l. slice_get l i) (sym c.deref.ensures.value)
    ∙ slice_get_read c.deref.result.now (length c.deref.result.now) i term refl c.in-Some.ensures.lookup.3.0 c.in-Some.ensures.lookup.1 in
    let shows = shown_by book.opening.items i term (opening_rate x events) (opening_rows x events) kept (opening_shown book events i x (c.requires.stands).1 c.requires.opened at) in
    record { rate = shows.rate_in_range; rows = subst AreLawfulRows (sym c.rows.ensures) shows.rows_lawful }

pub returns-in-None-clause-expiry : goal.returns-in-None-clause-expiry
returns-in-None-clause-expiry c =
    let xs = (c.args.self.now).expiries.items in
    slice_get_read xs (length xs) c.args.i c.index-expiry.result.now refl c.requires.within c.index-expiry.ensures

pub returns-in-None-clause-at_opening : goal.returns-in-None-clause-at_opening
returns-in-None-clause-at_opening c = λ events h.
    let book = c.args.self.now in
    let i = c.args.i in
    let x = c.index-expiry.result.now in
    let at = slice_get_read book.expiries.items (length book.expiries.items) i x refl c.requires.within c.index-expiry.ensures in
    let none : slice_get book.opening.items i ≡ None = ap (λ l. slice_get l i) (sym c.deref.ensures.value) ∙ slice_get_past c.deref.result.now i c.in-None.ensures.lookup.3 in
    let shows = shown_by_none book.opening.items i (opening_rate x events) (opening_rows x events) none (opening_shown book events i x h c.requires.opened at) in
    record { rate = shows.rate_is; rows = shows.rows_are }
