use Rattle.std.proofs.Common.{◌≡◌, ◌∙◌, ap, refl, true, false, map, length, arith, rules}
use Rattle.std.specs.HashSet.{contains}
use Rattle.vx_clock.specs.declared.terms.Expiry.{Expiry}
use Rattle.vx_feed.specs.Same.{is_same_series}
use Rattle.vx_feed.specs.Listed.{expiry_of, other_side}
use Rattle.vx_feed.specs.Noted.{kept_expiry, kept_strikes, with_one_more}
use Rattle.vx_feed.proofs.KeptLemmas.{expiries-one_more, written_back}
use Rattle.vx_feed.proofs.OrderLemmas.{strikes_of_listed, strikes_of_new, takes_series}
use Rattle.vx_feed.proofs.SameLemmas.{inserted_by_parts, series_by_parts}
use Rattle.vx_feed.proofs.order.Order.list.Goals as goal

pub returns-then-has_strike-clause-taken : goal.returns-then-has_strike-clause-taken
returns-then-has_strike-clause-taken c =
    let order = c.args.self.now in
    let s = c.args.symbol.now in
    let had : contains is_same_series order.series (other_side s) ≡ true = search rules in
    let updates = c.in_ok-insert.ensures.updates in
    takes_series order _ s refl refl refl refl refl refl (λ x. strikes_of_listed order s x had)
    (inserted_by_parts _ series_by_parts s order.series.keys c.insert.new.self.keys updates.0)

pub returns-clause-taken : goal.returns-clause-taken
returns-clause-taken c =
    let order = c.args.self.now in
    let s = c.args.symbol.now in
    let new : contains is_same_series order.series (other_side s) ≡ false = search rules in
    let updates = c.in_ok-insert.ensures.updates in
    let before : c.deref_mut.result.now ≡ order.expiries.items = c.deref_mut.ensures.value in
    let more : c.add_strike.new.expiries ≡ with_one_more (expiry_of s) order.expiries.items =
    c.add_strike.ensures ∙ ap (λ x. with_one_more x c.deref_mut.result.now) c.expiry_of.ensures ∙ ap (with_one_more (expiry_of s)) before in
    let expiries = written_back order.expiries.len c.add_strike.new.expiries order.expiries.items (omega (arith, order.expiries.ok.0)) (c.add_strike.auto.expiries ∙ ap length before) ∙ more in
    takes_series order _ s refl refl refl refl refl
    (ap (map kept_expiry) expiries ∙ expiries-one_more (expiry_of s) order.expiries.items)
    (λ (x : Expiry). ap (kept_strikes x) expiries ∙ strikes_of_new order s x c.requires new)
    (inserted_by_parts _ series_by_parts s order.series.keys c.insert.new.self.keys updates.0)
