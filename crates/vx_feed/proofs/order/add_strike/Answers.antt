use Rattle.std.proofs.Common.{◌≡◌, ◌∙◌, sym, ap, ◌<◌, ◌≤◌, true, length, get_or, rules, arith}
use Rattle.std.specs.List.{list_any}
use Rattle.std.proofs.lemmas.List.{take_all}
use Rattle.vx_feed.specs.Noted.{keeps, kept_strikes, with_one_more}
use Rattle.vx_feed.proofs.KeptLemmas.{no_declared, one_more_at_first, one_more_of_none, strikes_at_first}
use Rattle.vx_feed.proofs.order.add_strike.Goals as goal

pub overflow_add-declared : goal.overflow_add-declared
overflow_add-declared c =
    let x = c.args.expiry in
    let ds = c.loop-declared.expiries in
    let i = c.loop-declared.declared-index in
    let within : i < length ds = omega arith in
    let here : keeps x (get_or ds i no_declared) ≡ true = search rules in
    let kept = strikes_at_first x ds i no_declared within c.loop-declared.invariant.0 here in
    let same = ap (kept_strikes x) c.loop-declared.invariant.1 in
    omega arith

pub returns-then-eq : goal.returns-then-eq
returns-then-eq c =
    let x = c.args.expiry in
    let ds = c.loop-declared.expiries in
    let i = c.loop-declared.declared-index in
    let within : i < length ds = omega arith in
    let here : keeps x (get_or ds i no_declared) ≡ true = search rules in
    one_more_at_first x ds i no_declared within c.loop-declared.invariant.0 here ∙ ap (with_one_more x) c.loop-declared.invariant.1

pub returns : goal.returns
returns c =
    let x = c.args.expiry in
    let ds = c.loop-declared.expiries in
    let i = c.loop-declared.declared-index in
    let past : length ds ≤ i = omega arith in
    let none = sym (ap (list_any (keeps x)) (take_all i ds past)) ∙ c.loop-declared.invariant.0 in
    sym (one_more_of_none x ds none) ∙ ap (with_one_more x) c.loop-declared.invariant.1
