use Rattle.std.proofs.Common.{length, arith}
use Rattle.std.proofs.lemmas.Bool.Decides.{Decides-like, Decides-eqb}
use Rattle.vx_formula.specs.Level.{strike_at}
use Rattle.vx_formula.specs.Selection.{is_selected}
use Rattle.vx_tests.proofs.StripLemmas.{at_the_end}
use Rattle.vx_tests.proofs.strip.are_selected.Goals as goal

pub returns : goal.returns
returns c = λ rise.
    let rows = c.args.rows.now in
    let stated = c.args.stated.now in
    let next = c.loop-place.next in
    let rest = c.loop-place.invariant.rest rise in
    let last = at_the_end (is_selected rows (strike_at rows c.args.reach.level)) (strike_at rows c.args.reach.level) rows c.loop-place.place stated next (omega arith) c.loop-place.invariant.within in
    Decides-like _ (λ e. rest.1 (last.1 e)) (λ h. last.0 (rest.0 h)) (Decides-eqb next (length stated))
