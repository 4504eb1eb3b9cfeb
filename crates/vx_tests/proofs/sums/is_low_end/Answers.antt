use Rattle.std.proofs.Common.{ℕ, ◌*◌, ◌≤◌, nat_le, sym, subst}
use Rattle.std.proofs.lemmas.Bool.Decides.{Decides-like}
use Rattle.vx_tests.proofs.Decisions.{decides_le}
use Rattle.vx_tests.proofs.Products.{quarters_in_order}
use Rattle.vx_tests.proofs.sums.is_low_end.Goals as goal

pub returns : goal.returns
returns c =
    let row = c.args.row.now in
    let P = c.args.scale in
    let both = quarters_in_order row.lo row.strike (5 * (row.d * row.q4)) P c.requires.low in
    let F : ℕ → ℕ → Type 0 = λ a b. a ≤ b in
    let a = c.times_square.result in
    let b = c.contribution.result in
    Decides-like (nat_le a b)
    (λ h. both.0 (subst (λ y. F (row.lo * (row.strike * row.strike)) y) c.contribution.ensures (subst (λ x. F x b) c.times_square.ensures h)))
    (λ h. subst (λ x. F x b) (sym c.times_square.ensures) (subst (λ y. F (row.lo * (row.strike * row.strike)) y) (sym c.contribution.ensures) (both.1 h)))
    (decides_le a b)
