use Rattle.std.proofs.Common.{◌≡◌, ℕ, None, IsTrue, true, false, sym, ◌∙◌, subst}
use Rattle.vx_formula.specs.Level.{strike_at}
use Rattle.vx_formula.specs.Selection.{selected_rows}
use Rattle.vx_tests.specs.Stated.{AreSameFrom}
use Rattle.vx_tests.proofs.StripLemmas.{parts_of_strip, strip_of_parts}
use Rattle.vx_tests.proofs.strip.is_strip.Goals as goal

pub returns-then-are_selected : goal.returns-then-are_selected
returns-then-are_selected c = λ rise.
    let rows = c.args.rows.now in
    let stated = c.args.stated.now in
    let level = strike_at rows c.args.level in
    let Same : ℕ → Type 0 = λ at. AreSameFrom rows at 0 stated 0 in
    let both = c.are_selected.ensures rise in
    let same = subst Same c.reach_of.ensures.level (both.0 c.if-are_selected.true) in (
      λ t. strip_of_parts level None stated (selected_rows rows level) same (c.are_widths.ensures.0 t),
      λ e. c.are_widths.ensures.1 (parts_of_strip level None stated (selected_rows rows level) e).1,
    )

pub returns-else-are_selected : goal.returns-else-are_selected
returns-else-are_selected c = λ rise.
    let rows = c.args.rows.now in
    let stated = c.args.stated.now in
    let level = strike_at rows c.args.level in
    let Same : ℕ → Type 0 = λ at. AreSameFrom rows at 0 stated 0 in
    let never : IsTrue c.are_selected.result → ⊥ = λ t. let q : true ≡ false = sym t ∙ c.if-are_selected.false in cc q in
    let both = c.are_selected.ensures rise in (
      λ t. absurd (never t),
      λ e. both.1 (subst Same (sym c.reach_of.ensures.level) (parts_of_strip level None stated (selected_rows rows level) e).0),
    )
