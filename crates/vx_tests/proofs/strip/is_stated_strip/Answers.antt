use Rattle.std.proofs.Common.{◌≡◌, IsTrue, true, false, sym, ◌∙◌}
use Rattle.vx_tests.proofs.StripLemmas.{strip_stated, sides_stated, entries_stated}
use Rattle.vx_tests.proofs.strip.is_stated_strip.Goals as goal

pub returns-then-has_sides : goal.returns-then-has_sides
returns-then-has_sides c = λ rise.
    let rows = c.args.rows.now in
    let stated = c.args.stated.now in
    let level = c.in-Some.level in
    let both = c.is_strip.ensures rise in
    let sides = c.has_sides.ensures.0 c.if-has_sides.true in (
      λ t. strip_stated rows level c.args.k0 stated rise c.in-Some.ensures.within c.in-Some.ensures.found sides (both.0 t),
      λ h. both.1 (entries_stated rows level c.args.k0 stated rise c.in-Some.ensures.within c.in-Some.ensures.found h),
    )

pub returns-else-has_sides : goal.returns-else-has_sides
returns-else-has_sides c = λ rise.
    let rows = c.args.rows.now in
    let level = c.in-Some.level in
    let never : IsTrue c.has_sides.result → ⊥ = λ t. let q : true ≡ false = sym t ∙ c.if-has_sides.false in cc q in (
      λ t. absurd (never t),
      λ h. c.has_sides.ensures.1 (sides_stated rows level c.args.k0 c.args.stated.now rise c.in-Some.ensures.within c.in-Some.ensures.found h),
    )
