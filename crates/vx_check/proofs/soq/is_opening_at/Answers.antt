use Rattle.std.proofs.Common.{◌≡◌, IsTrue, false, true, sym}
use Rattle.vx_check.proofs.AtOpening.{place_at, no_place}
use Rattle.vx_check.proofs.soq.is_opening_at.Goals as goal

pub returns-in-Some : goal.returns-in-Some
returns-in-Some c = λ events stands lawful.
    let kept = rw c.in-Some.is at c.opening.ensures in
    place_at c.args.book.now events stands lawful c.args.line c.args.time c.in-Some.opening.now (sym kept) c.is_of.result c.is_of.ensures

pub returns-in-None : goal.returns-in-None
returns-in-None c = λ events stands lawful.
    let kept = rw c.in-None.is at c.opening.ensures in
    let never : IsTrue false → ⊥ = λ t. let e : false ≡ true = t in cc e in
    (λ t. absurd (never t), λ at. absurd (no_place c.args.book.now events stands lawful c.args.line c.args.time (sym kept) at))
