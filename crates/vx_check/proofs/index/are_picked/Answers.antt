use Rattle.std.proofs.Common.{◌≡◌, ◌↔◌, List, IsTrue, false, true, sym, subst, ◌∙◌}
use Rattle.vx_clock.specs.declared.terms.Expiry.{Expiry}
use Rattle.vx_clock.specs.Terms.{IsNearTerm, IsNextTerm}
use Rattle.vx_check.proofs.AtTick.{picked_at, none_picked}
use Rattle.vx_check.proofs.index.are_picked.Goals as goal

pub returns-in-Some : goal.returns-in-Some
returns-in-Some c = λ events line h.
    let day = c.in-Some.day in
    let a = c.args in
    let is = sym c.day.ensures ∙ c.in-Some.is in
    let F : List Expiry → Type 0 = λ xs. IsTrue c.are_terms_among.result ↔ (IsNearTerm day a.days a.window xs a.near × IsNextTerm day a.days a.window xs a.next) in
    picked_at a.book.now events line a.time h a.days a.window a.near a.next day is c.are_terms_among.result (subst F c.expiries.ensures c.are_terms_among.ensures)

pub returns-in-None : goal.returns-in-None
returns-in-None c = λ events line h.
    let a = c.args in
    let is = sym c.day.ensures ∙ c.in-None.is in
    let never : IsTrue false → ⊥ = λ t. let e : false ≡ true = t in cc e in
    (λ t. absurd (never t), λ m. absurd (none_picked a.book.now events line a.time h a.days a.window a.near a.next is m))
