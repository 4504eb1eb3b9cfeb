use Rattle.std.proofs.Common.{◌≡◌, Option, Some, None, IsSomeAnd, ◌∙◌, ap, refl, subst}
use Rattle.std.specs.List.{slice_get}
use Rattle.std.proofs.lemmas.Option.{same_Some}
use Rattle.vx_clock.specs.declared.terms.Expiry.{Expiry}
use Rattle.vx_clock.specs.Terms.{IsNearTerm, IsNextTerm}
use Rattle.vx_clock.proofs.TermsAreOne.{near_is_one, next_is_one}
use Rattle.vx_check.proofs.index.are_terms_among.Goals as goal

found : (o : Option Expiry) (P : Expiry → Type 0) → IsSomeAnd o P → (e : Expiry) × (o ≡ Some e) × P e
found None P h = absurd h
found (Some e) P h = (e, refl, h)

holds : (o : Option Expiry) (P : Expiry → Type 0) → IsSomeAnd o P → (e : Expiry) → o ≡ Some e → P e
holds None P h e is = absurd h
holds (Some d) P h e is = subst P (same_Some d e is) h

pub returns-in-Ok : goal.returns-in-Ok
returns-in-Ok c =
    let a = c.args in
    let xs = c.args.expiries.now in
    let today = c.args.now.day in
    let Near : Expiry → Type 0 = IsNearTerm today a.days a.window xs in
    let Next : Expiry → Type 0 = IsNextTerm today a.days a.window xs in
    let near = found (slice_get xs c.in-Ok.first) Near c.in-Ok.ensures.near in
    let next = found (slice_get xs c.in-Ok.second) Next c.in-Ok.ensures.next in (
      λ t. let both = c.are_at.ensures.0 t in (
        holds (slice_get xs c.in-Ok.first) Near c.in-Ok.ensures.near a.near both.0,
        holds (slice_get xs c.in-Ok.second) Next c.in-Ok.ensures.next a.next both.1,
      ),
      λ m. c.are_at.ensures.1 (
        near.1 ∙ ap Some (near_is_one today a.days a.window xs near.0 a.near near.2 m.0),
        next.1 ∙ ap Some (next_is_one today a.days a.window xs next.0 a.next next.2 m.1),
      ),
    )
