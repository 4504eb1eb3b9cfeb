-- Each declared expiry of lawful events is in range.
use Rattle.std.proofs.Common.{◌≡◌, ◌∙◌, ap, subst, refl, List, [], ◌∷◌, Option, Some, None, inl, inr}
use Rattle.std.specs.List.{cons_option, filter_map}
use Rattle.std.proofs.lemmas.Option.{same_Some}
use Rattle.vx_clock.specs.declared.terms.Expiry.{Expiry}
use Rattle.vx_feed.specs.declared.events.Event.{Event}
use Rattle.vx_feed.specs.declared.events.Event.TheVariants as event
use Rattle.vx_feed.specs.Listed.{declared_expiry, declared_expiries}
use Rattle.vx_feed.specs.Ranges.{IsEventInRange}
use Rattle.vx_formula.proofs.Lists.{In, in_from_contains}
use Rattle.vx_cert.specs.Ranges.{IsExpiryInRange}
use Rattle.vx_claims.proofs.InRange.{lawful_in_range}
use Rattle.vx_accepted.specs.Facts.{DeclaredExpiriesAreInRange}

-- what an event in range declares is in range
declared_in_range : (e : Event) (x : Expiry) → IsEventInRange e → declared_expiry e ≡ Some x → IsExpiryInRange x
declared_in_range (event.Expiry y) x range is = subst IsExpiryInRange (same_Some y x is) (record { first = range.0; last = range.1 })
declared_in_range (event.Header day) x range is = cc
declared_in_range (event.Rate y rate) x range is = cc
declared_in_range (event.Series s) x range is = cc
declared_in_range (event.Quote time s bid ask) x range is = cc
declared_in_range (event.Trade time s price) x range is = cc
declared_in_range (event.Tick time) x range is = cc
declared_in_range (event.Opening time) x range is = cc
declared_in_range (event.End count) x range is = cc

-- a member of what is kept comes from an element
in_filter_map : {X Y : Type 0} (f : X → Option Y) (xs : List X) (y : Y) → In (filter_map f xs) y → (x : X) × In xs x × (f x ≡ Some y)
in_filter_map {X = X} {Y = Y} f [] y h = elim h [ ]
in_filter_map {X = X} {Y = Y} f (x ∷ xs) y h = with_first (f x) refl (λ later. in_filter_map f xs y later) h
  where
    with_first : (o : Option Y) → f x ≡ o → (In (filter_map f xs) y → (z : X) × In xs z × (f z ≡ Some y)) → In (cons_option o (filter_map f xs)) y
        → (z : X) × In (x ∷ xs) z × (f z ≡ Some y)
    with_first None is rest at = let found = rest at in (found.0, inr found.1, found.2)
    with_first (Some v) is rest (inl same) = (x, inl refl, is ∙ ap (λ z. Some z) same)
    with_first (Some v) is rest (inr later) = let found = rest later in (found.0, inr found.1, found.2)

-- each declared expiry of lawful events is a day of the years 2000 to 2099
pub declared_expiries_are_in_range : DeclaredExpiriesAreInRange
declared_expiries_are_in_range events x lawful declared =
    let found = in_filter_map declared_expiry events x (in_from_contains (declared_expiries events) x declared) in
    declared_in_range found.0 x (lawful_in_range events lawful found.0 found.1) found.2
