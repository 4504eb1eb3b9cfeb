-- A lawful list of events lists at most 2,000 strikes of an expiry.
use Rattle.std.proofs.Common.{◌≡◌, ◌∙◌, sym, subst, refl, ◌+◌, ◌≤◌, inl, inr, ℕ, Bool, true, false, cond, not, ◌&&◌, List, [], ◌∷◌, ◌++◌, length, Option, Some, None, append_assoc, arith}
use Rattle.std.proofs.lemmas.List.{append-nil}
use Rattle.std.specs.Prelude.{nat_le}
use Rattle.std.proofs.lemmas.Bool.{cases_Bool, cond-true, cond-false, or_parts, leb-false}
use Rattle.vx_clock.specs.declared.terms.Expiry.{Expiry}
use Rattle.vx_symbol.specs.declared.limits.TheConstants.{ROWS_MAX}
use Rattle.vx_feed.specs.declared.events.Event.{Event}
use Rattle.vx_feed.specs.declared.events.Event.TheVariants as event
use Rattle.vx_feed.specs.declared.faults.FeedFault.{FeedFault}
use Rattle.vx_feed.specs.Same.{is_same_expiry}
use Rattle.vx_feed.specs.Listed.{expiry_of, with_strike, listed_strike, strikes_of}
use Rattle.vx_feed.specs.Order.{first_fault, order_causes, order_fault, is_too_many, has_too_many_expiries, has_too_many_strikes, IsLawfulNext, AreLawfulAfter, AreLawful}
use Rattle.vx_feed.proofs.NextEvent.{next_strikes}
use Rattle.vx_feed.proofs.SameLemmas.{expiry_from_same}
use Rattle.vx_feed.proofs.StrikeLemmas.{has_strike, length-strike_more}

-- no cause of these holds
abbrev NoneHolds : List (Bool × FeedFault) → Type 0
NoneHolds [] = Unit {0}
NoneHolds (c ∷ cs) = (c.0 ≡ false) × NoneHolds cs

none_holds : (causes : List (Bool × FeedFault)) → first_fault causes ≡ None → NoneHolds causes
none_holds [] h = tt
none_holds (c ∷ cs) h =
    elim (cases_Bool c.0) [
      | inl holds ↦ let said : Some c.1 ≡ None = sym (cond-true c.0 (Some c.1) (first_fault cs) holds) ∙ h in absurd cc
      | inr fails ↦ (fails, none_holds cs (sym (cond-false c.0 (Some c.1) (first_fault cs) fails) ∙ h))
    ]

none_too_many : (before : List Event) (e : Event) → order_fault before e ≡ None → is_too_many before e ≡ false
none_too_many before e h = (none_holds (order_causes before e) h).1.1.1.1.1.1.0

-- a new strike fits where there are not too many
fits : (n : ℕ) (has : Bool) → n ≤ ROWS_MAX → (nat_le ROWS_MAX n && not has) ≡ false → n + cond has 0 1 ≤ ROWS_MAX
fits n true h test = omega arith
fits n false h test = let more = leb-false ROWS_MAX n (and_true (nat_le ROWS_MAX n) test) in omega arith
  where
    and_true : (b : Bool) → (b && true) ≡ false → b ≡ false
    and_true true h = h
    and_true false h = refl

with_fits : (x : Expiry) (before : List Event) (e : Event) → IsLawfulNext before e → length (strikes_of x before) ≤ ROWS_MAX
    → length (with_strike (listed_strike x e) (strikes_of x before)) ≤ ROWS_MAX
with_fits x before (event.Series s) h few =
    let ks = strikes_of x before in
    let P : Option ℕ → Type 0 = λ o. length (with_strike o ks) ≤ ROWS_MAX in
    elim (cases_Bool (is_same_expiry x (expiry_of s))) [
      | inr other ↦ subst P (sym (cond-false (is_same_expiry x (expiry_of s)) (Some s.strike) None other)) few
      | inl same ↦
          let x_is : x ≡ expiry_of s = expiry_from_same x (expiry_of s) same in
          let tests = or_parts (has_too_many_expiries before (event.Series s)) _ (none_too_many before (event.Series s) h.in_order) in
          let room = (or_parts (has_too_many_strikes before (event.Series s)) _ tests.1).0 in
          let Q : Expiry → Type 0 = λ y. (nat_le ROWS_MAX (length (strikes_of y before)) && not (has_strike s.strike (strikes_of y before))) ≡ false in
          let fitted = fits (length ks) (has_strike s.strike ks) few (subst Q (sym x_is) room) in
          let more = length-strike_more x s.strike before in
          subst P (sym (cond-true (is_same_expiry x (expiry_of s)) (Some s.strike) None same)) (omega (arith, more, fitted))
    ]
with_fits x before (event.Header day) h few = few
with_fits x before (event.Expiry y) h few = few
with_fits x before (event.Rate y rate) h few = few
with_fits x before (event.Quote time s bid ask) h few = few
with_fits x before (event.Trade time s price) h few = few
with_fits x before (event.Tick time) h few = few
with_fits x before (event.Opening time) h few = few
with_fits x before (event.End count) h few = few

few_after : (x : Expiry) (before events : List Event) → AreLawfulAfter before events → length (strikes_of x before) ≤ ROWS_MAX → length (strikes_of x (before ++ events)) ≤ ROWS_MAX
few_after x before [] h few = subst (λ l. length (strikes_of x l) ≤ ROWS_MAX) (sym (append-nil before)) few
few_after x before (e ∷ events) h few =
    subst (λ l. length (strikes_of x l) ≤ ROWS_MAX) (append_assoc before (e ∷ []) events)
    (few_after x (before ++ e ∷ []) events h.1 (subst (λ (ks : List ℕ). length ks ≤ ROWS_MAX) (sym (next_strikes x before e)) (with_fits x before e h.0 few)))

-- at most 2,000 strikes of an expiry are listed on either side
pub few_strikes_listed : (x : Expiry) (events : List Event) → AreLawful events → length (strikes_of x events) ≤ ROWS_MAX
few_strikes_listed x events h = few_after x [] events h (omega arith)
