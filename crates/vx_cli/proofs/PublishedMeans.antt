-- The certificate of a published figure means what it states.
use Rattle.std.proofs.Common.{◌≡◌, ◌∙◌, sym, ap, subst, ℕ, ℤ, List, Option, Some, None}
use Rattle.std.proofs.lemmas.Option.{same_Some}
use Rattle.vx_clock.specs.declared.days.DayNo.{DayNo}
use Rattle.vx_clock.specs.declared.limits.TheConstants.{INDEX_DAYS, INDEX_WINDOW}
use Rattle.vx_clock.specs.declared.terms.Expiry.{Expiry}
use Rattle.vx_clock.specs.declared.terms.Moment.{Moment}
use Rattle.vx_clock.specs.Terms.{IsNearTerm, IsNextTerm}
use Rattle.vx_clock.proofs.TermsAreOne.{near_is_one, next_is_one}
use Rattle.vx_feed.specs.declared.events.Event.{Event}
use Rattle.vx_feed.specs.Listed.{declared_expiries}
use Rattle.vx_cert.specs.declared.certificate.CertBody.{CertBody}
use Rattle.vx_cert.specs.declared.certificate.CertBody.TheVariants.{K0, Single, Index, Soq}
use Rattle.vx_cert.specs.declared.certificate.CertFigure.{CertFigure}
use Rattle.vx_cert.specs.declared.certificate.Certificate.{Certificate}
use Rattle.vx_formula.specs.Term.{TermFacts, Term, IsTermOf}
use Rattle.vx_formula.specs.Index.{Basis, TwoTerms}
use Rattle.vx_formula.specs.Refusal.{TickFacts, TickReason, TickRefuses, IsTickBasis}
use Rattle.vx_claims.specs.declared.acceptance.Test.TheVariants.{Terms}
use Rattle.vx_claims.specs.declared.limits.TheConstants.{SCALE}
use Rattle.vx_claims.specs.Accepts.{BodyMeets}
use Rattle.vx_claims.specs.Answers.{PublishesTick, StatesFigure, StatesIndex}
use Rattle.vx_claims.specs.Means.{BodyMeans, IsFigureOf, IsTermSeen, Means}
use Rattle.vx_claims.specs.Seen.{AreNearFacts, AreNextFacts, ArePickedTerms, AreTickFacts, events_before, moment_of, term_facts}

-- ---- the figure

-- a figure by the numbers that a certificate states
pub figure_stated : (basis : Basis) (figure : CertFigure) (cents : ℕ) (lo hi : ℤ) → StatesFigure figure cents lo hi → IsFigureOf basis cents lo hi
    → IsFigureOf basis figure.cents figure.lo figure.hi
figure_stated basis figure cents lo hi states is =
    subst (λ (n : ℕ). IsFigureOf basis n figure.lo figure.hi) (sym states.cents_are)
    (subst (λ (z : ℤ). IsFigureOf basis cents z figure.hi) (sym states.lo_is)
    (subst (λ (z : ℤ). IsFigureOf basis cents lo z) (sym states.hi_is) is))

-- ---- the terms

module _ (events : List Event) (day : DayNo) (time days window : ℕ) where
  abbrev now : Moment
  now = moment_of day time

  -- the facts of a near term are those of one expiry, the one that is picked
  near_facts_of : (chosen : Option TermFacts) (facts : TermFacts) (picked : Expiry) → AreNearFacts events now days window chosen
      → chosen ≡ Some facts → IsNearTerm day days window (declared_expiries events) picked → facts ≡ term_facts events now picked
  near_facts_of None facts picked h is near = absurd cc
  near_facts_of (Some f) facts picked (x, is_near, is_of) is near =
      let same : f ≡ facts = same_Some f facts is in
      let one : x ≡ picked = near_is_one day days window (declared_expiries events) x picked is_near near in
      sym same ∙ is_of ∙ ap (λ (y : Expiry). term_facts events now y) one

  next_facts_of : (chosen : Option TermFacts) (facts : TermFacts) (picked : Expiry) → AreNextFacts events now days window chosen
      → chosen ≡ Some facts → IsNextTerm day days window (declared_expiries events) picked → facts ≡ term_facts events now picked
  next_facts_of None facts picked h is next = absurd cc
  next_facts_of (Some f) facts picked (x, is_next, is_of) is next =
      let same : f ≡ facts = same_Some f facts is in
      let one : x ≡ picked = next_is_one day days window (declared_expiries events) x picked is_next next in
      sym same ∙ is_of ∙ ap (λ (y : Expiry). term_facts events now y) one

-- ---- the certificate

module _ (events : List Event) (line time days window cents : ℕ) (lo hi : ℤ) (facts : TickFacts) (near next : Term) where
  near_seen : (x y : Expiry) → AreTickFacts events line time days window facts → IsTickBasis facts near next
      → ArePickedTerms events line days window x y → IsTermSeen events line time x near
  near_seen x y are basis picked =
      let days_one : picked.day ≡ are.day = same_Some picked.day are.day (sym picked.day_is ∙ are.day_is) in
      let is_near = subst (λ (d : DayNo). IsNearTerm d days window (declared_expiries (events_before events line)) x) days_one picked.is_near in
      record {
        is_tick = are.is_tick;
        day = are.day;
        day_is = are.day_is;
        of_facts = subst (λ (f : TermFacts). IsTermOf f near)
            (near_facts_of (events_before events line) are.day time days window facts.near basis.near_facts x are.near_facts basis.near_is is_near)
            basis.near_of;
      }

  next_seen : (x y : Expiry) → AreTickFacts events line time days window facts → IsTickBasis facts near next
      → ArePickedTerms events line days window x y → IsTermSeen events line time y next
  next_seen x y are basis picked =
      let days_one : picked.day ≡ are.day = same_Some picked.day are.day (sym picked.day_is ∙ are.day_is) in
      let is_next = subst (λ (d : DayNo). IsNextTerm d days window (declared_expiries (events_before events line)) y) days_one picked.is_next in
      record {
        is_tick = are.is_tick;
        day = are.day;
        day_is = are.day_is;
        of_facts = subst (λ (f : TermFacts). IsTermOf f next)
            (next_facts_of (events_before events line) are.day time days window facts.next basis.next_facts y are.next_facts basis.next_is is_next)
            basis.next_of;
      }

  body_means : (version : ℕ) (body : CertBody) → StatesIndex body days cents lo hi → BodyMeets days window events version line time body Terms
      → AreTickFacts events line time days window facts → IsTickBasis facts near next → IsFigureOf (TwoTerms near next facts.target) cents lo hi
      → ((reason : TickReason) → ¬ TickRefuses SCALE facts reason) → BodyMeans days window events line time body
  body_means version (K0 x pair k0) states picked are basis figure none = absurd states
  body_means version (Single term stated) states picked are basis figure none = absurd states
  body_means version (Soq term stated) states picked are basis figure none = absurd states
  body_means version (Index stated_days first second stated) (days_are, states) picked are basis figure none = record {
    picked = picked;
    facts = facts;
    are_facts = are;
    near = near;
    next = next;
    near_is_seen = near_seen first.expiry second.expiry are basis picked;
    next_is_seen = next_seen first.expiry second.expiry are basis picked;
    is_basis = basis;
    is_figure = figure_stated (TwoTerms near next facts.target) stated cents lo hi states figure;
    none_refuses = none;
  }

abbrev Publishes : List Event → ℕ → ℕ → ℕ → ℤ → ℤ → Certificate → Type 0
Publishes events line time cents lo hi c = PublishesTick events line time INDEX_DAYS INDEX_WINDOW cents lo hi c

named_means : (events : List Event) (cents : ℕ) (lo hi : ℤ) (c : Certificate) → Publishes events c.line c.time cents lo hi c → Means events c
named_means events cents lo hi c h =
    body_means events c.line c.time INDEX_DAYS INDEX_WINDOW cents lo hi h.facts h.near h.next c.v c.body h.states (h.accepted.meets_all Terms)
    h.are_facts h.is_basis h.is_figure h.none_refuses

-- the certificate that a tick's figure is published with means what it states
pub published_means : (events : List Event) (line time cents : ℕ) (lo hi : ℤ) (c : Certificate) → Publishes events line time cents lo hi c
    → Means events c
published_means events line time cents lo hi c h =
    named_means events cents lo hi c
    (subst (λ (l : ℕ). Publishes events l c.time cents lo hi c) (sym h.names_line.line_is)
    (subst (λ (t : ℕ). Publishes events line t cents lo hi c) (sym h.names_line.time_is) h))
