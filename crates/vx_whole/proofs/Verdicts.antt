-- Each test of a certificate is met or not, and so it is accepted or one of them is the first that fails.
use Rattle.std.proofs.Common.{◌≡◌, refl, subst, ◌⊎◌, inl, inr, ℕ, ◌+◌, ◌*◌, ◌<◌, ◌≤◌, pos, List, arith}
use Rattle.std.proofs.lemmas.Bool.{cases_lt}
use Rattle.vx_clock.specs.declared.days.DayNo.{DayNo}
use Rattle.vx_clock.specs.declared.limits.TheConstants.{DAY_MINUTES, INDEX_DAYS, INDEX_WINDOW}
use Rattle.vx_clock.specs.declared.terms.Expiry.{Expiry}
use Rattle.vx_feed.specs.declared.events.Event.{Event}
use Rattle.vx_feed.specs.Listed.{is_declared, listed_rows, trade_date}
use Rattle.vx_feed.specs.Standing.{standing_rate}
use Rattle.vx_cert.specs.declared.certificate.CertBody.{CertBody}
use Rattle.vx_cert.specs.declared.certificate.CertBody.TheVariants.{K0, Single, Index, Soq}
use Rattle.vx_cert.specs.declared.certificate.CertFigure.{CertFigure}
use Rattle.vx_cert.specs.declared.certificate.CertTerm.{CertTerm}
use Rattle.vx_cert.specs.declared.certificate.Certificate.{Certificate}
use Rattle.vx_cert.specs.declared.certificate.Pair.{Pair as CertPair}
use Rattle.vx_formula.specs.declared.limits.TheConstants.{THIRTY_DAYS}
use Rattle.vx_claims.specs.declared.acceptance.Test.{Test}
use Rattle.vx_claims.specs.declared.acceptance.Test.TheVariants.{Place, Terms, Minutes, Rate, TaylorTerms, Exponential, ClosestPair, Forward, Level, Excess, Strip, Contributions, Total, Variance, Square, IndexEnds}
use Rattle.vx_claims.specs.Test.{test_number}
use Rattle.vx_claims.specs.Seen.{events_before, moment_of, opening_term_facts, term_facts}
use Rattle.vx_claims.specs.TermTests.{TermMeets}
use Rattle.vx_claims.specs.Accepts.{BodyMeets, FirstFailing, IndexMeets, K0Meets, Meets, OpeningTermMeets, SingleMeets, SoqMeets, TermMeetsAt, scale_of, zero_rate_forward}
use Rattle.vx_claims.proofs.TestNumbers.{same_test}
use Rattle.vx_check.proofs.Verdicts.{first_number, last_number}
use Rattle.vx_whole.specs.Verdicts.{EveryCertificateIsJudged}
use Rattle.vx_whole.proofs.Decided.{IsDecided, both, is_some, is_true, like, of_some, same_number, same_whole}
use Rattle.vx_whole.proofs.FigureTests.{index_ends_are_decided, single_square, square}
use Rattle.vx_whole.proofs.Places.{opening_at, opening_term, picked_terms, tick_at}
use Rattle.vx_whole.proofs.TermTests.{closest_pair, level_of_ends, term_test}

-- ---- a term at a tick and at the opening

term_at : (events : List Event) (version line time : ℕ) (term : CertTerm) (test : Test) → IsDecided (TermMeetsAt events version line time term test)
term_at events version line time term test =
    let Met : DayNo → Type 0 = λ day. TermMeets (scale_of version) (term_facts (events_before events line) (moment_of day time) term.expiry) term test in
    like
    (λ h. record { is_tick = h.0; day = h.1.0; day_is = h.1.1; meets = h.1.2 })
    (λ h. (h.is_tick, (h.day, h.day_is, h.meets)))
    (both (tick_at events line time)
    (of_some Met (λ day. term_test (scale_of version) (term_facts (events_before events line) (moment_of day time) term.expiry) term test) (trade_date events)))

opening_term_at : (events : List Event) (version : ℕ) (term : CertTerm) (test : Test) → IsDecided (OpeningTermMeets events version term test)
opening_term_at events version term test =
    let Met : DayNo → Type 0 = λ day. TermMeets (scale_of version) (opening_term_facts events day) term test in
    like
    (λ h. record { day = h.0; day_is = h.1; meets = h.2 })
    (λ h. (h.day, h.day_is, h.meets))
    (of_some Met (λ day. term_test (scale_of version) (opening_term_facts events day) term test) (trade_date events))

-- ---- each kind

module _ (days window : ℕ) (events : List Event) (version line time : ℕ) where
  -- kind index
  index_test : (stated : ℕ) (near next : CertTerm) (figure : CertFigure) (test : Test) → IsDecided (IndexMeets days window events version line time stated near next figure test)
  index_test stated near next figure Place = both (tick_at events line time) (same_number stated days)
  index_test stated near next figure Terms = picked_terms events line days window near.expiry next.expiry
  index_test stated near next figure Minutes = both (term_at events version line time near Minutes) (term_at events version line time next Minutes)
  index_test stated near next figure Rate = both (term_at events version line time near Rate) (term_at events version line time next Rate)
  index_test stated near next figure TaylorTerms = both (term_at events version line time near TaylorTerms) (term_at events version line time next TaylorTerms)
  index_test stated near next figure Exponential = both (term_at events version line time near Exponential) (term_at events version line time next Exponential)
  index_test stated near next figure ClosestPair = both (term_at events version line time near ClosestPair) (term_at events version line time next ClosestPair)
  index_test stated near next figure Forward = both (term_at events version line time near Forward) (term_at events version line time next Forward)
  index_test stated near next figure Level = both (term_at events version line time near Level) (term_at events version line time next Level)
  index_test stated near next figure Excess = both (term_at events version line time near Excess) (term_at events version line time next Excess)
  index_test stated near next figure Strip = both (term_at events version line time near Strip) (term_at events version line time next Strip)
  index_test stated near next figure Contributions = both (term_at events version line time near Contributions) (term_at events version line time next Contributions)
  index_test stated near next figure Total = both (term_at events version line time near Total) (term_at events version line time next Total)
  index_test stated near next figure Variance = both (term_at events version line time near Variance) (term_at events version line time next Variance)
  index_test stated near next figure Square = square (scale_of version) (DAY_MINUTES * days) near.minutes next.minutes near.w next.w figure.x
  index_test stated near next figure IndexEnds = index_ends_are_decided (scale_of version) figure

  -- kind single
  single_test : (term : CertTerm) (figure : CertFigure) (test : Test) → IsDecided (SingleMeets events version line time term figure test)
  single_test term figure Place = tick_at events line time
  single_test term figure Terms = is_true (is_declared term.expiry (events_before events line))
  single_test term figure Minutes = both (term_at events version line time term Minutes) (same_number term.minutes THIRTY_DAYS)
  single_test term figure Rate = both (term_at events version line time term Rate) (same_whole term.rate (pos 0))
  single_test term figure TaylorTerms = term_at events version line time term TaylorTerms
  single_test term figure Exponential = term_at events version line time term Exponential
  single_test term figure ClosestPair = term_at events version line time term ClosestPair
  single_test term figure Forward = term_at events version line time term Forward
  single_test term figure Level = term_at events version line time term Level
  single_test term figure Excess = term_at events version line time term Excess
  single_test term figure Strip = term_at events version line time term Strip
  single_test term figure Contributions = term_at events version line time term Contributions
  single_test term figure Total = term_at events version line time term Total
  single_test term figure Variance = term_at events version line time term Variance
  single_test term figure Square = single_square (scale_of version) term.w figure.x
  single_test term figure IndexEnds = index_ends_are_decided (scale_of version) figure

  -- kind soq
  soq_test : (term : CertTerm) (figure : CertFigure) (test : Test) → IsDecided (SoqMeets events version line time term figure test)
  soq_test term figure Place = opening_at events line time
  soq_test term figure Terms = opening_term events term.expiry
  soq_test term figure Minutes = opening_term_at events version term Minutes
  soq_test term figure Rate = opening_term_at events version term Rate
  soq_test term figure TaylorTerms = opening_term_at events version term TaylorTerms
  soq_test term figure Exponential = opening_term_at events version term Exponential
  soq_test term figure ClosestPair = opening_term_at events version term ClosestPair
  soq_test term figure Forward = opening_term_at events version term Forward
  soq_test term figure Level = opening_term_at events version term Level
  soq_test term figure Excess = opening_term_at events version term Excess
  soq_test term figure Strip = opening_term_at events version term Strip
  soq_test term figure Contributions = opening_term_at events version term Contributions
  soq_test term figure Total = opening_term_at events version term Total
  soq_test term figure Variance = opening_term_at events version term Variance
  soq_test term figure Square = single_square (scale_of version) term.w figure.x
  soq_test term figure IndexEnds = index_ends_are_decided (scale_of version) figure

  -- kind k0
  level_test : (x : Expiry) (pair : CertPair) (k0 : ℕ) (test : Test) → IsDecided (K0Meets events version line time x pair k0 test)
  level_test x pair k0 Place = tick_at events line time
  level_test x pair k0 Terms = is_true (is_declared x (events_before events line))
  level_test x pair k0 Minutes = inl tt
  level_test x pair k0 Rate = is_some (standing_rate x (events_before events line)) (pos 0) (λ rate. same_whole rate (pos 0))
  level_test x pair k0 TaylorTerms = inl tt
  level_test x pair k0 Exponential = inl tt
  level_test x pair k0 ClosestPair = closest_pair (listed_rows x (events_before events line)) pair
  level_test x pair k0 Forward = inl tt
  level_test x pair k0 Level = level_of_ends (scale_of version) (listed_rows x (events_before events line)) (zero_rate_forward (scale_of version) pair) k0
  level_test x pair k0 Excess = inl tt
  level_test x pair k0 Strip = inl tt
  level_test x pair k0 Contributions = inl tt
  level_test x pair k0 Total = inl tt
  level_test x pair k0 Variance = inl tt
  level_test x pair k0 Square = inl tt
  level_test x pair k0 IndexEnds = inl tt

  body_test : (body : CertBody) (test : Test) → IsDecided (BodyMeets days window events version line time body test)
  body_test (K0 x pair k0) test = level_test x pair k0 test
  body_test (Single term figure) test = single_test term figure test
  body_test (Index stated near next figure) test = index_test stated near next figure test
  body_test (Soq term figure) test = soq_test term figure test

meets : (events : List Event) (c : Certificate) (test : Test) → IsDecided (Meets events c test)
meets events c test = body_test INDEX_DAYS INDEX_WINDOW events c.v c.line c.time c.body test

-- ---- the first test that fails

module _ (Holds : Test → Type 0) (decide : (test : Test) → IsDecided (Holds test)) where
  -- the tests below a number hold, or one of them is the first that fails
  abbrev Tried : ℕ → Type 0
  Tried n = ((test : Test) → test_number test < n → Holds test) ⊎ ((test : Test) × FirstFailing Holds test)

  -- the test of the next number
  try : (n : ℕ) (test : Test) → test_number test ≡ n → Tried n → Tried (n + 1)
  try n test number (inr found) = inr found
  try n test number (inl before) =
      elim (decide test) [
        | inl holds ↦ inl (λ other low.
            elim (cases_lt (test_number other) n) [
              | inl below ↦ before other below
              | inr from ↦ subst Holds (same_test test other (omega arith)) holds
            ])
        | inr fails ↦ inr (test, record { fails = fails; all_before = λ other low. before other (omega arith) })
      ]

  all_tried : Tried 17
  all_tried =
      (try 16 IndexEnds refl
      (try 15 Square refl
      (try 14 Variance refl
      (try 13 Total refl
      (try 12 Contributions refl
      (try 11 Strip refl
      (try 10 Excess refl
      (try 9 Level refl
      (try 8 Forward refl
      (try 7 ClosestPair refl
      (try 6 Exponential refl
      (try 5 TaylorTerms refl
      (try 4 Rate refl
      (try 3 Minutes refl
      (try 2 Terms refl
      (try 1 Place refl
      (inl (λ test low. let first = first_number test in absurd (omega arith)))))))))))))))))))

  -- all hold, or one is the first that fails
  pub all_or_first : ((test : Test) → Holds test) ⊎ ((test : Test) × FirstFailing Holds test)
  all_or_first = elim all_tried [ inl all ↦ inl (λ test. all test (let last = last_number test in omega arith)) | inr found ↦ inr found ]

-- a certificate of either version is accepted, or one of its tests is the first that fails
pub every_certificate_is_judged : EveryCertificateIsJudged
every_certificate_is_judged events c version =
    elim (all_or_first (Meets events c) (meets events c)) [
      | inl all ↦ inl (record { version = version; meets_all = all })
      | inr found ↦ inr found
    ]
