-- The first failing test is one, and the ends of an accepted figure are decided.
use Rattle.std.proofs.Common.{◌≡◌, ℕ, ◌+◌, ◌*◌, ℤ, pos, ◌-ℤ◌, ◌≤ℤ◌, ◌<ℤ◌, List, ◌∙◌, inl, inr, arith}
use Rattle.std.proofs.lemmas.Int.{ints}
use Rattle.std.proofs.lemmas.Bool.{cases_order}
use Rattle.vx_feed.specs.declared.events.Event.{Event}
use Rattle.vx_cert.specs.declared.certificate.CertFigure.{CertFigure}
use Rattle.vx_cert.specs.declared.certificate.Certificate.{Certificate}
use Rattle.vx_formula.specs.declared.limits.TheConstants.{CENT, HALF_CENT}
use Rattle.vx_formula.specs.Undecided.{Straddles}
use Rattle.vx_claims.specs.declared.acceptance.Test.{Test}
use Rattle.vx_claims.specs.Test.{test_number}
use Rattle.vx_claims.specs.FigureTests.{EnclosesIndex}
use Rattle.vx_claims.specs.Accepts.{Meets, Accepts, FirstFailing}
use Rattle.vx_claims.proofs.TestNumbers.{same_test}

-- the number of the first test that fails is one
failing_number_is_one : (Holds : Test → Type 0) (s t : Test) → FirstFailing Holds s → FirstFailing Holds t → test_number s ≡ test_number t
failing_number_is_one Holds s t h l =
    elim (cases_order (test_number s) (test_number t)) [
      | inl e ↦ e
      | inr apart ↦ elim apart [ inl less ↦ absurd (h.fails (l.all_before s less)) | inr more ↦ absurd (l.fails (h.all_before t more)) ]
    ]

-- of a certificate at most one test is the first that fails
pub failing_test_is_one : (events : List Event) (c : Certificate) (s t : Test) → FirstFailing (Meets events c) s → FirstFailing (Meets events c) t → s ≡ t
failing_test_is_one events c s t h l = same_test s t (failing_number_is_one (Meets events c) s t h l)

-- of an accepted certificate no test fails
pub accepted_has_no_failing_test : (events : List Event) (c : Certificate) (test : Test) → Accepts events c → FirstFailing (Meets events c) test → ⊥
accepted_has_no_failing_test events c test h l = l.fails (h.meets_all test)

-- a half cent above the low end of a figure is above its high end too
half_cent_is_above : (c k : ℕ) (lo hi : ℤ) → (pos (CENT * c) -ℤ pos HALF_CENT) ≤ℤ lo → hi <ℤ pos (CENT * c + HALF_CENT) → lo <ℤ pos (CENT * k + HALF_CENT) → pos (CENT * k + HALF_CENT) ≤ℤ hi → ⊥
half_cent_is_above c k lo hi low high above at_most = omega (arith, ints)

-- no boundary lies between the ends of a figure that meets the last test
pub stated_ends_are_decided : (P : ℕ) (figure : CertFigure) → EnclosesIndex P figure → Straddles figure.lo figure.hi → ⊥
stated_ends_are_decided P figure h s =
    let not_negative = h.not_negative in
    let above = s.above in
    let at_most = s.at_most in
    elim s.is_boundary [
      | inl e ↦ omega (arith, ints)
      | inr found ↦ half_cent_is_above figure.cents found.0 figure.lo figure.hi h.rounds_low h.rounds_high (omega (arith, ints, found.2)) (omega (arith, ints, found.2))
    ]
