-- The worked certificates, tested one test after another.
use Rattle.std.proofs.Common.{◌≡◌, refl, sym, subst, ap, ℕ, zero, suc, ◌+◌, ◌*◌, ◌^◌, ◌<◌, ◌≤◌, pos, ◌≤ℤ◌, ◌<ℤ◌, [], ◌∷◌, Some, inl, inr, lit≤, lit<}
use Rattle.std.proofs.Common.{le→leb, arith}
use Rattle.std.specs.Prelude.{IsTrue, replicate}
use Rattle.std.specs.List.{All, slice_index}
use Rattle.std.proofs.lemmas.Int.{ints}
use Rattle.std.proofs.lemmas.List.Elements.{All-cons, All-nil}
use lib.Signed.{le_z_yes, lt_z_yes}
use Rattle.vx_clock.specs.declared.terms.Expiry.{Expiry}
use Rattle.vx_feed.specs.Listed.{is_declared}
use Rattle.vx_cert.specs.declared.certificate.Ends.{Ends}
use Rattle.vx_cert.specs.declared.certificate.CertTerm.{CertTerm}
use Rattle.vx_cert.specs.declared.certificate.CertFigure.{CertFigure}
use Rattle.vx_cert.specs.declared.rows.CertRow.{CertRow}
use Rattle.vx_formula.specs.declared.limits.TheConstants.{YEAR_MINUTES, RATE_UNITS}
use Rattle.vx_formula.specs.Pair.{Pair, IsAsClose, IsClosestPair, live_pairs}
use Rattle.vx_formula.specs.Term.{TermFacts}
use Rattle.vx_formula.specs.Level.{strikes}
use Rattle.vx_formula.specs.Examples.{at_cents, row_at, sample_rows}
use Rattle.vx_formula.proofs.Lists.{In, in_from_contains}
use Rattle.vx_claims.specs.declared.acceptance.Test.{Test}
use Rattle.vx_claims.specs.declared.acceptance.Test.TheVariants.{Place, Terms, Minutes, Rate, TaylorTerms, Exponential, ClosestPair, Forward, Level}
use Rattle.vx_claims.specs.declared.acceptance.Test.TheVariants.{Excess, Strip, Contributions, Total, Variance, Square, IndexEnds}
use Rattle.vx_claims.specs.Test.{test_number}
use Rattle.vx_claims.specs.Seen.{IsTickAt, events_before, moment_of, term_facts}
use Rattle.vx_claims.specs.Exponential.{AreTaylorTerms, EncloseExponential}
use Rattle.vx_claims.specs.TermTests.{IsLevelOfEnds, HasStrikeAbove, IsStatedStrip, EnclosesContribution, EnclosesTotal, TermMeets}
use Rattle.vx_claims.specs.FigureTests.{EnclosesSingleSquare, EnclosesIndex}
use Rattle.vx_claims.specs.Accepts.{scale_of, zero_rate_forward, TermMeetsAt, SingleMeets, Meets}
use Rattle.vx_days.specs.FeedExamples.{september_17, standard, half_past_eight, sample_feed}
use Rattle.vx_days.specs.CertificateExamples.{stated_ends, priced_row, taylor_from, first_rows, first_term, first_square, second_rows, second_term}
use Rattle.vx_days.specs.CertificateExamples.{second_square, level_certificate, LevelIsAccepted, WrongLineFails, WrongPairFails, LowLevelFails}
use Rattle.vx_days.specs.CertificateExamples.{FirstVersionIsAccepted, HighTaylorFails, OtherVersionFails, LowRowFails, WideEndsFail, SecondVersionIsAccepted}

-- ---- what the feed shows at the tick

line_14_is_tick : IsTickAt sample_feed 14 half_past_eight
line_14_is_tick = (lit≤ tt, refl)

declared : IsTrue (is_declared standard (events_before sample_feed 14))
declared = refl

abbrev facts : TermFacts
facts = record { rows = sample_rows; rate = Some (pos 0); minutes = 43200 }

facts_are : term_facts (events_before sample_feed 14) (moment_of september_17 half_past_eight) standard ≡ facts
facts_are = refl

abbrev closest_pair : Pair
closest_pair = record { strike = 2000000; d = pos 0 }

pair_is : IsClosestPair sample_rows closest_pair
pair_is = record {
  among = (0, lit< tt, refl);
  closest = All-cons (IsAsClose closest_pair) closest_pair [] (inr (refl, lit≤ tt)) (All-nil (IsAsClose closest_pair));
}

-- 2100 alone is listed above 2000
above_2000 : (k : ℕ) → In (strikes sample_rows) k → 2000000 < k → 2100000 ≡ k
above_2000 k (inl e) more = absurd (omega (arith, e, more))
above_2000 k (inr (inl e)) more = absurd (omega (arith, e, more))
above_2000 k (inr (inr (inl e))) more = e
above_2000 k (inr (inr (inr h))) more = elim h [ ]

is_level : (P : ℕ) (f : Ends) → pos (2000000 * 2 ^ P) ≤ℤ f.lo → f.hi <ℤ pos (2100000 * 2 ^ P) → IsLevelOfEnds P sample_rows f 2000000
is_level P f low high = record {
  is_listed = (1, lit< tt, refl);
  at_most = low;
  others_above = λ k listed more. subst (λ (n : ℕ). f.hi <ℤ pos (n * 2 ^ P)) (above_2000 k (in_from_contains (strikes sample_rows) k listed) more) high;
}

-- ---- tests by their numbers

number_is_small : (test : Test) → test_number test < 17
number_is_small Place = lit< tt
number_is_small Terms = lit< tt
number_is_small Minutes = lit< tt
number_is_small Rate = lit< tt
number_is_small TaylorTerms = lit< tt
number_is_small Exponential = lit< tt
number_is_small ClosestPair = lit< tt
number_is_small Forward = lit< tt
number_is_small Level = lit< tt
number_is_small Excess = lit< tt
number_is_small Strip = lit< tt
number_is_small Contributions = lit< tt
number_is_small Total = lit< tt
number_is_small Variance = lit< tt
number_is_small Square = lit< tt
number_is_small IndexEnds = lit< tt

none_before_place : (test : Test) → ¬ (test_number test < 1)
none_before_place Place h = omega (arith, h)
none_before_place Terms h = omega (arith, h)
none_before_place Minutes h = omega (arith, h)
none_before_place Rate h = omega (arith, h)
none_before_place TaylorTerms h = omega (arith, h)
none_before_place Exponential h = omega (arith, h)
none_before_place ClosestPair h = omega (arith, h)
none_before_place Forward h = omega (arith, h)
none_before_place Level h = omega (arith, h)
none_before_place Excess h = omega (arith, h)
none_before_place Strip h = omega (arith, h)
none_before_place Contributions h = omega (arith, h)
none_before_place Total h = omega (arith, h)
none_before_place Variance h = omega (arith, h)
none_before_place Square h = omega (arith, h)
none_before_place IndexEnds h = omega (arith, h)

-- ---- kind `k0`

abbrev forward : Ends
forward = zero_rate_forward 60 (record { strike = 2000000; d = pos 0 })

-- before its level, and at it where the level holds
level_meets : (n k : ℕ) → (9 < n → IsLevelOfEnds 60 sample_rows forward k) → (test : Test) → test_number test < n
    → Meets sample_feed (level_certificate 14 (pos 0) k) test
level_meets n k level Place h = line_14_is_tick
level_meets n k level Terms h = declared
level_meets n k level Minutes h = tt
level_meets n k level Rate h = refl
level_meets n k level TaylorTerms h = tt
level_meets n k level Exponential h = tt
level_meets n k level ClosestPair h = pair_is
level_meets n k level Forward h = tt
level_meets n k level Level h = level h
level_meets n k level Excess h = tt
level_meets n k level Strip h = tt
level_meets n k level Contributions h = tt
level_meets n k level Total h = tt
level_meets n k level Variance h = tt
level_meets n k level Square h = tt
level_meets n k level IndexEnds h = tt

pub level_is_accepted : LevelIsAccepted
level_is_accepted = record {
  version = inl refl;
  meets_all = λ test. level_meets 17 2000000 (λ h. is_level 60 forward (le_z_yes tt) (lt_z_yes tt)) test (number_is_small test);
}

pub wrong_line_fails : WrongLineFails
wrong_line_fails = record {
  fails = λ h. let same = h.1 in absurd cc;
  all_before = λ other first. absurd (none_before_place other first);
}

-- before the closest pair no test asks for the pair
before_pair : (test : Test) → test_number test < 7 → Meets sample_feed (level_certificate 14 (pos 1) 2000000) test
before_pair Place h = line_14_is_tick
before_pair Terms h = declared
before_pair Minutes h = tt
before_pair Rate h = refl
before_pair TaylorTerms h = tt
before_pair Exponential h = tt
before_pair ClosestPair h = absurd (omega (arith, h))
before_pair Forward h = absurd (omega (arith, h))
before_pair Level h = absurd (omega (arith, h))
before_pair Excess h = absurd (omega (arith, h))
before_pair Strip h = absurd (omega (arith, h))
before_pair Contributions h = absurd (omega (arith, h))
before_pair Total h = absurd (omega (arith, h))
before_pair Variance h = absurd (omega (arith, h))
before_pair Square h = absurd (omega (arith, h))
before_pair IndexEnds h = absurd (omega (arith, h))

wrong_pair : In (closest_pair ∷ []) (record { strike = 2000000; d = pos 1 }) → ⊥
wrong_pair (inl e) = let same : pos 0 ≡ pos 1 = ap (λ (p : Pair). p.d) e in absurd cc
wrong_pair (inr h) = elim h [ ]

pub wrong_pair_fails : WrongPairFails
wrong_pair_fails = record {
  fails = λ h. wrong_pair (in_from_contains (live_pairs sample_rows) (record { strike = 2000000; d = pos 1 }) h.among);
  all_before = before_pair;
}

pub low_level_fails : LowLevelFails
low_level_fails = record {
  fails = λ h. let less = h.others_above 2000000 (1, lit< tt, refl) (lit< tt) in elim less.lt [ ];
  all_before = λ other first. level_meets 9 1900000 (λ h. absurd (omega (arith, h))) other first;
}

-- ---- kind `single`

-- one term at the tick
seen : (version : ℕ) (term : CertTerm) (test : Test) → term.expiry ≡ standard → TermMeets (scale_of version) facts term test
    → TermMeetsAt sample_feed version 14 half_past_eight term test
seen version term test of meets = record {
  is_tick = line_14_is_tick;
  day = september_17;
  day_is = refl;
  meets =
      subst (λ (x : Expiry). TermMeets (scale_of version) (term_facts (events_before sample_feed 14) (moment_of september_17 half_past_eight) x) term test) (sym of)
      (subst (λ (f : TermFacts). TermMeets (scale_of version) f term test) (sym facts_are) meets);
}

-- the tests before the one numbered n, where the term meets its own and the figure its two
before_number : (n version : ℕ) (term : CertTerm) (figure : CertFigure) → term.expiry ≡ standard → term.minutes ≡ 43200 → term.rate ≡ pos 0
    → ((test : Test) → test_number test < n → TermMeets (scale_of version) facts term test)
    → (15 < n → EnclosesSingleSquare (scale_of version) term.w figure.x) → (16 < n → EnclosesIndex (scale_of version) figure)
    → (test : Test) → test_number test < n → SingleMeets sample_feed version 14 half_past_eight term figure test
before_number n version term figure of minutes rate own square index Place h = line_14_is_tick
before_number n version term figure of minutes rate own square index Terms h = subst (λ (x : Expiry). IsTrue (is_declared x (events_before sample_feed 14))) (sym of) declared
before_number n version term figure of minutes rate own square index Minutes h = (seen version term Minutes of (own Minutes h), minutes)
before_number n version term figure of minutes rate own square index Rate h = (seen version term Rate of (own Rate h), rate)
before_number n version term figure of minutes rate own square index TaylorTerms h = seen version term TaylorTerms of (own TaylorTerms h)
before_number n version term figure of minutes rate own square index Exponential h = seen version term Exponential of (own Exponential h)
before_number n version term figure of minutes rate own square index ClosestPair h = seen version term ClosestPair of (own ClosestPair h)
before_number n version term figure of minutes rate own square index Forward h = seen version term Forward of (own Forward h)
before_number n version term figure of minutes rate own square index Level h = seen version term Level of (own Level h)
before_number n version term figure of minutes rate own square index Excess h = seen version term Excess of (own Excess h)
before_number n version term figure of minutes rate own square index Strip h = seen version term Strip of (own Strip h)
before_number n version term figure of minutes rate own square index Contributions h = seen version term Contributions of (own Contributions h)
before_number n version term figure of minutes rate own square index Total h = seen version term Total of (own Total h)
before_number n version term figure of minutes rate own square index Variance h = seen version term Variance of (own Variance h)
before_number n version term figure of minutes rate own square index Square h = square h
before_number n version term figure of minutes rate own square index IndexEnds h = index h

-- all later terms of the lists are 0
later_is_zero : (n k : ℕ) → k < n → slice_index (replicate n 0) k ≡ 0
later_is_zero zero k h = absurd (omega (arith, h))
later_is_zero (suc n) zero h = refl
later_is_zero (suc n) (suc k) h = later_is_zero n k (omega (arith, h))

abbrev divisor : ℕ
divisor = YEAR_MINUTES * RATE_UNITS

taylor : (P : ℕ) → AreTaylorTerms P (0 * 43200) divisor (taylor_from (2 ^ P)) (taylor_from (2 ^ P))
taylor P = record {
  first_low = omega arith;
  first_high = omega arith;
  next_low = λ k h.
      let next : suc k ≡ k + 1 = omega arith in
      let zeros : slice_index (taylor_from (2 ^ P)) (k + 1) ≡ 0 = subst (λ (m : ℕ). slice_index (taylor_from (2 ^ P)) m ≡ 0) next (later_is_zero 13 k (omega (arith, h))) in
      subst (λ (n : ℕ). n * (divisor * (k + 1)) ≤ slice_index (taylor_from (2 ^ P)) k * (0 * 43200)) (sym zeros) (omega arith);
  next_high = λ k h. omega arith;
}

not_negative : pos 0 <ℤ pos 0 → ⊥
not_negative h = elim h.lt [ ]

taylor_gives_one : (P : ℕ) → EncloseExponential P (pos 0) (taylor_from (2 ^ P)) (taylor_from (2 ^ P)) (stated_ends (2 ^ P) (2 ^ P))
taylor_gives_one P = record {
  not_negative = omega (arith, ints);
  in_order = omega (arith, ints);
  in_range = omega (arith, ints);
  rising = λ h. (omega (arith, ints), omega (arith, ints));
  falling_range = λ h. absurd (not_negative h);
  falling = λ h. absurd (not_negative h);
}

strike_above : HasStrikeAbove sample_rows 2000000
strike_above = (2100000, (2, lit< tt, refl), lit< tt, lit≤ tt)

-- the rows of version 1 are the strip's, whatever their ends
strip_1 : (upper : ℕ) → IsStatedStrip sample_rows 2000000 (first_rows upper)
strip_1 upper = record {
  is_strip = refl;
  has_money = (1, row_at 2000000 (at_cents 5000) (at_cents 5000), lit< tt, refl, (refl, refl));
  has_put = (0, priced_row 1900000 4000 319368837841231 upper, lit< tt, refl, lit< tt);
  has_call = (2, priced_row 2100000 4000 261433447756654 261433447756655, lit< tt, refl, lit< tt);
}

strip_2 : IsStatedStrip sample_rows 2000000 second_rows
strip_2 = record {
  is_strip = refl;
  has_money = (1, row_at 2000000 (at_cents 5000) (at_cents 5000), lit< tt, refl, (refl, refl));
  has_put = (0, priced_row 1900000 4000 1277475351364927 1277475351364928, lit< tt, refl, lit< tt);
  has_call = (2, priced_row 2100000 4000 1045733791026618 1045733791026619, lit< tt, refl, lit< tt);
}

of_three_rows : (Q : CertRow → Type 0) (a b c : CertRow) → Q a → Q b → Q c → All Q (a ∷ (b ∷ (c ∷ [])))
of_three_rows Q a b c x y z = All-cons Q a (b ∷ (c ∷ [])) x (All-cons Q b (c ∷ []) y (All-cons Q c [] z (All-nil Q)))

contributions_1 : All (EnclosesContribution 60) (first_rows 319368837841232)
contributions_1 =
    of_three_rows (EnclosesContribution 60) (priced_row 1900000 4000 319368837841231 319368837841232) (priced_row 2000000 20000 1441151880758558 1441151880758559) (priced_row 2100000 4000 261433447756654 261433447756655)
    (record { in_order = lit≤ tt; in_range = lit≤ tt; low = lit≤ tt; high = lit≤ tt })
    (record { in_order = lit≤ tt; in_range = lit≤ tt; low = lit≤ tt; high = lit≤ tt })
    (record { in_order = lit≤ tt; in_range = lit≤ tt; low = lit≤ tt; high = lit≤ tt })

contributions_2 : All (EnclosesContribution 62) second_rows
contributions_2 =
    of_three_rows (EnclosesContribution 62) (priced_row 1900000 4000 1277475351364927 1277475351364928) (priced_row 2000000 20000 5764607523034234 5764607523034235) (priced_row 2100000 4000 1045733791026618 1045733791026619)
    (record { in_order = lit≤ tt; in_range = lit≤ tt; low = lit≤ tt; high = lit≤ tt })
    (record { in_order = lit≤ tt; in_range = lit≤ tt; low = lit≤ tt; high = lit≤ tt })
    (record { in_order = lit≤ tt; in_range = lit≤ tt; low = lit≤ tt; high = lit≤ tt })

-- before the contributions, at them and at the sum where these hold
own_1 : (n upper : ℕ) → (12 < n → All (EnclosesContribution 60) (first_rows upper))
    → (13 < n → EnclosesTotal 60 (first_rows upper) (stated_ends 2021954166356443 2021954166356446))
    → (test : Test) → test_number test < n → TermMeets 60 facts (first_term 1152921504606846976 upper) test
own_1 n upper parts total Place h = tt
own_1 n upper parts total Terms h = tt
own_1 n upper parts total Minutes h = refl
own_1 n upper parts total Rate h = refl
own_1 n upper parts total TaylorTerms h = taylor 60
own_1 n upper parts total Exponential h = taylor_gives_one 60
own_1 n upper parts total ClosestPair h = pair_is
own_1 n upper parts total Forward h = record { low_at_low = le_z_yes tt; low_at_high = le_z_yes tt; high_at_low = le_z_yes tt; high_at_high = le_z_yes tt; low_range = (le_z_yes tt, le_z_yes tt); high_range = (le_z_yes tt, le_z_yes tt) }
own_1 n upper parts total Level h = (is_level 60 (stated_ends 2305843009213693952000000 2305843009213693952000000) (le_z_yes tt) (lt_z_yes tt), strike_above)
own_1 n upper parts total Excess h = record { not_negative = le_z_yes tt; in_order = le_z_yes tt; in_range = le_z_yes tt; low = le_z_yes tt; high = le_z_yes tt }
own_1 n upper parts total Strip h = strip_1 upper
own_1 n upper parts total Contributions h = parts h
own_1 n upper parts total Total h = total h
own_1 n upper parts total Variance h = record { low = le_z_yes tt; high = le_z_yes tt; low_range = (le_z_yes tt, le_z_yes tt); high_range = (le_z_yes tt, le_z_yes tt) }
own_1 n upper parts total Square h = tt
own_1 n upper parts total IndexEnds h = tt

total_1 : EnclosesTotal 60 (first_rows 319368837841232) (stated_ends 2021954166356443 2021954166356446)
total_1 = record { not_negative = le_z_yes tt; low = le_z_yes tt; high = le_z_yes tt; in_range = le_z_yes tt }

own_2 : (test : Test) → test_number test < 17 → TermMeets 62 facts second_term test
own_2 Place h = tt
own_2 Terms h = tt
own_2 Minutes h = refl
own_2 Rate h = refl
own_2 TaylorTerms h = taylor 62
own_2 Exponential h = taylor_gives_one 62
own_2 ClosestPair h = pair_is
own_2 Forward h = record { low_at_low = le_z_yes tt; low_at_high = le_z_yes tt; high_at_low = le_z_yes tt; high_at_high = le_z_yes tt; low_range = (le_z_yes tt, le_z_yes tt); high_range = (le_z_yes tt, le_z_yes tt) }
own_2 Level h = (is_level 62 (stated_ends 9223372036854775808000000 9223372036854775808000000) (le_z_yes tt) (lt_z_yes tt), strike_above)
own_2 Excess h = record { not_negative = le_z_yes tt; in_order = le_z_yes tt; in_range = le_z_yes tt; low = le_z_yes tt; high = le_z_yes tt }
own_2 Strip h = strip_2
own_2 Contributions h = contributions_2
own_2 Total h = record { not_negative = le_z_yes tt; low = le_z_yes tt; high = le_z_yes tt; in_range = le_z_yes tt }
own_2 Variance h = record { low = le_z_yes tt; high = le_z_yes tt; low_range = (le_z_yes tt, le_z_yes tt); high_range = (le_z_yes tt, le_z_yes tt) }
own_2 Square h = tt
own_2 IndexEnds h = tt

-- before the Taylor terms, at any scale
own_before_taylor : (P first : ℕ) (test : Test) → test_number test < 5 → TermMeets P facts (first_term first 319368837841232) test
own_before_taylor P first Place h = tt
own_before_taylor P first Terms h = tt
own_before_taylor P first Minutes h = refl
own_before_taylor P first Rate h = refl
own_before_taylor P first TaylorTerms h = absurd (omega (arith, h))
own_before_taylor P first Exponential h = absurd (omega (arith, h))
own_before_taylor P first ClosestPair h = absurd (omega (arith, h))
own_before_taylor P first Forward h = absurd (omega (arith, h))
own_before_taylor P first Level h = absurd (omega (arith, h))
own_before_taylor P first Excess h = absurd (omega (arith, h))
own_before_taylor P first Strip h = absurd (omega (arith, h))
own_before_taylor P first Contributions h = absurd (omega (arith, h))
own_before_taylor P first Total h = absurd (omega (arith, h))
own_before_taylor P first Variance h = absurd (omega (arith, h))
own_before_taylor P first Square h = tt
own_before_taylor P first IndexEnds h = tt

-- ---- the figures

-- a figure of 20.66
abbrev figure_of : Ends → ℕ → ℕ → CertFigure
figure_of square low high = record { x = square; lo = pos low; hi = pos high; cents = 2066 }

square_1 : EnclosesSingleSquare 60 (stated_ends 4043908332712886 4043908332712892) first_square
square_1 = record { low_range = (le_z_yes tt, le_z_yes tt); high_range = (le_z_yes tt, le_z_yes tt); low = (le_z_yes tt, le_z_yes tt); high = (le_z_yes tt, le_z_yes tt) }

square_2 : EnclosesSingleSquare 62 (stated_ends 16175633330851558 16175633330851564) second_square
square_2 = record { low_range = (le_z_yes tt, le_z_yes tt); high_range = (le_z_yes tt, le_z_yes tt); low = (le_z_yes tt, le_z_yes tt); high = (le_z_yes tt, le_z_yes tt) }

index_1 : EnclosesIndex 60 (figure_of first_square 20657919 20657920)
index_1 = record { not_negative = le_z_yes tt; in_order = le_z_yes tt; in_range = le_z_yes tt; narrow = le_z_yes tt; low = le_z_yes tt; high = le_z_yes tt; rounds_low = le_z_yes tt; rounds_high = lt_z_yes tt }

index_2 : EnclosesIndex 62 (figure_of second_square 20657919 20657920)
index_2 = record { not_negative = le_z_yes tt; in_order = le_z_yes tt; in_range = le_z_yes tt; narrow = le_z_yes tt; low = le_z_yes tt; high = le_z_yes tt; rounds_low = le_z_yes tt; rounds_high = lt_z_yes tt }

-- ---- the certificates

pub first_version_is_accepted : FirstVersionIsAccepted
first_version_is_accepted = record {
  version = inl refl;
  meets_all = λ test.
      before_number 17 1 (first_term 1152921504606846976 319368837841232) (figure_of first_square 20657919 20657920) refl refl refl (own_1 17 319368837841232 (λ h. contributions_1) (λ h. total_1))
      (λ h. square_1) (λ h. index_1) test (number_is_small test);
}

pub second_version_is_accepted : SecondVersionIsAccepted
second_version_is_accepted = record {
  version = inr refl;
  meets_all = λ test.
      before_number 17 2 second_term (figure_of second_square 20657919 20657920) refl refl refl own_2 (λ h. square_2) (λ h. index_2) test (number_is_small test);
}

pub high_taylor_fails : HighTaylorFails
high_taylor_fails = record {
  fails = λ h. let low : 1152921504606846977 ≤ 1152921504606846976 = h.meets.first_low in omega (arith, low);
  all_before =
      before_number 5 1 (first_term 1152921504606846977 319368837841232) (figure_of first_square 20657919 20657920) refl refl refl
      (own_before_taylor 60 1152921504606846977) (λ h. absurd (omega (arith, h))) (λ h. absurd (omega (arith, h)));
}

pub other_version_fails : OtherVersionFails
other_version_fails = record {
  fails = λ h. let high : 4611686018427387904 ≤ 1152921504606846976 = h.meets.first_high in omega (arith, high);
  all_before =
      before_number 5 2 (first_term 1152921504606846976 319368837841232) (figure_of first_square 20657919 20657920) refl refl refl
      (own_before_taylor 62 1152921504606846976) (λ h. absurd (omega (arith, h))) (λ h. absurd (omega (arith, h)));
}

-- what the first row adds is above this end
row_is_low : EnclosesContribution 60 (priced_row 1900000 4000 319368837841231 319368837841231) → ⊥
row_is_low h = let high = h.high in elim (le→leb (5 * (200000 * 4000) * 2 ^ 60) (319368837841231 * (4 * (1900000 * 1900000))) high) [ ]

pub low_row_fails : LowRowFails
low_row_fails = record {
  fails = λ h. row_is_low (h.meets 0 (priced_row 1900000 4000 319368837841231 319368837841231) (lit< tt));
  all_before =
      before_number 12 1 (first_term 1152921504606846976 319368837841231) (figure_of first_square 20657919 20657920) refl refl refl
      (own_1 12 319368837841231 (λ h. absurd (omega (arith, h))) (λ h. absurd (omega (arith, h)))) (λ h. absurd (omega (arith, h))) (λ h. absurd (omega (arith, h)));
}

pub wide_ends_fail : WideEndsFail
wide_ends_fail = record {
  fails = λ h. let narrow = h.narrow in elim narrow.le [ ];
  all_before =
      before_number 16 1 (first_term 1152921504606846976 319368837841232) (figure_of first_square 20657819 20658020) refl refl refl
      (own_1 16 319368837841232 (λ h. contributions_1) (λ h. total_1)) (λ h. square_1) (λ h. absurd (omega (arith, h)));
}
