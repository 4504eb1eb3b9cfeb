-- Worked certificates for the tick of the first sample feed, its line 14: three that are accepted, and changed ones, each with
-- the first test that it fails.
use Rattle.std.specs.Prelude.{ℕ, ℤ, pos, List, [], ◌∷◌, replicate}
use Rattle.vx_cert.specs.declared.certificate.Ends.{Ends}
use Rattle.vx_cert.specs.declared.certificate.CertTerm.{CertTerm}
use Rattle.vx_cert.specs.declared.certificate.CertBody.TheVariants.{K0, Single}
use Rattle.vx_cert.specs.declared.certificate.Certificate.{Certificate}
use Rattle.vx_cert.specs.declared.rows.CertRow.{CertRow}
use Rattle.vx_formula.specs.declared.limits.TheConstants.{THIRTY_DAYS}
use Rattle.vx_claims.specs.declared.acceptance.Test.{Test}
use Rattle.vx_claims.specs.declared.acceptance.Test.TheVariants.{Place, TaylorTerms, ClosestPair, Level, Contributions, IndexEnds}
use Rattle.vx_claims.specs.Accepts.{Meets, Accepts, FirstFailing}
use Rattle.vx_days.specs.FeedExamples.{standard, half_past_eight, sample_feed}

-- over the feed this certificate fails this test, and none before it
abbrev pub FailsFirst : Certificate → Test → Type 0
FailsFirst c test = FirstFailing (Meets sample_feed c) test

-- ---- kind `k0`

-- at a line, with a difference at the strike 2000, in half cents, and a level
abbrev pub level_certificate : ℕ → ℤ → ℕ → Certificate
level_certificate number difference level = record {
  v = 1;
  line = number;
  time = half_past_eight;
  body = K0 standard (record { strike = 2000000; d = difference }) level;
}

-- the certificate of examples/certificate-a-k0.jsonl: the forward and the level are 2000
abbrev pub LevelIsAccepted : Type 0
LevelIsAccepted = Accepts sample_feed (level_certificate 14 (pos 0) 2000000)

-- line 13 is no tick
abbrev pub WrongLineFails : Type 0
WrongLineFails = FailsFirst (level_certificate 13 (pos 0) 2000000) Place

-- the call and the put of 2000 have one price
abbrev pub WrongPairFails : Type 0
WrongPairFails = FailsFirst (level_certificate 14 (pos 1) 2000000) ClosestPair

-- the level 1900, as in examples/certificate-a-bad.jsonl: 2000 is above it and at most the forward
abbrev pub LowLevelFails : Type 0
LowLevelFails = FailsFirst (level_certificate 14 (pos 0) 1900000) Level

-- ---- kind `single`

-- the two ends of a number, as a certificate states them
abbrev pub stated_ends : ℕ → ℕ → Ends
stated_ends low high = record { lo = pos low; hi = pos high }

-- a row with its price in quarter cents, and the ends of what it adds
abbrev pub priced_row : ℕ → ℕ → ℕ → ℕ → CertRow
priced_row number price low high = record { strike = number; d = 200000; q4 = price; lo = low; hi = high }

-- the terms of the exponential at rate 0: the first one, and 13 times 0
abbrev pub taylor_from : ℕ → List ℕ
taylor_from first = first ∷ replicate 13 0

-- the term 30 days ahead with both its Taylor lists, the exponential, the forward, the rows, their sum and the variance
abbrev pub term_with : List ℕ → ℕ → ℕ → List CertRow → Ends → Ends → CertTerm
term_with taylor one forward parts total variance = record {
  expiry = standard;
  minutes = THIRTY_DAYS;
  rate = pos 0;
  t_lo = taylor;
  t_hi = taylor;
  e = stated_ends one one;
  pair = record { strike = 2000000; d = pos 0 };
  f = stated_ends forward forward;
  k0 = 2000000;
  g = stated_ends 0 0;
  rows = parts;
  s = total;
  w = variance;
}

-- of a version and a term, with the square, and the index between two ends in millionths of a point
abbrev pub single_certificate : ℕ → CertTerm → Ends → ℕ → ℕ → Certificate
single_certificate version term square low high = record {
  v = version;
  line = 14;
  time = half_past_eight;
  body = Single term (record { x = square; lo = pos low; hi = pos high; cents = 2066 });
}

-- ---- version 1, in units of 2^-60

-- the rows, by the upper end of the first
abbrev pub first_rows : ℕ → List CertRow
first_rows upper =
    priced_row 1900000 4000 319368837841231 upper ∷ priced_row 2000000 20000 1441151880758558 1441151880758559
    ∷ priced_row 2100000 4000 261433447756654 261433447756655 ∷ []

-- the term by the first number of both its Taylor lists and the upper end of its first row
abbrev pub first_term : ℕ → ℕ → CertTerm
first_term first upper =
    term_with (taylor_from first) 1152921504606846976 2305843009213693952000000 (first_rows upper)
    (stated_ends 2021954166356443 2021954166356446) (stated_ends 4043908332712886 4043908332712892)

-- the ends of the square
abbrev pub first_square : Ends
first_square = stated_ends 49200884714673446 49200884714673520

-- the certificate by these two numbers and the ends of the index
abbrev pub first_version : ℕ → ℕ → ℕ → ℕ → Certificate
first_version first upper low high = single_certificate 1 (first_term first upper) first_square low high

-- that of examples/certificate-a-single.jsonl
abbrev pub FirstVersionIsAccepted : Type 0
FirstVersionIsAccepted = Accepts sample_feed (first_version 1152921504606846976 319368837841232 20657919 20657920)

-- Taylor lists that begin one unit above 1
abbrev pub HighTaylorFails : Type 0
HighTaylorFails = FailsFirst (first_version 1152921504606846977 319368837841232 20657919 20657920) TaylorTerms

-- an upper end one unit too low: what the row of 1900 adds, 2^60/3610, is no whole number
abbrev pub LowRowFails : Type 0
LowRowFails = FailsFirst (first_version 1152921504606846976 319368837841231 20657919 20657920) Contributions

-- ends of the index 201 millionths of a point apart, around the same value
abbrev pub WideEndsFail : Type 0
WideEndsFail = FailsFirst (first_version 1152921504606846976 319368837841232 20657819 20658020) IndexEnds

-- ---- version 2, in units of 2^-62

-- its rows
abbrev pub second_rows : List CertRow
second_rows =
    priced_row 1900000 4000 1277475351364927 1277475351364928 ∷ priced_row 2000000 20000 5764607523034234 5764607523034235
    ∷ priced_row 2100000 4000 1045733791026618 1045733791026619 ∷ []

-- its term
abbrev pub second_term : CertTerm
second_term =
    term_with (taylor_from 4611686018427387904) 4611686018427387904 9223372036854775808000000 second_rows
    (stated_ends 8087816665425779 8087816665425782) (stated_ends 16175633330851558 16175633330851564)

-- the ends of its square
abbrev pub second_square : Ends
second_square = stated_ends 196803538858693955 196803538858694029

-- the same figure at the finer scale is accepted too
abbrev pub SecondVersionIsAccepted : Type 0
SecondVersionIsAccepted = Accepts sample_feed (single_certificate 2 second_term second_square 20657919 20657920)

-- the numbers of version 1 are not those of version 2
abbrev pub OtherVersionFails : Type 0
OtherVersionFails =
    FailsFirst (single_certificate 2 (first_term 1152921504606846976 319368837841232) first_square 20657919 20657920) TaylorTerms
