-- The lines of two worked certificates, read.
use Rattle.std.proofs.Common.{◌≡◌, refl, ap, ℕ, zero, suc, ℤ, pos, List, Some, Result, Ok, arith}
use Rattle.std.specs.Prelude.{codes, IsUtf8}
use Rattle.jiff_core.specs.Calendar.{days_from_civil, days_of_months}
use Rattle.serde_json.specs.Data.{Data, unsigned, number, string, array, object, Items, no_items, item, no_members, member}
use Rattle.serde_json.specs.Read.{read}
use Rattle.serde_json.proofs.OnLiterals.{serde_json_on_literals}
use Rattle.vx_num.specs.Decimal.{decimal_of, wide_of}
use Rattle.vx_clock.specs.declared.terms.Root.TheVariants.{Spx}
use Rattle.vx_cert.specs.declared.certificate.CertBody.TheVariants.{K0, Single}
use Rattle.vx_cert.specs.declared.certificate.CertTerm.{CertTerm}
use Rattle.vx_cert.specs.declared.certificate.Certificate.{Certificate}
use Rattle.vx_cert.specs.declared.fault.CertFault.{CertFault}
use Rattle.vx_cert.specs.Reading.{certificate_of}
use Rattle.vx_days.specs.CertificateExamples.{level_certificate, first_term, first_square, first_version}
use Rattle.vx_days.specs.CertificateLineExamples.{level_line, single_line, LevelLineIsRead, SingleLineIsRead}
use Rattle.vx_days.proofs.TermExampleProofs.{in_2014}

day_of_expiry : days_from_civil (pos 2014) 10 17 ≡ pos 16360
unfolding days_of_months
day_of_expiry = in_2014 10 17 290 refl (omega arith)

abbrev level_value : Data
level_value = object (
    member (codes "date") (string (codes "2014-10-17"))
    (member (codes "k0") (number (unsigned 2000000))
    (member (codes "kind") (string (codes "k0"))
    (member (codes "line") (number (unsigned 14))
    (member (codes "pair") (array (item (number (unsigned 2000000)) (item (number (unsigned 0)) no_items)))
    (member (codes "root") (string (codes "SPX"))
    (member (codes "time") (string (codes "08:30"))
    (member (codes "v") (number (unsigned 1)) no_members))))))))

is_text : IsUtf8 level_line
unfolding serde_json_on_literals
is_text = (level_line, (refl, refl))

is_value : read level_line ≡ Some level_value
unfolding serde_json_on_literals
is_value = refl

abbrev level_on : ℤ → Result Certificate CertFault
level_on day = Ok (record { v = 1; line = 14; time = 510; body = K0 (record { root = Spx; date = record { 0 = day } }) (record { strike = 2000000; d = pos 0 }) 2000000 })

says_level : certificate_of level_value ≡ Ok (level_certificate 14 (pos 0) 2000000)
unfolding decimal_of
says_level = ap level_on day_of_expiry

pub level_line_is_read : LevelLineIsRead
level_line_is_read = (level_value, (is_text, is_value), says_level)

-- ---- kind `single`

abbrev text : List ℕ → Data
text word = string word

abbrev whole : ℕ → Data
whole n = number (unsigned n)

abbrev two : Data → Data → Data
two a b = array (item a (item b no_items))

abbrev row : Data → Data → Data → Data → Data → Data
row a b c d e = array (item a (item b (item c (item d (item e no_items)))))

abbrev zeros : ℕ → Items
zeros zero = no_items
zeros (suc n) = item (text (codes "0")) (zeros n)

abbrev taylor_list : Data
taylor_list = array (item (text (codes "1152921504606846976")) (zeros 13))

abbrev rows_value : Data
rows_value = array (
    item (row (whole 1900000) (whole 200000) (whole 4000) (text (codes "319368837841231")) (text (codes "319368837841232")))
    (item (row (whole 2000000) (whole 200000) (whole 20000) (text (codes "1441151880758558")) (text (codes "1441151880758559")))
    (item (row (whole 2100000) (whole 200000) (whole 4000) (text (codes "261433447756654")) (text (codes "261433447756655"))) no_items)))

abbrev term_value : Data
term_value = object (
    member (codes "date") (text (codes "2014-10-17"))
    (member (codes "e") (two (text (codes "1152921504606846976")) (text (codes "1152921504606846976")))
    (member (codes "exp") (two taylor_list taylor_list)
    (member (codes "f") (two (text (codes "2305843009213693952000000")) (text (codes "2305843009213693952000000")))
    (member (codes "g") (two (text (codes "0")) (text (codes "0")))
    (member (codes "k0") (whole 2000000)
    (member (codes "minutes") (whole 43200)
    (member (codes "pair") (two (whole 2000000) (whole 0))
    (member (codes "rate") (whole 0)
    (member (codes "root") (text (codes "SPX"))
    (member (codes "rows") rows_value
    (member (codes "s") (two (text (codes "2021954166356443")) (text (codes "2021954166356446")))
    (member (codes "w") (two (text (codes "4043908332712886")) (text (codes "4043908332712892"))) no_members)))))))))))))

abbrev single_value : Data
single_value = object (
    member (codes "cents") (whole 2066)
    (member (codes "ends") (two (text (codes "20657919")) (text (codes "20657920")))
    (member (codes "kind") (text (codes "single"))
    (member (codes "line") (whole 14)
    (member (codes "term") term_value
    (member (codes "time") (text (codes "08:30"))
    (member (codes "v") (whole 1)
    (member (codes "x") (two (text (codes "49200884714673446")) (text (codes "49200884714673520"))) no_members))))))))

single_is_text : IsUtf8 single_line
unfolding serde_json_on_literals
single_is_text = (single_line, (refl, refl))

single_is_value : read single_line ≡ Some single_value
unfolding serde_json_on_literals
single_is_value = refl

-- the term by its day
abbrev term_on : ℤ → CertTerm
term_on day =
    let term : CertTerm = first_term 1152921504606846976 319368837841232 in
    record {
      expiry = record { root = Spx; date = record { 0 = day } };
      minutes = term.minutes;
      rate = term.rate;
      t_lo = term.t_lo;
      t_hi = term.t_hi;
      e = term.e;
      pair = term.pair;
      f = term.f;
      k0 = term.k0;
      g = term.g;
      rows = term.rows;
      s = term.s;
      w = term.w;
    }

abbrev single_on : ℤ → Result Certificate CertFault
single_on day = Ok (record { v = 1; line = 14; time = 510; body = Single (term_on day) (record { x = first_square; lo = pos 20657919; hi = pos 20657920; cents = 2066 }) })

says_single : certificate_of single_value ≡ Ok (first_version 1152921504606846976 319368837841232 20657919 20657920)
unfolding decimal_of wide_of
says_single = ap single_on day_of_expiry

pub single_line_is_read : SingleLineIsRead
single_line_is_read = (single_value, (single_is_text, single_is_value), says_single)
