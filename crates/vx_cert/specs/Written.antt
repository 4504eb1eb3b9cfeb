-- The text that a certificate is written as: one line of JSON with no space and its keys in byte order, and LF. This project's
-- own format.
use Rattle.std.specs.Prelude.{ℕ, ℤ, pos, List, [], ◌∷◌, ◌++◌, map, codes}
use Rattle.serde_json.specs.Data.{Data, number, string, array, object, Members, no_members, member, unsigned}
use Rattle.serde_json.specs.Find.{of_integer}
use Rattle.serde_json.specs.View.{items_of}
use Rattle.serde_json.specs.Written.{compact_text}
use Rattle.vx_num.specs.Written.{wide_text}
use Rattle.vx_clock.specs.Clock.{clock_text}
use Rattle.vx_clock.specs.DayText.{day_text}
use Rattle.vx_clock.specs.RootText.{bare_root_text}
use Rattle.vx_clock.specs.declared.terms.Expiry.{Expiry}
use Rattle.vx_cert.specs.declared.certificate.Ends.{Ends}
use Rattle.vx_cert.specs.declared.certificate.Pair.{Pair}
use Rattle.vx_cert.specs.declared.certificate.CertTerm.{CertTerm}
use Rattle.vx_cert.specs.declared.certificate.CertFigure.{CertFigure}
use Rattle.vx_cert.specs.declared.certificate.CertBody.{CertBody}
use Rattle.vx_cert.specs.declared.certificate.CertBody.TheVariants.{K0, Single, Index, Soq}
use Rattle.vx_cert.specs.declared.certificate.Certificate.{Certificate}
use Rattle.vx_cert.specs.declared.rows.CertRow.{CertRow}

-- the members of an object, by their keys
abbrev pub members_from : List (List ℕ × Data) → Members
members_from [] = no_members
members_from (field ∷ fields) = member field.0 field.1 (members_from fields)

abbrev pub object_from : List (List ℕ × Data) → Data
object_from fields = object (members_from fields)

abbrev pub list_from : List Data → Data
list_from values = array (items_of values)

abbrev pub whole_number : ℕ → Data
whole_number n = number (unsigned n)

abbrev pub signed_number : ℤ → Data
signed_number z = number (of_integer z)

-- a wide number is a text
abbrev pub wide_number : ℤ → Data
wide_number z = string (wide_text z)

abbrev pub pair_data : Pair → Data
pair_data pair = list_from (whole_number pair.strike ∷ signed_number pair.d ∷ [])

abbrev pub two_wide : ℤ → ℤ → Data
two_wide lo hi = list_from (wide_number lo ∷ wide_number hi ∷ [])

abbrev pub ends_data : Ends → Data
ends_data ends = two_wide ends.lo ends.hi

abbrev pub taylor_data : List ℕ → Data
taylor_data terms = list_from (map (λ term. wide_number (pos term)) terms)

-- the Taylor terms of both sides
abbrev pub taylor_pair_data : List ℕ → List ℕ → Data
taylor_pair_data low high = list_from (taylor_data low ∷ taylor_data high ∷ [])

abbrev pub row_data : CertRow → Data
row_data row =
    list_from (whole_number row.strike ∷ whole_number row.d ∷ whole_number row.q4
    ∷ wide_number (pos row.lo) ∷ wide_number (pos row.hi) ∷ [])

abbrev pub rows_data : List CertRow → Data
rows_data rows = list_from (map row_data rows)

abbrev pub term_data : CertTerm → Data
term_data term = object_from (
    (codes "date", string (day_text term.expiry.date))
    ∷ (codes "e", ends_data term.e)
    ∷ (codes "exp", taylor_pair_data term.t_lo term.t_hi)
    ∷ (codes "f", ends_data term.f)
    ∷ (codes "g", ends_data term.g)
    ∷ (codes "k0", whole_number term.k0)
    ∷ (codes "minutes", whole_number term.minutes)
    ∷ (codes "pair", pair_data term.pair)
    ∷ (codes "rate", signed_number term.rate)
    ∷ (codes "root", string (bare_root_text term.expiry.root))
    ∷ (codes "rows", rows_data term.rows)
    ∷ (codes "s", ends_data term.s)
    ∷ (codes "w", ends_data term.w)
    ∷ [])

-- kind k0
abbrev pub level_data : Certificate → Expiry → Pair → ℕ → Data
level_data c expiry pair k0 = object_from (
    (codes "date", string (day_text expiry.date))
    ∷ (codes "k0", whole_number k0)
    ∷ (codes "kind", string (codes "k0"))
    ∷ (codes "line", whole_number c.line)
    ∷ (codes "pair", pair_data pair)
    ∷ (codes "root", string (bare_root_text expiry.root))
    ∷ (codes "time", string (clock_text c.time))
    ∷ (codes "v", whole_number c.v)
    ∷ [])

-- a kind of one term
abbrev pub one_term_data : List ℕ → Certificate → CertTerm → CertFigure → Data
one_term_data kind c term figure = object_from (
    (codes "cents", whole_number figure.cents)
    ∷ (codes "ends", two_wide figure.lo figure.hi)
    ∷ (codes "kind", string kind)
    ∷ (codes "line", whole_number c.line)
    ∷ (codes "term", term_data term)
    ∷ (codes "time", string (clock_text c.time))
    ∷ (codes "v", whole_number c.v)
    ∷ (codes "x", ends_data figure.x)
    ∷ [])

-- kind index, by the values of its two terms
abbrev pub index_of_data : Certificate → ℕ → Data → Data → CertFigure → Data
index_of_data c days near next figure = object_from (
    (codes "cents", whole_number figure.cents)
    ∷ (codes "days", whole_number days)
    ∷ (codes "ends", two_wide figure.lo figure.hi)
    ∷ (codes "kind", string (codes "index"))
    ∷ (codes "line", whole_number c.line)
    ∷ (codes "near", near)
    ∷ (codes "next", next)
    ∷ (codes "time", string (clock_text c.time))
    ∷ (codes "v", whole_number c.v)
    ∷ (codes "x", ends_data figure.x)
    ∷ [])

-- kind index
abbrev pub index_data : Certificate → ℕ → CertTerm → CertTerm → CertFigure → Data
index_data c days near next figure = index_of_data c days (term_data near) (term_data next) figure

-- a certificate by its body
abbrev pub data_by_kind : Certificate → CertBody → Data
data_by_kind c (K0 expiry pair k0) = level_data c expiry pair k0
data_by_kind c (Single term figure) = one_term_data (codes "single") c term figure
data_by_kind c (Index days near next figure) = index_data c days near next figure
data_by_kind c (Soq term figure) = one_term_data (codes "soq") c term figure

abbrev pub certificate_data : Certificate → Data
certificate_data c = data_by_kind c c.body

-- the line that a certificate is written as
abbrev pub certificate_line : Certificate → List ℕ
certificate_line c = compact_text (certificate_data c)

-- the same with its LF (10)
abbrev pub certificate_text : Certificate → List ℕ
certificate_text c = certificate_line c ++ 10 ∷ []
