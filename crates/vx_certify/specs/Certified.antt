-- What a certificate states of the calculator's numbers: the numbers themselves. This project's own format.
use Rattle.std.specs.Prelude.{ℕ, ℤ, List, [], ◌∷◌}
use Rattle.vx_interval.specs.Ends.{Ends, unit}
use Rattle.vx_bounds.specs.Root.{IsGreatestRoot, IsLeastRoot}
use Rattle.vx_strip.specs.declared.strip.StripRow.{StripRow}
use Rattle.vx_sum.specs.declared.sum.SumRow.{SumRow}
use Rattle.vx_forward.specs.declared.pairs.Pair.{Pair}
use Rattle.vx_term.specs.declared.answer.TermRun.{TermRun}
use Rattle.vx_cert.specs.declared.certificate.Ends.{Ends as CertEnds}
use Rattle.vx_cert.specs.declared.certificate.Pair.{Pair as CertPair}
use Rattle.vx_cert.specs.declared.certificate.CertTerm.{CertTerm}
use Rattle.vx_cert.specs.declared.certificate.CertFigure.{CertFigure}
use Rattle.vx_cert.specs.declared.rows.CertRow.{CertRow}

abbrev pub certified_ends : Ends → CertEnds
certified_ends x = record { lo = x.lo; hi = x.hi }

abbrev pub certified_pair : Pair → CertPair
certified_pair pair = record { strike = pair.strike; d = pair.d }

-- a row of the strip with its contribution
abbrev pub certified_row : StripRow → SumRow → CertRow
certified_row row part = record { strike = row.strike; d = row.d; q4 = row.q4; lo = part.lo; hi = part.hi }

-- the rows of a strip, each with its contribution
abbrev pub certified_rows : List StripRow → List SumRow → List CertRow
certified_rows [] parts = []
certified_rows (row ∷ rows) [] = []
certified_rows (row ∷ rows) (part ∷ parts) = certified_row row part ∷ certified_rows rows parts

-- a term's run
abbrev pub certified_term : {P : ℕ} → TermRun P → CertTerm
certified_term run = record {
  expiry = run.expiry;
  minutes = run.minutes;
  rate = run.rate;
  t_lo = run.exp.t_lo;
  t_hi = run.exp.t_hi;
  e = certified_ends run.exp.value;
  pair = certified_pair run.pair;
  f = certified_ends run.f;
  k0 = run.k0;
  g = certified_ends run.g;
  rows = certified_rows run.strip.rows run.sum.rows;
  s = certified_ends run.sum.total;
  w = certified_ends run.w;
}

-- a figure in cents, the square that it comes from, and the index's ends in millionths of a point
abbrev pub certified_figure : Ends → ℤ → ℤ → ℕ → CertFigure
certified_figure square low high figure = record { x = certified_ends square; lo = low; hi = high; cents = figure }

-- lo and hi are the ends of the index, in millionths of a point, where its square over 100 lies between these ends in units of 2^-P
pub record AreIndexEnds (P : ℕ) (square : Ends) (lo hi : ℤ) : Type 0 where
  pub low : IsGreatestRoot (unit P) square.lo lo
  pub high : IsLeastRoot (unit P) square.hi hi
