-- What is stated of a run and of a figure is in the range of each field.
use Rattle.std.proofs.Common.{◌≡◌, ◌∙◌, sym, ap, subst, ℕ, ◌+◌, ◌*◌, ◌^◌, ◌<◌, ◌≤◌, ℤ, pos, ◌≤ℤ◌, not, List, [], ◌∷◌, length, Option, Some, None, inl, inr, refl, arith}
use Rattle.std.specs.List.{All, filter, sum_by}
use Rattle.std.specs.Option.{IfSome}
use Rattle.std.proofs.lemmas.Int.{ints}
use Rattle.std.proofs.lemmas.List.{length-map}
use Rattle.std.proofs.lemmas.List.Filters.{length-filter_both}
use Rattle.std.proofs.lemmas.List.Sums.{sum_by-cons}
use Rattle.std.proofs.Math.Pow.{pow_mono}
use Rattle.vx_clock.specs.declared.terms.Expiry.{Expiry}
use Rattle.vx_symbol.specs.declared.rows.StrikeRow.{StrikeRow}
use Rattle.vx_symbol.specs.Rows.{IsRateInRange}
use Rattle.vx_interval.specs.Ends.{IsScale, unit}
use Rattle.vx_interval.proofs.EndsLemmas.{unit_positive}
use Rattle.vx_bounds.proofs.RootsAreOne.{roots_are_ordered}
use Rattle.vx_formula.specs.Term.{TermFacts}
use Rattle.vx_formula.specs.Selection.{is_selected, selected_rows}
use Rattle.vx_formula.specs.Strip.{entries_after, strip}
use Rattle.vx_formula.proofs.Lists.{In, all_in}
use Rattle.vx_interval.proofs.Ranges.{unit_at_most}
use Rattle.vx_cert.specs.declared.certificate.Ends.{Ends as CertEnds}
use Rattle.vx_cert.specs.declared.rows.CertRow.{CertRow}
use Rattle.vx_cert.specs.Ranges.{AreEndsInRange, IsExpiryInRange, IsTermInRange}
use Rattle.vx_claims.specs.declared.acceptance.Test.TheVariants.{Exponential, Forward, Excess, Strip, Contributions, Total, Variance}
use Rattle.vx_claims.specs.TermTests.{IsWithin, IsStatedStrip, EnclosesContribution, EnclosesTotal, stated_entry}
use Rattle.vx_term.specs.declared.answer.TermRun.{TermRun}
use Rattle.vx_term.specs.Answer.{IsRun}
use Rattle.vx_term.specs.Ranges.{AreFactsLawful, AreMinutesInRange}
use Rattle.vx_certify.specs.Certified.{certified_ends, certified_rows, certified_term}
use Rattle.vx_accepted.specs.Statable.{FigureIsStatable, RunIsStatable}
use Rattle.vx_accepted.proofs.Figures.{cents_low, high_end_small}
use Rattle.vx_accepted.proofs.Terms.{certified_term_is_true}

-- ---- ends

-- ends within a limit below 2^126
within_ends : (limit : ℕ) (x : CertEnds) → limit < 2 ^ 126 → IsWithin limit x.lo → IsWithin limit x.hi → AreEndsInRange x
within_ends limit x small low high = record {
  lo = (omega (arith, ints, small, low.0), omega (arith, ints, small, low.1));
  hi = (omega (arith, ints, small, high.0), omega (arith, ints, small, high.1));
}

-- ends in order from 0 to a limit below 2^126
positive_ends : (limit : ℕ) (x : CertEnds) → limit < 2 ^ 126 → pos 0 ≤ℤ x.lo → x.lo ≤ℤ x.hi → x.hi ≤ℤ pos limit → AreEndsInRange x
positive_ends limit x small low ordered high = record {
  lo = (omega (arith, ints, low), omega (arith, ints, small, ordered, high));
  hi = (omega (arith, ints, low, ordered), omega (arith, ints, small, high));
}

-- ---- the rows

entries_are_as_many : (level : ℕ) (below : Option ℕ) (rows : List StrikeRow) → length (entries_after level below rows) ≡ length rows
entries_are_as_many level below [] = refl
entries_are_as_many level below (row ∷ rest) = let more = entries_are_as_many level (Some row.strike) rest in omega (arith, more)

-- a strip has no more entries than there are rows
strip_is_short : (rows : List StrikeRow) (level : ℕ) → length (strip rows level) ≤ length rows
strip_is_short rows level =
    let p = is_selected rows level in
    let both : length (filter p rows) + length (filter (λ x. not (p x)) rows) ≡ length rows = length-filter_both p (λ x. not (p x)) (λ x. refl) rows in
    let entries = entries_are_as_many level None (selected_rows rows level) in
    omega (arith, entries, both)

-- the low ends add to no more than the high ones
ends_add_in_order : (rows : List CertRow) → ((row : CertRow) → In rows row → row.lo ≤ row.hi)
    → sum_by (λ (row : CertRow). row.lo) rows ≤ sum_by (λ (row : CertRow). row.hi) rows
ends_add_in_order [] each = omega arith
ends_add_in_order (row ∷ rows) each =
    let low = sum_by-cons (λ (r : CertRow). r.lo) row rows in
    let high = sum_by-cons (λ (r : CertRow). r.hi) row rows in
    let first = each row (inl refl) in
    let rest = ends_add_in_order rows (λ r at. each r (inr at)) in
    omega (arith, low, high, first, rest)

-- ---- a run

module _ (P : ℕ) (x : Expiry) (facts : TermFacts) (run : TermRun P) (scale : IsScale P) (in_days : IsExpiryInRange x) (lawful : AreFactsLawful facts) (is : IsRun P x facts run) where
  one : 2 ^ P ≤ 2 ^ 62
  one = pow_mono scale.1

  minutes_are : AreMinutesInRange run.minutes
  minutes_are = subst AreMinutesInRange (sym is.minutes_are) lawful.minutes

  rate_is : IsRateInRange run.rate
  rate_is = subst (λ (r : Option ℤ). IfSome r IsRateInRange) is.rate_stands lawful.rate

  exponential : AreEndsInRange (certified_ends run.exp.value)
  exponential =
      let test = certified_term_is_true P x facts run scale lawful is Exponential in
      let small = one in
      let high = test.in_range in
      positive_ends (2 * 2 ^ P) (certified_ends run.exp.value) (omega (arith, small)) test.not_negative test.in_order (omega (arith, ints, high))

  forward : AreEndsInRange (certified_ends run.f)
  forward =
      let test = certified_term_is_true P x facts run scale lawful is Forward in
      let most = scale.1 in
      let bits : P + 27 ≤ 89 = omega (arith, most) in
      let small : 2 ^ (P + 27) ≤ 2 ^ 89 = pow_mono bits in
      within_ends (2 ^ (P + 27)) (certified_ends run.f) (omega (arith, small)) test.low_range test.high_range

  excess : AreEndsInRange (certified_ends run.g)
  excess =
      let test = certified_term_is_true P x facts run scale lawful is Excess in
      let small = one in
      positive_ends (2 * 2 ^ P) (certified_ends run.g) (omega (arith, small)) test.not_negative test.in_order test.in_range

  total : AreEndsInRange (certified_ends run.sum.total)
  total =
      let test : EnclosesTotal P (certified_rows run.strip.rows run.sum.rows) (certified_ends run.sum.total) = certified_term_is_true P x facts run scale lawful is Total in
      let parts : All (EnclosesContribution P) (certified_rows run.strip.rows run.sum.rows) = certified_term_is_true P x facts run scale lawful is Contributions in
      let small = one in
      let inside = ends_add_in_order (certified_rows run.strip.rows run.sum.rows) (λ row at. (all_in (EnclosesContribution P) (certified_rows run.strip.rows run.sum.rows) row parts at).in_order) in
      let low = test.low in
      let high = test.high in
      positive_ends (2 * 2 ^ P) (certified_ends run.sum.total) (omega (arith, small)) test.not_negative (omega (arith, ints, low, high, inside)) test.in_range

  variance : AreEndsInRange (certified_ends run.w)
  variance =
      let test = certified_term_is_true P x facts run scale lawful is Variance in
      let small = one in
      within_ends (6 * 2 ^ P) (certified_ends run.w) (omega (arith, small)) test.low_range test.high_range

  stated : IsStatedStrip facts.rows run.k0 (certified_rows run.strip.rows run.sum.rows)
  stated = certified_term_is_true P x facts run scale lawful is Strip

  rows_are_few : length (certified_rows run.strip.rows run.sum.rows) ≤ 2000
  rows_are_few =
      let short = strip_is_short facts.rows run.k0 in
      let few = (lawful.rows).count in
      let same : length (certified_rows run.strip.rows run.sum.rows) ≡ length (strip facts.rows run.k0) =
      sym (length-map (certified_rows run.strip.rows run.sum.rows) stated_entry) ∙ ap length stated.is_strip in
      omega (arith, short, few, same)

  rows_are_some : 1 ≤ length (certified_rows run.strip.rows run.sum.rows)
  rows_are_some = let put = stated.has_put in let place = put.2 in omega (arith, place)

  is_statable : IsTermInRange (certified_term run)
  is_statable = record {
    date = subst IsExpiryInRange (sym is.expiry_is) in_days;
    minutes_first = minutes_are.0;
    minutes_last = minutes_are.1;
    rate_least = rate_is.0;
    rate_greatest = rate_is.1;
    e = exponential;
    f = forward;
    g = excess;
    rows_some = rows_are_some;
    rows_most = rows_are_few;
    s = total;
    w = variance;
  }

-- what a certificate states of a run over lawful facts is in the range of each field
pub run_is_statable : RunIsStatable
run_is_statable P x facts run scale in_days lawful is = is_statable P x facts run scale in_days lawful is

-- ---- a figure

-- and what it states of a figure that is decided from a square in range
pub figure_is_statable : FigureIsStatable
figure_is_statable P square lo hi cents scale ordered range h =
    let small = unit_at_most P scale in
    let low = range.low in
    let high = range.high in
    let ends = h.ends in
    let decides = h.decides in
    let in_order = roots_are_ordered (unit P) square.lo square.hi lo hi (unit_positive P) ordered ends.low ends.high in
    let not_negative = decides.1 in
    let most = high_end_small P square hi high ends.high (omega (arith, ints, not_negative, in_order)) in
    let lo_is = decides.3 in
    let cents_are = decides.4 in
    let within = cents_low decides.2 in
    record {
      x = record {
        lo = (omega (arith, ints, small, low), omega (arith, ints, small, ordered, high));
        hi = (omega (arith, ints, small, ordered, low), omega (arith, ints, small, high));
      };
      lo = (omega (arith, ints, not_negative), omega (arith, ints, in_order, most));
      hi = (omega (arith, ints, not_negative, in_order), omega (arith, ints, most));
      cents = omega (arith, ints, lo_is, in_order, most, cents_are, within);
    }
