-- The numbers on the way to a term's variance are one.
use Rattle.std.proofs.Common.{◌≡◌, ℕ, ◌^◌, ◌<◌, ℤ, nat_abs, List, [], ◌∷◌, map, refl, sym, ◌∙◌, ap, subst, arith}
use Rattle.std.proofs.lemmas.Grind.{same_number_lists}
use Rattle.std.proofs.lemmas.Option.{same_Some}
use Rattle.vx_num.specs.Fraction.{Fraction}
use Rattle.vx_clock.specs.declared.terms.Expiry.{Expiry}
use Rattle.vx_symbol.specs.declared.rows.StrikeRow.{StrikeRow}
use Rattle.vx_interval.specs.Ends.{Ends}
use Rattle.vx_bounds.specs.Exponential.{IsTerms, low_term, high_term}
use Rattle.vx_bounds.specs.declared.exponential.ExpRun.{ExpRun}
use Rattle.vx_formula.specs.Pair.{IsClosestPair}
use Rattle.vx_formula.specs.Term.{TermFacts, exponent}
use Rattle.vx_formula.specs.Level.{StrikesRise}
use Rattle.vx_formula.specs.Strip.{StripEntry, strip}
use Rattle.vx_formula.proofs.PairLemmas.{closest_pair_is_one}
use Rattle.vx_forward.specs.Pairs.{formula_pair}
use Rattle.vx_forward.specs.Forward.{forward_interval, printed_forward}
use Rattle.vx_forward.specs.declared.pairs.Pair.{Pair}
use Rattle.vx_forward.specs.declared.level.K0Answer.{K0Answer}
use Rattle.vx_forward.specs.declared.level.K0Answer.TheVariants as level
use Rattle.vx_forward.proofs.AnswersAreOne.{answer_is_one}
use Rattle.vx_strip.specs.declared.strip.StripRow.{StripRow}
use Rattle.vx_strip.specs.declared.strip.Strip.{Strip}
use Rattle.vx_strip.specs.Entries.{entry_of, entries_of, strike_at}
use Rattle.vx_sum.specs.declared.sum.StripSum.{StripSum}
use Rattle.vx_sum.specs.Sums.{IsSumOf}
use Rattle.vx_sum.proofs.SumIsOne.{sum_is_one}
use Rattle.vx_term.specs.declared.answer.TermRun.{TermRun}
use Rattle.vx_term.specs.Exponential.{IsExpRun}
use Rattle.vx_term.specs.Variance.{excess_ends, variance_ends}
use Rattle.vx_term.specs.Runs.{ForwardSays}
use Rattle.vx_term.specs.Answer.{IsRun}

-- ---- what lists and records are made of determines them

pub terms_are_one : (term : ℕ → ℕ) (xs ys : List ℕ) → IsTerms term xs → IsTerms term ys → xs ≡ ys
terms_are_one term xs ys h k =
    same_number_lists xs ys (h.count ∙ sym k.count) (λ n l. let m : n < 14 = omega (arith, h.count) in h.each n m ∙ sym (k.each n m))

pub exp_run_is_one : (P : ℕ) (x : Fraction) (a b : ExpRun P) → IsExpRun P x a → IsExpRun P x b → a ≡ b
exp_run_is_one P x a b h k =
    let lows : a.t_lo ≡ b.t_lo = terms_are_one (low_term (2 ^ P) (nat_abs x.top) x.bottom) a.t_lo b.t_lo h.low_terms k.low_terms in
    let highs : a.t_hi ≡ b.t_hi = terms_are_one (high_term (2 ^ P) (nat_abs x.top) x.bottom) a.t_hi b.t_hi h.high_terms k.high_terms in
    let values : a.value ≡ b.value = h.value ∙ sym k.value in
    λ i. record { t_lo = lows i; t_hi = highs i; value = values i }

-- a row is determined by its entry
abbrev row_of : StripEntry → StripRow
row_of entry = record { strike = entry.strike; d = entry.d; q4 = entry.q4 }

-- the rows of a strip are those of its entries
rows_of_entries : (rows : List StripRow) → map row_of (map entry_of rows) ≡ rows
rows_of_entries [] = refl
rows_of_entries (row ∷ rows) = ap (λ rest. row ∷ rest) (rows_of_entries rows)

pub strip_is_one : (a b : Strip) → entries_of a ≡ entries_of b → a ≡ b
strip_is_one a b e =
    let rows : a.rows ≡ b.rows = sym (rows_of_entries a.rows) ∙ ap (map row_of) e ∙ rows_of_entries b.rows in
    λ i. record { rows = rows i }

pair_is_one : (rows : List StrikeRow) (a b : Pair) → StrikesRise rows → IsClosestPair rows (formula_pair a) → IsClosestPair rows (formula_pair b) → a ≡ b
pair_is_one rows a b rise h k =
    let e : formula_pair a ≡ formula_pair b = closest_pair_is_one rows (formula_pair a) (formula_pair b) rise h k in
    λ i. record { strike = (e i).strike; d = (e i).d }

-- ---- the level is one

abbrev place_of : K0Answer → ℕ
place_of (level.At place) = place
place_of _ = 0

-- ---- a run is one

module _ (P : ℕ) (x : Expiry) (facts : TermFacts) (rise : StrikesRise facts.rows) (a b : TermRun P) (h : IsRun P x facts a) (k : IsRun P x facts b) where
  rates : a.rate ≡ b.rate
  rates = same_Some a.rate b.rate (sym h.rate_stands ∙ k.rate_stands)

  all_minutes : a.minutes ≡ b.minutes
  all_minutes = h.minutes_are ∙ sym k.minutes_are

  exps : a.exp ≡ b.exp
  exps =
      let at_b : IsExpRun P (exponent b.rate b.minutes) a.exp =
      subst (λ (rate : ℤ). IsExpRun P (exponent rate b.minutes) a.exp) rates (subst (λ (m : ℕ). IsExpRun P (exponent a.rate m) a.exp) all_minutes h.exp_is) in
      exp_run_is_one P (exponent b.rate b.minutes) a.exp b.exp at_b k.exp_is

  values : a.exp.value ≡ b.exp.value
  values = ap (λ (e : ExpRun P). e.value) exps

  pairs : a.pair ≡ b.pair
  pairs = pair_is_one facts.rows a.pair b.pair rise (h.numbers_are).pair_is (k.numbers_are).pair_is

  forwards : a.f ≡ b.f
  forwards =
      (h.numbers_are).forward_is ∙ ap (λ (p : Pair). forward_interval P (formula_pair p) a.exp.value) pairs
      ∙ ap (λ (e : Ends). forward_interval P (formula_pair b.pair) e) values ∙ sym (k.numbers_are).forward_is

  levels : a.k0 ≡ b.k0
  levels =
      let n = h.numbers_are in
      let m = k.numbers_are in
      let told : ForwardSays P facts.rows b.f (level.At n.place) = subst (λ (f : Ends). ForwardSays P facts.rows f (level.At n.place)) forwards n.tells in
      let same : level.At n.place ≡ level.At m.place =
      answer_is_one facts.rows (printed_forward P b.f).0 (printed_forward P b.f).1 (level.At n.place) (level.At m.place) rise told m.tells in
      n.level_is ∙ ap (λ (answer : K0Answer). strike_at facts.rows (place_of answer)) same ∙ sym m.level_is

  strips : a.strip ≡ b.strip
  strips = strip_is_one a.strip b.strip ((h.numbers_are).strip_is ∙ ap (strip facts.rows) levels ∙ sym (k.numbers_are).strip_is)

  sums : a.sum ≡ b.sum
  sums =
      sum_is_one P (entries_of b.strip) a.sum b.sum (subst (λ (s : Strip). IsSumOf P (entries_of s) a.sum) strips (h.numbers_are).sum_is) (k.numbers_are).sum_is

  excesses : a.g ≡ b.g
  excesses =
      (h.numbers_are).excess_is ∙ ap (λ (m : ℕ). excess_ends P m a.f) levels ∙ ap (λ (f : Ends). excess_ends P b.k0 f) forwards ∙ sym (k.numbers_are).excess_is

  variances : a.w ≡ b.w
  variances =
      (h.numbers_are).variance_is ∙ ap (λ (e : Ends). variance_ends P e a.sum.total a.g) values
      ∙ ap (λ (s : StripSum P). variance_ends P b.exp.value s.total a.g) sums
      ∙ ap (λ (g : Ends). variance_ends P b.exp.value b.sum.total g) excesses ∙ sym (k.numbers_are).variance_is

  pub run_is_one : a ≡ b
  run_is_one =
      let expiries : a.expiry ≡ b.expiry = h.expiry_is ∙ sym k.expiry_is in
      λ i. record {
        expiry = expiries i;
        minutes = all_minutes i;
        rate = rates i;
        exp = exps i;
        pair = pairs i;
        f = forwards i;
        k0 = levels i;
        g = excesses i;
        strip = strips i;
        sum = sums i;
        w = variances i;
      }
