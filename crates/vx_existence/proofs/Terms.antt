-- There is an answer for every term, step by step.
use Rattle.std.proofs.Common.{◌≡◌, refl, sym, ap, subst, ℕ, ◌*◌, ◌^◌, ◌≤◌, ℤ, List, [], ◌∷◌, map, Option, Some, None, inl, inr}
use Rattle.std.proofs.lemmas.Bool.{cases_lt}
use Rattle.vx_clock.specs.declared.terms.Expiry.{Expiry}
use Rattle.vx_interval.specs.Ends.{Ends}
use Rattle.vx_formula.specs.declared.limits.TheConstants.{STRIP_TOTAL_MAX}
use Rattle.vx_formula.specs.Pair.{Pair, IsClosestPair}
use Rattle.vx_formula.specs.Term.{TermFacts, exponent}
use Rattle.vx_formula.specs.Strip.{StripEntry, strip, upper_total}
use Rattle.vx_formula.specs.Refusal.{LacksMoney, HasNoPut}
use Rattle.vx_formula.proofs.PairLemmas.{closest_pair_is_there}
use Rattle.vx_formula.proofs.RowDecisions.{money_or_not, put_or_not, call_or_not}
use Rattle.vx_forward.specs.Forward.{forward_interval, printed_forward}
use Rattle.vx_forward.specs.declared.level.K0Answer.{K0Answer}
use Rattle.vx_forward.specs.declared.level.K0Answer.TheVariants as level
use Rattle.vx_strip.specs.declared.strip.StripRow.{StripRow}
use Rattle.vx_strip.specs.declared.strip.Strip.{Strip}
use Rattle.vx_strip.specs.Entries.{entries_of, strike_at}
use Rattle.vx_strip.specs.Refusals.{HasNoStripRefusal}
use Rattle.vx_sum.specs.declared.sum.StripSum.{StripSum}
use Rattle.vx_sum.specs.Sums.{row_ends, total_ends, IsSumOf}
use Rattle.vx_term.specs.declared.answer.TermRefusal.TheVariants.{NoRate, NoPair, NoStrikeBelow, NoStrikeAbove, NoMoney, NoPut, NoCall, StripTooLarge}
use Rattle.vx_term.specs.declared.answer.TermRun.{TermRun}
use Rattle.vx_term.specs.declared.answer.TermAnswer.{TermAnswer}
use Rattle.vx_term.specs.declared.answer.TermAnswer.TheVariants.{Run, Refused, UndecidedForward}
use Rattle.vx_term.specs.Variance.{excess_ends, variance_ends}
use Rattle.vx_term.specs.Runs.{HasForward, ForwardSays, TellsLevel}
use Rattle.vx_term.specs.Answer.{exponential_ends, IsRun, IsTermAnswer}
use Rattle.vx_existence.specs.Existence.{EveryTermHasAnswer}
use Rattle.vx_existence.proofs.Exponentials.{exp_run_at, is_exp_run}
use Rattle.vx_existence.proofs.Levels.{level_is_answered}

-- ---- the strip of a level and its sum

abbrev row_of : StripEntry → StripRow
row_of entry = record { strike = entry.strike; d = entry.d; q4 = entry.q4 }

-- the strip with these entries
abbrev pub strip_of : List StripEntry → Strip
strip_of entries = record { rows = map row_of entries }

-- whose entries are these
pub entries_back : (entries : List StripEntry) → entries_of (strip_of entries) ≡ entries
entries_back [] = refl
entries_back (entry ∷ entries) = ap (λ rest. entry ∷ rest) (entries_back entries)

-- the ends and the sums of entries
abbrev pub sum_of : (P : ℕ) → List StripEntry → StripSum P
sum_of P entries = record { rows = map (row_ends P) entries; total = total_ends P entries }

-- which are their sum, where the upper sum is small enough
pub is_sum_of : (P : ℕ) (entries : List StripEntry) → upper_total P entries ≤ STRIP_TOTAL_MAX * 2 ^ P → IsSumOf P entries (sum_of P entries)
is_sum_of P entries accepted = record { rows = refl; total = refl; accepted = accepted }

-- ---- the term

module _ (P : ℕ) (x : Expiry) (facts : TermFacts) (rate : ℤ) (stands : facts.rate ≡ Some rate) (pair : Pair)
    (closest : IsClosestPair facts.rows pair) where
  abbrev Answered : Type 0
  Answered = (answer : TermAnswer P) × IsTermAnswer P x facts answer

  abbrev e : Ends
  e = exponential_ends P rate facts.minutes

  abbrev forward : Ends
  forward = forward_interval P pair e

  has_forward : HasForward P facts.rows e forward
  has_forward = record { pair = pair; is_closest = closest; forward_is = refl }

  -- the run at a level
  abbrev run_at : ℕ → TermRun P
  run_at k =
      let entries = strip facts.rows k in
      let g = excess_ends P k forward in record {
        expiry = x;
        minutes = facts.minutes;
        rate = rate;
        exp = exp_run_at P (exponent rate facts.minutes);
        pair = record { strike = pair.strike; d = pair.d };
        f = forward;
        k0 = k;
        g = g;
        strip = strip_of entries;
        sum = sum_of P entries;
        w = variance_ends P e (total_ends P entries) g;
      }

  module _ (place : ℕ) (tells : ForwardSays P facts.rows forward (level.At place)) where
    abbrev k0 : ℕ
    k0 = strike_at facts.rows place

    tells_level : TellsLevel P facts.rows e k0
    tells_level = (place, (forward, has_forward, tells), refl)

    is_run : HasNoStripRefusal facts.rows k0 → upper_total P (strip facts.rows k0) ≤ STRIP_TOTAL_MAX * 2 ^ P → IsRun P x facts (run_at k0)
    is_run none accepted = record {
      expiry_is = refl;
      minutes_are = refl;
      rate_stands = stands;
      exp_is = is_exp_run P (exponent rate facts.minutes);
      numbers_are = record {
        pair_is = closest;
        forward_is = refl;
        place = place;
        tells = tells;
        level_is = refl;
        has_strip = none;
        strip_is = entries_back (strip facts.rows k0);
        sum_is =
            let entries : List StripEntry = strip facts.rows k0 in
            subst (λ (others : List StripEntry). IsSumOf P others (sum_of P entries)) (sym (entries_back entries)) (is_sum_of P entries accepted);
        excess_is = refl;
        variance_is = refl;
      };
    }

    -- with a strip, by its sum
    of_strip : HasNoStripRefusal facts.rows k0 → Answered
    of_strip none =
        elim (cases_lt (STRIP_TOTAL_MAX * 2 ^ P) (upper_total P (strip facts.rows k0))) [
          | inl large ↦ (
            Refused (StripTooLarge (upper_total P (strip facts.rows k0))),
            (rate, stands, record { k = k0; tells = tells_level; has_strip = none; upper_is = refl; too_large = large }),
          )
          | inr accepted ↦ (Run (run_at k0), is_run none accepted)
        ]

    of_call : ¬ LacksMoney facts.rows k0 → ¬ HasNoPut facts.rows k0 → Answered
    of_call money put =
        elim (call_or_not facts.rows k0) [
          | inl lacks ↦ (Refused NoCall, (rate, stands, (k0, tells_level, (money, put, lacks))))
          | inr call ↦ of_strip (record { has_money = money; has_put = put; has_call = call })
        ]

    of_put : ¬ LacksMoney facts.rows k0 → Answered
    of_put money =
        elim (put_or_not facts.rows k0) [ inl lacks ↦ (Refused NoPut, (rate, stands, (k0, tells_level, (money, lacks)))) | inr put ↦ of_call money put ]

    of_level : Answered
    of_level =
        elim (money_or_not facts.rows k0) [ inl lacks ↦ (Refused NoMoney, (rate, stands, (k0, tells_level, lacks))) | inr money ↦ of_put money ]

  -- by what the forward says of the level
  of_saying : (said : K0Answer) → ForwardSays P facts.rows forward said → Answered
  of_saying (level.At place) says = of_level place says
  of_saying level.NoStrikeBelow says = (Refused NoStrikeBelow, (rate, stands, (forward, has_forward, says)))
  of_saying (level.NoStrikeAbove place) says = (Refused NoStrikeAbove, (rate, stands, (place, (forward, has_forward, says))))
  of_saying (level.Straddle strike lo hi) says = (UndecidedForward strike lo hi, (rate, stands, (forward, has_forward, says)))

  of_pair : Answered
  of_pair =
      let found = level_is_answered facts.rows (printed_forward P forward).0 (printed_forward P forward).1 in of_saying found.0 found.1

of_rate : (P : ℕ) (x : Expiry) (facts : TermFacts) (stands : Option ℤ) → facts.rate ≡ stands
    → (answer : TermAnswer P) × IsTermAnswer P x facts answer
of_rate P x facts None none = (Refused NoRate, none)
of_rate P x facts (Some rate) stands =
    elim (closest_pair_is_there facts.rows) [
      | inl none ↦ (Refused NoPair, (rate, stands, none))
      | inr found ↦ of_pair P x facts rate stands found.0 found.1
    ]

-- there is an answer for every term
pub every_term_has_answer : EveryTermHasAnswer
every_term_has_answer P x facts = of_rate P x facts facts.rate refl
