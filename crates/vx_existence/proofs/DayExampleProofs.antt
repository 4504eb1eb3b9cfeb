-- The worked day, computed.
use Rattle.std.proofs.Common.{◌≡◌, refl, sym, ap, subst, ℕ, ◌^◌, ◌<◌, ◌≤◌, ◌⊎◌, ℤ, pos, ◌*ℤ◌, false, ◌&&◌, List, [], ◌∷◌, Some, inl, inr, lit≤, arith, ◌++◌, length, Option, None}
use Rattle.std.specs.List.{All}
use Rattle.std.specs.Prelude.{replicate}
use Rattle.std.proofs.lemmas.Int.{ints}
use Rattle.std.proofs.lemmas.List.Elements.{All-cons, All-nil}
use lib.Signed.{le_z_yes, lt_z_yes}
use Rattle.vx_clock.specs.Day.{IsDayInRange}
use Rattle.vx_clock.specs.declared.terms.Expiry.{Expiry}
use Rattle.vx_clock.specs.declared.terms.Moment.{Moment}
use Rattle.vx_clock.specs.Terms.{IsInNearWindow, IsInNextWindow, IsNearTerm, IsNextTerm, IsTakenBeforeAsNear, IsTakenBeforeAsNext}
use Rattle.vx_symbol.specs.declared.symbols.Side.{Side}
use Rattle.vx_symbol.specs.declared.symbols.Side.TheVariants.{Call, Put}
use Rattle.vx_symbol.specs.declared.rows.StrikeRow.{StrikeRow}
use Rattle.vx_symbol.specs.Rows.{IsRateInRange}
use Rattle.vx_symbol.specs.Symbol.{IsStrikeInRange, IsSymbolInRange}
use Rattle.vx_interval.specs.Ends.{Ends, unit, least_of_four, greatest_of_four, least_square, greatest_square}
use Rattle.vx_interval.specs.Rounding.{floor_of, ceiling_of}
use Rattle.vx_bounds.specs.Exponential.{IsTerms, low_term, high_term, low_sum_to, high_sum_to, low_end, high_end}
use Rattle.vx_bounds.specs.Cents.{Decides}
use Rattle.vx_bounds.specs.declared.cents.Decision.TheVariants.{Cents}
use Rattle.vx_feed.specs.declared.events.Event.{Event}
use Rattle.vx_feed.specs.declared.events.Event.TheVariants as event
use Rattle.vx_feed.specs.declared.faults.FeedFault.{FeedFault}
use Rattle.vx_feed.specs.Order.{order_fault, AreLawfulAfter}
use Rattle.vx_feed.specs.Ranges.{IsPrice, IsEventInRange}
use Rattle.vx_feed.specs.Listed.{series_at, no_price}
use Rattle.vx_formula.specs.Pair.{Pair, IsAsClose}
use Rattle.vx_formula.specs.Term.{TermFacts, exponent}
use Rattle.vx_formula.specs.Level.{strikes, IsListed}
use Rattle.vx_formula.specs.Selection.{selected_rows}
use Rattle.vx_formula.specs.Refusal.{LacksMoney, HasNoPut, HasNoCall}
use Rattle.vx_formula.specs.Examples.{at_cents, row_at, sample_rows}
use Rattle.vx_formula.proofs.Lists.{In, in_from_contains, all_in}
use Rattle.vx_forward.specs.Forward.{printed_forward}
use Rattle.vx_forward.specs.Level.{IsLevelRow, IsK0Answer}
use Rattle.vx_forward.specs.declared.level.K0Answer.TheVariants as level
use Rattle.vx_claims.specs.declared.limits.TheConstants.{SCALE}
use Rattle.vx_claims.specs.Seen.{events_before, moment_of, term_facts}
use Rattle.vx_certify.specs.Certified.{AreIndexEnds}
use Rattle.vx_term.specs.declared.answer.TermAnswer.TheVariants.{Run}
use Rattle.vx_term.specs.Runs.{ForwardSays, IsRunOfRows}
use Rattle.vx_term.specs.Exponential.{IsExpRun}
use Rattle.vx_term.specs.Answer.{IsRun}
use Rattle.vx_replay.specs.Figures.{square_of_runs, IsFigureAnswer}
use Rattle.vx_replay.specs.declared.answer.TickAnswer.{TickAnswer}
use Rattle.vx_replay.specs.declared.answer.TickAnswer.TheVariants.{Published}
use Rattle.vx_replay.specs.Ticks.{IsAnswerFor}
use Rattle.vx_replay.proofs.LawfulTicks.{tick_answer_is_lawful}
use Rattle.vx_days.specs.FeedExamples.{september_17, standard, half_past_eight, quote_at}
use Rattle.vx_days.specs.TermExamples.{weekly_24}
use Rattle.vx_existence.specs.DayExamples.{series_of, quotes_of, two_terms, terms_of_one, ends_at, run_of, near_run, next_run, day_certificate, DayIsLawful, DayIsAnswered, DayIsAccepted}
use Rattle.vx_existence.proofs.Exponentials.{first_values, terms_of}
use Rattle.vx_existence.proofs.Decisions.{not_straddled}

-- ---- the feed

abbrev AreInRange : List Event → Type 0
AreInRange [] = Unit {0}
AreInRange (e ∷ events) = IsEventInRange e × AreInRange events

in_range_of_both : (first second : List Event) → AreInRange first → AreInRange second → AreInRange (first ++ second)
in_range_of_both [] second h k = k
in_range_of_both (e ∷ first) second h k = (h.0, in_range_of_both first second h.1 k)

-- the faults of events, each after those before it
abbrev faults_after : List Event → List Event → List (Option FeedFault)
faults_after before [] = []
faults_after before (e ∷ events) = order_fault before e ∷ faults_after (before ++ e ∷ []) events

abbrev first_of : List (Option FeedFault) → Option FeedFault
first_of [] = None
first_of (fault ∷ faults) = fault

abbrev rest_of : List (Option FeedFault) → List (Option FeedFault)
rest_of [] = []
rest_of (fault ∷ faults) = faults

lawful_from : (before events : List Event) → AreInRange events → faults_after before events ≡ replicate (length events) None → AreLawfulAfter before events
lawful_from before [] range none = tt
lawful_from before (e ∷ events) range none = (
  record { in_range = range.0; in_order = ap first_of none },
  lawful_from (before ++ e ∷ []) events range.1 (ap rest_of none),
)

strike_1900 : IsStrikeInRange 1900000
strike_1900 = (lit≤ tt, lit≤ tt)

strike_2000 : IsStrikeInRange 2000000
strike_2000 = (lit≤ tt, lit≤ tt)

strike_2100 : IsStrikeInRange 2100000
strike_2100 = (lit≤ tt, lit≤ tt)

module _ (x : Expiry) (day : IsDayInRange x.date) where
  symbol : (side : Side) (strike : ℕ) → IsStrikeInRange strike → IsSymbolInRange (series_at x side strike)
  symbol side strike range = record { date = day; strike = range }

  quote : (side : Side) (strike cents : ℕ) → IsStrikeInRange strike → IsPrice cents → IsEventInRange (quote_at (series_at x side strike) cents cents)
  quote side strike cents range price = (lit≤ tt, symbol side strike range, price, price)

  series_in_range : AreInRange (series_of x)
  series_in_range = (
    symbol Call 1900000 strike_1900,
    (symbol Put 1900000 strike_1900, (symbol Call 2000000 strike_2000, (symbol Put 2000000 strike_2000, later))),
  )
    where
      later : AreInRange (event.Series (series_at x Call 2100000) ∷ event.Series (series_at x Put 2100000) ∷ [])
      later = (symbol Call 2100000 strike_2100, (symbol Put 2100000 strike_2100, tt))

  quotes_in_range : AreInRange (quotes_of x)
  quotes_in_range = (
    quote Put 1900000 1000 strike_1900 (lit≤ tt),
    (quote Call 2000000 5000 strike_2000 (lit≤ tt), (quote Put 2000000 5000 strike_2000 (lit≤ tt), (quote Call 2100000 1000 strike_2100 (lit≤ tt), tt))),
  )

near_day : IsDayInRange standard.date
near_day = (le_z_yes tt, le_z_yes tt)

next_day : IsDayInRange weekly_24.date
next_day = (le_z_yes tt, le_z_yes tt)

rate_zero : IsRateInRange (pos 0)
rate_zero = (le_z_yes tt, le_z_yes tt)

prices_in_range : AreInRange (quotes_of standard ++ quotes_of weekly_24 ++ event.Tick half_past_eight ∷ event.End 25 ∷ [])
prices_in_range =
    in_range_of_both (quotes_of standard) (quotes_of weekly_24 ++ event.Tick half_past_eight ∷ event.End 25 ∷ []) (quotes_in_range standard near_day)
    (in_range_of_both (quotes_of weekly_24) (event.Tick half_past_eight ∷ event.End 25 ∷ []) (quotes_in_range weekly_24 next_day) (lit≤ tt, (lit≤ tt, tt)))

events_in_range : AreInRange two_terms
events_in_range =
    let prices : List Event = quotes_of standard ++ quotes_of weekly_24 ++ event.Tick half_past_eight ∷ event.End 25 ∷ [] in
    let listed : AreInRange (series_of standard ++ series_of weekly_24 ++ prices) =
    in_range_of_both (series_of standard) (series_of weekly_24 ++ prices) (series_in_range standard near_day)
    (in_range_of_both (series_of weekly_24) prices (series_in_range weekly_24 next_day) prices_in_range) in
    ((le_z_yes tt, le_z_yes tt), (near_day, (next_day, ((near_day, rate_zero), ((next_day, rate_zero), listed)))))

-- each event of the worked day may come after those before it
pub day_is_lawful : DayIsLawful
day_is_lawful = lawful_from [] two_terms events_in_range refl

-- ---- the two terms

of_two : (P : Expiry → Type 0) → P standard → P weekly_24 → All P (standard ∷ (weekly_24 ∷ []))
of_two P a b = All-cons P standard (weekly_24 ∷ []) a (All-cons P weekly_24 [] b (All-nil P))

near_is : IsNearTerm september_17 30 7 (standard ∷ (weekly_24 ∷ [])) standard
near_is = record {
  declared = (0, omega arith, refl);
  in_window = (le_z_yes tt, lt_z_yes tt, le_z_yes tt);
  first = λ other listed.
      let P : Expiry → Type 0 = λ x. IsInNearWindow september_17 30 7 x → IsTakenBeforeAsNear standard x in
      all_in P (standard ∷ (weekly_24 ∷ [])) other (of_two P (λ h. inr (refl, omega arith)) (λ h. absurd (omega (arith, ints, h.2))))
      (in_from_contains (standard ∷ (weekly_24 ∷ [])) other listed);
}

next_is : IsNextTerm september_17 30 7 (standard ∷ (weekly_24 ∷ [])) weekly_24
next_is = record {
  declared = (1, omega arith, refl);
  in_window = (lt_z_yes tt, le_z_yes tt);
  first = λ other listed.
      let P : Expiry → Type 0 = λ x. IsInNextWindow september_17 30 7 x → IsTakenBeforeAsNext weekly_24 x in
      all_in P (standard ∷ (weekly_24 ∷ [])) other (of_two P (λ h. absurd (omega (arith, ints, h.0))) (λ h. inr (refl, omega arith)))
      (in_from_contains (standard ∷ (weekly_24 ∷ [])) other listed);
}

-- ---- a term's run

abbrev rows : List StrikeRow
rows = sample_rows

abbrev facts_at : ℕ → TermFacts
facts_at minutes = record { rows = rows; rate = Some (pos 0); minutes = minutes }

-- the three rows
abbrev first_row : StrikeRow
first_row = row_at 1900000 (at_cents 1000) no_price

abbrev level_row : StrikeRow
level_row = row_at 2000000 (at_cents 5000) (at_cents 5000)

abbrev last_row : StrikeRow
last_row = row_at 2100000 no_price (at_cents 1000)

abbrev bottom : ℕ
bottom = (exponent (pos 0) 0).bottom

low_values : first_values 14 (low_term (2 ^ SCALE) 0 bottom) ≡ terms_of_one
unfolding low_term
low_values = refl

high_values : first_values 14 (high_term (2 ^ SCALE) 0 bottom) ≡ terms_of_one
unfolding high_term
high_values = refl

exp_is : (x : Expiry) (minutes : ℕ) → pos 0 *ℤ pos minutes ≡ pos 0 → IsExpRun SCALE (exponent (pos 0) minutes) (run_of x minutes).exp
unfolding low_term high_term low_sum_to high_sum_to low_end high_end
exp_is x minutes none =
    subst (λ (z : ℤ). IsExpRun SCALE (record { top = z; bottom = bottom }) (run_of x minutes).exp) (sym none) (
    record {
      low_terms = subst (IsTerms (low_term (2 ^ SCALE) 0 bottom)) low_values (terms_of (low_term (2 ^ SCALE) 0 bottom));
      high_terms = subst (IsTerms (high_term (2 ^ SCALE) 0 bottom)) high_values (terms_of (high_term (2 ^ SCALE) 0 bottom));
      value = refl;
    }
    )

abbrev forward : Ends
forward = ends_at 9223372036854775808000000 9223372036854775808000000

abbrev printed : ℤ
printed = pos 2000000000000000

printed_are : printed_forward SCALE forward ≡ (printed, printed)
unfolding unit floor_of ceiling_of
printed_are = refl

-- what is in a list of three is one of them
in_list_of_three : (a b c k : ℕ) → In (a ∷ (b ∷ (c ∷ []))) k → (a ≡ k) ⊎ ((b ≡ k) ⊎ (c ≡ k))
in_list_of_three a b c k (inl e) = inl e
in_list_of_three a b c k (inr (inl e)) = inr (inl e)
in_list_of_three a b c k (inr (inr (inl e))) = inr (inr e)
in_list_of_three a b c k (inr (inr (inr h))) = elim h [ ]

one_of_three : (k : ℕ) → IsListed rows k → (1900000 ≡ k) ⊎ ((2000000 ≡ k) ⊎ (2100000 ≡ k))
one_of_three k listed = in_list_of_three 1900000 2000000 2100000 k (in_from_contains (strikes rows) k listed)

level_is : IsLevelRow rows printed printed 1 level_row
level_is = record {
  none_between = λ strike listed h. let above = h.above in let most = h.at_most in omega (arith, ints, above, most);
  greatest = record {
    is_at = refl;
    at_most = le_z_yes tt;
    greatest = λ other listed most.
        elim (one_of_three other listed) [
          | inl e ↦ omega (arith, e)
          | inr later ↦ elim later [ inl e ↦ omega (arith, e) | inr e ↦ absurd (omega (arith, ints, e, most)) ]
        ];
  };
}

says : ForwardSays SCALE rows forward (level.At 1)
says =
    subst (λ (p : ℤ × ℤ). IsK0Answer rows p.0 p.1 (level.At 1)) (sym printed_are) (
      level_row,
      level_is,
      λ none. let far : 4000000 < 2100000 = none 2100000 (2, omega arith, refl) (omega arith) in omega (arith, far),
    )

-- the level's row has both prices
level_has_money : LacksMoney rows 2000000 → ⊥
level_has_money h = of_row h.row (in_from_contains rows h.row h.listed) h.at_level h.lacks
  where
    of_row : (row : StrikeRow) → In rows row → row.strike ≡ 2000000 → row.put.there && row.call.there ≡ false → ⊥
    of_row row (inl e) at lacks = let strike = ap (λ (r : StrikeRow). r.strike) e in omega (arith, strike, at)
    of_row row (inr (inl e)) at lacks = let both = ap (λ (r : StrikeRow). r.put.there && r.call.there) e in cc
    of_row row (inr (inr (inl e))) at lacks = let strike = ap (λ (r : StrikeRow). r.strike) e in omega (arith, strike, at)
    of_row row (inr (inr (inr h))) at lacks = elim h [ ]

has_put : HasNoPut rows 2000000 → ⊥
has_put all =
    let AtOrAbove : StrikeRow → Type 0 = λ row. 2000000 ≤ row.strike in
    let high : 2000000 ≤ 1900000 = all_in AtOrAbove (selected_rows rows 2000000) first_row all (inl refl) in omega (arith, high)

has_call : HasNoCall rows 2000000 → ⊥
has_call all =
    let AtOrBelow : StrikeRow → Type 0 = λ row. row.strike ≤ 2000000 in
    let low : 2100000 ≤ 2000000 = all_in AtOrBelow (selected_rows rows 2000000) last_row all (inr (inr (inl refl))) in omega (arith, low)

numbers_are : (x : Expiry) (minutes : ℕ) → IsRunOfRows SCALE rows (ends_at 4611686018427387904 4611686018427387904) (run_of x minutes)
unfolding unit floor_of ceiling_of least_of_four greatest_of_four least_square greatest_square
numbers_are x minutes = record {
  pair_is = record {
    among = (0, omega arith, refl);
    closest =
        let pair : Pair = record { strike = 2000000; d = pos 0 } in
        All-cons (IsAsClose pair) pair [] (inr (refl, omega arith)) (All-nil (IsAsClose pair));
  };
  forward_is = refl;
  place = 1;
  tells = says;
  level_is = refl;
  has_strip = record { has_money = level_has_money; has_put = has_put; has_call = has_call };
  strip_is = refl;
  sum_is = record { rows = refl; total = refl; accepted = lit≤ tt };
  excess_is = refl;
  variance_is = refl;
}

run_is : (x : Expiry) (minutes : ℕ) → pos 0 *ℤ pos minutes ≡ pos 0 → IsRun SCALE x (facts_at minutes) (run_of x minutes)
run_is x minutes none = record {
  expiry_is = refl;
  minutes_are = refl;
  rate_stands = refl;
  exp_is = exp_is x minutes none;
  numbers_are = numbers_are x minutes;
}

-- ---- the tick

abbrev now : Moment
now = moment_of september_17 half_past_eight

near_facts : term_facts (events_before two_terms 26) now standard ≡ facts_at 43200
near_facts = refl

next_facts : term_facts (events_before two_terms 26) now weekly_24 ≡ facts_at 53670
next_facts = refl

near_answer : IsAnswerFor (events_before two_terms 26) now standard (Run near_run)
near_answer = subst (λ (facts : TermFacts). IsRun SCALE standard facts near_run) (sym near_facts) (run_is standard 43200 refl)

next_answer : IsAnswerFor (events_before two_terms 26) now weekly_24 (Run next_run)
next_answer = subst (λ (facts : TermFacts). IsRun SCALE weekly_24 facts next_run) (sym next_facts) (run_is weekly_24 53670 refl)

abbrev square : Ends
square = ends_at 196803538858693955 196803538858694029

-- the square of the index from the two runs
index_square_is : square_of_runs 30 near_run next_run ≡ square
unfolding unit floor_of ceiling_of
index_square_is = refl

ends_are : AreIndexEnds SCALE square (pos 20657919) (pos 20657920)
unfolding unit
ends_are = record {
  low = record { at_most = le_z_yes tt; next_above = lt_z_yes tt };
  high = record { at_least = le_z_yes tt; last_below = lt_z_yes tt };
}

decides : Decides (pos 20657919) (pos 20657920) (Cents 2066)
decides = (not_straddled 20657919 (pos 20657920) (lt_z_yes tt), le_z_yes tt, 20657919, refl, refl)

figure_is : IsFigureAnswer 26 half_past_eight 30 near_run next_run (Published 2066 (pos 20657919) (pos 20657920) day_certificate)
unfolding unit floor_of ceiling_of
figure_is = (
  subst (λ (x : Ends). AreIndexEnds SCALE x (pos 20657919) (pos 20657920)) (sym index_square_is) ends_are,
  decides,
  refl,
)

-- its tick is answered with the figure 20.66
pub day_is_answered : DayIsAnswered
day_is_answered = record {
  is_tick = (omega arith, refl);
  day = september_17;
  day_is = refl;
  answered = record {
    near = standard;
    is_near = near_is;
    next = weekly_24;
    is_next = next_is;
    near_answer = Run near_run;
    is_near_answer = near_answer;
    next_answer = Run next_run;
    is_next_answer = next_answer;
    joined = figure_is;
  };
}

-- and the certificate of this figure is accepted
pub day_is_accepted : DayIsAccepted
day_is_accepted =
    let answer : TickAnswer = Published 2066 (pos 20657919) (pos 20657920) day_certificate in
    let lawful = tick_answer_is_lawful 30 7 two_terms 26 half_past_eight answer (omega arith, omega arith) (omega arith) day_is_lawful day_is_answered in
    lawful.accepted
