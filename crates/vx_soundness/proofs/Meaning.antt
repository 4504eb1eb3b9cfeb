-- An accepted certificate means what it says, kind by kind.
use Rattle.std.proofs.Common.{◌≡◌, ℕ, zero, suc, ◌+◌, ◌-◌, ◌*◌, ◌^◌, ◌<◌, ◌≤◌, true, ℤ, pos, negsuc, ◌≤ℤ◌, ◌<ℤ◌, nat_abs, List, [], ◌∷◌, Option, Some, None, refl, sym, ◌∙◌, ap, subst, inl, inr, arith}
use Rattle.std.specs.List.{slice_get}
use Rattle.std.specs.Option.{option_or, option_and_then, is_some}
use Rattle.std.proofs.lemmas.Bool.{cond-true}
use Rattle.std.proofs.lemmas.Int.{ints}
use Rattle.vx_num.specs.Fraction.{Fraction}
use Rattle.vx_clock.specs.declared.days.DayNo.{DayNo}
use Rattle.vx_clock.specs.declared.terms.Root.{Root}
use Rattle.vx_clock.specs.declared.terms.Root.TheVariants.{Spx, Spxw}
use Rattle.vx_clock.specs.declared.terms.Expiry.{Expiry}
use Rattle.vx_clock.specs.declared.terms.Moment.{Moment}
use Rattle.vx_clock.specs.declared.limits.TheConstants.{DAY_MINUTES, DAYS_AHEAD_MAX, MINUTES_MAX}
use Rattle.vx_clock.specs.Minutes.{days_until, settlement_minute, minutes_between}
use Rattle.vx_clock.specs.Terms.{IsNearTerm, IsNextTerm}
use Rattle.vx_feed.specs.declared.events.Event.{Event}
use Rattle.vx_feed.specs.declared.events.Event.TheVariants as event
use Rattle.vx_feed.specs.Said.{first_said}
use Rattle.vx_feed.specs.Standing.{before_opening}
use Rattle.vx_feed.specs.Listed.{trade_date, declared_expiries, is_declared, standing_price}
use Rattle.vx_feed.specs.Opening.{opening_minute, opening_time, opening_price}
use Rattle.vx_feed.specs.Order.{AreLawful}
use Rattle.vx_cert.specs.declared.certificate.CertTerm.{CertTerm}
use Rattle.vx_cert.specs.declared.certificate.CertFigure.{CertFigure}
use Rattle.vx_cert.specs.declared.certificate.CertBody.{CertBody}
use Rattle.vx_cert.specs.declared.certificate.CertBody.TheVariants.{K0, Single, Index, Soq}
use Rattle.vx_formula.specs.declared.limits.TheConstants.{THIRTY_DAYS}
use Rattle.vx_formula.specs.Term.{TermFacts, Term, IsTermOf, InBracket, HasSmallExponent}
use Rattle.vx_formula.specs.Level.{StrikesRise, IsListed}
use Rattle.vx_formula.specs.Variance.{variance_at}
use Rattle.vx_formula.specs.Index.{TwoTerms, OneTerm, index_square, single_square, SquareMeets, IsNegative}
use Rattle.vx_formula.specs.Rounds.{Rounds}
use Rattle.vx_formula.specs.Between.{BetweenAt}
use Rattle.vx_formula.specs.Refusal.{TermRefuses, TickReason, no_near_term, no_next_term, of_near, of_next, negative_variance, TickRefuses, OpeningFacts, OpeningReason, no_opening, no_term, of_term, negative_opening, OpeningRefuses}
use Rattle.vx_formula.proofs.FigureLemmas.{figure_is_one, figure_is_not_negative}
use Rattle.vx_formula.proofs.RangeLemmas.{exponent_is_small}
use Rattle.vx_claims.specs.declared.limits.TheConstants.{SCALE}
use Rattle.vx_claims.specs.Seen.{events_before, moment_of, term_facts, opening_expiry, opening_term_facts, opening_term_of, opening_facts}
use Rattle.vx_claims.specs.declared.acceptance.Test.{Test}
use Rattle.vx_claims.specs.declared.acceptance.Test.TheVariants.{Place, Terms, Minutes, Rate, TaylorTerms, Exponential, ClosestPair, Forward, Level, Excess, Strip, Contributions, Total, Variance, Square, IndexEnds}
use Rattle.vx_claims.specs.TermTests.{TermMeets}
use Rattle.vx_claims.specs.FigureTests.{EnclosesSquare, EnclosesSingleSquare, EnclosesIndex}
use Rattle.vx_claims.specs.Accepts.{scale_of, IsVersion, TermMeetsAt, OpeningTermMeets, SingleMeets, SoqMeets, IndexMeets, BodyMeets}
use Rattle.vx_claims.specs.Means.{IsFigureOf, MeansSingle, MeansIndex, MeansOpening, BodyMeans}
use Rattle.vx_claims.proofs.LevelLemmas.{trade_date_stands, means_level}
use Rattle.vx_soundness.specs.Laws.{AcceptedMeans}
use Rattle.vx_soundness.proofs.FigureLemmas.{square_proper, square_enclosed, single_proper, single_enclosed, between_stated, rounds_stated}
use Rattle.vx_feed.proofs.RisingStrikes.{rows_rise}
use Rattle.vx_claims.proofs.InRange.{lawful_in_range, take_in_range, before_in_range, said_rate_in_range}
use Rattle.vx_soundness.proofs.RowLemmas.{rows_positive}
use Rattle.vx_soundness.proofs.TermAt.{stated_term, term_of_facts, holds_at}
use Rattle.vx_soundness.proofs.NoRefusal.{same_term, not_refused}

-- ---- minutes and rates in range

settlement_at_least : (root : Root) → 510 ≤ settlement_minute root
settlement_at_least Spx = omega arith
settlement_at_least Spxw = omega arith

settlement_at_most : (root : Root) → settlement_minute root ≤ 900
settlement_at_most Spx = omega arith
settlement_at_most Spxw = omega arith

minutes_some : (now : Moment) (x : Expiry) → 1 ≤ minutes_between now x
minutes_some now x = let s = settlement_at_least x.root in omega (arith, s)

minutes_at_most : (m s : ℕ) (z : ℤ) (days : ℕ) → pos 1 ≤ℤ z → z ≤ℤ pos days → days ≤ 181 → s ≤ 900 → (1440 - m) + 1440 * (nat_abs z - 1) + s ≤ 262800
minutes_at_most m s (pos n) days low high bound late = omega (arith, ints)
minutes_at_most m s (negsuc n) days low high bound late = absurd (omega (arith, ints))

minutes_apart : (m s r : ℕ) (y z : ℤ) (days : ℕ) → pos 1 ≤ℤ y → y ≤ℤ pos days → pos days <ℤ z → s ≤ 900 → 510 ≤ r
    → (1440 - m) + 1440 * (nat_abs y - 1) + s < (1440 - m) + 1440 * (nat_abs z - 1) + r
minutes_apart m s r (negsuc a) z days low high later early late = absurd (omega (arith, ints))
minutes_apart m s r (pos a) (negsuc b) days low high later early late = absurd (omega (arith, ints))
minutes_apart m s r (pos a) (pos b) days low high later early late = omega (arith, ints)

-- ---- the figure of terms whose tests are met

figure_of_one : (P : ℕ) (facts : TermFacts) (t : CertTerm) (figure : CertFigure) → ((test : Test) → TermMeets P facts t test) → 1 ≤ facts.minutes
    → ((k : ℕ) → IsListed facts.rows k → 1 ≤ k) → HasSmallExponent (stated_term facts t) → EnclosesSingleSquare P t.w figure.x → EnclosesIndex P figure
    → IsFigureOf (OneTerm (stated_term facts t)) figure.cents figure.lo figure.hi
figure_of_one P facts t figure meets some positive small square tests =
    let term = stated_term facts t in
    let at = holds_at P facts t meets some positive in
    let x = λ (e : Fraction). single_square (variance_at term t.k0 e) in
    let between : (e : Fraction) → InBracket term 12 e → BetweenAt figure.lo figure.hi (x e) = λ e member.
    between_stated P figure (x e) tests (single_enclosed P t.w figure.x (variance_at term t.k0 e) square (at e member).enclosed) in
    let narrow = tests.narrow in
    let rounds : Rounds (OneTerm term) figure.cents = record {
      depth = 12;
      level = t.k0;
      holds = λ e member. record {
        level = (at e member).level;
        test = rounds_stated P figure (x e) (single_proper (variance_at term t.k0 e) (at e member).proper) tests (between e member);
      };
    } in
    record {
      rounds = rounds;
      no_other = λ other rounds_too. figure_is_one (OneTerm term) other figure.cents small rounds_too rounds;
      between = record { depth = 12; level = t.k0; holds = λ e member. record { level = (at e member).level; test = between e member } };
      narrow = omega (arith, ints);
    }

-- ---- kind single

at_day : (events : List Event) (v line time : ℕ) (t : CertTerm) (test : Test) (day : DayNo) → trade_date events ≡ Some day → TermMeetsAt events v line time t test
    → TermMeets (scale_of v) (term_facts (events_before events line) (moment_of day time) t.expiry) t test
at_day events v line time t test day stands h =
    let known = h.day_is in
    let same : h.day ≡ day = cc in
    let F : DayNo → Type 0 = λ d. TermMeets (scale_of v) (term_facts (events_before events line) (moment_of d time) t.expiry) t test in
    subst F same h.meets

single_meets : (events : List Event) (v line time : ℕ) (t : CertTerm) (figure : CertFigure) (day : DayNo) → trade_date events ≡ Some day
    → ((test : Test) → SingleMeets events v line time t figure test) → (test : Test) → TermMeets (scale_of v) (term_facts (events_before events line) (moment_of day time) t.expiry) t test
single_meets events v line time t figure day stands all Place = tt
single_meets events v line time t figure day stands all Terms = tt
single_meets events v line time t figure day stands all Minutes = at_day events v line time t Minutes day stands (all Minutes).0
single_meets events v line time t figure day stands all Rate = at_day events v line time t Rate day stands (all Rate).0
single_meets events v line time t figure day stands all TaylorTerms = at_day events v line time t TaylorTerms day stands (all TaylorTerms)
single_meets events v line time t figure day stands all Exponential = at_day events v line time t Exponential day stands (all Exponential)
single_meets events v line time t figure day stands all ClosestPair = at_day events v line time t ClosestPair day stands (all ClosestPair)
single_meets events v line time t figure day stands all Forward = at_day events v line time t Forward day stands (all Forward)
single_meets events v line time t figure day stands all Level = at_day events v line time t Level day stands (all Level)
single_meets events v line time t figure day stands all Excess = at_day events v line time t Excess day stands (all Excess)
single_meets events v line time t figure day stands all Strip = at_day events v line time t Strip day stands (all Strip)
single_meets events v line time t figure day stands all Contributions = at_day events v line time t Contributions day stands (all Contributions)
single_meets events v line time t figure day stands all Total = at_day events v line time t Total day stands (all Total)
single_meets events v line time t figure day stands all Variance = at_day events v line time t Variance day stands (all Variance)
single_meets events v line time t figure day stands all Square = tt
single_meets events v line time t figure day stands all IndexEnds = tt

means_single : (events : List Event) (v line time : ℕ) (t : CertTerm) (figure : CertFigure) → AreLawful events
    → ((test : Test) → SingleMeets events v line time t figure test) → MeansSingle events line time t.expiry figure
means_single events v line time t figure lawful all =
    let found = trade_date_stands events line time lawful (all Place) in
    let before = events_before events line in
    let now = moment_of found.0 time in
    let facts = term_facts before now t.expiry in
    let meets = single_meets events v line time t figure found.0 found.1 all in
    let some = minutes_some now t.expiry in
    let range = take_in_range (line - 1) events (lawful_in_range events lawful) in
    let positive = rows_positive (standing_price before) t.expiry before range in
    let minutes_are : facts.minutes ≡ THIRTY_DAYS = sym (meets Minutes) ∙ (all Minutes).1 in
    let small = (exponent_is_small (stated_term facts t) (said_rate_in_range t.expiry before t.rate range (meets Rate)) (omega arith)).1 in
    record {
      term = stated_term facts t;
      is_seen = record { is_tick = all Place; day = found.0; day_is = found.1; of_facts = term_of_facts (scale_of v) facts t meets some positive };
      rate_is_zero = (all Rate).1;
      is_thirty_days = minutes_are;
      is_figure = figure_of_one (scale_of v) facts t figure meets some positive small (all Square) (all IndexEnds);
    }

-- ---- the scale of a version

-- a scale of which each unit is a whole number of units of the finest
pub record AtScale (P : ℕ) : Type 0 where
  pub factor : ℕ
  pub scale : 2 ^ SCALE ≡ 2 ^ P * factor

version_scale : (v : ℕ) → IsVersion v → AtScale (scale_of v)
version_scale v (inl e) = let F : ℕ → Type 0 = λ n. AtScale (scale_of n) in subst F (sym e) (record { factor = 4; scale = refl })
version_scale v (inr e) = let F : ℕ → Type 0 = λ n. AtScale (scale_of n) in subst F (sym e) (record { factor = 1; scale = refl })

-- ---- kind index

module _ (days window : ℕ) (events : List Event) (v line time stated : ℕ) (near next : CertTerm) (figure : CertFigure) (day : DayNo) (stands : trade_date events ≡ Some day)
    (all : (test : Test) → IndexMeets days window events v line time stated near next figure test) where
  near_meets : (test : Test) → TermMeets (scale_of v) (term_facts (events_before events line) (moment_of day time) near.expiry) near test
  near_meets Place = tt
  near_meets Terms = tt
  near_meets Minutes = at_day events v line time near Minutes day stands (all Minutes).0
  near_meets Rate = at_day events v line time near Rate day stands (all Rate).0
  near_meets TaylorTerms = at_day events v line time near TaylorTerms day stands (all TaylorTerms).0
  near_meets Exponential = at_day events v line time near Exponential day stands (all Exponential).0
  near_meets ClosestPair = at_day events v line time near ClosestPair day stands (all ClosestPair).0
  near_meets Forward = at_day events v line time near Forward day stands (all Forward).0
  near_meets Level = at_day events v line time near Level day stands (all Level).0
  near_meets Excess = at_day events v line time near Excess day stands (all Excess).0
  near_meets Strip = at_day events v line time near Strip day stands (all Strip).0
  near_meets Contributions = at_day events v line time near Contributions day stands (all Contributions).0
  near_meets Total = at_day events v line time near Total day stands (all Total).0
  near_meets Variance = at_day events v line time near Variance day stands (all Variance).0
  near_meets Square = tt
  near_meets IndexEnds = tt

  next_meets : (test : Test) → TermMeets (scale_of v) (term_facts (events_before events line) (moment_of day time) next.expiry) next test
  next_meets Place = tt
  next_meets Terms = tt
  next_meets Minutes = at_day events v line time next Minutes day stands (all Minutes).1
  next_meets Rate = at_day events v line time next Rate day stands (all Rate).1
  next_meets TaylorTerms = at_day events v line time next TaylorTerms day stands (all TaylorTerms).1
  next_meets Exponential = at_day events v line time next Exponential day stands (all Exponential).1
  next_meets ClosestPair = at_day events v line time next ClosestPair day stands (all ClosestPair).1
  next_meets Forward = at_day events v line time next Forward day stands (all Forward).1
  next_meets Level = at_day events v line time next Level day stands (all Level).1
  next_meets Excess = at_day events v line time next Excess day stands (all Excess).1
  next_meets Strip = at_day events v line time next Strip day stands (all Strip).1
  next_meets Contributions = at_day events v line time next Contributions day stands (all Contributions).1
  next_meets Total = at_day events v line time next Total day stands (all Total).1
  next_meets Variance = at_day events v line time next Variance day stands (all Variance).1
  next_meets Square = tt
  next_meets IndexEnds = tt

figure_of_two : (P target : ℕ) (f g : TermFacts) (near next : CertTerm) (figure : CertFigure)
    → ((test : Test) → TermMeets P f near test) → ((test : Test) → TermMeets P g next test) → 1 ≤ f.minutes → 1 ≤ g.minutes
    → ((k : ℕ) → IsListed f.rows k → 1 ≤ k) → ((k : ℕ) → IsListed g.rows k → 1 ≤ k) → 1 ≤ target → f.minutes < g.minutes
    → HasSmallExponent (stated_term f near) → HasSmallExponent (stated_term g next)
    → EnclosesSquare P target near.minutes next.minutes near.w next.w figure.x → EnclosesIndex P figure
    → IsFigureOf (TwoTerms (stated_term f near) (stated_term g next) target) figure.cents figure.lo figure.hi
figure_of_two P target f g near next figure near_tests next_tests near_some next_some near_positive next_positive ahead later near_small next_small square tests =
    let a = stated_term f near in
    let b = stated_term g next in
    let at_near = holds_at P f near near_tests near_some near_positive in
    let at_next = holds_at P g next next_tests next_some next_positive in
    let F : ℕ → Type 0 = λ m. EnclosesSquare P target m next.minutes near.w next.w figure.x in
    let G : ℕ → Type 0 = λ m. EnclosesSquare P target f.minutes m near.w next.w figure.x in
    let square' = subst G (next_tests Minutes) (subst F (near_tests Minutes) square) in
    let x = λ (e1 e2 : Fraction). index_square target (variance_at a near.k0 e1) f.minutes (variance_at b next.k0 e2) g.minutes in
    let between : (e1 e2 : Fraction) → InBracket a 12 e1 → InBracket b 12 e2 → BetweenAt figure.lo figure.hi (x e1 e2) = λ e1 e2 m1 m2.
    between_stated P figure (x e1 e2) tests
    (square_enclosed P target f.minutes g.minutes ahead later near.w next.w figure.x (variance_at a near.k0 e1) (variance_at b next.k0 e2) square' (at_near e1 m1).enclosed (at_next e2 m2).enclosed) in
    let narrow = tests.narrow in
    let rounds : Rounds (TwoTerms a b target) figure.cents = record {
      depth = 12;
      near_level = near.k0;
      next_level = next.k0;
      holds = λ e1 e2 m1 m2. record {
        near_level = (at_near e1 m1).level;
        next_level = (at_next e2 m2).level;
        test = rounds_stated P figure (x e1 e2)
            (square_proper P target f.minutes g.minutes ahead later (variance_at a near.k0 e1) (variance_at b next.k0 e2) (at_near e1 m1).proper (at_next e2 m2).proper)
            tests (between e1 e2 m1 m2);
      };
    } in
    record {
      rounds = rounds;
      no_other = λ other rounds_too. figure_is_one (TwoTerms a b target) other figure.cents (near_small, next_small) rounds_too rounds;
      between = record {
        depth = 12;
        near_level = near.k0;
        next_level = next.k0;
        holds = λ e1 e2 m1 m2. record { near_level = (at_near e1 m1).level; next_level = (at_next e2 m2).level; test = between e1 e2 m1 m2 };
      };
      narrow = omega (arith, ints);
    }

-- no refusal of a tick holds
module _ (P j target : ℕ) (scale : 2 ^ SCALE ≡ 2 ^ P * j) (f g : TermFacts) (near next : CertTerm)
    (near_tests : (test : Test) → TermMeets P f near test) (next_tests : (test : Test) → TermMeets P g next test) (near_some : 1 ≤ f.minutes) (next_some : 1 ≤ g.minutes)
    (near_positive : (k : ℕ) → IsListed f.rows k → 1 ≤ k) (next_positive : (k : ℕ) → IsListed g.rows k → 1 ≤ k)
    (near_rise : StrikesRise f.rows) (next_rise : StrikesRise g.rows)
    (near_small : HasSmallExponent (stated_term f near)) (next_small : HasSmallExponent (stated_term g next)) (cents : ℕ)
    (rounds : Rounds (TwoTerms (stated_term f near) (stated_term g next) target) cents) where
  tick_not_refused : (reason : TickReason) → ¬ TickRefuses SCALE (record { near = Some f; next = Some g; target = target }) reason
  tick_not_refused no_near_term h = absurd cc
  tick_not_refused no_next_term h = absurd cc
  tick_not_refused (of_near reason) h =
      let chosen_is = h.is_chosen in
      let same : h.facts ≡ f = cc in
      let F : TermFacts → Type 0 = λ facts. TermRefuses SCALE facts reason in
      not_refused P j scale f near near_tests near_some near_positive near_rise near_small reason (subst F same h.refuses)
  tick_not_refused (of_next reason) h =
      let chosen_is = h.is_chosen in
      let same : h.facts ≡ g = cc in
      let F : TermFacts → Type 0 = λ facts. TermRefuses SCALE facts reason in
      not_refused P j scale g next next_tests next_some next_positive next_rise next_small reason (subst F same h.refuses)
  tick_not_refused negative_variance h =
      let basis = h.is_basis in
      let near_is = basis.near_is in
      let next_is = basis.next_is in
      let near_facts : basis.near_facts ≡ f = cc in
      let next_facts : basis.next_facts ≡ g = cc in
      let F : TermFacts → Type 0 = λ facts. IsTermOf facts h.near in
      let G : TermFacts → Type 0 = λ facts. IsTermOf facts h.next in
      let near_term = same_term P j scale f near near_tests near_some near_positive near_rise near_small h.near (subst F near_facts basis.near_of) in
      let next_term = same_term P j scale g next next_tests next_some next_positive next_rise next_small h.next (subst G next_facts basis.next_of) in
      let H : Term → Type 0 = λ term. SquareMeets (TwoTerms term h.next target) IsNegative in
      let I : Term → Type 0 = λ term. SquareMeets (TwoTerms (stated_term f near) term target) IsNegative in
      figure_is_not_negative (TwoTerms (stated_term f near) (stated_term g next) target) cents (near_small, next_small) rounds (subst I next_term (subst H near_term h.negative))

means_index : (days window : ℕ) (events : List Event) (v line time stated : ℕ) (near next : CertTerm) (figure : CertFigure) → days + window ≤ 181 → AreLawful events → IsVersion v
    → ((test : Test) → IndexMeets days window events v line time stated near next figure test) → MeansIndex days window events line time near.expiry next.expiry figure
means_index days window events v line time stated near next figure fits lawful version all =
    let found = trade_date_stands events line time lawful (all Place).0 in
    let day = found.0 in
    let picked = all Terms in
    let picked_day = picked.day_is in
    let stands = found.1 in
    let same_day : picked.day ≡ day = cc in
    let before = events_before events line in
    let expiries = declared_expiries before in
    let F : DayNo → Type 0 = λ d. IsNearTerm d days window expiries near.expiry in
    let G : DayNo → Type 0 = λ d. IsNextTerm d days window expiries next.expiry in
    let is_near = subst F same_day picked.is_near in
    let is_next = subst G same_day picked.is_next in
    let now = moment_of day time in
    let f = term_facts before now near.expiry in
    let g = term_facts before now next.expiry in
    let target = DAY_MINUTES * days in
    let P = scale_of v in
    let near_tests = near_meets days window events v line time stated near next figure day stands all in
    let next_tests = next_meets days window events v line time stated near next figure day stands all in
    let near_some = minutes_some now near.expiry in
    let next_some = minutes_some now next.expiry in
    let range = take_in_range (line - 1) events (lawful_in_range events lawful) in
    let near_positive = rows_positive (standing_price before) near.expiry before range in
    let next_positive = rows_positive (standing_price before) next.expiry before range in
    let d1 = days_until day near.expiry.date in
    let d2 = days_until day next.expiry.date in
    let first : pos 1 ≤ℤ d1 = is_near.in_window.0 in
    let last : d1 ≤ℤ pos days = is_near.in_window.2 in
    let after : pos days <ℤ d2 = is_next.in_window.0 in
    let until : d2 ≤ℤ pos (days + window) = is_next.in_window.1 in
    let ahead : 1 ≤ target = some_days days d1 first last in
    let early = settlement_at_most near.expiry.root in
    let late = settlement_at_least next.expiry.root in
    let later : f.minutes < g.minutes = minutes_apart time (settlement_minute near.expiry.root) (settlement_minute next.expiry.root) d1 d2 days first last after early late in
    let near_most : f.minutes ≤ MINUTES_MAX = minutes_at_most time (settlement_minute near.expiry.root) d1 days first last (omega arith) early in
    let next_most : g.minutes ≤ MINUTES_MAX = minutes_at_most time (settlement_minute next.expiry.root) d2 (days + window) (omega (arith, ints)) until fits (settlement_at_most next.expiry.root) in
    let near_small = (exponent_is_small (stated_term f near) (said_rate_in_range near.expiry before near.rate range (near_tests Rate)) near_most).1 in
    let next_small = (exponent_is_small (stated_term g next) (said_rate_in_range next.expiry before next.rate range (next_tests Rate)) next_most).1 in
    let figure_is = figure_of_two P target f g near next figure near_tests next_tests near_some next_some near_positive next_positive ahead later near_small next_small (all Square) (all IndexEnds) in
    let at = version_scale v version in
    record {
      picked = picked;
      facts = record { near = Some f; next = Some g; target = target };
      are_facts = record {
        is_tick = (all Place).0;
        day = day;
        day_is = stands;
        near_facts = (near.expiry, is_near, refl);
        next_facts = (next.expiry, is_next, refl);
        target_is = refl;
      };
      near = stated_term f near;
      next = stated_term g next;
      near_is_seen = record { is_tick = (all Place).0; day = day; day_is = stands; of_facts = term_of_facts P f near near_tests near_some near_positive };
      next_is_seen = record { is_tick = (all Place).0; day = day; day_is = stands; of_facts = term_of_facts P g next next_tests next_some next_positive };
      is_basis = record {
        near_facts = f;
        near_is = refl;
        near_of = term_of_facts P f near near_tests near_some near_positive;
        next_facts = g;
        next_is = refl;
        next_of = term_of_facts P g next next_tests next_some next_positive;
      };
      is_figure = figure_is;
      none_refuses = tick_not_refused P at.factor target at.scale f g near next near_tests next_tests near_some next_some near_positive next_positive
          (rows_rise (standing_price before) near.expiry before) (rows_rise (standing_price before) next.expiry before) near_small next_small figure.cents figure_is.rounds;
    }
  where
    some_days : (days : ℕ) (d : ℤ) → pos 1 ≤ℤ d → d ≤ℤ pos days → 1 ≤ 1440 * days
    some_days days d a b = let n : 1 ≤ days = omega (arith, ints) in omega arith

-- ---- kind soq

opening_day : (events : List Event) (v : ℕ) (t : CertTerm) (test : Test) (day : DayNo) → trade_date events ≡ Some day → OpeningTermMeets events v t test
    → TermMeets (scale_of v) (opening_term_facts events day) t test
opening_day events v t test day stands h =
    let known = h.day_is in
    let same : h.day ≡ day = cc in
    let F : DayNo → Type 0 = λ d. TermMeets (scale_of v) (opening_term_facts events d) t test in
    subst F same h.meets

opening_meets : (events : List Event) (v line time : ℕ) (t : CertTerm) (figure : CertFigure) (day : DayNo) → trade_date events ≡ Some day
    → ((test : Test) → SoqMeets events v line time t figure test) → (test : Test) → TermMeets (scale_of v) (opening_term_facts events day) t test
opening_meets events v line time t figure day stands all Place = tt
opening_meets events v line time t figure day stands all Terms = tt
opening_meets events v line time t figure day stands all Minutes = opening_day events v t Minutes day stands (all Minutes)
opening_meets events v line time t figure day stands all Rate = opening_day events v t Rate day stands (all Rate)
opening_meets events v line time t figure day stands all TaylorTerms = opening_day events v t TaylorTerms day stands (all TaylorTerms)
opening_meets events v line time t figure day stands all Exponential = opening_day events v t Exponential day stands (all Exponential)
opening_meets events v line time t figure day stands all ClosestPair = opening_day events v t ClosestPair day stands (all ClosestPair)
opening_meets events v line time t figure day stands all Forward = opening_day events v t Forward day stands (all Forward)
opening_meets events v line time t figure day stands all Level = opening_day events v t Level day stands (all Level)
opening_meets events v line time t figure day stands all Excess = opening_day events v t Excess day stands (all Excess)
opening_meets events v line time t figure day stands all Strip = opening_day events v t Strip day stands (all Strip)
opening_meets events v line time t figure day stands all Contributions = opening_day events v t Contributions day stands (all Contributions)
opening_meets events v line time t figure day stands all Total = opening_day events v t Total day stands (all Total)
opening_meets events v line time t figure day stands all Variance = opening_day events v t Variance day stands (all Variance)
opening_meets events v line time t figure day stands all Square = tt
opening_meets events v line time t figure day stands all IndexEnds = tt

some_or : {A : Type 0} (a b : Option A) → is_some b ≡ true → is_some (option_or a b) ≡ true
some_or (Some x) b h = refl
some_or None b h = h

opening_was_taken : (events : List Event) (n time : ℕ) → slice_get events n ≡ Some (event.Opening time) → is_some (opening_time events) ≡ true
opening_was_taken [] n time h = absurd cc
opening_was_taken (e ∷ events) zero time h =
    let same : event.Opening time ≡ e = cc in
    let F : Event → Type 0 = λ d. is_some (first_said opening_minute (d ∷ events)) ≡ true in
    subst F same refl
opening_was_taken (e ∷ events) (suc n) time h = some_or (opening_minute e) (opening_time events) (opening_was_taken events n time h)

-- no refusal of an opening holds
module _ (P j : ℕ) (scale : 2 ^ SCALE ≡ 2 ^ P * j) (facts : TermFacts) (t : CertTerm) (tests : (test : Test) → TermMeets P facts t test) (some : 1 ≤ facts.minutes)
    (positive : (k : ℕ) → IsListed facts.rows k → 1 ≤ k) (rise : StrikesRise facts.rows) (small : HasSmallExponent (stated_term facts t)) (cents : ℕ)
    (rounds : Rounds (OneTerm (stated_term facts t)) cents) (seen : OpeningFacts) (taken : seen.is_taken ≡ true) (term_is : seen.term ≡ Some facts) where
  opening_not_refused : (reason : OpeningReason) → ¬ OpeningRefuses SCALE seen reason
  opening_not_refused no_opening h = absurd cc
  opening_not_refused no_term h = absurd cc
  opening_not_refused (of_term reason) h =
      let chosen_is = h.is_chosen in
      let same : h.facts ≡ facts = cc in
      let F : TermFacts → Type 0 = λ f. TermRefuses SCALE f reason in
      not_refused P j scale facts t tests some positive rise small reason (subst F same h.refuses)
  opening_not_refused negative_opening h =
      let basis = h.is_basis in
      let known = basis.term_is in
      let same : basis.term_facts ≡ facts = cc in
      let F : TermFacts → Type 0 = λ f. IsTermOf f h.term in
      let term = same_term P j scale facts t tests some positive rise small h.term (subst F same basis.term_of) in
      let G : Term → Type 0 = λ s. SquareMeets (OneTerm s) IsNegative in
      figure_is_not_negative (OneTerm (stated_term facts t)) cents small rounds (subst G term h.negative)

means_opening : (events : List Event) (v line time : ℕ) (t : CertTerm) (figure : CertFigure) → AreLawful events → IsVersion v
    → ((test : Test) → SoqMeets events v line time t figure test) → MeansOpening events line time figure
means_opening events v line time t figure lawful version all =
    let expiry = all Terms in
    let day = expiry.day in
    let x = opening_expiry day in
    let before = before_opening events in
    let facts = opening_term_facts events day in
    let P = scale_of v in
    let tests = opening_meets events v line time t figure day expiry.day_is all in
    let some : 1 ≤ facts.minutes = omega arith in
    let range = before_in_range events (lawful_in_range events lawful) in
    let positive = rows_positive (opening_price events) x before range in
    let small = (exponent_is_small (stated_term facts t) (said_rate_in_range x before t.rate range (tests Rate)) (omega arith)).1 in
    let figure_is = figure_of_one P facts t figure tests some positive small (all Square) (all IndexEnds) in
    let at = version_scale v version in
    let F : Expiry → Type 0 = λ y. is_declared y before ≡ true in
    let declared : is_declared x before ≡ true = subst F expiry.expiry_is expiry.declared in
    let term_is : (opening_facts events).term ≡ Some facts =
    ap (option_and_then (opening_term_of events)) expiry.day_is ∙ cond-true (is_declared x before) (Some facts) None declared in
    let taken : (opening_facts events).is_taken ≡ true = opening_was_taken events (line - 1) time (all Place).1 in
    record {
      is_opening = all Place;
      term = stated_term facts t;
      is_basis = record { term_facts = facts; term_is = term_is; term_of = term_of_facts P facts t tests some positive };
      is_figure = figure_is;
      none_refuses = opening_not_refused P at.factor at.scale facts t tests some positive (rows_rise (opening_price events) x before) small figure.cents figure_is.rounds
          (opening_facts events) taken term_is;
    }

-- ---- every kind

-- a body that passes its tests means what it says
accepted_body_means : (days window : ℕ) (events : List Event) (v line time : ℕ) (body : CertBody) → days + window ≤ DAYS_AHEAD_MAX → AreLawful events → IsVersion v
    → ((test : Test) → BodyMeets days window events v line time body test) → BodyMeans days window events line time body
accepted_body_means days window events v line time (K0 x pair k0) fits lawful version all =
    means_level events v line time x pair k0 lawful (all Place) (all Rate) (all ClosestPair) (all Level)
accepted_body_means days window events v line time (Single t figure) fits lawful version all = means_single events v line time t figure lawful all
accepted_body_means days window events v line time (Index stated near next figure) fits lawful version all =
    means_index days window events v line time stated near next figure fits lawful version all
accepted_body_means days window events v line time (Soq t figure) fits lawful version all = means_opening events v line time t figure lawful version all

-- an accepted certificate over a lawful feed means what its kind says, for any days and window that a feed may reach
pub accepted_means : AcceptedMeans
accepted_means days window events c fits lawful h = accepted_body_means days window events c.v c.line c.time c.body fits lawful h.version h.meets_all
