-- An accepted certificate of kind k0 names the level.
use Rattle.std.proofs.Common.{◌≡◌, ℕ, ◌*◌, ◌^◌, ◌<◌, ◌≤◌, ℤ, pos, ◌+ℤ◌, ◌*ℤ◌, ◌≤ℤ◌, ◌<ℤ◌, List, [], ◌∷◌, Some, refl, sym, ap, subst, arith}
use Rattle.std.proofs.lemmas.Int.{ints}
use Rattle.std.proofs.Math.Pow.{pow_pos}
use Rattle.vx_num.specs.Fraction.{Fraction}
use Rattle.vx_num.proofs.Whole.{mul_mono, mul_strict, mul_cancel, mul_cancel_strict, add_mul}
use Rattle.vx_clock.specs.declared.days.DayNo.{DayNo}
use Rattle.vx_clock.specs.declared.terms.Expiry.{Expiry}
use Rattle.vx_clock.specs.declared.limits.TheConstants.{INDEX_DAYS, INDEX_WINDOW}
use Rattle.vx_clock.specs.Minutes.{minutes_between}
use Rattle.vx_symbol.specs.declared.rows.StrikeRow.{StrikeRow}
use Rattle.vx_feed.specs.declared.events.Event.{Event}
use Rattle.vx_feed.specs.declared.events.Event.TheVariants as event
use Rattle.vx_feed.specs.Listed.{trade_date, listed_rows}
use Rattle.vx_feed.specs.Order.{IsLawfulNext, AreLawful}
use Rattle.vx_cert.specs.declared.certificate.Pair.{Pair as CertPair}
use Rattle.vx_cert.specs.declared.certificate.CertBody.{CertBody}
use Rattle.vx_cert.specs.declared.certificate.CertBody.TheVariants.{K0}
use Rattle.vx_cert.specs.declared.certificate.Certificate.{Certificate}
use Rattle.vx_bracket.proofs.Members.{zero_gives_one}
use Rattle.vx_formula.specs.Term.{exponent}
use Rattle.vx_formula.specs.Forward.{forward_at}
use Rattle.vx_formula.specs.Level.{IsGreatestBelow}
use Rattle.vx_formula.proofs.LevelLemmas.{exponent_proper}
use Rattle.vx_claims.specs.Seen.{IsTickAt, events_before, moment_of}
use Rattle.vx_claims.specs.declared.acceptance.Test.TheVariants.{Place, Rate, ClosestPair, Level}
use Rattle.vx_claims.specs.TermTests.{stated_pair, IsLevelOfEnds}
use Rattle.vx_claims.specs.Accepts.{scale_of, zero_rate_forward, BodyMeets, Accepts}
use Rattle.vx_claims.specs.Means.{MeansLevel, BodyMeans, Means}

-- ---- a lawful feed with a tick has a trade date

header_says : (e : Event) (rest : List Event) → IsLawfulNext [] e → (day : DayNo) × (trade_date (e ∷ rest) ≡ Some day)
header_says (event.Header day) rest h = (day, refl)
header_says (event.Expiry x) rest h = let bad = h.in_order in absurd cc
header_says (event.Rate x rate) rest h = let bad = h.in_order in absurd cc
header_says (event.Series s) rest h = let bad = h.in_order in absurd cc
header_says (event.Quote time s bid ask) rest h = let bad = h.in_order in absurd cc
header_says (event.Trade time s price) rest h = let bad = h.in_order in absurd cc
header_says (event.Tick time) rest h = let bad = h.in_order in absurd cc
header_says (event.Opening time) rest h = let bad = h.in_order in absurd cc
header_says (event.End count) rest h = let bad = h.in_order in absurd cc

-- at a tick of lawful events there is a trade date, that of the header
pub trade_date_stands : (events : List Event) (line time : ℕ) → AreLawful events → IsTickAt events line time → (day : DayNo) × (trade_date events ≡ Some day)
trade_date_stands [] line time lawful h = let bad = h.1 in absurd cc
trade_date_stands (e ∷ rest) line time lawful h = header_says e rest lawful.0

-- ---- the level at rate zero

-- K + 5 * D * (u / v) where u is v
forward_at_one : (strike v : ℕ) (d u : ℤ) → u *ℤ pos 1 ≡ pos 1 *ℤ pos v
    → (pos strike *ℤ pos (1 * v) +ℤ (pos 5 *ℤ d *ℤ u) *ℤ pos 1) ≡ (pos strike +ℤ pos 5 *ℤ d) *ℤ pos v
forward_at_one strike v d u e =
    let same : u ≡ pos v = omega (arith, ints) in
    let parts = add_mul (pos strike) (pos 5 *ℤ d) (pos v) in
    let inner : pos 5 *ℤ d *ℤ u ≡ pos 5 *ℤ d *ℤ pos v = ap (λ z. pos 5 *ℤ d *ℤ z) same in
    omega (arith, ints, parts, inner)

-- K0 * 2^P is at most F * 2^P: so K0 is at most F * v / v
at_most_rescaled : (k strike v P : ℕ) (d : ℤ) → pos (k * 2 ^ P) ≤ℤ ((pos strike +ℤ pos 5 *ℤ d) *ℤ pos (2 ^ P))
    → (pos k *ℤ pos v) ≤ℤ ((pos strike +ℤ pos 5 *ℤ d) *ℤ pos v)
at_most_rescaled k strike v P d h =
    let positive : 0 < 2 ^ P = pow_pos P in
    let plain : pos k ≤ℤ (pos strike +ℤ pos 5 *ℤ d) = mul_cancel (pos k) (pos strike +ℤ pos 5 *ℤ d) (pos (2 ^ P)) (omega (arith, ints)) h in
    mul_mono (pos k) (pos strike +ℤ pos 5 *ℤ d) (pos v) (omega (arith, ints)) plain

below_rescaled : (k strike v P : ℕ) (d : ℤ) → 1 ≤ v → ((pos strike +ℤ pos 5 *ℤ d) *ℤ pos (2 ^ P)) <ℤ pos (k * 2 ^ P)
    → ((pos strike +ℤ pos 5 *ℤ d) *ℤ pos v) <ℤ (pos k *ℤ pos v)
below_rescaled k strike v P d some h =
    let positive : 0 < 2 ^ P = pow_pos P in
    let plain : (pos strike +ℤ pos 5 *ℤ d) <ℤ pos k = mul_cancel_strict (pos strike +ℤ pos 5 *ℤ d) (pos k) (pos (2 ^ P)) (omega (arith, ints)) h in
    mul_strict (pos strike +ℤ pos 5 *ℤ d) (pos k) (pos v) (omega (arith, ints)) plain

-- the forward at a member u/v of the bracket of exponent 0
level_at_one : (rows : List StrikeRow) (pair : CertPair) (k0 P : ℕ) (e : Fraction) → 1 ≤ e.bottom → e.top *ℤ pos 1 ≡ pos 1 *ℤ pos e.bottom
    → IsLevelOfEnds P rows (zero_rate_forward P pair) k0 → IsGreatestBelow rows (forward_at (stated_pair pair) e) k0
level_at_one rows pair k0 P e proper one h =
    let v = e.bottom in
    let top = pos pair.strike *ℤ pos (1 * v) +ℤ (pos 5 *ℤ pair.d *ℤ e.top) *ℤ pos 1 in
    let same : top ≡ (pos pair.strike +ℤ pos 5 *ℤ pair.d) *ℤ pos v = forward_at_one pair.strike v pair.d e.top one in
    record {
      is_listed = h.is_listed;
      at_most =
          let low = at_most_rescaled k0 pair.strike v P pair.d h.at_most in
          omega (arith, ints, low, same);
      others_above = λ other listed above.
          let high = below_rescaled other pair.strike v P pair.d proper (h.others_above other listed above) in
          omega (arith, ints, high, same);
    }

zero_exponent : (minutes : ℕ) → (exponent (pos 0) minutes).top ≡ pos 0
zero_exponent minutes = omega (arith, ints)

-- a certificate of kind `k0` that meets the tests of the place, the rate, the closest pair and the level means its level
pub means_level : (events : List Event) (v line time : ℕ) (x : Expiry) (pair : CertPair) (k0 : ℕ) → AreLawful events
    → BodyMeets INDEX_DAYS INDEX_WINDOW events v line time (K0 x pair k0) Place
    → BodyMeets INDEX_DAYS INDEX_WINDOW events v line time (K0 x pair k0) Rate
    → BodyMeets INDEX_DAYS INDEX_WINDOW events v line time (K0 x pair k0) ClosestPair
    → BodyMeets INDEX_DAYS INDEX_WINDOW events v line time (K0 x pair k0) Level
    → MeansLevel events line time x pair k0
means_level events v line time x pair k0 lawful a1 a4 a7 a9 =
    let found = trade_date_stands events line time lawful a1 in
    let before = events_before events line in
    let minutes = minutes_between (moment_of found.0 time) x in
    record {
      term = record { rows = listed_rows x before; rate = pos 0; minutes = minutes; pair = stated_pair pair };
      is_seen = record {
        is_tick = a1;
        day = found.0;
        day_is = found.1;
        of_facts = record { rows_are = refl; rate_stands = a4; minutes_are = refl; pair_is_closest = a7 };
      };
      rate_is_zero = refl;
      pair_is = refl;
      is_level = record {
        depth = 12;
        holds = λ e member.
            level_at_one (listed_rows x before) pair k0 (scale_of v) e member.proper
            (zero_gives_one 12 (exponent (pos 0) minutes) e (exponent_proper (pos 0) minutes) (zero_exponent minutes) member) a9;
      };
    }

-- an accepted certificate of kind `k0` means its level
pub accepted_level_means : (events : List Event) (c : Certificate) (x : Expiry) (pair : CertPair) (k0 : ℕ) → AreLawful events → c.body ≡ K0 x pair k0 → Accepts events c → Means events c
accepted_level_means events c x pair k0 lawful e h =
    let M : CertBody → Type 0 = λ body. BodyMeans INDEX_DAYS INDEX_WINDOW events c.line c.time body in
    let B1 : CertBody → Type 0 = λ body. BodyMeets INDEX_DAYS INDEX_WINDOW events c.v c.line c.time body Place in
    let B4 : CertBody → Type 0 = λ body. BodyMeets INDEX_DAYS INDEX_WINDOW events c.v c.line c.time body Rate in
    let B7 : CertBody → Type 0 = λ body. BodyMeets INDEX_DAYS INDEX_WINDOW events c.v c.line c.time body ClosestPair in
    let B9 : CertBody → Type 0 = λ body. BodyMeets INDEX_DAYS INDEX_WINDOW events c.v c.line c.time body Level in
    subst M (sym e) (means_level events c.v c.line c.time x pair k0 lawful
    (subst B1 e (h.meets_all Place)) (subst B4 e (h.meets_all Rate)) (subst B7 e (h.meets_all ClosestPair)) (subst B9 e (h.meets_all Level)))
