-- Where the tests of a term are met, no refusal of the term holds.
use Rattle.std.proofs.Common.{◌≡◌, ℕ, ◌+◌, ◌*◌, ◌^◌, ◌<◌, ◌≤◌, ◌&&◌, ℤ, pos, ◌≤ℤ◌, ◌*ℤ◌, List, [], ◌∷◌, map, refl, sym, ◌∙◌, ap, subst, inl, inr, arith}
use Rattle.std.specs.List.{sum_by}
use Rattle.std.proofs.lemmas.Int.{ints}
use Rattle.std.proofs.lemmas.List.Sums.{sum_by-cons}
use Rattle.std.proofs.Math.Nat.{mul-le-mul, mul-le-mul_left, mul-le-mul_right}
use Rattle.vx_num.proofs.Quotients.{ceiling_least}
use Rattle.vx_symbol.specs.declared.rows.StrikeRow.{StrikeRow}
use Rattle.vx_cert.specs.declared.certificate.CertTerm.{CertTerm}
use Rattle.vx_cert.specs.declared.rows.CertRow.{CertRow}
use Rattle.vx_formula.specs.Pair.{Pair, live_pairs, IsClosestPair}
use Rattle.vx_formula.specs.Term.{TermFacts, Term, IsTermOf, HasSmallExponent}
use Rattle.vx_formula.specs.Level.{StrikesRise, IsListed, IsLevel}
use Rattle.vx_formula.specs.Selection.{selected_rows}
use Rattle.vx_formula.specs.Strip.{StripEntry, strip, upper_end, upper_total}
use Rattle.vx_formula.specs.Refusal.{TermReason, no_rate, no_pair, no_strike_below, no_strike_above, no_money, no_put, no_call, strip_too_large, HasNoneAbove, LacksMoney, HasNoPut, HasNoCall, IsTooLarge, AtLevel, IsBelowAll, TermRefuses}
use Rattle.vx_formula.proofs.Lists.{In, in_from_contains, map_in, all_in}
use Rattle.vx_formula.proofs.PairLemmas.{row_is_one, closest_pair_is_one}
use Rattle.vx_formula.proofs.LevelLemmas.{level_is_one, level_is_not_below_all}
use Rattle.vx_formula.proofs.RangeLemmas.{upper_end_is_ceiling}
use Rattle.vx_claims.specs.declared.limits.TheConstants.{SCALE}
use Rattle.vx_claims.specs.declared.acceptance.Test.{Test}
use Rattle.vx_claims.specs.declared.acceptance.Test.TheVariants.{Rate, ClosestPair, Level, Strip, Contributions, Total}
use Rattle.vx_claims.specs.TermTests.{TermMeets, stated_pair, stated_entry, EnclosesContribution}
use Rattle.vx_soundness.proofs.RowLemmas.{entry_is_selected}
use Rattle.vx_soundness.proofs.TermAt.{stated_term, stated_row_positive, stated_level}

abbrev make_term : List StrikeRow → ℤ → ℕ → Pair → Term
make_term rows rate minutes pair = record { rows = rows; rate = rate; minutes = minutes; pair = pair }

-- an end at 2^-P, times j, is at least the contribution at 2^-62 rounded up
end_at_scale : (P j : ℕ) (row : CertRow) → 2 ^ SCALE ≡ 2 ^ P * j → EnclosesContribution P row → 1 ≤ row.strike → upper_end SCALE (stated_entry row) ≤ j * row.hi
end_at_scale P j row scale tests some =
    let num = 5 * (row.d * row.q4) in
    let den = 4 * (row.strike * row.strike) in
    let square : 1 * 1 ≤ row.strike * row.strike = mul-le-mul some some in
    let high : num * 2 ^ P ≤ row.hi * den = tests.high in
    let scaled : num * 2 ^ P * j ≤ row.hi * den * j = mul-le-mul_right j high in
    let same : num * 2 ^ SCALE ≡ num * (2 ^ P * j) = ap (λ k. num * k) scale in
    let order : num * (2 ^ P * j) ≡ num * 2 ^ P * j = reorder num (2 ^ P) j in
    let least = ceiling_least (pos (num * 2 ^ SCALE)) (pos den) (pos (upper_end SCALE (stated_entry row))) (pos (j * row.hi)) (omega (arith, ints))
    (upper_end_is_ceiling SCALE (stated_entry row) some)
    (bound (num * 2 ^ SCALE) (j * row.hi) den (end_order num (2 ^ P) j row.hi den (2 ^ SCALE) same order scaled)) in
    omega (arith, ints, least)
  where
    reorder : (n a j : ℕ) → n * (a * j) ≡ n * a * j
    reorder n a j = omega arith

    end_order : (n a j h d s : ℕ) → n * s ≡ n * (a * j) → n * (a * j) ≡ n * a * j → n * a * j ≤ h * d * j → n * s ≤ j * h * d
    end_order n a j h d s e f k = let t : h * d * j ≡ j * h * d = omega arith in omega (arith, e, f, k, t)

    bound : (a b c : ℕ) → a ≤ b * c → pos a ≤ℤ (pos b *ℤ pos c)
    bound a b c h = omega (arith, ints)

total_at_scale : (P j : ℕ) (rows : List CertRow) → 2 ^ SCALE ≡ 2 ^ P * j → ((row : CertRow) → In rows row → EnclosesContribution P row × (1 ≤ row.strike))
    → upper_total SCALE (map stated_entry rows) ≤ j * sum_by (λ (row : CertRow). row.hi) rows
total_at_scale P j [] scale each = omega arith
total_at_scale P j (row ∷ rows) scale each =
    let here = each row (inl refl) in
    let first = end_at_scale P j row scale here.0 here.1 in
    let rest = total_at_scale P j rows scale (λ r h. each r (inr h)) in
    let left = sum_by-cons (upper_end SCALE) (stated_entry row) (map stated_entry rows) in
    let right = sum_by-cons (λ (r : CertRow). r.hi) row rows in
    joined (upper_end SCALE (stated_entry row)) (upper_total SCALE (map stated_entry rows)) row.hi (sum_by (λ (r : CertRow). r.hi) rows)
    (upper_total SCALE (map stated_entry (row ∷ rows))) (sum_by (λ (r : CertRow). r.hi) (row ∷ rows)) j left right first rest
  where
    joined : (a b x y s t j : ℕ) → s ≡ a + b → t ≡ x + y → a ≤ j * x → b ≤ j * y → s ≤ j * t
    joined a b x y s t j e f h k = let d : j * (x + y) ≡ j * x + j * y = omega arith in let g : j * t ≡ j * (x + y) = ap (λ z. j * z) f in omega (arith, e, d, g, h, k)

module _ (P j : ℕ) (scale : 2 ^ SCALE ≡ 2 ^ P * j) (facts : TermFacts) (t : CertTerm) (meets : (test : Test) → TermMeets P facts t test) (some : 1 ≤ facts.minutes)
    (positive : (k : ℕ) → IsListed facts.rows k → 1 ≤ k) (rise : StrikesRise facts.rows) (small : HasSmallExponent (stated_term facts t)) where
  -- the facts have one term
  pub same_term : (term : Term) → IsTermOf facts term → term ≡ stated_term facts t
  same_term term h =
      let rows = h.rows_are in
      let stands = h.rate_stands in
      let stated = meets Rate in
      let rate : term.rate ≡ t.rate = cc in
      let F : List StrikeRow → Type 0 = λ r. IsClosestPair r term.pair in
      let pair : term.pair ≡ stated_pair t.pair = closest_pair_is_one facts.rows term.pair (stated_pair t.pair) rise (subst F rows h.pair_is_closest) (meets ClosestPair) in
      ap (λ r. make_term r term.rate term.minutes term.pair) rows
      ∙ ap (λ a. make_term facts.rows a term.minutes term.pair) rate
      ∙ ap (λ m. make_term facts.rows t.rate m term.pair) h.minutes_are
      ∙ ap (λ p. make_term facts.rows t.rate facts.minutes p) pair

  -- and one level
  at_stated : (Q : List StrikeRow → ℕ → Type 0) → AtLevel facts Q → Q facts.rows t.k0
  at_stated Q h =
      let same = same_term h.term h.is_of_facts in
      let F : Term → Type 0 = λ term. IsLevel term h.level in
      let G : Term → Type 0 = λ term. Q term.rows h.level in
      let level : h.level ≡ t.k0 = level_is_one (stated_term facts t) h.level t.k0 small (subst F same h.is_level) (stated_level P facts t meets some positive) in
      subst (Q facts.rows) level (subst G same h.holds)

  in_strip : (row : CertRow) → In t.rows row → In (strip facts.rows t.k0) (stated_entry row)
  in_strip row h = let F : List StripEntry → Type 0 = λ entries. In entries (stated_entry row) in subst F (meets Strip).is_strip (map_in stated_entry t.rows row h)

  -- a term that meets its tests is refused for no reason
  pub not_refused : (reason : TermReason) → ¬ TermRefuses SCALE facts reason
  not_refused no_rate h = let stated = meets Rate in absurd cc
  not_refused no_pair h =
      let F : List Pair → Type 0 = λ ps. In ps (stated_pair t.pair) in
      let none = subst F h (in_from_contains (live_pairs facts.rows) (stated_pair t.pair) (meets ClosestPair).among) in
      elim none [ ]
  not_refused no_strike_below h =
      let F : Term → Type 0 = λ term. IsBelowAll term in
      level_is_not_below_all (stated_term facts t) t.k0 small (stated_level P facts t meets some positive) (subst F (same_term h.term h.is_of_facts) h.below_all)
  not_refused no_strike_above h =
      let found = (meets Level).1 in
      let above : 2 * t.k0 < found.0 = at_stated HasNoneAbove h found.0 found.1 found.2 in
      let at_most = found.3 in
      omega arith
  not_refused no_money h =
      let lacks = at_stated LacksMoney h in
      let has = (meets Strip).has_money in
      let same : lacks.row ≡ has.1 = row_is_one facts.rows lacks.row has.1 rise (in_from_contains facts.rows lacks.row lacks.listed)
      (in_from_contains facts.rows has.1 (has.0, has.2, has.3)) (lacks.at_level ∙ sym (has.4).0) in
      let no = lacks.lacks in
      let there = (has.4).1 in
      let both = ap (λ (r : StrikeRow). r.put.there && r.call.there) same in
      absurd cc
  not_refused no_put h =
      let has = (meets Strip).has_put in
      let found = entry_is_selected facts.rows t.k0 (stated_entry has.1) (in_strip has.1 (in_from_contains t.rows has.1 (has.0, has.2, has.3))) in
      let at_least = all_in (λ row. t.k0 ≤ row.strike) (selected_rows facts.rows t.k0) found.0 (at_stated HasNoPut h) found.1 in
      let below = has.4 in
      let same = found.2 in
      omega arith
  not_refused no_call h =
      let has = (meets Strip).has_call in
      let found = entry_is_selected facts.rows t.k0 (stated_entry has.1) (in_strip has.1 (in_from_contains t.rows has.1 (has.0, has.2, has.3))) in
      let at_most = all_in (λ row. row.strike ≤ t.k0) (selected_rows facts.rows t.k0) found.0 (at_stated HasNoCall h) found.1 in
      let above = has.4 in
      let same = found.2 in
      omega arith
  not_refused strip_too_large h =
      let large = at_stated (IsTooLarge SCALE) h in
      let total = total_at_scale P j t.rows scale (λ row at. (all_in (EnclosesContribution P) t.rows row (meets Contributions) at, stated_row_positive P facts t meets some positive row at)) in
      let F : List StripEntry → Type 0 = λ entries. upper_total SCALE entries ≤ j * sum_by (λ (row : CertRow). row.hi) t.rows in
      let bounded = subst F (meets Strip).is_strip total in
      let high = (meets Total).high in
      let range = (meets Total).in_range in
      let sum_high : sum_by (λ (row : CertRow). row.hi) t.rows ≤ 2 * 2 ^ P = omega (arith, ints) in
      let scaled : j * sum_by (λ (row : CertRow). row.hi) t.rows ≤ j * (2 * 2 ^ P) = mul-le-mul_left j sum_high in
      too_large (upper_total SCALE (strip facts.rows t.k0)) (j * sum_by (λ (row : CertRow). row.hi) t.rows) (2 ^ P) j (2 ^ SCALE) scale large bounded scaled
    where
      too_large : (u s a j b : ℕ) → b ≡ a * j → 2 * b < u → u ≤ s → s ≤ j * (2 * a) → ⊥
      too_large u s a j b e h k l = let o : j * (2 * a) ≡ 2 * (a * j) = omega arith in omega (arith, e, h, k, l, o)
