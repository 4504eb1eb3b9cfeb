-- What the bounded arithmetic gives for rows holds for every value of the exponential between its ends.
use Rattle.std.proofs.Common.{◌≡◌, ◌∙◌, ℕ, ◌*◌, ◌^◌, ◌<◌, ◌≤◌, ℤ, List, [], ◌∷◌, length, map, refl, sym, ap, subst, inl, inr, arith}
use Rattle.std.specs.Prelude.{All}
use Rattle.std.proofs.lemmas.Bool.{cases_lt}
use Rattle.std.proofs.lemmas.List.Elements.{All-cons, All-nil}
use Rattle.vx_num.specs.Fraction.{Fraction}
use Rattle.vx_symbol.specs.declared.rows.StrikeRow.{StrikeRow}
use Rattle.vx_symbol.specs.Rows.{AreLawfulRows}
use Rattle.vx_interval.specs.Ends.{Ends}
use Rattle.vx_interval.specs.Membership.{IsMember}
use Rattle.vx_formula.specs.Pair.{Pair}
use Rattle.vx_formula.specs.Forward.{forward_at}
use Rattle.vx_formula.specs.Level.{IsGreatestBelow}
use Rattle.vx_formula.specs.Selection.{selected_rows}
use Rattle.vx_formula.specs.Strip.{StripEntry, strip, total_of, upper_total}
use Rattle.vx_formula.specs.Variance.{excess_at, variance_at}
use Rattle.vx_formula.specs.Refusal.{HasNoneAbove, IsTooLarge}
use Rattle.vx_forward.specs.Pairs.{formula_pair}
use Rattle.vx_forward.specs.Forward.{forward_interval, printed_forward}
use Rattle.vx_forward.specs.declared.level.K0Answer.TheVariants as level
use Rattle.vx_forward.proofs.ForwardLemmas.{forward_encloses}
use Rattle.vx_forward.proofs.Printed.{printed_low_is_at_most, printed_high_is_at_least, answer_holds}
use Rattle.vx_strip.specs.Entries.{entry_of, entries_of, strike_at, IsStripInRange}
use Rattle.vx_strip.specs.Refusals.{HasNoStripRefusal}
use Rattle.vx_formula.proofs.Walks.{strike_at_is}
use Rattle.vx_strip.proofs.Widths.{rows_in_range, same_length}
use Rattle.vx_strip.proofs.Sides.{selected_rise, selected_lawful, as_many_at_most}
use Rattle.vx_sum.specs.Sums.{total_ends}
use Rattle.vx_sum.proofs.Enclosure.{total_encloses}
use Rattle.vx_term.specs.declared.answer.TermRefusal.{TermRefusal}
use Rattle.vx_term.specs.declared.answer.TermRefusal.TheVariants.{NoRate, NoPair, NoStrikeBelow, NoStrikeAbove, NoMoney, NoPut, NoCall, StripTooLarge}
use Rattle.vx_term.specs.declared.answer.TermRun.{TermRun}
use Rattle.vx_term.specs.Runs.{ForwardSays, SaysOfLevel, TellsLevel, RefusesRows, IsRunOfRows}
use Rattle.vx_term.specs.Meaning.{term_of_run}
use Rattle.vx_term.specs.Holds.{RunHolds, AtOneLevel, RefusalHolds, UndecidedHolds}
use Rattle.vx_term.proofs.Variances.{excess_encloses, variance_encloses}
use Rattle.vx_term.proofs.ToldLevels.{level_place_within, placed_is_level}

module _ (P : ℕ) (rows : List StrikeRow) (e : Ends) where
  -- ---- the forward

  module _ (f : Ends) (pair : Pair) (is : f ≡ forward_interval P pair e) where
    forward_member : (x : Fraction) → IsMember P e x → IsMember P f (forward_at pair x)
    forward_member x m = subst (λ (y : Ends). IsMember P y (forward_at pair x)) (sym is) (forward_encloses P pair e x m)

    level_at : (place : ℕ) → ForwardSays P rows f (level.At place) → (x : Fraction) → IsMember P e x → IsGreatestBelow rows (forward_at pair x) (strike_at rows place)
    level_at place says x m =
        let (row, at, greatest) = answer_holds P rows f (forward_at pair x) (level.At place) (forward_member x m) says in
        subst (IsGreatestBelow rows (forward_at pair x)) (sym (strike_at_is rows place row at)) greatest

    last_level_at : (place : ℕ) → ForwardSays P rows f (level.NoStrikeAbove place) → (x : Fraction) → IsMember P e x → IsGreatestBelow rows (forward_at pair x) (strike_at rows place)
    last_level_at place says x m =
        let (row, at, greatest) = answer_holds P rows f (forward_at pair x) (level.NoStrikeAbove place) (forward_member x m) says in
        subst (IsGreatestBelow rows (forward_at pair x)) (sym (strike_at_is rows place row at)) greatest

  one_above_at : (f : Ends) (place : ℕ) → ForwardSays P rows f (level.At place) → ¬ HasNoneAbove rows (strike_at rows place)
  one_above_at f place (row, is, one) = subst (λ (k : ℕ). ¬ HasNoneAbove rows k) (sym (strike_at_is rows place row (is.greatest).is_at)) one

  none_above_at : (f : Ends) (place : ℕ) → ForwardSays P rows f (level.NoStrikeAbove place) → HasNoneAbove rows (strike_at rows place)
  none_above_at f place (row, is, none) = subst (λ (k : ℕ). HasNoneAbove rows k) (sym (strike_at_is rows place row (is.greatest).is_at)) none

  -- ---- refusals

  at_told : (k : ℕ) (Q : ℕ → Type 0) → TellsLevel P rows e k → (¬ HasNoneAbove rows k → Q k) → AtOneLevel rows (IsMember P e) Q
  at_told k Q (place, (f, has, says), is) q =
      record {
        pair = has.pair;
        pair_is_closest = has.is_closest;
        level = k;
        is_level = λ x m. subst (IsGreatestBelow rows (forward_at has.pair x)) (sym is) (level_at f has.pair has.forward_is place says x m);
        holds = q (subst (λ (j : ℕ). ¬ HasNoneAbove rows j) (sym is) (one_above_at f place says));
      }

  pub refusal_holds : (refusal : TermRefusal) → RefusesRows P rows e refusal → RefusalHolds P rows (IsMember P e) refusal
  refusal_holds NoRate h = h
  refusal_holds NoPair h = h
  refusal_holds NoStrikeBelow (f, has, says) = record {
    pair = has.pair;
    pair_is_closest = has.is_closest;
    below_all = λ x m strike listed. answer_holds P rows f (forward_at has.pair x) level.NoStrikeBelow (forward_member f has.pair has.forward_is x m) says strike listed;
  }
  refusal_holds NoStrikeAbove (place, (f, has, says)) = record {
    pair = has.pair;
    pair_is_closest = has.is_closest;
    level = strike_at rows place;
    is_level = λ x m. last_level_at f has.pair has.forward_is place says x m;
    holds = none_above_at f place says;
  }
  refusal_holds NoMoney (k, tells, lacks) = at_told k _ tells (λ one. (one, lacks))
  refusal_holds NoPut (k, tells, (money, none)) = at_told k _ tells (λ one. (one, money, none))
  refusal_holds NoCall (k, tells, (money, put, none)) = at_told k _ tells (λ one. (one, money, put, none))
  refusal_holds (StripTooLarge upper) h =
      let more : IsTooLarge P rows h.k = subst (λ (n : ℕ). 2 * 2 ^ P < n) h.upper_is h.too_large in
      at_told h.k _ h.tells (λ one. (one, h.has_strip, more, h.upper_is))

  -- ---- an undecided forward

  pub undecided_holds : (strike : ℕ) (lo hi : ℤ) → SaysOfLevel P rows e (level.Straddle strike lo hi) → UndecidedHolds rows (IsMember P e) strike lo hi
  undecided_holds strike lo hi (f, has, (lowest, low, high)) =
      let at_ends = printed_forward P f in
      record {
        pair = has.pair;
        pair_is_closest = has.is_closest;
        at_least = λ x m. rw low (printed_low_is_at_most P f (forward_at has.pair x) (forward_member f has.pair has.forward_is x m));
        at_most = λ x m. rw high (printed_high_is_at_least P f (forward_at has.pair x) (forward_member f has.pair has.forward_is x m));
        lowest = rw (low, high) lowest;
      }

-- ---- a run

-- fewer than two selected rows lack a put or a call
two_selected : (k : ℕ) (selected : List StrikeRow) → ¬ All (λ (row : StrikeRow). k ≤ row.strike) selected → ¬ All (λ (row : StrikeRow). row.strike ≤ k) selected → 2 ≤ length selected
two_selected k [] put call = absurd (put (All-nil (λ (row : StrikeRow). k ≤ row.strike)))
two_selected k (row ∷ []) put call =
    elim (cases_lt row.strike k) [
      | inl low ↦ absurd (call (All-cons (λ (r : StrikeRow). r.strike ≤ k) row [] (omega arith) (All-nil (λ (r : StrikeRow). r.strike ≤ k))))
      | inr fine ↦ absurd (put (All-cons (λ (r : StrikeRow). k ≤ r.strike) row [] fine (All-nil (λ (r : StrikeRow). k ≤ r.strike))))
    ]
two_selected k (row ∷ (next ∷ rest)) put call = omega arith

module _ (P : ℕ) (rows : List StrikeRow) (e : Ends) (run : TermRun P) (lawful : AreLawfulRows rows) (h : IsRunOfRows P rows e run) where
  within : h.place < length rows
  within = level_place_within P rows run.f h.place h.tells

  -- its strip is in range
  pub run_strip_in_range : IsStripInRange run.strip
  run_strip_in_range =
      let k = strike_at rows h.place in
      let selected : List StrikeRow = selected_rows rows k in
      let made : map entry_of run.strip.rows ≡ strip rows k = h.strip_is ∙ ap (strip rows) h.level_is in
      let none : HasNoStripRefusal rows k = subst (HasNoStripRefusal rows) h.level_is h.has_strip in
      let two : 2 ≤ length selected = two_selected k selected none.has_put none.has_call in
      let long : length run.strip.rows ≡ length selected = same_length k run.strip.rows selected made in
      let few : length selected ≤ length rows = as_many_at_most rows h.place selected lawful within refl in
      let count = lawful.count in
      record {
        some = omega (arith, two, long);
        count = omega (arith, few, long, count);
        each = rows_in_range k run.strip.rows selected made two (selected_rise rows h.place selected lawful within refl) (selected_lawful rows h.place selected lawful within refl);
      }

  pub level_least : 100000 ≤ run.k0
  level_least = let level = placed_is_level P rows run.f h.place lawful h.tells in let least = level.strike in omega (arith, h.level_is, least.0)

  total_member : IsMember P run.sum.total (total_of (strip rows run.k0))
  total_member =
      let s = h.sum_is in
      let in_range = run_strip_in_range in
      let given : IsMember P (total_ends P (entries_of run.strip)) (total_of (entries_of run.strip)) = total_encloses P run.strip.rows in_range.each in
      let at_total : IsMember P run.sum.total (total_of (entries_of run.strip)) = subst (λ (x : Ends). IsMember P x (total_of (entries_of run.strip))) (sym s.total) given in
      subst (λ (entries : List StripEntry). IsMember P run.sum.total (total_of entries)) h.strip_is at_total

  excess_member : (x : Fraction) → IsMember P e x → IsMember P run.g (excess_at (formula_pair run.pair) run.k0 x)
  excess_member x m =
      let forward : IsMember P run.f (forward_at (formula_pair run.pair) x) = forward_member P rows e run.f (formula_pair run.pair) h.forward_is x m in
      subst (λ (y : Ends). IsMember P y (excess_at (formula_pair run.pair) run.k0 x)) (sym h.excess_is)
      (excess_encloses P run.k0 run.f (forward_at (formula_pair run.pair) x) (omega (arith, level_least)) forward)

  pub run_holds : RunHolds P rows (IsMember P e) run
  run_holds =
      let accepted = (h.sum_is).accepted in
      record {
        pair_is_closest = h.pair_is;
        is_level = λ x m. subst (IsGreatestBelow rows (forward_at (formula_pair run.pair) x)) (sym h.level_is) (level_at P rows e run.f (formula_pair run.pair) h.forward_is h.place h.tells x m);
        encloses = λ x m.
            subst (λ (y : Ends). IsMember P y (variance_at (term_of_run rows run) run.k0 x)) (sym h.variance_is)
            (variance_encloses P e run.sum.total run.g x (total_of (strip rows run.k0)) (excess_at (formula_pair run.pair) run.k0 x) m total_member (excess_member x m));
        has_one_above = subst (λ (k : ℕ). ¬ HasNoneAbove rows k) (sym h.level_is) (one_above_at P rows e run.f h.place h.tells);
        has_strip = h.has_strip;
        accepted = λ more. let small : upper_total P (strip rows run.k0) ≤ 2 * 2 ^ P = subst (λ (entries : List StripEntry). upper_total P entries ≤ 2 * 2 ^ P) h.strip_is accepted in omega (arith, more, small);
      }
