-- What a kept strip holds after a term's answer.
use Rattle.std.proofs.Common.{◌≡◌, ◌∙◌, ℕ, ◌+◌, ◌≤◌, ℤ, List, Option, Some, refl, sym, ap, subst, inl, inr, arith}
use Rattle.std.specs.Prelude.{Result, Ok, Err, IfSome, IsSome, IsErr}
use Rattle.std.proofs.lemmas.Bool.{false≢true}
use Rattle.vx_num.specs.declared.fault.NoMemory.{NoMemory}
use Rattle.vx_symbol.specs.declared.rows.StrikeRow.{StrikeRow}
use Rattle.vx_interval.specs.Ends.{Ends}
use Rattle.vx_bounds.specs.declared.exponential.ExpRun.{ExpRun}
use Rattle.vx_formula.specs.Term.{TermFacts, exponent}
use Rattle.vx_formula.specs.Touched.{touched_count}
use Rattle.vx_strip.specs.declared.strip.Strip.{Strip}
use Rattle.vx_strip.specs.Entries.{entries_of, strike_at, IsStripOf}
use Rattle.vx_strip.specs.Refusals.{HasNoStripRefusal}
use Rattle.vx_sum.specs.declared.kept.Kept.{Kept}
use Rattle.vx_sum.specs.declared.sum.StripSum.{StripSum}
use Rattle.vx_sum.specs.Kept.{kept_entries, Holds}
use Rattle.vx_term.specs.declared.answer.TermRun.{TermRun}
use Rattle.vx_term.specs.declared.answer.TermAnswer.{TermAnswer}
use Rattle.vx_term.specs.declared.answer.TermAnswer.TheVariants.{Run, Refused, UndecidedForward}
use Rattle.vx_term.specs.declared.level.ToldLevel.{ToldLevel}
use Rattle.vx_term.specs.Exponential.{IsExpRun}
use Rattle.vx_term.specs.Steps.{IsTold, IsAnswerWithoutLevel}
use Rattle.vx_term.specs.KeptAfter.{SelectsStrip, IsSelectedStrip, IsKeptAfterRun, IsKeptOtherwise, IsKeptAfter}
use Rattle.vx_term.proofs.ToldLevels.{told_tells}

-- the strip at a told level is the one that the rows select
pub selects_told : (P : ℕ) (rows : List StrikeRow) (e : Ends) (told : ToldLevel P) (s : Strip) → IsTold P rows e told → HasNoStripRefusal rows (strike_at rows told.place) → IsStripOf rows (strike_at rows told.place) s
    → SelectsStrip P rows e s
selects_told P rows e told s h none is = record { level = strike_at rows told.place; tells = told_tells P rows e told h; has_strip = none; strip_is = is }

module _ (P : ℕ) (Selected : Strip → Type 0) (before : Option (Kept P)) (start : ℕ) where
  -- before a refresh nothing is touched
  pub untouched : IsKeptOtherwise P Selected before before start start
  untouched = inl (record { held = refl; counted = refl })

  pub untouched_without_level : (rows : List StrikeRow) (e : Ends) (a : TermAnswer P) → IsAnswerWithoutLevel P rows e a → IsKeptAfter P Selected before before start start (Ok a)
  untouched_without_level rows e (Run run) h = absurd h
  untouched_without_level rows e (Refused refusal) h = untouched
  untouched_without_level rows e (UndecidedForward strike lo hi) h = untouched

  -- where memory was refused
  pub kept_of_error : (after : Option (Kept P)) (count : ℕ) (r : Result (TermAnswer P) NoMemory) → IsErr r → IsKeptOtherwise P Selected before after start count
      → IsKeptAfter P Selected before after start count r
  kept_of_error after count (Ok a) err h = absurd (false≢true err)
  kept_of_error after count (Err memory) err h = h

  module _ (after : Option (Kept P)) (count : ℕ) (s : Strip) where
    -- after a refused refresh
    pub kept_when_refused : Selected s → after ≡ before → start ≤ count → count ≤ start + touched_count (kept_entries before) (entries_of s)
        → IsKeptOtherwise P Selected before after start count
    kept_when_refused selected same least most = inr (record { strip = s; selected = selected; held = inl same; least = least; most = most })

    -- after one that was not
    module _ (h : Holds P s after) (counted : count ≡ start + touched_count (kept_entries before) (entries_of s)) where
      pub kept_when_refreshed : Selected s → IsKeptOtherwise P Selected before after start count
      kept_when_refreshed selected = inr (record { strip = s; selected = selected; held = inr h; least = omega (arith, counted); most = omega (arith, counted) })

      pub kept_after_run : (run : TermRun P) → run.strip ≡ s → run.sum ≡ h.sum → IsKeptAfterRun P before after start count run
      kept_after_run run strips sums =
          record {
            held = h.is_held ∙ ap (λ (x : Strip). Some (record { strip = x; sum = h.sum })) (sym strips) ∙ ap (λ (x : StripSum P). Some (record { strip = run.strip; sum = x })) (sym sums);
            counted = counted ∙ ap (λ (x : Strip). start + touched_count (kept_entries before) (entries_of x)) (sym strips);
          }

-- something is held, and its sum is the one that is read
pub is_held : (P : ℕ) (s : Strip) (after : Option (Kept P)) → Holds P s after → IsSome after
is_held P s after h = subst IsSome (sym h.is_held) refl

pub held_sum : (P : ℕ) (s : Strip) (after : Option (Kept P)) (read : StripSum P) (h : Holds P s after) → IfSome after (λ kept. read ≡ kept.sum) → read ≡ h.sum
held_sum P s after read h is = subst (λ (o : Option (Kept P)). IfSome o (λ kept. read ≡ kept.sum)) h.is_held is

-- what rows select at an exponential, a term selects whose rate has it
pub kept_of_term : (P : ℕ) (facts : TermFacts) (rate : ℤ) (exp : ExpRun P) (before after : Option (Kept P)) (start count : ℕ) (result : Result (TermAnswer P) NoMemory)
    → facts.rate ≡ Some rate → IsExpRun P (exponent rate facts.minutes) exp
    → IsKeptAfter P (SelectsStrip P facts.rows exp.value) before after start count result → IsKeptAfter P (IsSelectedStrip P facts) before after start count result
kept_of_term P facts rate exp before after start count result stands run h = by_result result h
  where
    otherwise : IsKeptOtherwise P (SelectsStrip P facts.rows exp.value) before after start count → IsKeptOtherwise P (IsSelectedStrip P facts) before after start count
    otherwise (inl same) = inl same
    otherwise (inr k) = inr (record {
      strip = k.strip;
      selected = (rate, stands, subst (λ (e : Ends). SelectsStrip P facts.rows e k.strip) run.value k.selected);
      held = k.held;
      least = k.least;
      most = k.most;
    })

    by_result : (r : Result (TermAnswer P) NoMemory) → IsKeptAfter P (SelectsStrip P facts.rows exp.value) before after start count r → IsKeptAfter P (IsSelectedStrip P facts) before after start count r
    by_result (Ok (Run x)) k = k
    by_result (Ok (Refused refusal)) k = otherwise k
    by_result (Ok (UndecidedForward strike lo hi)) k = otherwise k
    by_result (Err memory) k = otherwise k
