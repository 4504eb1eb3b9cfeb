-- What the kept strips hold after the answers of a tick's terms.
use Rattle.std.proofs.Common.{◌≡◌, sym, ap, subst, refl, ℕ, suc, ◌+◌, ◌≤◌, inl, inr, List, [], ◌∷◌, length, Option, Some, None, arith}
use Rattle.std.specs.Prelude.{Result, Ok, Err, IfOk}
use Rattle.std.proofs.lemmas.List.Sums.{count_by-le-length, length-filter}
use Rattle.vx_num.specs.declared.fault.NoMemory.{NoMemory}
use Rattle.vx_clock.specs.declared.terms.Expiry.{Expiry}
use Rattle.vx_feed.specs.declared.events.Event.{Event}
use Rattle.vx_symbol.specs.declared.rows.StrikeRow.{StrikeRow}
use Rattle.vx_interval.specs.Ends.{Ends}
use Rattle.vx_formula.specs.Term.{TermFacts, exponent}
use Rattle.vx_formula.specs.Selection.{is_selected, selected_rows}
use Rattle.vx_formula.specs.Strip.{StripEntry, entries_after, strip}
use Rattle.vx_formula.specs.Touched.{is_touched}
use Rattle.vx_claims.specs.declared.limits.TheConstants.{SCALE}
use Rattle.vx_forward.specs.Pairs.{formula_pair}
use Rattle.vx_strip.specs.declared.strip.Strip.{Strip}
use Rattle.vx_strip.specs.Entries.{entries_of}
use Rattle.vx_sum.specs.Kept.{kept_entries, Holds}
use Rattle.vx_term.specs.declared.answer.TermRun.{TermRun}
use Rattle.vx_term.specs.declared.answer.TermAnswer.{TermAnswer}
use Rattle.vx_term.specs.declared.answer.TermAnswer.TheVariants as term
use Rattle.vx_term.specs.Exponential.{IsExpRun}
use Rattle.vx_term.specs.Runs.{TellsLevel}
use Rattle.vx_term.specs.Answer.{IsRun, IsTermAnswer}
use Rattle.vx_term.specs.KeptAfter.{SelectsStrip, IsSelectedStrip, IsKeptOtherwise, IsKeptAfter}
use Rattle.vx_replay.specs.declared.answer.TickAnswer.{TickAnswer}
use Rattle.vx_replay.specs.declared.answer.TickAnswer.TheVariants.{Published, UndecidedCents, UndecidedForward, Refused}
use Rattle.vx_replay.specs.declared.answer.Reason.TheVariants.{NoTerm, Term, NegativeVariance}
use Rattle.vx_replay.specs.Joined.{IsJoined}
use Rattle.vx_replay.specs.StripsAfter.{Holding, touched, TermStrips, near_facts, next_facts, HoldRuns, MayHoldSelected, MayHoldStrips, AreKeptOtherwise, AreKeptAfterAnswer, AreKeptAfterTick}

-- ---- a run's strip is selected

-- the strip of a run is the strip that is selected for it
pub run_selects : (x : Expiry) (facts : TermFacts) (run : TermRun SCALE) → IsRun SCALE x facts run → IsSelectedStrip SCALE facts run.strip
run_selects x facts run h =
    let n = h.numbers_are in
    let tells : TellsLevel SCALE facts.rows run.exp.value run.k0 =
    (n.place, (run.f, record { pair = formula_pair run.pair; is_closest = n.pair_is; forward_is = n.forward_is }, n.tells), n.level_is) in
    let selects : SelectsStrip SCALE facts.rows run.exp.value run.strip = record { level = run.k0; tells = tells; has_strip = n.has_strip; strip_is = n.strip_is } in
    let exp : IsExpRun SCALE (exponent run.rate facts.minutes) run.exp = subst (λ (m : ℕ). IsExpRun SCALE (exponent run.rate m) run.exp) h.minutes_are h.exp_is in
    (run.rate, h.rate_stands, subst (λ (e : Ends). SelectsStrip SCALE facts.rows e run.strip) exp.value selects)

-- and it is held with its sum
pub run_is_held : (x : Expiry) (facts : TermFacts) (run : TermRun SCALE) (after : Holding) → IsRun SCALE x facts run → after ≡ Some (record { strip = run.strip; sum = run.sum })
    → Holds SCALE run.strip after
run_is_held x facts run after h is = let n = h.numbers_are in record { sum = run.sum; is_held = is; sum_is = n.sum_is }

-- ---- a selected strip has no more rows than its term

entries_count : (level : ℕ) (below : Option ℕ) (rows : List StrikeRow) → length (entries_after level below rows) ≡ length rows
entries_count level below [] = refl
entries_count level below (row ∷ rest) = ap suc (entries_count level (Some row.strike) rest)

strip_count : (rows : List StrikeRow) (level : ℕ) → length (strip rows level) ≤ length rows
strip_count rows level =
    let all = entries_count level None (selected_rows rows level) in
    let some = length-filter (is_selected rows level) rows in
    let few = count_by-le-length (is_selected rows level) rows in
    omega (arith, all, some, few)

-- a selected strip has no more touched rows than the term has rows
pub selected_is_few : (facts : TermFacts) (held : Holding) (s : Strip) → IsSelectedStrip SCALE facts s → touched held s ≤ length facts.rows
selected_is_few facts held s (rate, stands, selects) =
    let counted = count_by-le-length (is_touched (kept_entries held)) (entries_of s) in
    let few = strip_count facts.rows selects.level in
    let same = ap (λ (entries : List StripEntry). length entries) selects.strip_is in
    omega (arith, counted, few, same)

-- ---- one term

-- the strip of a term may hold the selected one, and at most its touched rows were divided
pub record MayHold (facts : TermFacts) (before after : Holding) (start count : ℕ) : Type 0 where
  pub limit : ℕ
  pub may : MayHoldSelected facts before after limit
  pub least : start ≤ count
  pub most : count ≤ start + limit
  pub few : limit ≤ length facts.rows

module _ (x : Expiry) (facts : TermFacts) (before after : Holding) (start count : ℕ) where
  otherwise : IsKeptOtherwise SCALE (IsSelectedStrip SCALE facts) before after start count → MayHold facts before after start count
  otherwise (inl same) = let n = same.counted in record {
    limit = 0;
    may = inl (same.held, refl);
    least = omega (arith, n);
    most = omega (arith, n);
    few = omega arith;
  }
  otherwise (inr k) = record {
    limit = touched before k.strip;
    may = inr (k.strip, k.selected, k.held, refl);
    least = k.least;
    most = k.most;
    few = selected_is_few facts before k.strip k.selected;
  }

  -- after any answer for one term its kept strip is what it was or the selected one, and the count rose by no more than its touched rows
  pub may_hold : (result : Result (TermAnswer SCALE) NoMemory) → IfOk result (IsTermAnswer SCALE x facts)
      → IsKeptAfter SCALE (IsSelectedStrip SCALE facts) before after start count result → MayHold facts before after start count
  may_hold (Ok (term.Run run)) h k =
      let n = k.counted in
      let selected = run_selects x facts run h in
      record {
        limit = touched before run.strip;
        may = inr (run.strip, selected, inr (run_is_held x facts run after h k.held), refl);
        least = omega (arith, n);
        most = omega (arith, n);
        few = selected_is_few facts before run.strip selected;
      }
  may_hold (Ok (term.Refused refusal)) h k = otherwise k
  may_hold (Ok (term.UndecidedForward strike lo hi)) h k = otherwise k
  may_hold (Err memory) h k = otherwise k

-- a strip that was not come to
pub not_reached : (facts : TermFacts) (before : Holding) (count : ℕ) → MayHold facts before before count count
not_reached facts before count = record { limit = 0; may = inl (refl, refl); least = omega arith; most = omega arith; few = omega arith }

-- ---- both terms

module _ (events : List Event) (time : ℕ) (before after : List Holding) (strips : TermStrips events time before after) (start mid count : ℕ) where
  -- and so after the answers for both terms
  pub strips_may_hold : MayHold (near_facts strips) strips.near_strip.before strips.near_strip.after start mid
      → MayHold (next_facts strips) strips.next_strip.before strips.next_strip.after mid count → MayHoldStrips events time before after start count
  strips_may_hold a b =
      let low = a.least in
      let high = a.most in
      let lower = b.least in
      let higher = b.most in
      record {
        strips = strips;
        near_most = a.limit;
        near = a.may;
        next_most = b.limit;
        next = b.may;
        least = omega (arith, low, lower);
        most = omega (arith, high, higher);
      }

-- what holds the runs' strips is a case of what may hold the selected ones
pub runs_may_hold : (events : List Event) (time : ℕ) (before after : List Holding) (start count : ℕ) → HoldRuns events time before after start count
    → MayHoldStrips events time before after start count
runs_may_hold events time before after start count h =
    let strips = h.strips in
    let n = h.counted in
    record {
      strips = strips;
      near_most = touched strips.near_strip.before h.near.strip;
      near = inr (
        h.near.strip,
        run_selects strips.near (near_facts strips) h.near h.is_near,
        inr (run_is_held strips.near (near_facts strips) h.near strips.near_strip.after h.is_near h.near_is_held),
        refl,
      );
      next_most = touched strips.next_strip.before h.next.strip;
      next = inr (
        h.next.strip,
        run_selects strips.next (next_facts strips) h.next h.is_next,
        inr (run_is_held strips.next (next_facts strips) h.next strips.next_strip.after h.is_next h.next_is_held),
        refl,
      );
      least = omega (arith, n);
      most = omega (arith, n);
    }

module _ (events : List Event) (time : ℕ) (before after : List Holding) (start count : ℕ) where
  -- after two runs, whatever is answered
  pub after_runs : HoldRuns events time before after start count → (answer : TickAnswer) → AreKeptAfterAnswer events time before after start count answer
  after_runs h (Published cents lo hi certificate) = h
  after_runs h (UndecidedCents lo hi) = h
  after_runs h (UndecidedForward which strike lo hi) = inr (runs_may_hold events time before after start count h)
  after_runs h (Refused NoTerm which) = inr (runs_may_hold events time before after start count h)
  after_runs h (Refused (Term refusal) which) = inr (runs_may_hold events time before after start count h)
  after_runs h (Refused NegativeVariance which) = h

  -- whatever is answered, the strips may hold the selected ones
  pub answer_otherwise : (answer : TickAnswer) → AreKeptAfterAnswer events time before after start count answer → AreKeptOtherwise events time before after start count
  answer_otherwise (Published cents lo hi certificate) h = inr (runs_may_hold events time before after start count h)
  answer_otherwise (UndecidedCents lo hi) h = inr (runs_may_hold events time before after start count h)
  answer_otherwise (UndecidedForward which strike lo hi) h = h
  answer_otherwise (Refused NoTerm which) h = h
  answer_otherwise (Refused (Term refusal) which) h = h
  answer_otherwise (Refused NegativeVariance which) h = inr (runs_may_hold events time before after start count h)

  -- and so too where memory was refused
  pub result_otherwise : (result : Result TickAnswer NoMemory) → AreKeptAfterTick events time before after start count result → AreKeptOtherwise events time before after start count
  result_otherwise (Ok answer) h = answer_otherwise answer h
  result_otherwise (Err memory) h = h

  module _ (strips : TermStrips events time before after) (mid line days : ℕ) where
    abbrev NearKept : TermAnswer SCALE → Type 0
    NearKept a = IsKeptAfter SCALE (IsSelectedStrip SCALE (near_facts strips)) strips.near_strip.before strips.near_strip.after start mid (Ok a)

    abbrev NextKept : TermAnswer SCALE → Type 0
    NextKept b = IsKeptAfter SCALE (IsSelectedStrip SCALE (next_facts strips)) strips.next_strip.before strips.next_strip.after mid count (Ok b)

    both : (a b : TermAnswer SCALE) → IsTermAnswer SCALE strips.near (near_facts strips) a → IsTermAnswer SCALE strips.next (next_facts strips) b → NearKept a → NextKept b
        → MayHoldStrips events time before after start count
    both a b h k p q = strips_may_hold events time before after strips start mid count
        (may_hold strips.near (near_facts strips) strips.near_strip.before strips.near_strip.after start mid (Ok a) h p)
        (may_hold strips.next (next_facts strips) strips.next_strip.before strips.next_strip.after mid count (Ok b) k q)

    -- after the answers of both terms
    pub after_join : (a b : TermAnswer SCALE) → IsTermAnswer SCALE strips.near (near_facts strips) a → IsTermAnswer SCALE strips.next (next_facts strips) b → NearKept a → NextKept b
        → (answer : TickAnswer) → IsJoined line time days a b answer → AreKeptAfterAnswer events time before after start count answer
    after_join (term.Run a) (term.Run b) h k p q answer joined =
        let n = p.counted in
        let m = q.counted in
        after_runs (record {
          strips = strips;
          near = a;
          is_near = h;
          near_is_held = p.held;
          next = b;
          is_next = k;
          next_is_held = q.held;
          counted = omega (arith, n, m);
        }) answer
    after_join (term.Run a) (term.Refused refusal) h k p q answer joined =
        subst (AreKeptAfterAnswer events time before after start count) (sym joined) (inr (both (term.Run a) (term.Refused refusal) h k p q))
    after_join (term.Run a) (term.UndecidedForward strike lo hi) h k p q answer joined =
        subst (AreKeptAfterAnswer events time before after start count) (sym joined) (inr (both (term.Run a) (term.UndecidedForward strike lo hi) h k p q))
    after_join (term.Refused refusal) b h k p q answer joined =
        subst (AreKeptAfterAnswer events time before after start count) (sym joined) (inr (both (term.Refused refusal) b h k p q))
    after_join (term.UndecidedForward strike lo hi) b h k p q answer joined =
        subst (AreKeptAfterAnswer events time before after start count) (sym joined) (inr (both (term.UndecidedForward strike lo hi) b h k p q))
