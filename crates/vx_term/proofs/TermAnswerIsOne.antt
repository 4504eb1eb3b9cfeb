-- A term has at most one answer: what is known of the term decides, step by step, which one it is.
use Rattle.std.proofs.Common.{◌≡◌, ℕ, ◌*◌, ◌^◌, ◌<◌, ◌≤◌, ◌⊎◌, ℤ, List, [], Some, None, refl, sym, ◌∙◌, ap, subst, inl, inr, arith}
use Rattle.std.specs.Prelude.{Contains}
use Rattle.std.proofs.lemmas.Option.{same_Some, none-some}
use Rattle.vx_clock.specs.declared.terms.Expiry.{Expiry}
use Rattle.vx_symbol.specs.declared.rows.StrikeRow.{StrikeRow}
use Rattle.vx_interval.specs.Ends.{Ends}
use Rattle.vx_formula.specs.declared.limits.TheConstants.{STRIP_TOTAL_MAX}
use Rattle.vx_formula.specs.Pair.{Pair, live_pairs}
use Rattle.vx_formula.specs.Term.{TermFacts}
use Rattle.vx_formula.specs.Level.{StrikesRise}
use Rattle.vx_formula.specs.Strip.{StripEntry, strip, upper_total}
use Rattle.vx_formula.specs.Refusal.{LacksMoney, HasNoPut, HasNoCall}
use Rattle.vx_formula.proofs.Lists.{in_from_contains}
use Rattle.vx_formula.proofs.PairLemmas.{closest_pair_is_one}
use Rattle.vx_forward.specs.Pairs.{formula_pair}
use Rattle.vx_forward.specs.Forward.{forward_interval, printed_forward}
use Rattle.vx_forward.specs.declared.level.K0Answer.{K0Answer}
use Rattle.vx_forward.specs.declared.level.K0Answer.TheVariants as level
use Rattle.vx_forward.proofs.AnswersAreOne.{answer_is_one}
use Rattle.vx_strip.specs.Entries.{entries_of, strike_at}
use Rattle.vx_strip.specs.Refusals.{HasNoStripRefusal}
use Rattle.vx_term.specs.declared.answer.TermRefusal.{TermRefusal}
use Rattle.vx_term.specs.declared.answer.TermRefusal.TheVariants.{NoRate, NoPair, NoStrikeBelow, NoStrikeAbove, NoMoney, NoPut, NoCall, StripTooLarge}
use Rattle.vx_term.specs.declared.answer.TermRun.{TermRun}
use Rattle.vx_term.specs.declared.answer.TermAnswer.{TermAnswer}
use Rattle.vx_term.specs.declared.answer.TermAnswer.TheVariants.{Run, Refused, UndecidedForward}
use Rattle.vx_term.specs.Runs.{HasForward, ForwardSays, SaysOfLevel, TellsLevel, IsStripTooLarge}
use Rattle.vx_term.specs.Answer.{exponential_ends, AtStandingRate, IsRun, IsTermAnswer}
use Rattle.vx_term.proofs.RunIsOne.{run_is_one}

-- what is said of the level is one
says_is_one : (P : ℕ) (rows : List StrikeRow) (e : Ends) (a b : K0Answer) → StrikesRise rows → SaysOfLevel P rows e a → SaysOfLevel P rows e b → a ≡ b
says_is_one P rows e a b rise (f, h, s) (g, k, t) =
    let pairs : h.pair ≡ k.pair = closest_pair_is_one rows h.pair k.pair rise h.is_closest k.is_closest in
    let forwards : f ≡ g = h.forward_is ∙ ap (λ (p : Pair). forward_interval P p e) pairs ∙ sym k.forward_is in
    let told : ForwardSays P rows g a = subst (λ (x : Ends). ForwardSays P rows x a) forwards s in
    answer_is_one rows (printed_forward P g).0 (printed_forward P g).1 a b rise told t

module _ (P : ℕ) (x : Expiry) (facts : TermFacts) where
  -- ---- the steps of the decision

  -- the strip at the level is not too large, and the answer is a run
  abbrev HasRun : ℕ → TermAnswer P → Type 0
  HasRun k a = (upper_total P (strip facts.rows k) ≤ STRIP_TOTAL_MAX * 2 ^ P) × (run : TermRun P) × IsRun P x facts run × (a ≡ Run run)

  abbrev IsTooLargeAnswer : ℕ → TermAnswer P → Type 0
  IsTooLargeAnswer k a =
      (STRIP_TOTAL_MAX * 2 ^ P < upper_total P (strip facts.rows k)) × (a ≡ Refused (StripTooLarge (upper_total P (strip facts.rows k))))

  -- what is answered at the level k
  abbrev FromCall : ℕ → TermAnswer P → Type 0
  FromCall k a = (HasNoCall facts.rows k × (a ≡ Refused NoCall)) ⊎ (¬ HasNoCall facts.rows k × (IsTooLargeAnswer k a ⊎ HasRun k a))

  abbrev FromPut : ℕ → TermAnswer P → Type 0
  FromPut k a = (HasNoPut facts.rows k × (a ≡ Refused NoPut)) ⊎ (¬ HasNoPut facts.rows k × FromCall k a)

  abbrev FromMoney : ℕ → TermAnswer P → Type 0
  FromMoney k a = (LacksMoney facts.rows k × (a ≡ Refused NoMoney)) ⊎ (¬ LacksMoney facts.rows k × FromPut k a)

  -- what follows from what is said of the level
  abbrev Follows : K0Answer → TermAnswer P → Type 0
  Follows (level.At place) a = FromMoney (strike_at facts.rows place) a
  Follows level.NoStrikeBelow a = a ≡ Refused NoStrikeBelow
  Follows (level.NoStrikeAbove place) a = a ≡ Refused NoStrikeAbove
  Follows (level.Straddle strike lo hi) a = a ≡ UndecidedForward strike lo hi

  abbrev ends_at : ℤ → Ends
  ends_at rate = exponential_ends P rate facts.minutes

  -- what is answered at a rate
  abbrev AtRate : ℤ → TermAnswer P → Type 0
  AtRate rate a =
      ((live_pairs facts.rows ≡ []) × (a ≡ Refused NoPair)) ⊎ ((said : K0Answer) × SaysOfLevel P facts.rows (ends_at rate) said × Follows said a)

  abbrev Steps : TermAnswer P → Type 0
  Steps a = ((facts.rate ≡ None) × (a ≡ Refused NoRate)) ⊎ ((rate : ℤ) × (facts.rate ≡ Some rate) × AtRate rate a)

  -- ---- each answer is reached by these steps

  at_standing : (Q : Ends → Type 0) (a : TermAnswer P) → AtStandingRate P facts Q → ((rate : ℤ) → Q (ends_at rate) → AtRate rate a) → Steps a
  at_standing Q a (rate, stands, q) f = inr (rate, stands, f rate q)

  -- of a level that is told
  at_level : (rate : ℤ) (k : ℕ) (a : TermAnswer P) → TellsLevel P facts.rows (ends_at rate) k → FromMoney k a → AtRate rate a
  at_level rate k a (place, says, is) step = inr (level.At place, says, subst (λ (m : ℕ). FromMoney m a) is step)

  past_refusals : (k : ℕ) (a : TermAnswer P) → HasNoStripRefusal facts.rows k → (IsTooLargeAnswer k a ⊎ HasRun k a) → FromMoney k a
  past_refusals k a none step = inr (none.has_money, inr (none.has_put, inr (none.has_call, step)))

  too_large_steps : (upper : ℕ) (rate : ℤ) → IsStripTooLarge P facts.rows (ends_at rate) upper → AtRate rate (Refused (StripTooLarge upper))
  too_large_steps upper rate h =
      let a : TermAnswer P = Refused (StripTooLarge upper) in
      let more : STRIP_TOTAL_MAX * 2 ^ P < upper_total P (strip facts.rows h.k) = subst (λ (n : ℕ). STRIP_TOTAL_MAX * 2 ^ P < n) h.upper_is h.too_large in
      at_level rate h.k a h.tells (past_refusals h.k a h.has_strip (inl (more, ap (λ (n : ℕ). Refused (StripTooLarge n)) h.upper_is)))

  refused_steps : (refusal : TermRefusal) → IsTermAnswer P x facts (Refused refusal) → Steps (Refused refusal)
  refused_steps NoRate h = inl (h, refl)
  refused_steps NoPair (rate, stands, none) = inr (rate, stands, inl (none, refl))
  refused_steps NoStrikeBelow (rate, stands, says) = inr (rate, stands, inr (level.NoStrikeBelow, says, refl))
  refused_steps NoStrikeAbove (rate, stands, (place, says)) = inr (rate, stands, inr (level.NoStrikeAbove place, says, refl))
  refused_steps NoMoney (rate, stands, (k, tells, lacks)) = inr (rate, stands, at_level rate k (Refused NoMoney) tells (inl (lacks, refl)))
  refused_steps NoPut (rate, stands, (k, tells, (money, no_put))) =
      inr (rate, stands, at_level rate k (Refused NoPut) tells (inr (money, inl (no_put, refl))))
  refused_steps NoCall (rate, stands, (k, tells, (money, put, no_call))) =
      inr (rate, stands, at_level rate k (Refused NoCall) tells (inr (money, inr (put, inl (no_call, refl)))))
  refused_steps (StripTooLarge upper) (rate, stands, h) = inr (rate, stands, too_large_steps upper rate h)

  run_steps : (run : TermRun P) → IsRun P x facts run → Steps (Run run)
  run_steps run h =
      let n = h.numbers_are in
      let value : run.exp.value ≡ ends_at run.rate = (h.exp_is).value ∙ ap (λ (m : ℕ). exponential_ends P run.rate m) h.minutes_are in
      let has : HasForward P facts.rows run.exp.value run.f = record { pair = formula_pair run.pair; is_closest = n.pair_is; forward_is = n.forward_is } in
      let says : SaysOfLevel P facts.rows (ends_at run.rate) (level.At n.place) =
      (run.f, subst (λ (e : Ends). HasForward P facts.rows e run.f) value has, n.tells) in
      let strip_is : entries_of run.strip ≡ strip facts.rows run.k0 = n.strip_is in
      let small : upper_total P (strip facts.rows run.k0) ≤ STRIP_TOTAL_MAX * 2 ^ P =
      subst (λ (entries : List StripEntry). upper_total P entries ≤ STRIP_TOTAL_MAX * 2 ^ P) strip_is (n.sum_is).accepted in
      inr (run.rate, h.rate_stands, at_level run.rate run.k0 (Run run) (n.place, says, n.level_is) (past_refusals run.k0 (Run run) n.has_strip (inr (small, run, h, refl))))

  steps : (a : TermAnswer P) → IsTermAnswer P x facts a → Steps a
  steps (Run run) h = run_steps run h
  steps (Refused refusal) h = refused_steps refusal h
  steps (UndecidedForward strike lo hi) (rate, stands, says) = inr (rate, stands, inr (level.Straddle strike lo hi, says, refl))

  -- ---- and the steps lead to one answer

  module _ (rise : StrikesRise facts.rows) (a b : TermAnswer P) where
    call_is_one : (k : ℕ) → FromCall k a → FromCall k b → a ≡ b
    call_is_one k (inl (none, e)) (inl (none', f)) = e ∙ sym f
    call_is_one k (inl (none, e)) (inr (has, h)) = absurd (has none)
    call_is_one k (inr (has, h)) (inl (none, e)) = absurd (has none)
    call_is_one k (inr (has, inl (more, e))) (inr (has', inl (more', f))) = e ∙ sym f
    call_is_one k (inr (has, inl (more, e))) (inr (has', inr (small, run, h, f))) = absurd (omega arith)
    call_is_one k (inr (has, inr (small, run, h, f))) (inr (has', inl (more, e))) = absurd (omega arith)
    call_is_one k (inr (has, inr (small, run, h, e))) (inr (has', inr (small', run', h', f))) =
        e ∙ ap (λ (r : TermRun P). Run r) (run_is_one P x facts rise run run' h h') ∙ sym f

    put_is_one : (k : ℕ) → FromPut k a → FromPut k b → a ≡ b
    put_is_one k (inl (none, e)) (inl (none', f)) = e ∙ sym f
    put_is_one k (inl (none, e)) (inr (has, h)) = absurd (has none)
    put_is_one k (inr (has, h)) (inl (none, e)) = absurd (has none)
    put_is_one k (inr (has, h)) (inr (has', h')) = call_is_one k h h'

    money_is_one : (k : ℕ) → FromMoney k a → FromMoney k b → a ≡ b
    money_is_one k (inl (lacks, e)) (inl (lacks', f)) = e ∙ sym f
    money_is_one k (inl (lacks, e)) (inr (has, h)) = absurd (has lacks)
    money_is_one k (inr (has, h)) (inl (lacks, e)) = absurd (has lacks)
    money_is_one k (inr (has, h)) (inr (has', h')) = put_is_one k h h'

    follows_one : (said : K0Answer) → Follows said a → Follows said b → a ≡ b
    follows_one (level.At place) h k = money_is_one (strike_at facts.rows place) h k
    follows_one level.NoStrikeBelow h k = h ∙ sym k
    follows_one (level.NoStrikeAbove place) h k = h ∙ sym k
    follows_one (level.Straddle strike lo hi) h k = h ∙ sym k

    no_pair_says : (e : Ends) (said : K0Answer) → live_pairs facts.rows ≡ [] → SaysOfLevel P facts.rows e said → ⊥
    no_pair_says e said none (f, h, s) =
        elim (in_from_contains [] h.pair (subst (λ (pairs : List Pair). Contains pairs h.pair) none (h.is_closest).among)) [ ]

    rate_is_one : (rate : ℤ) → AtRate rate a → AtRate rate b → a ≡ b
    rate_is_one rate (inl (none, e)) (inl (none', f)) = e ∙ sym f
    rate_is_one rate (inl (none, e)) (inr (said, says, h)) = absurd (no_pair_says (ends_at rate) said none says)
    rate_is_one rate (inr (said, says, h)) (inl (none, e)) = absurd (no_pair_says (ends_at rate) said none says)
    rate_is_one rate (inr (said, says, h)) (inr (said', says', h')) =
        let same : said ≡ said' = says_is_one P facts.rows (ends_at rate) said said' rise says says' in
        follows_one said' (subst (λ (s : K0Answer). Follows s a) same h) h'

    steps_are_one : Steps a → Steps b → a ≡ b
    steps_are_one (inl (none, e)) (inl (none', f)) = e ∙ sym f
    steps_are_one (inl (none, e)) (inr (rate, stands, h)) = absurd (none-some rate (sym none ∙ stands))
    steps_are_one (inr (rate, stands, h)) (inl (none, e)) = absurd (none-some rate (sym none ∙ stands))
    steps_are_one (inr (rate, stands, h)) (inr (rate', stands', h')) =
        rate_is_one rate' (subst (λ (r : ℤ). AtRate r a) (same_Some rate rate' (sym stands ∙ stands')) h) h'

pub term_answer_is_one : (P : ℕ) (x : Expiry) (facts : TermFacts) (a b : TermAnswer P) → StrikesRise facts.rows → IsTermAnswer P x facts a → IsTermAnswer P x facts b → a ≡ b
term_answer_is_one P x facts a b rise h k = steps_are_one P x facts rise a b (steps P x facts a h) (steps P x facts b k)
