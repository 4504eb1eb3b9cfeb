-- A feed has at most one run of `replay`, and a sample feed at most one output of `drill`.
use Rattle.std.proofs.Common.{◌≡◌, ℕ, List, [], ◌∷◌, map, length, refl, sym, ◌∙◌, ap, subst}
use Rattle.std.specs.Prelude.{codes}
use Rattle.std.specs.List.{All}
use Rattle.std.proofs.lemmas.List.Elements.{All-head, All-tail}
use Rattle.vx_clock.specs.declared.limits.TheConstants.{INDEX_DAYS, INDEX_WINDOW}
use Rattle.vx_feed.specs.declared.events.Event.{Event}
use Rattle.vx_feed.specs.Feed.{reading_of}
use Rattle.vx_feed.specs.Written.{count_text}
use Rattle.vx_make.specs.Feed.{make_events}
use Rattle.vx_replay.specs.Ticks.{IsTickAnswer}
use Rattle.vx_drivers.proofs.TickLawLemmas.{run_is_one}
use Rattle.vx_replay.proofs.TickAnswerIsOne.{tick_answer_is_one}
use Rattle.vx_drivers.specs.Sending.{Text}
use Rattle.vx_cli.specs.OutputLines.{line_of}
use Rattle.vx_cli.specs.Laws.{ReplayIsOne}
use Rattle.vx_cli.specs.ReplayLaws.{gives_one}
use Rattle.vx_cli.specs.ReplayRuns.{replay_rules}
use Rattle.vx_cli.specs.ReplayText.{Tick, Answered, AnswerTicks, tally_of}
use Rattle.vx_cli.specs.DrillText.{Drills}

abbrev first_tick : Tick → List Tick → Tick
first_tick t [] = t
first_tick t (s ∷ ts) = s

abbrev later_ticks : List Tick → List Tick
later_ticks [] = []
later_ticks (t ∷ ts) = ts

module _ (days window : ℕ) (events : List Event) where
  abbrev IsRight : Answered → Type 0
  IsRight a = IsTickAnswer days window events a.tick.line a.tick.time a.answer

  answered_one : (a b : Answered) → a.tick ≡ b.tick → IsRight a → IsRight b → a ≡ b
  answered_one a b e h k =
      let at_b : IsTickAnswer days window events b.tick.line b.tick.time a.answer =
      subst (λ (t : Tick). IsTickAnswer days window events t.line t.time a.answer) e h in
      let answers : a.answer ≡ b.answer = tick_answer_is_one days window events b.tick.line b.tick.time a.answer b.answer at_b k in
      λ i. record { tick = e i; answer = answers i }

  all_one : (xs ys : List Answered) → map (λ a. a.tick) xs ≡ map (λ a. a.tick) ys → All IsRight xs → All IsRight ys → xs ≡ ys
  all_one [] [] e h k = refl
  all_one [] (y ∷ ys) e h k = absurd cc
  all_one (x ∷ xs) [] e h k = absurd cc
  all_one (x ∷ xs) (y ∷ ys) e h k =
      let ticks : x.tick ≡ y.tick = ap (first_tick x.tick) e in
      let first : x ≡ y = answered_one x y ticks (All-head IsRight x xs h) (All-head IsRight y ys k) in
      let rest : xs ≡ ys = all_one xs ys (ap later_ticks e) (All-tail IsRight x xs h) (All-tail IsRight y ys k) in
      λ i. first i ∷ rest i

  pub answers_are_one : (xs ys : List Answered) → AnswerTicks days window events xs → AnswerTicks days window events ys → xs ≡ ys
  answers_are_one xs ys h k = all_one xs ys (h.ticks_are ∙ sym k.ticks_are) h.each k.each

pub replay_is_one : ReplayIsOne
replay_is_one feed exit other out certs other_out other_certs h k =
    run_is_one replay_rules gives_one (reading_of feed) exit other out certs other_out other_certs h k

pub drill_is_one : (number ticks : ℕ) (out other_out : Text) → Drills number ticks out → Drills number ticks other_out → out ≡ other_out
drill_is_one number ticks out other_out h k =
    let answers : h.answers ≡ k.answers = answers_are_one INDEX_DAYS INDEX_WINDOW (make_events number ticks) h.answers k.answers h.are_answers k.are_answers in
    h.out_is ∙ ap (λ (xs : List Answered). line_of (codes "DRILL" ∷ count_text (length (make_events number ticks)) ∷ tally_of xs)) answers ∙ sym k.out_is
