-- The answers to the ticks of a feed, one line after another, and their counts.
use Rattle.std.proofs.Common.{◌≡◌, ◌∙◌, inl, inr, ℕ, zero, suc, ◌+◌, ◌-◌, ◌<◌, ◌≤◌, Bool, cond, ◌||◌, List, [], ◌∷◌, ◌++◌, length, Option, Some, None, refl, sym, ap, subst, arith}
use Rattle.std.proofs.Common.{add-zero, append_assoc, append-nil}
use Rattle.std.specs.List.{All, slice_get}
use Rattle.std.specs.Option.{option_or}
use Rattle.std.proofs.lemmas.Bool.{leb-false, or_parts}
use Rattle.std.proofs.lemmas.List.{length-append, length-map, length_push, map-append, take-append-le}
use Rattle.std.proofs.lemmas.List.Elements.{All-nil, All-push, All-weaker}
use Rattle.std.proofs.lemmas.List.Sums.{sum_by-cons, sum_by_push}
use Rattle.std.proofs.lemmas.Option.{slice_get_within}
use Rattle.std.specs.Prelude.{codes, nat_le}
use Rattle.vx_clock.specs.declared.limits.TheConstants.{INDEX_DAYS, INDEX_WINDOW}
use Rattle.vx_feed.specs.declared.events.Event.{Event}
use Rattle.vx_feed.specs.declared.events.Event.TheVariants as event
use Rattle.vx_feed.specs.declared.limits.TheConstants.{LINES_MAX}
use Rattle.vx_feed.specs.Listed.{header_day}
use Rattle.vx_feed.specs.Order.{IsLawfulNext, has_too_many_expiries, has_too_many_strikes, tick_minute}
use Rattle.vx_feed.specs.Said.{first_said}
use Rattle.vx_feed.proofs.NoCauses.{no_causes}
use Rattle.vx_feed.specs.Written.{count_text}
use Rattle.vx_claims.specs.Seen.{events_before, moment_of}
use Rattle.vx_replay.specs.declared.answer.TickAnswer.{TickAnswer}
use Rattle.vx_replay.specs.declared.answer.TickAnswer.TheVariants.{Published, UndecidedCents, UndecidedForward, Refused}
use Rattle.vx_replay.specs.Stepped.{IsAnswerNext, IsStepAnswer}
use Rattle.vx_replay.specs.Ticks.{IsAnswerAfter, IsIndexAnswer, IsTickAnswer}
use Rattle.vx_cli.specs.declared.drill.AnswerCounts.{AnswerCounts}
use Rattle.vx_cli.specs.DrillRuns.{AnswersAreFew, HasCounted, answers_of_counts, drill_line, no_counts, one_of}
use Rattle.vx_cli.specs.OutputLines.{line_of}
use Rattle.vx_cli.specs.ReplayText.{Answered, AnswerTicks, Tick, count_answers, is_published, is_refused, is_undecided, tally_of, ticks_from, ticks_of}
use Rattle.vx_cli.proofs.AnswerLemmas.{IsEither, either}

-- ---- what later events leave as it is

or_kept : {A : Type 0} (a b c : Option A) (v : A) → (b ≡ Some v → c ≡ Some v) → option_or a b ≡ Some v → option_or a c ≡ Some v
or_kept None b c v more h = more h
or_kept (Some w) b c v more h = h

first_kept : {X A : Type 0} (says : X → Option A) (xs ys : List X) (v : A) → first_said says xs ≡ Some v → first_said says (xs ++ ys) ≡ Some v
first_kept says [] ys v h = absurd cc
first_kept says (x ∷ xs) ys v h = or_kept (says x) (first_said says xs) (first_said says (xs ++ ys)) v (first_kept says xs ys v) h

get_kept : {X : Type 0} (xs ys : List X) (i : ℕ) (x : X) → slice_get xs i ≡ Some x → slice_get (xs ++ ys) i ≡ Some x
get_kept [] ys i x h = absurd cc
get_kept (z ∷ zs) ys zero x h = h
get_kept (z ∷ zs) ys (suc i) x h = get_kept zs ys i x h

-- the answer to a tick stays its answer
answer_kept : (days window : ℕ) (events more : List Event) (line time : ℕ) (answer : TickAnswer)
    → IsTickAnswer days window events line time answer → IsTickAnswer days window (events ++ more) line time answer
answer_kept days window events more line time answer h =
    let within : line - 1 < length events = slice_get_within events (line - 1) (event.Tick time) h.is_tick.1 in
    let same : events_before (events ++ more) line ≡ events_before events line = take-append-le (line - 1) events more (omega (arith, within)) in
    record {
      is_tick = (h.is_tick.0, get_kept events more (line - 1) (event.Tick time) h.is_tick.1);
      day = h.day;
      day_is = first_kept header_day events more h.day h.day_is;
      answered = subst (λ (before : List Event). IsAnswerAfter before (moment_of h.day time) line days window answer) (sym same) h.answered;
    }

-- ---- the ticks of one line more

-- the tick of a line, where its event has a minute
abbrev pub tick_at : ℕ → Option ℕ → List Tick
tick_at line None = []
tick_at line (Some time) = record { line = line; time = time } ∷ []

pub first_tick : (line : ℕ) (e : Event) (events : List Event) → ticks_from line (e ∷ events) ≡ tick_at line (tick_minute e) ++ ticks_from (line + 1) events
first_tick line (event.Tick time) events = refl
first_tick line (event.Header day) events = refl
first_tick line (event.Expiry x) events = refl
first_tick line (event.Rate x rate) events = refl
first_tick line (event.Series s) events = refl
first_tick line (event.Quote time s bid ask) events = refl
first_tick line (event.Trade time s price) events = refl
first_tick line (event.Opening time) events = refl
first_tick line (event.End count) events = refl

pub last_tick : (line : ℕ) (events : List Event) (e : Event) → ticks_from line (events ++ e ∷ []) ≡ ticks_from line events ++ tick_at (line + length events) (tick_minute e)
last_tick line [] e = first_tick line e [] ∙ append-nil (tick_at line (tick_minute e)) ∙ ap (λ (n : ℕ). tick_at n (tick_minute e)) (sym (add-zero line))
last_tick line (d ∷ events) e =
    let later : (line + 1) + length events ≡ line + length (d ∷ events) = omega arith in
    let head : List Tick = tick_at line (tick_minute d) in
    let rest : List Tick = ticks_from (line + 1) events in
    first_tick line d (events ++ e ∷ [])
    ∙ ap (λ (ticks : List Tick). head ++ ticks) (last_tick (line + 1) events e ∙ ap (λ (n : ℕ). rest ++ tick_at n (tick_minute e)) later)
    ∙ sym (append_assoc head rest (tick_at (line + length (d ∷ events)) (tick_minute e)))
    ∙ ap (λ (ticks : List Tick). ticks ++ tick_at (line + length (d ∷ events)) (tick_minute e)) (sym (first_tick line d events))

-- no line has more than one tick
few_at : (line : ℕ) (minute : Option ℕ) → length (tick_at line minute) ≤ 1
few_at line None = omega arith
few_at line (Some time) = omega arith

few_ticks : (line : ℕ) (events : List Event) → length (ticks_from line events) ≤ length events
few_ticks line [] = omega arith
few_ticks line (e ∷ events) =
    let more = few_ticks (line + 1) events in
    let one = few_at line (tick_minute e) in
    let parts : length (ticks_from line (e ∷ events)) ≡ length (tick_at line (tick_minute e)) + length (ticks_from (line + 1) events) =
    ap (λ (ticks : List Tick). length ticks) (first_tick line e events) ∙ length-append (tick_at line (tick_minute e)) (ticks_from (line + 1) events) in
    omega (arith, more, one, parts)

-- ---- the answers of one line more

abbrev IsAnswerIn : List Event → Answered → Type 0
IsAnswerIn events a = IsTickAnswer INDEX_DAYS INDEX_WINDOW events a.tick.line a.tick.time a.answer

all_kept : (events more : List Event) (answers : List Answered) → All (IsAnswerIn events) answers → All (IsAnswerIn (events ++ more)) answers
all_kept events more answers h =
    All-weaker (IsAnswerIn events) (IsAnswerIn (events ++ more))
    (λ a is. answer_kept INDEX_DAYS INDEX_WINDOW events more a.tick.line a.tick.time a.answer is) answers h

-- a line that is no tick has no answer
quiet_line : (events : List Event) (e : Event) (answers : List Answered) → tick_minute e ≡ None
    → AnswerTicks INDEX_DAYS INDEX_WINDOW events answers → AnswerTicks INDEX_DAYS INDEX_WINDOW (events ++ e ∷ []) answers
quiet_line events e answers none h =
    let ticks : ticks_of (events ++ e ∷ []) ≡ ticks_of events =
    last_tick 1 events e ∙ ap (λ (minute : Option ℕ). ticks_of events ++ tick_at (1 + length events) minute) none ∙ append-nil (ticks_of events) in
    record { ticks_are = h.ticks_are ∙ sym ticks; each = all_kept events (e ∷ []) answers h.each }

abbrev answered_next : List Event → ℕ → TickAnswer → Answered
answered_next events time answer = record { tick = record { line = 1 + length events; time = time }; answer = answer }

-- a tick has the next answer
tick_line : (events : List Event) (time : ℕ) (answer : TickAnswer) (answers : List Answered) → IsAnswerNext events time answer
    → AnswerTicks INDEX_DAYS INDEX_WINDOW events answers
    → AnswerTicks INDEX_DAYS INDEX_WINDOW (events ++ event.Tick time ∷ []) (answers ++ answered_next events time answer ∷ [])
tick_line events time answer answers is h =
    let e : Event = event.Tick time in
    let a : Answered = answered_next events time answer in
    let line : length events + 1 ≡ 1 + length events = omega arith in
    record {
      ticks_are = map-append (λ (b : Answered). b.tick) answers (a ∷ []) ∙ ap (λ (ticks : List Tick). ticks ++ a.tick ∷ []) h.ticks_are ∙ sym (last_tick 1 events e);
      each = All-push (IsAnswerIn (events ++ e ∷ [])) answers a (all_kept events (e ∷ []) answers h.each)
          (subst (λ (l : ℕ). IsIndexAnswer (events ++ e ∷ []) l time answer) line is.is_index);
    }

-- ---- the counts

-- the counts with one line more
pub record CountsMore (old new : AnswerCounts) (answer : Option TickAnswer) : Type 0 where
  pub lines : new.lines ≡ old.lines + 1
  pub published : new.published ≡ old.published + one_of is_published answer
  pub undecided : new.undecided ≡ old.undecided + one_of is_undecided answer
  pub refused : new.refused ≡ old.refused + one_of is_refused answer

one_more_of_kind : (is_kind : TickAnswer → Bool) (answers : List Answered) (a : Answered)
    → count_answers is_kind (answers ++ a ∷ []) ≡ count_answers is_kind answers + cond (is_kind a.answer) 1 0
one_more_of_kind is_kind answers a = sum_by_push (λ (b : Answered). cond (is_kind b.answer) 1 0) answers a

-- one line more is counted
counts_either : (events : List Event) (e : Event) (answer : Option TickAnswer) (old new : AnswerCounts) → IsEither events e answer
    → CountsMore old new answer → HasCounted events old → HasCounted (events ++ e ∷ []) new
counts_either events e answer old new (inr (none, nothing)) more h =
    let lines : length (events ++ e ∷ []) ≡ length events + 1 = length_push events e in
    let zero_of : (is_kind : TickAnswer → Bool) → one_of is_kind answer ≡ 0 = λ (is_kind : TickAnswer → Bool). ap (λ (o : Option TickAnswer). one_of is_kind o) nothing in
    record {
      lines = more.lines ∙ ap (λ (n : ℕ). n + 1) h.lines ∙ sym lines;
      answers = h.answers;
      are_answers = quiet_line events e h.answers none h.are_answers;
      published = let p = zero_of is_published in let m = more.published in let k = h.published in omega (arith, p, m, k);
      undecided = let p = zero_of is_undecided in let m = more.undecided in let k = h.undecided in omega (arith, p, m, k);
      refused = let p = zero_of is_refused in let m = more.refused in let k = h.refused in omega (arith, p, m, k);
    }
counts_either events e answer old new (inl (time, a, tick, is, next)) more h =
    let lines : length (events ++ e ∷ []) ≡ length events + 1 = length_push events e in
    let said : Answered = answered_next events time a in
    let one : (is_kind : TickAnswer → Bool) → one_of is_kind answer ≡ cond (is_kind a) 1 0 =
    λ (is_kind : TickAnswer → Bool). ap (λ (o : Option TickAnswer). one_of is_kind o) is in
    record {
      lines = more.lines ∙ ap (λ (n : ℕ). n + 1) h.lines ∙ sym lines;
      answers = h.answers ++ said ∷ [];
      are_answers = subst (λ (x : Event). AnswerTicks INDEX_DAYS INDEX_WINDOW (events ++ x ∷ []) (h.answers ++ said ∷ [])) (sym tick) (tick_line events time a h.answers next h.are_answers);
      published = more.published ∙ ap (λ (n : ℕ). n + one_of is_published answer) h.published
          ∙ ap (λ (n : ℕ). count_answers is_published h.answers + n) (one is_published) ∙ sym (one_more_of_kind is_published h.answers said);
      undecided = more.undecided ∙ ap (λ (n : ℕ). n + one_of is_undecided answer) h.undecided
          ∙ ap (λ (n : ℕ). count_answers is_undecided h.answers + n) (one is_undecided) ∙ sym (one_more_of_kind is_undecided h.answers said);
      refused = more.refused ∙ ap (λ (n : ℕ). n + one_of is_refused answer) h.refused
          ∙ ap (λ (n : ℕ). count_answers is_refused h.answers + n) (one is_refused) ∙ sym (one_more_of_kind is_refused h.answers said);
    }

-- a line that is taken up is counted
pub counts_more : (events : List Event) (e : Event) (answer : Option TickAnswer) (old new : AnswerCounts) → IsStepAnswer events e answer
    → CountsMore old new answer → HasCounted events old → HasCounted (events ++ e ∷ []) new
counts_more events e answer old new is more h = counts_either events e answer old new (either events e answer is) more h

-- and so is one that is no tick
pub counts_quiet : (events : List Event) (e : Event) (old new : AnswerCounts) → tick_minute e ≡ None → CountsMore old new None
    → HasCounted events old → HasCounted (events ++ e ∷ []) new
counts_quiet events e old new none more h = counts_either events e None old new (inr (none, refl)) more h

-- before the first line nothing is counted
pub counts_none : HasCounted [] no_counts
counts_none = record {
  lines = refl;
  answers = [];
  are_answers = record { ticks_are = refl; each = All-nil (IsAnswerIn []) };
  published = refl;
  undecided = refl;
  refused = refl;
}

-- ---- all kinds together

one_kind : (answer : TickAnswer) → cond (is_published answer) 1 0 + cond (is_undecided answer) 1 0 + cond (is_refused answer) 1 0 ≡ 1
one_kind (Published cents lo hi certificate) = refl
one_kind (UndecidedCents lo hi) = refl
one_kind (UndecidedForward which strike lo hi) = refl
one_kind (Refused reason which) = refl

count_cons : (is_kind : TickAnswer → Bool) (a : Answered) (answers : List Answered)
    → count_answers is_kind (a ∷ answers) ≡ cond (is_kind a.answer) 1 0 + count_answers is_kind answers
count_cons is_kind a answers = sum_by-cons (λ (b : Answered). cond (is_kind b.answer) 1 0) a answers

all_kinds : (answers : List Answered) → count_answers is_published answers + count_answers is_undecided answers + count_answers is_refused answers ≡ length answers
all_kinds [] = refl
all_kinds (a ∷ answers) =
    let rest = all_kinds answers in
    let one = one_kind a.answer in
    let p = count_cons is_published a answers in
    let u = count_cons is_undecided a answers in
    let r = count_cons is_refused a answers in
    omega (arith, rest, one, p, u, r)

-- how many answers were counted
pub counted_all : (events : List Event) (counts : AnswerCounts) (h : HasCounted events counts) → answers_of_counts counts ≡ length h.answers
counted_all events counts h =
    let all = all_kinds h.answers in
    let p = h.published in
    let u = h.undecided in
    let r = h.refused in
    omega (arith, all, p, u, r)

-- no line has more than one answer
pub counted_few : (events : List Event) (counts : AnswerCounts) → HasCounted events counts → AnswersAreFew counts
counted_few events counts h =
    let all = counted_all events counts h in
    let ticks : length h.answers ≡ length (ticks_of events) = sym (length-map h.answers (λ (a : Answered). a.tick)) ∙ ap (λ (ticks : List Tick). length ticks) h.are_answers.ticks_are in
    let few = few_ticks 1 events in
    let lines = h.lines in
    omega (arith, all, ticks, few, lines)

-- there is room for one line more
pub room_for_counted_line : (events : List Event) (e : Event) (counts : AnswerCounts) → IsLawfulNext events e → HasCounted events counts → counts.lines < LINES_MAX
room_for_counted_line events e counts next h =
    let few : length events < LINES_MAX =
    leb-false LINES_MAX (length events)
    (or_parts (has_too_many_expiries events e || has_too_many_strikes events e) (nat_le LINES_MAX (length events)) (no_causes events e next.in_order).few).1 in
    let lines = h.lines in
    omega (arith, few, lines)

-- ---- the line of the counts

-- the line of an event list's counts is that of its answers
pub line_is : (events : List Event) (counts : AnswerCounts) (h : HasCounted events counts)
    → drill_line counts ≡ line_of (codes "DRILL" ∷ count_text (length events) ∷ tally_of h.answers)
line_is events counts h =
    let all = counted_all events counts h in
    let lines = h.lines in
    let p = h.published in
    let u = h.undecided in
    let r = h.refused in
    λ i. line_of (codes "DRILL" ∷ count_text (lines i) ∷ count_text (all i) ∷ count_text (p i) ∷ count_text (u i) ∷ count_text (r i) ∷ [])
