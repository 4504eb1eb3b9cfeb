-- Each line of `replay` is true.
use Rattle.std.proofs.Common.{◌≡◌, ◌∙◌, sym, ap, subst, refl, ◌⊎◌, inl, inr, ℕ, ◌+◌, ◌≤◌, Bool, true, false, List, [], ◌∷◌, ◌++◌, length, map, Option, Some, None, arith}
use Rattle.std.proofs.Common.{add-zero, append_assoc, append-nil}
use Rattle.std.specs.Prelude.{take}
use Rattle.std.specs.List.{All}
use Rattle.std.proofs.lemmas.List.{length-append, map-append, take-append-le, take_all}
use Rattle.std.proofs.lemmas.List.Elements.{All-nil, All-push}
use Rattle.vx_clock.specs.declared.limits.TheConstants.{INDEX_DAYS, INDEX_WINDOW}
use Rattle.vx_feed.specs.declared.events.Event.{Event}
use Rattle.vx_feed.specs.declared.events.Event.TheVariants as event
use Rattle.vx_feed.specs.Feed.{BadLine, Reading}
use Rattle.vx_claims.specs.Seen.{event_at}
use Rattle.vx_replay.specs.Lawful.{IsLawfulAnswer}
use Rattle.vx_drivers.specs.declared.exit.Exit.{Exit}
use Rattle.vx_drivers.specs.declared.exit.Exit.TheVariants.{Done, BadFeed}
use Rattle.vx_drivers.specs.Along.{Along}
use Rattle.vx_drivers.specs.Exits.{is_cut}
use Rattle.vx_drivers.specs.Sending.{Text}
use Rattle.vx_drivers.specs.TickRun.{CutsTicks, EndsTicks, RunsTicks, RunsTicksIf, TakesEvent, TickStand, certificates_text, counts_text, lines_text, no_events, one_more, unless_bad}
use Rattle.vx_drivers.proofs.TickLemmas.{texts_more}
use Rattle.vx_cli.specs.Headline.{IsTrueTick, ReplaysTruly}
use Rattle.vx_cli.specs.ReplayRuns.{GivesAnswer, IsAnsweredLast, replay_rules}
use Rattle.vx_feed.specs.Order.{tick_minute}
use Rattle.vx_cli.specs.ReplayText.{Answered, Tick, ticks_from, ticks_of}
use Rattle.vx_cli.proofs.AnswerLemmas.{at_last, minute_at}
use Rattle.vx_cli.proofs.DrillLemmas.{first_tick, last_tick, tick_at}
use Rattle.vx_cli.proofs.HeadlineLines.{cut_not_done, last_either}

abbrev tick_of : Answered → Tick
tick_of a = a.tick

-- ---- ticks

-- the ticks of events, and then of more
ticks_more : (line : ℕ) (xs ys : List Event) → ticks_from line (xs ++ ys) ≡ ticks_from line xs ++ ticks_from (line + length xs) ys
ticks_more line [] ys = ap (λ (n : ℕ). ticks_from n ys) (sym (add-zero line))
ticks_more line (x ∷ xs) ys =
    let later : (line + 1) + length xs ≡ line + length (x ∷ xs) = omega arith in
    let head : List Tick = tick_at line (tick_minute x) in
    first_tick line x (xs ++ ys)
    ∙ ap (λ (ticks : List Tick). head ++ ticks) (ticks_more (line + 1) xs ys)
    ∙ ap (λ (n : ℕ). head ++ (ticks_from (line + 1) xs ++ ticks_from n ys)) later
    ∙ sym (append_assoc head (ticks_from (line + 1) xs) (ticks_from (line + length (x ∷ xs)) ys))
    ∙ ap (λ (ticks : List Tick). ticks ++ ticks_from (line + length (x ∷ xs)) ys) (sym (first_tick line x xs))

length_one_more : (events : List Event) (e : Event) → length (events ++ e ∷ []) ≡ 1 + length events
length_one_more events e =
    let more : length (events ++ e ∷ []) ≡ length events + 1 = length-append events (e ∷ []) in
    omega (arith, more)

-- what is answered is a tick
answered_is_tick : (events : List Event) (e : Event) (a : Answered) → IsAnsweredLast (events ++ e ∷ []) a → tick_minute e ≡ Some a.tick.time
answered_is_tick events e a h =
    let at = h.is_answer.is_tick.1 in
    let there : Some e ≡ Some (event.Tick a.tick.time) =
    sym (at_last events e) ∙ subst (λ (n : ℕ). event_at (events ++ e ∷ []) n ≡ Some (event.Tick a.tick.time)) h.last at in
    ap minute_at there

-- what is given nothing is no tick
unanswered_is_none : (events : List Event) (e : Event) → GivesAnswer (events ++ e ∷ []) None → tick_minute e ≡ None
unanswered_is_none events (event.Tick time) none =
    let one = length_one_more events (event.Tick time) in
    absurd (none time (omega (arith, one), at_last events (event.Tick time)))
unanswered_is_none events (event.Header day) none = refl
unanswered_is_none events (event.Expiry x) none = refl
unanswered_is_none events (event.Rate x rate) none = refl
unanswered_is_none events (event.Series s) none = refl
unanswered_is_none events (event.Quote time s bid ask) none = refl
unanswered_is_none events (event.Trade time s price) none = refl
unanswered_is_none events (event.Opening time) none = refl
unanswered_is_none events (event.End count) none = refl

-- ---- where a run stands

-- the ticks so far have their answers, and these are true whatever follows
record StandsTrue (stand : TickStand Answered) : Type 0 where
  ticks : ticks_of stand.events ≡ map tick_of stand.answers
  are_true : (more : List Event) → All (IsTrueTick (stand.events ++ more)) stand.answers

-- the events up to a line
up_to : (events more : List Event) (line : ℕ) → line ≡ length events → take line (events ++ more) ≡ events
up_to events more line is =
    let all : line ≤ length events = omega (arith, is) in
    let no_more : length events ≤ line = omega (arith, is) in
    take-append-le line events more all ∙ take_all line events no_more

true_now : (events more : List Event) (a : Answered) → IsAnsweredLast events a → IsTrueTick (events ++ more) a
true_now events more a h =
    subst (λ (es : List Event). IsLawfulAnswer INDEX_DAYS INDEX_WINDOW es a.tick.line a.tick.time a.answer)
    (sym (up_to events more a.tick.line h.last)) h.is_lawful

same_tick : (t : Tick) (line time : ℕ) → t.line ≡ line → t.time ≡ time → record { line = line; time = time } ≡ t
same_tick t line time p q = λ i. record { line = sym p i; time = sym q i }

module _ (old : TickStand Answered) (e : Event) (h : StandsTrue old) where
  abbrev Next : List Event
  Next = old.events ++ e ∷ []

  before_it : (more : List Event) → All (IsTrueTick (Next ++ more)) old.answers
  before_it more =
      subst (λ (es : List Event). All (IsTrueTick es) old.answers) (sym (append_assoc old.events (e ∷ []) more)) (h.are_true (e ∷ more))

  answer_more : (a : Answered) → IsAnsweredLast Next a → StandsTrue (one_more old e (Some a))
  answer_more a given =
      let line : a.tick.line ≡ 1 + length old.events = given.last ∙ length_one_more old.events e in
      record {
        ticks = last_tick 1 old.events e
            ∙ ap (λ (m : Option ℕ). ticks_of old.events ++ tick_at (1 + length old.events) m) (answered_is_tick old.events e a given)
            ∙ ap (λ (t : Tick). ticks_of old.events ++ t ∷ []) (same_tick a.tick (1 + length old.events) a.tick.time line refl)
            ∙ ap (λ (ts : List Tick). ts ++ a.tick ∷ []) h.ticks
            ∙ sym (map-append tick_of old.answers (a ∷ []));
        are_true = λ more. All-push (IsTrueTick (Next ++ more)) old.answers a (before_it more) (true_now Next more a given);
      }

  none_more : GivesAnswer Next None → StandsTrue (one_more old e None)
  none_more given =
      let same : old.answers ≡ old.answers ++ [] = sym (append-nil old.answers) in
      record {
        ticks = last_tick 1 old.events e
            ∙ ap (λ (m : Option ℕ). ticks_of old.events ++ tick_at (1 + length old.events) m) (unanswered_is_none old.events e given)
            ∙ append-nil (ticks_of old.events) ∙ h.ticks ∙ ap (λ (xs : List Answered). map tick_of xs) same;
        are_true = λ more. subst (λ (xs : List Answered). All (IsTrueTick (Next ++ more)) xs) same (before_it more);
      }

  said_more : (said : Option Answered) → GivesAnswer Next said → StandsTrue (one_more old e said)
  said_more (Some a) given = answer_more a given
  said_more None given = none_more given

  step_true : (new : TickStand Answered) → TakesEvent replay_rules old e new → StandsTrue new × (new.events ≡ Next)
  step_true new (said, given, is) =
      (subst StandsTrue (sym is) (said_more said given.0), ap (λ (s : TickStand Answered). s.events) is)

-- a run over events
along_true : (events : List Event) (old new : TickStand Answered) → Along (TakesEvent replay_rules) old events new → StandsTrue old
    → StandsTrue new × (new.events ≡ old.events ++ events)
along_true [] old new h stands =
    (subst StandsTrue (sym h) stands, ap (λ (s : TickStand Answered). s.events) h ∙ sym (append-nil old.events))
along_true (e ∷ events) old new (next, step, h) stands =
    let one = step_true old e stands next step in
    let more = along_true events next new h one.0 in
    (more.0, more.1 ∙ ap (λ (es : List Event). es ++ events) one.1 ∙ append_assoc old.events (e ∷ []) events)

none_true : StandsTrue no_events
none_true = record { ticks = refl; are_true = λ more. All-nil (IsTrueTick more) }

from_start : (events : List Event) (stand : TickStand Answered) → Along (TakesEvent replay_rules) no_events events stand
    → StandsTrue stand × (stand.events ≡ events)
from_start events stand h = along_true events no_events stand h none_true

-- ---- a run

module _ (feed : Reading) (exit : Exit) (out certs : Text) where
  cut_true : is_cut exit ≡ true → CutsTicks replay_rules feed exit out certs → ReplaysTruly feed exit out certs
  cut_true cut h =
      let gives = h.parts.gives in
      let stand = gives.stand in
      let stands = (from_start stand.events stand gives.steps).0 in
      let later = ticks_from (1 + length stand.events) gives.rest in
      record {
        answers = stand.answers;
        later = later;
        in_order = ap (λ (es : List Event). ticks_of es) gives.are_first ∙ ticks_more 1 stand.events gives.rest
            ∙ ap (λ (ts : List Tick). ts ++ later) stands.ticks;
        are_true = subst (λ (es : List Event). All (IsTrueTick es) stand.answers) (sym gives.are_first) (stands.are_true gives.rest);
        last = gives.last;
        last_is = last_either gives.last (counts_text replay_rules stand.answers) gives.last_is;
        begins = (h.parts.out_more, sym gives.out_is);
        certs_begin = (h.parts.certs_more, sym gives.certs_are);
        on_file = h.parts.whole;
        done = λ done. absurd (cut_not_done exit cut done);
      }

  last_of : (bad : Option BadLine) (text : Text) → (unless_bad bad text ≡ []) ⊎ (unless_bad bad text ≡ text)
  last_of None text = inr refl
  last_of (Some bad) text = inl refl

  -- a run that is done has a feed with no bad line
  none_bad : (bad : Option BadLine) → EndsTicks bad exit → exit ≡ Done → bad ≡ None
  none_bad None ends done = refl
  none_bad (Some bad) (why, is, cause) done =
      let differ : BadFeed bad.line why ≡ Done = sym is ∙ done in
      let no : ⊥ = cc in
      absurd no

  ended_true : RunsTicks replay_rules feed exit out certs → ReplaysTruly feed exit out certs
  ended_true h =
      let answers = h.stand.answers in
      let way = from_start feed.events h.stand h.steps in
      let counts = counts_text replay_rules answers in
      record {
        answers = answers;
        later = [];
        in_order = ap (λ (es : List Event). ticks_of es) (sym way.1) ∙ way.0.ticks ∙ sym (append-nil (map tick_of answers));
        are_true = subst (λ (es : List Event). All (IsTrueTick es) answers) (append-nil h.stand.events ∙ way.1) (way.0.are_true []);
        last = unless_bad feed.bad counts;
        last_is = last_of feed.bad counts;
        begins = ([], sym h.out_is ∙ sym (append-nil out));
        certs_begin = ([], sym h.certs_are ∙ sym (append-nil certs));
        on_file = λ before a after is begun. (
          certificates_text replay_rules after,
          h.certs_are ∙ ap (λ (xs : List Answered). certificates_text replay_rules xs) (is ∙ sym (append_assoc before (a ∷ []) after))
              ∙ texts_more replay_rules.certificate (before ++ a ∷ []) after,
        );
        done = λ done.
            let good : feed.bad ≡ None = none_bad feed.bad h.ends done in (
              good,
              refl,
              h.certs_are,
              h.out_is ∙ ap (λ (bad : Option BadLine). lines_text replay_rules answers ++ unless_bad bad counts) good,
            );
      }

  replay_by : (cut : Bool) → is_cut exit ≡ cut → RunsTicksIf replay_rules feed exit out certs cut → ReplaysTruly feed exit out certs
  replay_by true cut h = cut_true cut h
  replay_by false cut h = ended_true h

  -- what a run of `replay` sends is true
  pub replays_truly : RunsTicksIf replay_rules feed exit out certs (is_cut exit) → ReplaysTruly feed exit out certs
  replays_truly h = replay_by (is_cut exit) refl h
