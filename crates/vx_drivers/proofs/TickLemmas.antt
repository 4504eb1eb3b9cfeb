-- One event of a run that answers ticks.
use Rattle.std.proofs.Common.{◌≡◌, ◌∙◌, sym, ap, subst, refl, ℕ, ◌+◌, ◌*◌, ◌≤◌, inr, List, [], ◌∷◌, ◌++◌, length, map, Option, Some, None, arith, Result, Ok, Err}
use Rattle.std.specs.List.{concat, sum_by}
use Rattle.std.proofs.lemmas.List.{append-nil, length_push, map-append}
use Rattle.std.proofs.lemmas.List.Folds.{concat-append}
use Rattle.std.proofs.lemmas.List.Sums.{sum_by-append}
use Rattle.vx_desk.specs.declared.device.Slot.{Slot}
use Rattle.vx_desk.specs.declared.device.Slot.TheVariants.{Feed, Out, Certs}
use Rattle.vx_desk.specs.Told.{Told}
use Rattle.vx_feed.specs.declared.events.Event.{Event}
use Rattle.vx_feed.specs.Feed.{Reading}
use Rattle.vx_feed.specs.declared.limits.TheConstants.{LINES_MAX}
use Rattle.vx_reading.specs.declared.feed.FeedReader.{FeedReader}
use Rattle.vx_reading.specs.declared.stop.FeedStop.{FeedStop}
use Rattle.vx_reading.specs.declared.stop.FeedStop.TheVariants as stop
use Rattle.vx_reading.specs.FeedReading.{IsAt, ReadsNext}
use Rattle.vx_reading.proofs.FeedLemmas.{at_kept}
use Rattle.vx_drivers.specs.declared.exit.Exit.{Exit}
use Rattle.vx_drivers.specs.declared.tick_run.TickRun.{TickRun}
use Rattle.vx_drivers.specs.declared.ticks.Tally.{Tally}
use Rattle.vx_drivers.specs.Along.{Along}
use Rattle.vx_drivers.specs.Exits.{exit_of_stop}
use Rattle.vx_drivers.specs.Sending.{Sent, Text}
use Rattle.vx_drivers.specs.TickExits.{IsTickExit}
use Rattle.vx_drivers.specs.TickRun.{TickRules, TickStand, TakesEvent, counts_line, counts_text, no_events, one_more, published_count, refused_count, undecided_count}
use Rattle.vx_drivers.specs.TickSteps.{AnswersEvent, GivesTexts, HasCountedTicks, IsWrittenAs, IsAtEvent, SendsBoth, SendsTick, TALLY_MAX, answers_counted}
use Rattle.vx_drivers.proofs.AlongLemmas.{along_more}
use Rattle.vx_drivers.proofs.SendingLemmas.{sent_none}

-- ---- texts and counts of answers

-- the texts of answers, and then of more
pub texts_more : {A : Type 0} (f : A → Text) (xs ys : List A)
    → concat (map f (xs ++ ys)) ≡ concat (map f xs) ++ concat (map f ys)
texts_more f xs ys = ap concat (map-append f xs ys) ∙ concat-append (map f xs) (map f ys)

-- and then of one more
pub text_last : {A : Type 0} (f : A → Text) (xs : List A) (a : A) → concat (map f (xs ++ a ∷ [])) ≡ concat (map f xs) ++ f a
text_last f xs a = texts_more f xs (a ∷ []) ∙ ap (λ t. concat (map f xs) ++ t) (append-nil (f a))

count_none : {A : Type 0} (f : A → ℕ) (xs : List A) → sum_by f (xs ++ []) ≡ sum_by f xs
count_none f xs = ap (sum_by f) (append-nil xs)

sum_of_one_more : {A : Type 0} (f : A → ℕ) (xs : List A) (a : A) → sum_by f (xs ++ a ∷ []) ≡ sum_by f xs + f a
sum_of_one_more f xs a = sum_by-append f xs (a ∷ []) ∙ ap (λ n. sum_by f xs + n) (let only : 0 + f a ≡ f a = omega arith in only)

-- ---- a run between events

pub few_read : {T : Type 0} (StandsFor : T → List Event → Type 0) (held : Option (List ℕ)) (feed : Option Reading) (events : List Event)
    (reader : FeedReader T) (told : Slot → Told) → IsAt StandsFor held feed events reader told → reader.count ≤ LINES_MAX
few_read StandsFor held feed events reader told at =
    let count : reader.count ≡ length events = at.taken_up.count in
    let few : length events ≤ LINES_MAX = at.taken_up.few in
    omega (arith, count, few)

-- one event more is read
pub one_read : {T : Type 0} (StandsFor : T → List Event → Type 0) (held : Option (List ℕ)) (feed : Option Reading) (events : List Event)
    (event : Event) (old new : FeedReader T) (before after : Slot → Told)
    → IsAt StandsFor held feed events old before → IsAt StandsFor held feed (events ++ event ∷ []) new after
    → new.count ≡ old.count + 1
one_read StandsFor held feed events event old new before after at more =
    let count : old.count ≡ length events = at.taken_up.count in
    let next : new.count ≡ length (events ++ event ∷ []) = more.taken_up.count in
    let size = length_push events event in
    omega (arith, count, next, size)

-- a feed that is not read on ends the run with an exit of such runs
pub stop_exit : {T : Type 0} (StandsFor : T → List Event → Type 0) (held : Option (List ℕ)) (feed : Option Reading)
    (events : List Event) (reader : FeedReader T) (told : Slot → Told) (why : FeedStop)
    → ReadsNext StandsFor held feed events reader told (Err why) → IsTickExit (exit_of_stop why)
stop_exit StandsFor held feed events reader told (stop.BadLine number why) (numbered, is_cause, says) = is_cause
stop_exit StandsFor held feed events reader told stop.Device reads = tt
stop_exit StandsFor held feed events reader told stop.NoMemory reads = tt

-- the counts stay those of the answers
pub counted_same : {A T : Type 0} (rules : TickRules A) (stand : TickStand A) (old run : TickRun T)
    → run.published ≡ old.published → run.undecided ≡ old.undecided → run.refused ≡ old.refused
    → HasCountedTicks rules stand old → HasCountedTicks rules stand run
counted_same rules stand old run p u r h =
    let few : answers_counted old ≤ length stand.events * TALLY_MAX = h.few in
    record {
      published = p ∙ h.published;
      undecided = u ∙ h.undecided;
      refused = r
          ∙ h.refused;
      few = omega (arith, few, p, u, r);
    }

-- the counts of a run make its last line
pub counts_are : {A T : Type 0} (rules : TickRules A) (stand : TickStand A) (run : TickRun T) → HasCountedTicks rules stand run
    → counts_line run.published run.undecided run.refused ≡ counts_text rules stand.answers
counts_are rules stand run h =
    ap (λ n. counts_line n run.undecided run.refused) h.published
    ∙ ap (λ n. counts_line (published_count rules stand.answers) n run.refused) h.undecided
    ∙ ap (λ n. counts_line (published_count rules stand.answers) (undecided_count rules stand.answers) n) h.refused

-- ---- what is given to an event

pub steps_more : {A : Type 0} (rules : TickRules A) (stand : TickStand A) (event : Event) (said : Option A)
    → Along (TakesEvent rules) no_events stand.events stand → rules.IsGiven (stand.events ++ event ∷ []) said
    → Along (TakesEvent rules) no_events (stand.events ++ event ∷ []) (one_more stand event said)
steps_more rules stand event said h gives =
    along_more (TakesEvent rules) no_events stand.events event stand (one_more stand event said) h (said, gives, refl)

module _ {A T : Type 0} (rules : TickRules A) (StandsFor : T → List Event → Type 0) (held : Option (List ℕ)) (feed : Option Reading)
    (stand : TickStand A) (event : Event) where
  counted_none : (old run : TickRun T) → run.published ≡ old.published → run.undecided ≡ old.undecided
      → run.refused ≡ old.refused
      → HasCountedTicks rules stand old → HasCountedTicks rules (one_more stand event None) run
  counted_none old run p u r h =
      let size = length_push stand.events event in
      let few : answers_counted old ≤ length stand.events * TALLY_MAX = h.few in
      record {
        published = p ∙ h.published ∙ sym (count_none (λ a. (rules.tally a).published) stand.answers);
        undecided = u ∙ h.undecided ∙ sym (count_none (λ a. (rules.tally a).undecided) stand.answers);
        refused = r ∙ h.refused ∙ sym (count_none (λ a. (rules.tally a).refused) stand.answers);
        few = omega (arith, size, few, p, u, r);
      }

  counted_one : (old run : TickRun T) (answer : A) (tally : Tally) → tally ≡ rules.tally answer
      → run.published ≡ old.published + tally.published → run.undecided ≡ old.undecided + tally.undecided
      → run.refused ≡ old.refused + tally.refused
      → answers_counted run ≤ answers_counted old + TALLY_MAX
      → HasCountedTicks rules stand old → HasCountedTicks rules (one_more stand event (Some answer)) run
  counted_one old run answer tally is p u r more h =
      let size = length_push stand.events event in
      let few : answers_counted old ≤ length stand.events * TALLY_MAX = h.few in
      record {
        published = p ∙ ap (λ n. n + tally.published) h.published
            ∙ ap (λ (t : Tally). published_count rules stand.answers + t.published) is
            ∙ sym (sum_of_one_more (λ a. (rules.tally a).published) stand.answers answer);
        undecided = u ∙ ap (λ n. n + tally.undecided) h.undecided
            ∙ ap (λ (t : Tally). undecided_count rules stand.answers + t.undecided) is
            ∙ sym (sum_of_one_more (λ a. (rules.tally a).undecided) stand.answers answer);
        refused = r ∙ ap (λ n. n + tally.refused) h.refused
            ∙ ap (λ (t : Tally). refused_count rules stand.answers + t.refused) is
            ∙ sym (sum_of_one_more (λ a. (rules.tally a).refused) stand.answers answer);
        few = omega (arith, size, few, more);
      }

  -- the event is no tick
  pub no_tick : (old run : TickRun T) (told : Slot → Told) → IsAtEvent rules StandsFor held feed stand event old told
      → run.feed ≡ old.feed
      → run.published ≡ old.published → run.undecided ≡ old.undecided → run.refused ≡ old.refused
      → rules.IsGiven (stand.events ++ event ∷ []) None → SendsTick rules StandsFor held feed stand event run told told
  no_tick old run told at same p u r gives = record {
    said = None;
    between = record {
      at = subst (λ f. IsAt StandsFor held feed (stand.events ++ event ∷ []) f told) (sym same) at.at;
      steps = steps_more rules stand event None at.steps gives;
      counted = counted_none old run p u r at.counted;
    };
    certs = sent_none (told Certs) (told Certs) refl;
    out = sent_none (told Out) (told Out) refl;
  }

  both_are : (certificate line : Text) (tally : Tally) (answer : A) (before after : Slot → Told) (result : Result Unit Exit)
      → IsWrittenAs rules certificate line tally answer
      → SendsBoth certificate line before after result
      → SendsBoth (rules.certificate answer) (rules.line answer) before after result
  both_are certificate line tally answer before after result is sends =
      subst (λ t. SendsBoth t (rules.line answer) before after result) is.certificate_is
      (subst (λ t. SendsBoth certificate t before after result) is.line_is sends)

  -- its answer was sent, or a write of it failed
  pub tick_sent : (old run : TickRun T) (certificate line : Text) (tally : Tally) (before after : Slot → Told)
      (result : Result Unit Exit)
      → IsAtEvent rules StandsFor held feed stand event old before → run.feed ≡ old.feed
      → run.published ≡ old.published + tally.published → run.undecided ≡ old.undecided + tally.undecided
      → run.refused ≡ old.refused + tally.refused
      → answers_counted run ≤ answers_counted old + TALLY_MAX
      → GivesTexts rules (stand.events ++ event ∷ []) certificate line (Some tally) → after Feed ≡ before Feed
      → SendsBoth certificate line before after result
      → AnswersEvent rules StandsFor held feed stand event run before after result
  tick_sent old run certificate line tally before after (Ok u) at same p un r few (answer, gives, is) kept sends =
      let sent = both_are certificate line tally answer before after (Ok u) is sends in
      record {
        said = Some answer;
        between = record {
          at = at_kept StandsFor held feed (stand.events ++ event ∷ []) run.feed before after
              (subst (λ f. IsAt StandsFor held feed (stand.events ++ event ∷ []) f before) (sym same) at.at) kept;
          steps = steps_more rules stand event (Some answer) at.steps gives;
          counted = counted_one old run answer tally is.tally_is p un r few at.counted;
        };
        certs = subst (λ t. Sent t (before Certs) (after Certs)) (sym (append-nil (rules.certificate answer))) sent.0;
        out = subst (λ t. Sent t (before Out) (after Out)) (sym (append-nil (rules.line answer))) sent.1;
      }
  tick_sent old run certificate line tally before after (Err exit) at same p un r few (answer, gives, is) kept sends =
      inr (record {
        answer = answer;
        gives = gives;
        cut = both_are certificate line tally answer before after (Err exit)
            is sends;
      })
