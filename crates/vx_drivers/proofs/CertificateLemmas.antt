-- One line of the certificates.
use Rattle.std.proofs.Common.{◌≡◌, ◌∙◌, sym, ap, subst, refl, ℕ, ◌+◌, ◌<◌, ◌≤◌, inl, inr, Bool, true, false, List, [], ◌∷◌, ◌++◌, length, take, Option, Some, None, IfSome, arith, Result, Ok, Err, append_assoc, append-nil}
use Rattle.std.specs.Prelude.{nat_le, nat_lt, codes}
use Rattle.std.specs.Option.{option_map_or}
use Rattle.std.proofs.lemmas.Bool.Decides.{nat_tests}
use Rattle.vx_desk.specs.declared.device.Slot.{Slot}
use Rattle.vx_desk.specs.declared.device.Slot.TheVariants.{Feed, Out}
use Rattle.vx_desk.specs.Told.{Told}
use Rattle.vx_feed.specs.declared.events.Event.{Event}
use Rattle.vx_feed.specs.Feed.{BadLine, Reading}
use Rattle.vx_reading.specs.declared.feed.FeedReader.{FeedReader}
use Rattle.vx_reading.specs.declared.stop.FeedCause.{FeedCause}
use Rattle.vx_reading.specs.declared.stop.FeedStop.{FeedStop}
use Rattle.vx_reading.specs.declared.stop.FeedStop.TheVariants as stop
use Rattle.vx_reading.specs.FeedReading.{IsReadTo, NamesBad, ReadsTo, is_met}
use Rattle.vx_reading.specs.Stops.{bad_cause}
use Rattle.vx_reading.proofs.FeedLemmas.{events_read}
use Rattle.vx_drivers.specs.declared.check_run.CheckRun.{CheckRun}
use Rattle.vx_drivers.specs.declared.exit.Exit.{Exit}
use Rattle.vx_drivers.specs.declared.exit.Exit.TheVariants.{NoMemory, ReadFault}
use Rattle.vx_drivers.specs.Answers.{Answer, answers_from, answer_text, answers_text, count_no, count_yes, said_no, said_yes, one_no, one_yes}
use Rattle.vx_drivers.specs.CertificateExits.{IsCertificateExit}
use Rattle.vx_drivers.specs.CertificateRun.{Answers, AnswersCertificate, Rules, Stand, Stops, answered}
use Rattle.vx_drivers.specs.CertificateSteps.{AnswersLine, StandsBetweenLines, EndsBefore, IsCutElsewhere, next_text}
use Rattle.vx_drivers.specs.Exits.{exit_of_stop}
use Rattle.vx_drivers.specs.Sending.{Sent, SendsOr, Text}

-- ---- what a line is answered

-- a certificate in order, over a feed that was read up to the line that it names
pub judged : {C : Type 0} (rules : Rules C) (feed : Option Reading) (stand : Stand) (line : List ℕ) (c : C) (answer : Answer) (events : List Event)
    → rules.ReadsAs line (Ok c) → stand.reached ≤ rules.named c → IfSome feed (IsReadTo (rules.named c) events) → rules.Judges events c answer
    → IfSome feed (λ f. Answers rules f stand line (answered stand answer (rules.named c)))
judged rules None stand line c answer events reads in_order read judges = tt
judged rules (Some f) stand line c answer events reads in_order read judges =
    let later : nat_lt (rules.named c) stand.reached ≡ false = grind (arith, nat_tests) in (
      Ok c,
      reads,
      subst (λ (b : Bool). AnswersCertificate rules f stand c b (answered stand answer (rules.named c))) (sym later)
          (read.no_bad, answer, subst (λ (es : List Event). rules.Judges es c answer) read.events_are judges, refl),
    )

-- a certificate that comes out of order
pub out_of_order : {C : Type 0} (rules : Rules C) (feed : Option Reading) (stand : Stand) (line : List ℕ) (c : C) (word : Text)
    → rules.ReadsAs line (Ok c) → rules.named c < stand.reached → word ≡ codes "order"
    → IfSome feed (λ f. Answers rules f stand line (answered stand (said_no word) stand.reached))
out_of_order rules None stand line c word reads earlier is = tt
out_of_order rules (Some f) stand line c word reads earlier is =
    let late : nat_lt (rules.named c) stand.reached ≡ true = grind (arith, nat_tests) in
    (Ok c, reads, subst (λ (b : Bool). AnswersCertificate rules f stand c b (answered stand (said_no word) stand.reached)) (sym late) (ap (λ w. answered stand (said_no w) stand.reached) is))

-- a line that is no certificate
pub not_read : {C : Type 0} (rules : Rules C) (feed : Option Reading) (stand : Stand) (line : List ℕ) (word : Text) → rules.ReadsAs line (Err word)
    → IfSome feed (λ f. Answers rules f stand line (answered stand (said_no word) stand.reached))
not_read rules None stand line word reads = tt
not_read rules (Some f) stand line word reads = (Err word, reads, refl)

met : (f : Reading) (number line : ℕ) (why : FeedCause) → f.bad ≡ Some (record { line = line; cause = bad_cause why }) → line ≤ number
    → is_met number f ≡ true
met f number line why is within =
    let h : nat_le line number ≡ true = grind (arith, nat_tests) in
    ap (λ (b : Option BadLine). option_map_or (λ bad. nat_le bad.line number) b false) is ∙ h

-- the feed's bad line stands at or before the line that a certificate names
bad_met : {C : Type 0} (rules : Rules C) (feed : Option Reading) (stand : Stand) (line : List ℕ) (c : C) (number : ℕ) (why : FeedCause)
    → rules.ReadsAs line (Ok c) → stand.reached ≤ rules.named c → NamesBad feed (rules.named c) number why
    → IfSome feed (λ f. Stops rules f stand line)
bad_met rules None stand line c number why reads in_order names = tt
bad_met rules (Some f) stand line c number why reads in_order names =
    let later : nat_lt (rules.named c) stand.reached ≡ false = grind (arith, nat_tests) in
    record { certificate = c; reads = reads; in_order = later; met = met f (rules.named c) number why names.is_bad names.within }

-- want of memory cuts a run off
pub out_of_memory : IsCutElsewhere NoMemory
out_of_memory = record { cut = refl; not_lines = λ e. cc }

-- so does a failed read of the feed
pub feed_failed : IsCutElsewhere (ReadFault Feed)
feed_failed = record { cut = refl; not_lines = λ e. cc }

-- the feed is not read up to the line that a certificate names
pub feed_stops : {C B : Type 0} (rules : Rules C) (StandsFor : B → List Event → Type 0) (held : Option (List ℕ)) (feed : Option Reading)
    (stand : Stand) (line : List ℕ) (c : C) (reader : FeedReader B) (told : Slot → Told) (why : FeedStop)
    → rules.ReadsAs line (Ok c) → stand.reached ≤ rules.named c → ReadsTo StandsFor held feed (rules.named c) reader told (Err why)
    → EndsBefore rules feed stand line (exit_of_stop why)
feed_stops rules StandsFor held feed stand line c reader told (stop.BadLine number why) reads in_order names =
    inr (record { number = number; why = why; exit_is = refl; bad = names.is_bad; stops = bad_met rules feed stand line c number why reads in_order names })
feed_stops rules StandsFor held feed stand line c reader told stop.Device reads in_order names = inl feed_failed
feed_stops rules StandsFor held feed stand line c reader told stop.NoMemory reads in_order names = inl out_of_memory

-- and its exit is one of such a run
pub stop_exit : {B : Type 0} (StandsFor : B → List Event → Type 0) (held : Option (List ℕ)) (feed : Option Reading) (number : ℕ)
    (reader : FeedReader B) (told : Slot → Told) (why : FeedStop)
    → ReadsTo StandsFor held feed number reader told (Err why) → IsCertificateExit (exit_of_stop why)
stop_exit StandsFor held feed number reader told (stop.BadLine line why) names = names.has_cause
stop_exit StandsFor held feed number reader told stop.Device names = tt
stop_exit StandsFor held feed number reader told stop.NoMemory names = tt

-- ---- counts and texts of answers

pub yes_more : (answers : List Answer) (answer : Answer) → count_yes (answers ++ answer ∷ []) ≡ count_yes answers + one_yes answer
yes_more [] answer = omega arith
yes_more (a ∷ answers) answer = let h = yes_more answers answer in omega (arith, h)

pub no_more : (answers : List Answer) (answer : Answer) → count_no (answers ++ answer ∷ []) ≡ count_no answers + one_no answer
no_more [] answer = omega arith
no_more (a ∷ answers) answer = let h = no_more answers answer in omega (arith, h)

one_each : (answer : Answer) → one_yes answer + one_no answer ≡ 1
one_each (said_yes words) = refl
one_each (said_no word) = refl

-- each answer is a yes or a no
pub counts_add_up : (answers : List Answer) → count_yes answers + count_no answers ≡ length answers
counts_add_up [] = refl
counts_add_up (answer ∷ answers) = let h = counts_add_up answers in let one = one_each answer in omega (arith, h, one)

answers_more : (number : ℕ) (answers : List Answer) (answer : Answer)
    → answers_from number (answers ++ answer ∷ []) ≡ answers_from number answers ++ answer_text (number + length answers) answer
answers_more number [] answer =
    let same : number ≡ number + length {A = Answer} [] = omega arith in
    append-nil (answer_text number answer) ∙ ap (λ n. answer_text n answer) same
answers_more number (a ∷ answers) answer =
    let same : number + 1 + length answers ≡ number + length (a ∷ answers) = omega arith in
    ap (λ t. answer_text number a ++ t) (answers_more (number + 1) answers answer)
    ∙ sym (append_assoc (answer_text number a) (answers_from (number + 1) answers) (answer_text (number + 1 + length answers) answer))
    ∙ ap (λ n. (answer_text number a ++ answers_from (number + 1) answers) ++ answer_text n answer) same

pub text_more : (stand : Stand) (answer : Answer) → answers_text (stand.answers ++ answer ∷ []) ≡ answers_text stand.answers ++ next_text stand answer
text_more stand answer =
    let same : 1 + length stand.answers ≡ length stand.answers + 1 = omega arith in
    answers_more 1 stand.answers answer ∙ ap (λ n. answers_text stand.answers ++ answer_text n answer) same

-- ---- the answer's line

-- the answer to a line is sent, or a first part of it
pub answer_sent : {C B : Type 0} (rules : Rules C) (StandsFor : B → List Event → Type 0) (held : Option (List ℕ)) (feed : Option Reading)
    (stand : Stand) (line : List ℕ) (answer : Answer) (reached : ℕ) (run : CheckRun B)
    (before between after : Slot → Told) (result : Result Unit Exit)
    → IfSome feed (λ f. Answers rules f stand line (answered stand answer reached))
    → StandsBetweenLines StandsFor held feed (answered stand answer reached) run after → between Out ≡ before Out
    → SendsOr Out (next_text stand answer) (between Out) (after Out) result
    → AnswersLine rules StandsFor held feed stand line run before after result
answer_sent rules StandsFor held feed stand line answer reached run before between after (Ok u) answers at same sends =
    record { answer = answer; reached = reached; answers = answers; between = at; sent = subst (λ (t : Told). Sent (next_text stand answer) t (after Out)) same sends }
answer_sent rules StandsFor held feed stand line answer reached run before between after (Err exit) answers at same sends = inr (record {
  answer = answer;
  reached = reached;
  answers = answers;
  events = at.events;
  events_read = events_read held at.events run.feed after at.at.read;
  read_to = at.read_to;
  cut = record {
    exit_is = sends.exit_is;
    part = record { count = sends.part.count; within = sends.part.within; sent = subst (λ (t : Told). Sent (take sends.part.count (next_text stand answer)) t (after Out)) same sends.part.sent };
  };
})
