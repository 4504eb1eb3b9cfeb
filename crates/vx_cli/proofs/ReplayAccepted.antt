-- `check` says yes to each certificate that `replay` wrote.
use Rattle.std.proofs.Common.{◌≡◌, ◌∙◌, sym, ap, subst, refl, ℕ, ℤ, ◌+◌, ◌≤◌, Bool, false, List, [], ◌∷◌, ◌++◌, length, take, Option, Some, None, Ok, arith, append_assoc, append-nil}
use Rattle.std.specs.Prelude.{nat_le, nat_lt, codes}
use Rattle.std.specs.List.{All}
use Rattle.std.specs.Option.{option_map_or, option_to_list}
use Rattle.std.proofs.Math.Seq.{take-append_seam}
use Rattle.std.proofs.lemmas.Bool.Decides.{nat_tests}
use Rattle.std.proofs.lemmas.List.{length-append}
use Rattle.std.proofs.lemmas.List.Sums.{sum_by-cons}
use Rattle.std.proofs.lemmas.List.Elements.{All-nil, All-cons, All-append}
use Rattle.vx_lines.specs.TextLines.{at_end, at_most, ended, lines_of, text_of}
use Rattle.vx_lines.specs.Cut.{IsLine}
use Rattle.vx_lines.proofs.CutLemmas.{cut_is_lines}
use Rattle.vx_lines.proofs.MostLemmas.{at_most_all}
use Rattle.vx_clock.specs.Clock.{clock_text}
use Rattle.vx_clock.specs.declared.limits.TheConstants.{INDEX_DAYS, INDEX_WINDOW}
use Rattle.vx_feed.specs.declared.events.Event.{Event}
use Rattle.vx_feed.specs.Feed.{BadLine, Reading, reading_of}
use Rattle.vx_cert.specs.declared.certificate.CertBody.{CertBody}
use Rattle.vx_cert.specs.declared.certificate.CertBody.TheVariants.{K0, Single, Index, Soq}
use Rattle.vx_cert.specs.declared.certificate.Certificate.{Certificate}
use Rattle.vx_cert.specs.declared.limits.TheConstants.{WRITTEN_LEN_MAX}
use Rattle.vx_cert.specs.Written.{certificate_line}
use Rattle.vx_claims.specs.Answers.{PublishesTick, StatesIndex}
use Rattle.vx_reading.specs.FeedReading.{is_met}
use Rattle.vx_drivers.specs.declared.exit.Exit.TheVariants.{Done}
use Rattle.vx_drivers.specs.declared.limits.TheConstants.{CERT_LINES_MAX, CERT_LINE_LEN_MAX}
use Rattle.vx_drivers.specs.Along.{Along}
use Rattle.vx_drivers.specs.Answers.{Answer, said_yes, answers_text, count_no, count_yes, end_line, end_text}
use Rattle.vx_drivers.specs.CertificateRun.{Answers, AnswersCertificate, Stand, certificates_of, start}
use Rattle.vx_drivers.specs.TickRun.{EndsTicks, TakesEvent, TickStand, certificates_text, no_events, one_more, published_count}
use Rattle.vx_replay.specs.declared.answer.TickAnswer.{TickAnswer}
use Rattle.vx_replay.specs.declared.answer.TickAnswer.TheVariants.{Published, UndecidedCents, UndecidedForward, Refused}
use Rattle.vx_replay.specs.Lawful.{IsLawfulAnswer}
use Rattle.vx_cli.specs.Accepted.{ReplayIsAccepted, all_yes_text, yes_to, yes_to_each}
use Rattle.vx_cli.specs.CheckRuns.{IsAnswerTo, check_rules, stated_text, yes_words}
use Rattle.vx_drivers.specs.Sending.{Text}
use Rattle.vx_cli.specs.OutputLines.{cents_text}
use Rattle.vx_cli.specs.ReadBack.{CertificateIsRead, IsReadFromLine}
use Rattle.vx_cli.specs.ReplayRuns.{GivesWritten, replay_rules, tally_of_answer}
use Rattle.vx_cli.specs.ReplayText.{Answered, certified_text}
use Rattle.vx_drivers.proofs.AlongLemmas.{along_more}
use Rattle.vx_cli.proofs.CheckIsOne.{just_checks}
use Rattle.vx_cli.proofs.PublishedMeans.{published_means}

-- ---- the lines of the certificates

-- the line of an answer's certificate, where it has one
abbrev line_to : TickAnswer → List (List ℕ)
line_to (Published cents lo hi certificate) = certificate_line certificate ∷ []
line_to _ = []

-- those of some answers, in their order
abbrev line_to_each : List Answered → List (List ℕ)
line_to_each [] = []
line_to_each (a ∷ answers) = line_to a.answer ++ line_to_each answers

lines_join : (some more : List Answered) → line_to_each (some ++ more) ≡ line_to_each some ++ line_to_each more
lines_join [] more = refl
lines_join (a ∷ some) more =
    ap (λ lines. line_to a.answer ++ lines) (lines_join some more) ∙ sym (append_assoc (line_to a.answer) (line_to_each some) (line_to_each more))

yes_join : (some more : List Answered) → yes_to_each (some ++ more) ≡ yes_to_each some ++ yes_to_each more
yes_join [] more = refl
yes_join (a ∷ some) more =
    ap (λ said. yes_to a.tick.time a.answer ++ said) (yes_join some more)
    ∙ sym (append_assoc (yes_to a.tick.time a.answer) (yes_to_each some) (yes_to_each more))

-- the file of certificates is the text of these lines
text_with : (answer : TickAnswer) (rest : Text) (lines : List (List ℕ)) → rest ≡ text_of lines → certified_text answer ++ rest ≡ text_of (line_to answer ++ lines)
text_with (Published cents lo hi c) rest lines is = append_assoc (certificate_line c) (10 ∷ []) rest ∙ ap (λ t. certificate_line c ++ 10 ∷ t) is
text_with (UndecidedCents lo hi) rest lines is = is
text_with (UndecidedForward which strike lo hi) rest lines is = is
text_with (Refused reason which) rest lines is = is

text_is : (answers : List Answered) → certificates_text replay_rules answers ≡ text_of (line_to_each answers)
text_is [] = refl
text_is (a ∷ answers) = text_with a.answer (certificates_text replay_rules answers) (line_to_each answers) (text_is answers)

-- ---- how many they are

abbrev published_one : TickAnswer → ℕ
published_one answer = (tally_of_answer answer).published

published_more : (a : Answered) (answers : List Answered) → published_count replay_rules (a ∷ answers) ≡ published_one a.answer + published_count replay_rules answers
published_more a answers = sum_by-cons (λ (b : Answered). published_one b.answer) a answers

lines_with : (answer : TickAnswer) (lines : List (List ℕ)) → length (line_to answer ++ lines) ≡ published_one answer + length lines
lines_with (Published cents lo hi c) lines = omega arith
lines_with (UndecidedCents lo hi) lines = omega arith
lines_with (UndecidedForward which strike lo hi) lines = omega arith
lines_with (Refused reason which) lines = omega arith

-- as many lines as figures
lines_count : (answers : List Answered) → length (line_to_each answers) ≡ published_count replay_rules answers
lines_count [] = refl
lines_count (a ∷ answers) =
    lines_with a.answer (line_to_each answers) ∙ ap (λ n. published_one a.answer + n) (lines_count answers) ∙ sym (published_more a answers)

-- some answers are all yes, and so many
record AreYes (answers : List Answer) (n : ℕ) : Type 0 where
  many : length answers ≡ n
  agreed : count_yes answers ≡ n
  refused : count_no answers ≡ 0

none_more : (answers : List Answer) (n : ℕ) → AreYes answers n → AreYes answers (0 + n)
none_more answers n h = record { many = omega (arith, h.many); agreed = omega (arith, h.agreed); refused = h.refused }

yes_with : (time : ℕ) (answer : TickAnswer) (answers : List Answer) (n : ℕ) → AreYes answers n → AreYes (yes_to time answer ++ answers) (published_one answer + n)
yes_with time (Published cents lo hi c) answers n h =
    record { many = omega (arith, h.many); agreed = omega (arith, h.agreed); refused = omega (arith, h.refused) }
yes_with time (UndecidedCents lo hi) answers n h = none_more answers n h
yes_with time (UndecidedForward which strike lo hi) answers n h = none_more answers n h
yes_with time (Refused reason which) answers n h = none_more answers n h

are_yes : (answers : List Answered) → AreYes (yes_to_each answers) (published_count replay_rules answers)
are_yes [] = record { many = refl; agreed = refl; refused = refl }
are_yes (a ∷ answers) =
    subst (AreYes (yes_to_each (a ∷ answers))) (sym (published_more a answers))
    (yes_with a.tick.time a.answer (yes_to_each answers) (published_count replay_rules answers) (are_yes answers))

end_of_yes : (answers : List Answer) (n : ℕ) → AreYes answers n → end_line n n 0 ≡ end_text answers
end_of_yes answers n h =
    sym (ap (λ k. end_line k (count_yes answers) (count_no answers)) h.many ∙ ap (λ k. end_line n k (count_no answers)) h.agreed ∙ ap (λ k. end_line n n k) h.refused)

-- ---- one certificate

-- the yes to a published figure has the words of its certificate
states_text : (body : CertBody) (days cents : ℕ) (lo hi : ℤ) → StatesIndex body days cents lo hi → stated_text body ≡ cents_text cents
states_text (K0 x pair k0) days cents lo hi h = absurd h
states_text (Single term figure) days cents lo hi h = absurd h
states_text (Soq term figure) days cents lo hi h = absurd h
states_text (Index stated near next figure) days cents lo hi (days_are, states) = ap cents_text states.cents_are

abbrev Publishes : List Event → ℕ → ℕ → ℕ → ℤ → ℤ → Certificate → Type 0
Publishes events line time cents lo hi c = PublishesTick events line time INDEX_DAYS INDEX_WINDOW cents lo hi c

abbrev figure_words : ℕ → ℕ → Text
figure_words time cents = clock_text time ++ codes "," ++ cents_text cents

words_are : (events : List Event) (line time cents : ℕ) (lo hi : ℤ) (c : Certificate) → Publishes events line time cents lo hi c
    → figure_words time cents ≡ yes_words c
words_are events line time cents lo hi c h =
    sym (ap (λ t. clock_text t ++ codes "," ++ stated_text c.body) h.names_line.time_is
    ∙ ap (λ t. clock_text time ++ codes "," ++ t) (states_text c.body INDEX_DAYS cents lo hi h.states))

published_verdict : (events : List Event) (line time cents : ℕ) (lo hi : ℤ) (c : Certificate) → Publishes events line time cents lo hi c
    → IsAnswerTo events c (said_yes (figure_words time cents))
published_verdict events line time cents lo hi c h =
    (h.accepted, published_means events line time cents lo hi c h, words_are events line time cents lo hi c h)

-- ---- the run over the certificates

-- a feed without a bad line meets none
pub not_met : (number : ℕ) (feed : Reading) → feed.bad ≡ None → is_met number feed ≡ false
not_met number feed none = ap (λ bad. option_map_or (λ (b : BadLine). nat_le b.line number) bad false) none

-- over a feed, the lines are answered so, and no more of the feed is reached than these events
record IsAnswered (feed : Reading) (events : List Event) (lines : List (List ℕ)) (answers : List Answer) : Type 0 where
  reached : ℕ
  within : reached ≤ length events
  are_lines : All (IsLine CERT_LINE_LEN_MAX) lines
  steps : Along (Answers check_rules feed) start lines (record { answers = answers; reached = reached })

abbrev IsAccepted : Reading → TickStand Answered → Type 0
IsAccepted feed stand = IsAnswered feed stand.events (line_to_each stand.answers) (yes_to_each stand.answers)

-- a line that is short enough to be written is short enough to be read
pub readable : (line : List ℕ) → IsLine WRITTEN_LEN_MAX line → IsLine CERT_LINE_LEN_MAX line
readable line h = record { fits = omega (arith, h.fits); no_lf = h.no_lf }

-- one certificate more is answered with yes
module _ (feed : Reading) (none : feed.bad ≡ None) (before : List Event) (e : Event) (rest : List Event)
    (follows : feed.events ≡ (before ++ e ∷ []) ++ rest) where
  abbrev upto : List Event
  upto = before ++ e ∷ []

  accepts : (line time cents : ℕ) (lo hi : ℤ) (c : Certificate) → line ≡ length upto → Publishes upto line time cents lo hi c → IsReadFromLine c
      → (lines : List (List ℕ)) (answers : List Answer) → IsAnswered feed before lines answers
      → IsAnswered feed upto (lines ++ certificate_line c ∷ []) (answers ++ said_yes (figure_words time cents) ∷ [])
  accepts line time cents lo hi c last h back lines answers old =
      let named : c.line ≡ length upto = h.names_line.line_is ∙ last in
      let longer : length upto ≡ length before + 1 = length-append before (e ∷ []) in
      let in_order : nat_lt c.line old.reached ≡ false = grind (arith, nat_tests, old.within, named, longer) in
      let stand : Stand = record { answers = answers; reached = old.reached } in
      let words = figure_words time cents in
      let events_are : take c.line feed.events ≡ upto = ap (λ (n : ℕ). take n feed.events) named ∙ ap (λ (es : List Event). take (length upto) es) follows ∙ take-append_seam upto rest in
      let verdict : IsAnswerTo (take c.line feed.events) c (said_yes words) =
      subst (λ (es : List Event). IsAnswerTo es c (said_yes words)) (sym events_are) (published_verdict upto line time cents lo hi c h) in
      let new : Stand = record { answers = answers ++ said_yes words ∷ []; reached = c.line } in
      let answered_so : AnswersCertificate check_rules feed stand c false new = (not_met c.line feed none, said_yes words, verdict, refl) in
      let step : Answers check_rules feed stand (certificate_line c) new =
      (Ok c, back.reads, subst (λ (b : Bool). AnswersCertificate check_rules feed stand c b new) (sym in_order) answered_so) in
      record {
        reached = c.line;
        within = omega (arith, named);
        are_lines = All-append (IsLine CERT_LINE_LEN_MAX) lines (certificate_line c ∷ []) old.are_lines
            (All-cons (IsLine CERT_LINE_LEN_MAX) (certificate_line c) [] (readable (certificate_line c) back.is_line) (All-nil (IsLine CERT_LINE_LEN_MAX)));
        steps = along_more (Answers check_rules feed) start lines (certificate_line c) stand new old.steps step;
      }

  -- nothing is written, and nothing to be answered
  passes : (lines : List (List ℕ)) (answers : List Answer) → IsAnswered feed before lines answers → IsAnswered feed upto (lines ++ []) (answers ++ [])
  passes lines answers old =
      let longer : length upto ≡ length before + 1 = length-append before (e ∷ []) in
      subst (λ (ls : List (List ℕ)). IsAnswered feed upto ls (answers ++ [])) (sym (append-nil lines))
      (subst (λ (said : List Answer). IsAnswered feed upto lines said) (sym (append-nil answers)) (record {
        reached = old.reached;
        within = omega (arith, old.within, longer);
        are_lines = old.are_lines;
        steps = old.steps;
      }))

  one_answer : (line time : ℕ) (answer : TickAnswer) → line ≡ length upto → IsLawfulAnswer INDEX_DAYS INDEX_WINDOW upto line time answer → CertificateIsRead answer
      → (lines : List (List ℕ)) (answers : List Answer) → IsAnswered feed before lines answers
      → IsAnswered feed upto (lines ++ (line_to answer ++ [])) (answers ++ (yes_to time answer ++ []))
  one_answer line time (Published cents lo hi c) last h back lines answers old = accepts line time cents lo hi c last h back lines answers old
  one_answer line time (UndecidedCents lo hi) last h back lines answers old = passes lines answers old
  one_answer line time (UndecidedForward which strike lo hi) last h back lines answers old = passes lines answers old
  one_answer line time (Refused reason which) last h back lines answers old = passes lines answers old

  one_event : (said : Option Answered) → GivesWritten upto said → (answers : List Answered)
      → IsAccepted feed (record { events = before; answers = answers })
      → IsAnswered feed upto (line_to_each answers ++ line_to_each (option_to_list said)) (yes_to_each answers ++ yes_to_each (option_to_list said))
  one_event None given answers old = passes (line_to_each answers) (yes_to_each answers) old
  one_event (Some a) (given, back) answers old =
      one_answer a.tick.line a.tick.time a.answer given.last given.is_lawful back (line_to_each answers) (yes_to_each answers) old

  next_event : (said : Option Answered) → GivesWritten upto said → (answers : List Answered)
      → IsAccepted feed (record { events = before; answers = answers })
      → IsAccepted feed (record { events = upto; answers = answers ++ option_to_list said })
  next_event said given answers old =
      subst (λ (ls : List (List ℕ)). IsAnswered feed upto ls (yes_to_each (answers ++ option_to_list said))) (sym (lines_join answers (option_to_list said)))
      (subst (λ (given_so : List Answer). IsAnswered feed upto (line_to_each answers ++ line_to_each (option_to_list said)) given_so) (sym (yes_join answers (option_to_list said)))
      (one_event said given answers old))

-- all of them are answered with yes, one after another
all_events : (feed : Reading) → feed.bad ≡ None → (events : List Event) (stand last : TickStand Answered) → feed.events ≡ stand.events ++ events
    → Along (TakesEvent replay_rules) stand events last → IsAccepted feed stand → IsAccepted feed last
all_events feed none [] stand last is same old = subst (IsAccepted feed) (sym same) old
all_events feed none (e ∷ events) stand last is (next, (said, given, next_is), more) old =
    let follows : feed.events ≡ (stand.events ++ e ∷ []) ++ events = is ∙ sym (append_assoc stand.events (e ∷ []) events) in
    let now : IsAccepted feed (one_more stand e said) = next_event feed none stand.events e events follows said given stand.answers old in
    let from : Along (TakesEvent replay_rules) (one_more stand e said) events last =
    subst (λ (s : TickStand Answered). Along (TakesEvent replay_rules) s events last) next_is more in
    all_events feed none events (one_more stand e said) last follows from now

-- ---- the whole

none_bad : (bad : Option BadLine) → EndsTicks bad Done → bad ≡ None
none_bad None h = refl
none_bad (Some b) (why, is, has) = absurd (let no : ⊥ = cc in no)

pub replay_is_accepted : ReplayIsAccepted
replay_is_accepted feed out certs run few =
    let answers = run.stand.answers in
    let reading : Reading = reading_of feed in
    let none : reading.bad ≡ None = none_bad reading.bad run.ends in
    let begun : IsAccepted reading no_events = record { reached = 0; within = omega arith; are_lines = All-nil (IsLine CERT_LINE_LEN_MAX); steps = refl } in
    let all : IsAccepted reading run.stand = all_events reading none reading.events no_events run.stand refl run.steps begun in
    let all_yes = are_yes answers in
    let cut : lines_of CERT_LINE_LEN_MAX certs ≡ record { lines = line_to_each answers; ending = at_end } =
    cut_is_lines CERT_LINE_LEN_MAX certs (record { lines = line_to_each answers; ending = at_end }) (record {
      rest = [];
      whole = run.certs_are ∙ text_is answers ∙ sym (append-nil (text_of (line_to_each answers)));
      lines = all.are_lines;
      ends = refl;
    }) in
    let as_many = lines_count answers in
    let fits : length (line_to_each answers) ≤ CERT_LINES_MAX = omega (arith, as_many, few) in
    let lines_are : certificates_of certs ≡ record { lines = line_to_each answers; ending = at_end } =
    ap (at_most CERT_LINES_MAX) cut ∙ at_most_all CERT_LINES_MAX (record { lines = line_to_each answers; ending = at_end }) fits in
    just_checks feed certs (all_yes_text answers) (record {
      stand = record { answers = yes_to_each answers; reached = all.reached };
      rest = ended at_end;
      before = record {
        lines = line_to_each answers;
        are_first = lines_are ∙ ap (λ (ls : List (List ℕ)). record { lines = ls; ending = at_end }) (sym (append-nil (line_to_each answers)));
        steps = all.steps;
      };
      ends = (record { no_line = refl; no_bad = none }, all_yes.refused);
      text_is = ap (λ (t : Text). answers_text (yes_to_each answers) ++ t) (end_of_yes (yes_to_each answers) (published_count replay_rules answers) all_yes);
    })
