-- A run that answers certificates, from its start to its end.
use Rattle.std.proofs.Common.{◌≡◌, ◌∙◌, sym, ap, subst, refl, ℕ, ◌+◌, ◌-◌, ◌<◌, ◌≤◌, inl, inr, Bool, true, false, List, [], ◌∷◌, ◌++◌, length, take, drop, Option, Some, None, IfSome, arith, Result, Ok, Err, append_assoc, append-nil}
use Rattle.std.specs.Prelude.{◌==◌, nat_le, if◌then◌else◌}
use Rattle.std.specs.Option.{option_map}
use Rattle.std.specs.List.{list_any}
use Rattle.std.specs.Io.KnownBytes.{prepend_known}
use Rattle.std.proofs.lemmas.Bool.Decides.{nat_tests}
use Rattle.std.proofs.lemmas.List.{take-append-drop}
use Rattle.vx_lines.specs.TextLines.{Ending, TextLines, at_end, at_most, ended, line_feed, line_then, lines_of, lines_then, no_eol, text_of, too_long, too_many}
use Rattle.vx_lines.proofs.LineLemmas.{lines_then-push}
use Rattle.vx_lines.proofs.MostLemmas.{at_most_ended, at_most_line, at_most_none}
use Rattle.vx_desk.specs.declared.device.Slot.{Slot}
use Rattle.vx_desk.specs.declared.device.Slot.TheVariants.{Feed, Side, Out}
use Rattle.vx_desk.specs.declared.lines.Line.{Line}
use Rattle.vx_desk.specs.declared.lines.ReadFault.{ReadFault as LineFault}
use Rattle.vx_desk.specs.declared.lines.ReadFault.TheVariants.{Device, LineTooLong, NoEol}
use Rattle.vx_desk.specs.Coming.{IsReader, TakesLine, coming}
use Rattle.vx_desk.specs.Lines.{AnswersNext, GivesLine, ReaderState, holds_line, to_come}
use Rattle.vx_desk.specs.Told.{Told}
use Rattle.vx_desk.proofs.ReaderLemmas.{prepend_known-append}
use Rattle.vx_feed.specs.declared.events.Event.{Event}
use Rattle.vx_feed.specs.declared.limits.TheConstants.{LINE_LEN_MAX}
use Rattle.vx_feed.specs.Feed as feed
use Rattle.vx_feed.specs.Feed.{BadCause, Reading, event_of_line, missing_end, reading_after, reading_at_end, reading_from, reading_of, stopped_at, with_cause}
use Rattle.vx_feed.specs.Order.{is_end}
use Rattle.vx_reading.specs.declared.stop.FeedStop.{FeedStop}
use Rattle.vx_reading.specs.declared.stop.FeedStop.TheVariants as stop
use Rattle.vx_reading.specs.declared.feed.FeedReader.{FeedReader}
use Rattle.vx_reading.specs.FeedReading.{IsReadTo, ReadsAll, TakesAll, all_good, feed_told, is_met}
use Rattle.vx_reading.specs.Stops.{bad_cause}
use Rattle.vx_reading.specs.WhatWasRead.{EventsRead, IsCutAfter, WereRead}
use Rattle.vx_blocks.proofs.FaultLemmas.{part_waits}
use Rattle.vx_reading.proofs.FeedLemmas.{at_kept, events_read, read_so_many}
use Rattle.vx_drivers.specs.declared.check_run.CheckRun.{CheckRun}
use Rattle.vx_drivers.specs.declared.exit.Exit.{Exit}
use Rattle.vx_drivers.specs.declared.exit.Exit.TheVariants.{Done, SaidNo, BadFeed, BadCerts, NoMemory, ReadFault, WriteFault}
use Rattle.vx_drivers.specs.declared.exit.LineCause.{LineCause}
use Rattle.vx_drivers.specs.declared.limits.TheConstants.{CERT_LINES_MAX, CERT_LINE_LEN_MAX}
use Rattle.vx_drivers.specs.Along.{Along}
use Rattle.vx_drivers.specs.Answers.{Answer, answers_text, count_no, count_yes, end_line, end_text}
use Rattle.vx_drivers.specs.CertificateExits.{IsCertificateExit}
use Rattle.vx_drivers.specs.CertificateRun.{AllAnswered, Answers, GivesAnswers, GivesPart, Rules, RunsBy, RunsIf, Stand, StandsBefore, Stops, StopsAt, answered, ending_for, start}
use Rattle.vx_drivers.specs.CertificateSteps.{AnswersLinesRead, CutsAnswer, EndsAtLine, EndsForFeed, HasEnded, IfBoth, IsCutElsewhere, IsNew, IsThrough, IsUnderWay, MayEnd}
use Rattle.vx_drivers.specs.CertificateSteps.{SendsAnswer, StandsBetweenLines, allowed, answered_lines, certs_told, next_text, said_exit}
use Rattle.vx_drivers.specs.Exits.{exit_of_stop, is_cut, is_write_fault}
use Rattle.vx_drivers.specs.Held.{Held, held_in}
use Rattle.vx_drivers.specs.Sending.{CutsOff, Sent, Text}
use Rattle.vx_drivers.proofs.AlongLemmas.{along_more}
use Rattle.vx_drivers.proofs.CertificateLemmas.{counts_add_up, feed_failed, out_of_memory, text_more}
use Rattle.vx_drivers.proofs.ExitLemmas.{write_cuts, write_is_fault}
use Rattle.vx_drivers.proofs.SendingLemmas.{sent_more, sent_none, sent_still}

same_Some : {A : Type 0} {a b : A} → Some a ≡ Some b → a ≡ b
same_Some h = cc

-- ---- what was read of the lines

pub nothing_waits : (left : Option (List ℕ)) → prepend_known [] left ≡ left
nothing_waits None = refl
nothing_waits (Some bytes) = refl

-- nothing was read of the feed
pub nothing_read : (now : Told) → EventsRead [] now.left now
nothing_read now = record {
  lines = [];
  were_read = record { more = []; held_is = sym (nothing_waits now.left) };
  say = record { events_are = refl; none_bad = refl };
}

-- a feed has no bad line before its first
stop_not_met : (events : List Event) (why : BadCause) → is_met 0 (stopped_at events why) ≡ false
stop_not_met events why = above (length events)
  where
    above : (n : ℕ) → nat_le (n + 1) 0 ≡ false
    above n = grind (arith, nat_tests)

end_not_met : (events : List Event) (ending : Ending) → is_met 0 (reading_at_end events ending) ≡ false
end_not_met events at_end = by (list_any is_end events)
  where
    by : (b : Bool) → is_met 0 (if b then all_good events else stopped_at events missing_end) ≡ false
    by true = refl
    by false = stop_not_met events missing_end
end_not_met events too_long = stop_not_met events feed.too_long
end_not_met events no_eol = stop_not_met events feed.no_eol
end_not_met events too_many = stop_not_met events feed.too_long

line_not_met : (more : List Event → Reading) (events : List Event) (said : Result Event BadCause) → ((es : List Event) → is_met 0 (more es) ≡ false)
    → is_met 0 (reading_after more events said) ≡ false
line_not_met more events (Ok event) each = each (events ++ event ∷ [])
line_not_met more events (Err why) each = stop_not_met events why

none_met : (lines : List (List ℕ)) (ending : Ending) (events : List Event) → is_met 0 (reading_from events lines ending) ≡ false
none_met [] ending events = end_not_met events ending
none_met (line ∷ lines) ending events =
    line_not_met (λ es. reading_from es lines ending) events (with_cause (event_of_line events line)) (λ es. none_met lines ending es)

-- a text that is cut inside its second part
cut_text : (first second : Text) (n : ℕ) → (first ++ take n second) ++ drop n second ≡ first ++ second
cut_text first second n = append_assoc first (take n second) (drop n second) ∙ ap (λ t. first ++ t) (take-append-drop n second)

-- the text of one line more
text_push : (lines : List (List ℕ)) (line : List ℕ) → text_of (lines ++ line ∷ []) ≡ text_of lines ++ (line ++ line_feed ∷ [])
text_push [] line = refl
text_push (first ∷ lines) line =
    ap (λ t. first ++ line_feed ∷ t) (text_push lines line) ∙ sym (append_assoc first (line_feed ∷ text_of lines) (line ++ line_feed ∷ []))

-- these lines were read, and what waits for the reader
lines_were_read : (lines : List (List ℕ)) (held : Option (List ℕ)) (reader : ReaderState) (now : Told) → held ≡ prepend_known (text_of lines)
    (to_come reader now) → WereRead lines held now
lines_were_read lines held reader now is = record { more = reader.waiting; held_is = is ∙ sym (prepend_known-append (text_of lines) reader.waiting now.left) }

-- one line more was taken of what is to come
line_taken : (lines : List (List ℕ)) (line : List ℕ) (held come rest : Option (List ℕ)) → held ≡ prepend_known (text_of lines) come
    → come ≡ prepend_known (line ++ line_feed ∷ []) rest
    → held ≡ prepend_known (text_of (lines ++ line ∷ [])) rest
line_taken lines line held come rest is taken =
    is
    ∙ ap (prepend_known (text_of lines)) taken
    ∙ sym (prepend_known-append (text_of lines) (line ++ line_feed ∷ []) rest)
    ∙ ap (λ t. prepend_known t rest) (sym (text_push lines line))

-- and that line was read behind those before it
line_read_behind : (lines : List (List ℕ)) (line : List ℕ) (held come : Option (List ℕ)) (reader : ReaderState) (now : Told)
    → held ≡ prepend_known (text_of lines) come → come ≡ prepend_known (line ++ line_feed ∷ []) (to_come reader now)
    → WereRead lines held now
line_read_behind lines line held come reader now is taken = record {
  more = (line ++ line_feed ∷ []) ++ reader.waiting;
  held_is =
      is
      ∙ ap (prepend_known (text_of lines)) (taken ∙ sym (prepend_known-append (line ++ line_feed ∷ []) reader.waiting now.left))
      ∙ sym (prepend_known-append (text_of lines) ((line ++ line_feed ∷ []) ++ reader.waiting) now.left);
}

-- a reader that holds no line is cut off behind the lines that it gave
cut_behind_lines : (lines : List (List ℕ)) (held : Option (List ℕ)) (reader : ReaderState) (now : Told) → reader.limit ≡ CERT_LINE_LEN_MAX
    → reader.is_ended ≡ false → holds_line reader ≡ false
    → held ≡ prepend_known (text_of lines) (to_come reader now) → IsCutAfter lines CERT_LINE_LEN_MAX held now
cut_behind_lines lines held reader now limit open_yet none is =
    let part = part_waits reader open_yet none in
    record {
      part = reader.waiting;
      fits = subst (λ (n : ℕ). length reader.waiting ≤ n) limit part.fits;
      no_lf = part.no_lf;
      held_is = is ∙ sym (prepend_known-append (text_of lines) reader.waiting now.left);
    }

-- what a reader of the certificates took of them
pub takes_bytes : (old new : ReaderState) (before after : Slot → Told) (slot : Slot) (found : Option Line) (line : Line) → slot ≡ Side
    → AnswersNext old new (to_come old (before slot)) (to_come new (after slot)) (Ok found) → found ≡ Some line
    → to_come old (before Side) ≡ prepend_known (new.last_bytes ++ line_feed ∷ []) (to_come new (after Side))
takes_bytes old new before after slot found line side answers is =
    let here : AnswersNext old new (to_come old (before Side)) (to_come new (after Side)) (Ok found) =
    subst (λ (s : Slot). AnswersNext old new (to_come old (before s)) (to_come new (after s)) (Ok found)) side answers in
    let gives : GivesLine old new (to_come old (before Side)) (to_come new (after Side)) line =
    subst (λ (o : Option Line). AnswersNext old new (to_come old (before Side)) (to_come new (after Side)) (Ok o)) is here in
    gives.taken

-- or took nothing, at their end
pub takes_no_bytes : (old new : ReaderState) (before after : Slot → Told) (slot : Slot) (found : Option Line) → slot ≡ Side
    → AnswersNext old new (to_come old (before slot)) (to_come new (after slot)) (Ok found) → found ≡ None
    → to_come new (after Side) ≡ to_come old (before Side)
takes_no_bytes old new before after slot found side answers is =
    let here : AnswersNext old new (to_come old (before Side)) (to_come new (after Side)) (Ok found) =
    subst (λ (s : Slot). AnswersNext old new (to_come old (before s)) (to_come new (after s)) (Ok found)) side answers in
    let gives = subst (λ (o : Option Line). AnswersNext old new (to_come old (before Side)) (to_come new (after Side)) (Ok o)) is here in
    gives.0.kept

-- a fault as a reader answers it
abbrev the_fault : LineFault → Result (Option Line) LineFault
the_fault fault = Err fault

-- or could not read on
takes_none_more : (old new : ReaderState) (before after : Slot → Told) (slot : Slot) (fault : LineFault) → slot ≡ Side
    → AnswersNext old new (to_come old (before slot)) (to_come new (after slot)) (Err fault) → fault ≡ Device
    → (to_come new (after Side) ≡ to_come old (before Side)) × (new.is_ended ≡ false)
takes_none_more old new before after slot fault side answers is =
    let here : AnswersNext old new (to_come old (before Side)) (to_come new (after Side)) (Err fault) =
    subst (λ (s : Slot). AnswersNext old new (to_come old (before s)) (to_come new (after s)) (Err fault)) side answers in
    let gives = subst (λ (f : LineFault). AnswersNext old new (to_come old (before Side)) (to_come new (after Side)) (Err f)) is here in
    (gives.0.kept, gives.2)

-- what was read of a slot that is as it was
lines_still : (lines : List (List ℕ)) (held : Option (List ℕ)) (before after : Told) → after ≡ before → WereRead lines held before
    → WereRead lines held after
lines_still lines held before after same h = subst (WereRead lines held) (sym same) h

events_still : (events : List Event) (held : Option (List ℕ)) (before after : Told) → after ≡ before → EventsRead events held before
    → EventsRead events held after
events_still events held before after same h = subst (EventsRead events held) (sym same) h

module _ {C : Type 0} (rules : Rules C) where
  -- ---- where a run stands

  -- what first lines give
  gives_answers : (f : Reading) (c : TextLines) (stand : Stand) (r : TextLines) → StandsBefore rules f c stand r
      → GivesPart rules f c (answers_text stand.answers)
  gives_answers f c stand r h = record {
    more = [];
    gives = record { stand = stand; rest = r; before = h; last = []; last_is = inl refl; text_is = refl };
  }

  -- a text that is cut inside an answer is a first part of the answers up to it
  cut_answer : (stand : Stand) (answer : Answer) (n : ℕ)
      → (answers_text stand.answers ++ take n (next_text stand answer)) ++ drop n (next_text stand answer) ≡ answers_text (stand.answers ++ answer ∷ []) ++ []
  cut_answer stand answer n =
      cut_text (answers_text stand.answers) (next_text stand answer) n ∙ sym (text_more stand answer) ∙ sym (append-nil (answers_text (stand.answers ++ answer ∷ [])))

  -- and with a first part of one answer more
  gives_cut : (f : Reading) (c : TextLines) (stand : Stand) (answer : Answer) (reached : ℕ) (r : TextLines) (n : ℕ)
      → StandsBefore rules f c (answered stand answer reached) r
      → GivesPart rules f c (answers_text stand.answers ++ take n (next_text stand answer))
  gives_cut f c stand answer reached r n h = record {
    more = drop n (next_text stand answer);
    gives = record {
      stand = answered stand answer reached;
      rest = r;
      before = h;
      last = [];
      last_is = inl refl;
      text_is = cut_answer stand answer n;
    };
  }

  -- and with a first part of the last line
  gives_last : (f : Reading) (c : TextLines) (stand : Stand) (r : TextLines) (n : ℕ) → StandsBefore rules f c stand r → AllAnswered f r
      → GivesPart rules f c (answers_text stand.answers ++ take n (end_text stand.answers))
  gives_last f c stand r n h all = record {
    more = drop n (end_text stand.answers);
    gives = record {
      stand = stand;
      rest = r;
      before = h;
      last = end_text stand.answers;
      last_is = inr (all, refl);
      text_is = cut_text (answers_text stand.answers) (end_text stand.answers) n;
    };
  }

  cut_by : (f : Reading) (c : TextLines) (text : Text) (exit : Exit) → is_cut exit ≡ true → GivesPart rules f c text
      → (is_write_fault exit ≡ false → GivesAnswers rules f c text) → RunsBy rules f c text exit
  cut_by f c text exit cut part whole = subst (λ b. RunsIf rules f c text exit b) (sym cut) (record { part = part; whole = whole })

  -- whole answers were sent
  cut_between : (f : Reading) (c : TextLines) (stand : Stand) (r : TextLines) (exit : Exit) → is_cut exit ≡ true → StandsBefore rules f c stand r
      → RunsBy rules f c (answers_text stand.answers) exit
  cut_between f c stand r exit cut h =
      cut_by f c (answers_text stand.answers) exit cut (gives_answers f c stand r h) (λ not. record { stand = stand; rest = r; before = h; text_is = refl })

  -- a write of the output failed inside a text
  cut_inside : (f : Reading) (c : TextLines) (text : Text) (exit : Exit) → exit ≡ WriteFault Out → GivesPart rules f c text
      → RunsBy rules f c text exit
  cut_inside f c text exit is part = cut_by f c text exit (write_cuts Out exit is) part (write_is_fault Out exit is)

  -- what is told of both inputs says where the run stands
  if_both : (feed : Option Reading) (certs rest : Option TextLines) (stand : Stand) (lines : List (List ℕ)) (P : Reading → TextLines → Type 0)
      → certs ≡ option_map (lines_then lines) rest → IfSome feed (λ f. Along (Answers rules f) start lines stand)
      → ((f : Reading) (c r : TextLines) → feed ≡ Some f → rest ≡ Some r → StandsBefore rules f c stand r → P f c)
      → IfBoth feed certs P
  if_both None certs rest stand lines P first steps each = tt
  if_both (Some f) None rest stand lines P first steps each = tt
  if_both (Some f) (Some c) None stand lines P first steps each = absurd (let no : ⊥ = cc in no)
  if_both (Some f) (Some c) (Some r) stand lines P first steps each =
      each f c r refl refl (record { lines = lines; are_first = same_Some first; steps = steps })

  step_more : (feed : Option Reading) (lines : List (List ℕ)) (text : List ℕ) (stand next : Stand)
      → IfSome feed (λ f. Along (Answers rules f) start lines stand) → IfSome feed (λ f. Answers rules f stand text next)
      → IfSome feed (λ f. Along (Answers rules f) start (lines ++ text ∷ []) next)
  step_more None lines text stand next steps step = tt
  step_more (Some f) lines text stand next steps step = along_more (Answers rules f) start lines text stand next steps step

  first_more : (certs rest new : Option TextLines) (lines : List (List ℕ)) (text : List ℕ) → certs ≡ option_map (lines_then lines) rest
      → rest ≡ option_map (line_then text) new
      → certs ≡ option_map (lines_then (lines ++ text ∷ [])) new
  first_more certs rest None lines text first is = first ∙ ap (option_map (lines_then lines)) is
  first_more certs rest (Some r) lines text first is = first ∙ ap (option_map (lines_then lines)) is ∙ ap (λ t. Some t) (sym (lines_then-push lines text r))

  -- no line is left behind these
  all_first : (certs rest : Option TextLines) (lines : List (List ℕ)) → certs ≡ option_map (lines_then lines) rest
      → IfSome rest (λ r. r ≡ ended at_end)
      → IfSome certs (λ told. told ≡ lines_then lines (ended at_end))
  all_first certs None lines first none = subst (λ o. IfSome o (λ told. told ≡ lines_then lines (ended at_end))) (sym first) tt
  all_first certs (Some r) lines first none = subst (λ o. IfSome o (λ told. told ≡ lines_then lines (ended at_end))) (sym first) (ap (lines_then lines) none)

  -- ---- what was read when the run was cut off

  -- whole answers were sent to the lines that were read
  read_between : (held : Held) (feed : Option Reading) (certs : Option TextLines) (now : Slot → Told) (exit : Exit) (stand : Stand)
      (lines : List (List ℕ)) (events : List Event)
      → IfSome feed (λ f. Along (Answers rules f) start lines stand) → WereRead lines held.side (now Side) → EventsRead events held.feed (now Feed)
      → IfSome feed (IsReadTo stand.reached events)
      → (exit ≡ ReadFault Side → IsCutAfter lines CERT_LINE_LEN_MAX held.side (now Side))
      → AnswersLinesRead rules held feed certs now exit (answers_text stand.answers)
  read_between held feed certs now exit stand lines events steps lines_read events_are_read read_to cut = record {
    stand = stand;
    lines = lines;
    steps = steps;
    lines_read = lines_read;
    events = events;
    events_read = events_are_read;
    read_to = read_to;
    last = [];
    last_is = inl refl;
    part = ([], refl);
    whole = λ not. refl;
    cut = cut;
  }

  -- a failed write is no failed read of the lines
  write_no_read : {P : Type 0} (exit : Exit) → exit ≡ WriteFault Out → exit ≡ ReadFault Side → P
  write_no_read exit is read = absurd (let no : ⊥ = let same : WriteFault Out ≡ ReadFault Side = sym is ∙ read in cc in no)

  -- an exit that cuts no run off
  no_cut : {P : Type 0} (exit : Exit) → is_cut exit ≡ false → is_cut exit ≡ true → P
  no_cut exit not cut = absurd (let no : ⊥ = cc in no)

  module _ {B : Type 0} (StandsFor : B → List Event → Type 0) (held : Held) (feed : Option Reading) (certs : Option TextLines) (before : Told) where
    -- ---- one line more

    -- the answer to the next line was sent
    pub answered_on : (old run : CheckRun B) (reader next : ReaderState) (first between now : Slot → Told) (rest new : Option TextLines)
        (text : List ℕ)
        (way : IsUnderWay rules StandsFor held feed certs before old reader first rest)
        → between Out ≡ first Out → now Side ≡ between Side → to_come reader (first Side) ≡ prepend_known (text ++ line_feed ∷ [])
        (to_come next (between Side))
        → rest ≡ option_map (line_then text) new → SendsAnswer rules StandsFor held.feed feed way.stand text run between now
        → IsUnderWay rules StandsFor held feed certs before run next now new
    answered_on old run reader next first between now rest new text way out_same side_same taken is sends = record {
      stand = answered way.stand sends.answer sends.reached;
      lines = way.lines ++ text ∷ [];
      read = line_taken way.lines text held.side (to_come reader (first Side)) (to_come next (now Side)) way.read
          (taken ∙ ap (λ (t : Told). prepend_known (text ++ line_feed ∷ []) (to_come next t)) (sym side_same));
      are_first = first_more certs rest new way.lines text way.are_first is;
      steps = step_more feed way.lines text way.stand (answered way.stand sends.answer sends.reached) way.steps sends.answers;
      between = sends.between;
      sent = subst (λ (t : Text). Sent t before (now Out)) (sym (text_more way.stand sends.answer))
          (sent_more (answers_text way.stand.answers) (next_text way.stand sends.answer) before (between Out) (now Out)
          (sent_still (answers_text way.stand.answers) before (first Out) (between Out) way.sent out_same) sends.sent);
    }

    -- ---- ends

    -- the run ended with nothing more sent
    nothing_more : (run : CheckRun B) (reader : ReaderState) (first now : Slot → Told) (rest : Option TextLines) (exit : Exit)
        (way : IsUnderWay rules StandsFor held feed certs before run reader first rest) → now Out ≡ first Out
        → (is_cut exit ≡ true → AnswersLinesRead rules held feed certs now exit (answers_text way.stand.answers))
        → ((f : Reading) (c r : TextLines) → feed ≡ Some f → rest ≡ Some r → StandsBefore rules f c way.stand r → RunsBy rules f c (answers_text way.stand.answers) exit)
        → HasEnded rules held feed certs before now exit
    nothing_more run reader first now rest exit way same cut each = record {
      text = answers_text way.stand.answers;
      sent = sent_still (answers_text way.stand.answers) before (first Out) (now Out) way.sent same;
      runs = if_both feed certs rest way.stand way.lines (λ f c. RunsBy rules f c (answers_text way.stand.answers) exit) way.are_first way.steps each;
      cut = cut;
    }

    -- a failed read or want of memory
    pub cut_short : (run : CheckRun B) (reader : ReaderState) (first now : Slot → Told) (rest : Option TextLines) (exit : Exit)
        (way : IsUnderWay rules StandsFor held feed certs before run reader first rest)
        → now Out ≡ first Out → is_cut exit ≡ true → WereRead way.lines held.side (now Side) → EventsRead way.between.events held.feed (now Feed)
        → (exit ≡ ReadFault Side → IsCutAfter way.lines CERT_LINE_LEN_MAX held.side (now Side)) → HasEnded rules held feed certs before now exit
    cut_short run reader first now rest exit way same cut lines_read events_are_read behind =
        nothing_more run reader first now rest exit way same
        (λ is. read_between held feed certs now exit way.stand way.lines way.between.events way.steps lines_read events_are_read way.between.read_to behind)
        (λ f c r is_feed is_rest h. cut_between f c way.stand r exit cut h)

    -- a line of the certificates is bad
    pub cert_bad : (run : CheckRun B) (reader : ReaderState) (first now : Slot → Told) (rest : Option TextLines) (number : ℕ) (why : LineCause)
        (way : IsUnderWay rules StandsFor held feed certs before run reader first rest) → now Out ≡ first Out
        → number ≡ length way.stand.answers + 1 → IfSome rest (λ r. r ≡ ended (ending_for why))
        → HasEnded rules held feed certs before now (BadCerts number why)
    cert_bad run reader first now rest number why way same is bad =
        nothing_more run reader first now rest (BadCerts number why) way same (no_cut (BadCerts number why) refl) (λ f c r is_feed is_rest h. record {
          stand = way.stand;
          rest = r;
          before = h;
          ends = (is, subst (λ o. IfSome o (λ t. t ≡ ended (ending_for why))) is_rest bad);
          text_is = sym (append-nil (answers_text way.stand.answers));
        })

    stops_first : (f : Reading) (stand : Stand) (text : List ℕ) (r : TextLines) (new : Option TextLines) → Some r ≡ option_map (line_then text) new
        → Stops rules f stand text → StopsAt rules f stand r.lines r.ending
    stops_first f stand text r None is h = absurd (let no : ⊥ = cc in no)
    stops_first f stand text r (Some more) is h =
        let same : r ≡ line_then text more = cc in
        subst (λ (t : TextLines). StopsAt rules f stand t.lines t.ending) (sym same) h

    feed_bad : (run : CheckRun B) (reader : ReaderState) (first now : Slot → Told) (rest new : Option TextLines) (text : List ℕ) (exit : Exit)
        (way : IsUnderWay rules StandsFor held feed certs before run reader first rest) → now Out ≡ first Out
        → rest ≡ option_map (line_then text) new → EndsForFeed rules feed way.stand text exit → HasEnded rules held feed certs before now exit
    feed_bad run reader first now rest new text exit way same is h =
        subst (λ e. HasEnded rules held feed certs before now e) (sym h.exit_is)
        (nothing_more run reader first now rest (BadFeed h.number h.why) way same (no_cut (BadFeed h.number h.why) refl) (λ f c r is_feed is_rest b. record {
          stand = way.stand;
          rest = r;
          before = b;
          ends = (
            subst (λ o. IfSome o (λ g. g.bad ≡ Some (record { line = h.number; cause = bad_cause h.why }))) is_feed h.bad,
            stops_first f way.stand text r new (sym is_rest ∙ is) (subst (λ o. IfSome o (λ g. Stops rules g way.stand text)) is_feed h.stops),
          );
          text_is = sym (append-nil (answers_text way.stand.answers));
        }))

    -- a write failed inside the answer to the next line
    answer_cut : (run : CheckRun B) (reader : ReaderState) (first between now : Slot → Told) (rest new : Option TextLines) (text : List ℕ)
        (exit : Exit)
        (way : IsUnderWay rules StandsFor held feed certs before run reader first rest)
        → between Out ≡ first Out → WereRead (way.lines ++ text ∷ []) held.side (now Side) → rest ≡ option_map (line_then text) new
        → CutsAnswer rules held.feed feed way.stand text between now exit → HasEnded rules held feed certs before now exit
    answer_cut run reader first between now rest new text exit way out_same lines_read is h =
        let sent_text = answers_text way.stand.answers ++ take h.cut.part.count (next_text way.stand h.answer) in
        let steps = step_more feed way.lines text way.stand (answered way.stand h.answer h.reached) way.steps h.answers in
        record {
          text = sent_text;
          sent = sent_more (answers_text way.stand.answers) (take h.cut.part.count (next_text way.stand h.answer)) before (between Out) (now Out)
              (sent_still (answers_text way.stand.answers) before (first Out) (between Out) way.sent out_same) h.cut.part.sent;
          runs = if_both feed certs new (answered way.stand h.answer h.reached) (way.lines ++ text ∷ []) (λ f c. RunsBy rules f c sent_text exit)
              (first_more certs rest new way.lines text way.are_first is) steps
              (λ f c r is_feed is_rest b. cut_inside f c sent_text exit h.cut.exit_is (gives_cut f c way.stand h.answer h.reached r h.cut.part.count b));
          cut = λ cut. record {
            stand = answered way.stand h.answer h.reached;
            lines = way.lines ++ text ∷ [];
            steps = steps;
            lines_read = lines_read;
            events = h.events;
            events_read = h.events_read;
            read_to = h.read_to;
            last = [];
            last_is = inl refl;
            part = (drop h.cut.part.count (next_text way.stand h.answer), sym (cut_answer way.stand h.answer h.cut.part.count));
            whole = write_is_fault Out exit h.cut.exit_is;
            cut = write_no_read exit h.cut.exit_is;
          };
        }

    -- the run ended at a line
    pub line_ended : (run : CheckRun B) (reader next : ReaderState) (first between now : Slot → Told) (rest new : Option TextLines) (text : List ℕ)
        (exit : Exit)
        (way : IsUnderWay rules StandsFor held feed certs before run reader first rest)
        → between Out ≡ first Out → now Side ≡ between Side → to_come reader (first Side) ≡ prepend_known (text ++ line_feed ∷ [])
        (to_come next (between Side))
        → EventsRead way.between.events held.feed (now Feed) → rest ≡ option_map (line_then text) new
        → EndsAtLine rules held.feed feed way.stand text between now exit
        → HasEnded rules held feed certs before now exit
    line_ended run reader next first between now rest new text exit way out_same side_same taken events_are_read is (inl (inl elsewhere, same)) =
        cut_short run reader first now rest exit way (same ∙ out_same) elsewhere.cut
        (lines_still way.lines held.side (between Side) (now Side) side_same (line_read_behind way.lines text held.side (to_come reader (first Side)) next (between Side) way.read taken))
        events_are_read (λ read. absurd (elsewhere.not_lines read))
    line_ended run reader next first between now rest new text exit way out_same side_same taken events_are_read is (inl (inr h, same)) =
        feed_bad run reader first now rest new text exit way (same ∙ out_same) is h
    line_ended run reader next first between now rest new text exit way out_same side_same taken events_are_read is (inr h) =
        answer_cut run reader first between now rest new text exit way out_same
        (lines_still (way.lines ++ text ∷ []) held.side (between Side) (now Side) side_same
        (lines_were_read (way.lines ++ text ∷ []) held.side next (between Side) (line_taken way.lines text held.side (to_come reader (first Side)) (to_come next (between Side)) way.read taken)))
        is h

    -- a read of the lines failed, with no line in hand
    pub cut_at_lines : (run : CheckRun B) (reader next : ReaderState) (first now : Slot → Told) (rest : Option TextLines) (fault : LineFault)
        (way : IsUnderWay rules StandsFor held feed certs before run reader first rest) → reader.slot ≡ Side → now Feed ≡ first Feed
        → now Out ≡ first Out → next.limit ≡ CERT_LINE_LEN_MAX
        → AnswersNext reader next (to_come reader (first reader.slot)) (to_come next (now reader.slot)) (Err fault) → fault ≡ Device
        → (the_fault fault ≡ the_fault Device → holds_line next ≡ false)
        → HasEnded rules held feed certs before now (ReadFault Side)
    cut_at_lines run reader next first now rest fault way side feed_same out_same limit answers is none =
        let gives = takes_none_more reader next first now reader.slot fault side answers is in
        let read : held.side ≡ prepend_known (text_of way.lines) (to_come next (now Side)) = way.read ∙ ap (prepend_known (text_of way.lines)) (sym gives.0) in
        cut_short run reader first now rest (ReadFault Side) way out_same refl (lines_were_read way.lines held.side next (now Side) read)
        (events_still way.between.events held.feed (first Feed) (now Feed) feed_same (events_read held.feed way.between.events run.feed first way.between.at.read))
        (λ same. cut_behind_lines way.lines held.side next (now Side) limit gives.1 (none (ap the_fault is)) read)

    -- ---- behind the last line

    -- the run is cut off behind the last line, with no part of its last line sent
    pub cut_at_end : (run : CheckRun B) (first now : Slot → Told) (exit : Exit) (through : IsThrough rules StandsFor held feed certs before run first)
        → now Out ≡ first Out → now Side ≡ first Side
        → EventsRead through.2.between.events held.feed (now Feed) → IsCutElsewhere exit → HasEnded rules held feed certs before now exit
    cut_at_end run first now exit (reader, rest, way, none) same side_same events_are_read elsewhere =
        cut_short run reader first now rest exit way same elsewhere.cut
        (lines_still way.lines held.side (first Side) (now Side) side_same (lines_were_read way.lines held.side reader (first Side) way.read)) events_are_read (λ read. absurd (elsewhere.not_lines read))

    -- the feed ends the run
    pub feed_ends : (run : CheckRun B) (reader : FeedReader B) (first now : Slot → Told) (why : FeedStop)
        (through : IsThrough rules StandsFor held feed certs before run first) → now Out ≡ first Out → now Side ≡ first Side
        → EventsRead through.2.between.events held.feed (now Feed) → ReadsAll StandsFor held.feed feed reader now (Err why)
        → HasEnded rules held feed certs before now (exit_of_stop why)
    feed_ends run reader first now (stop.BadLine number why) (lines, rest, way, none) same side_same events_are_read reads =
        nothing_more run lines first now rest (BadFeed number why) way same (no_cut (BadFeed number why) refl) (λ f c r is_feed is_rest b. record {
          stand = way.stand;
          rest = r;
          before = b;
          ends = (
            ap (λ (g : Reading). g.bad) (subst (λ o. IfSome o (λ g. g ≡ stopped_at reads.1 (bad_cause why))) is_feed reads.3)
                ∙ ap (λ n. Some (record { line = n; cause = bad_cause why })) (sym reads.2),
            (let none_here : r ≡ ended at_end = subst (λ o. IfSome o (λ t. t ≡ ended at_end)) is_rest none in
                subst (λ (t : TextLines). StopsAt rules f way.stand t.lines t.ending) (sym none_here) refl),
          );
          text_is = sym (append-nil (answers_text way.stand.answers));
        })
    feed_ends run reader first now stop.Device through same side_same events_are_read reads =
        cut_at_end run first now (exit_of_stop stop.Device) through same side_same events_are_read feed_failed
    feed_ends run reader first now stop.NoMemory through same side_same events_are_read reads =
        cut_at_end run first now (exit_of_stop stop.NoMemory) through same side_same events_are_read out_of_memory

    said_by : (f : Reading) (c : TextLines) (stand : Stand) (r : TextLines) (count : ℕ) (b : Bool) → (count == 0) ≡ b → count ≡ count_no stand.answers
        → StandsBefore rules f c stand r → AllAnswered f r → RunsBy rules f c (answers_text stand.answers ++ end_text stand.answers)
        (if b then Done else SaidNo count)
    said_by f c stand r count true zero is h all = record { stand = stand; rest = r; before = h; ends = (all, sym is ∙ (let z : count ≡ 0 = grind (arith, nat_tests) in z)); text_is = refl }
    said_by f c stand r count false zero is h all = record { stand = stand; rest = r; before = h; ends = (all, is, (let z : 1 ≤ count = grind (arith, nat_tests) in z)); text_is = refl }

    said_all : (count : ℕ) (b : Bool) → is_cut (if b then Done else SaidNo count) ≡ false
    said_all count true = refl
    said_all count false = refl

    -- the last line is sent
    pub last_sent : (run : CheckRun B) (reader : FeedReader B) (first between now : Slot → Told) (text : Text)
        (through : IsThrough rules StandsFor held feed certs before run first) → between Out ≡ first Out
        → ReadsAll StandsFor held.feed feed reader between (Ok tt) → text ≡ end_text through.2.stand.answers → Sent text (between Out) (now Out)
        → HasEnded rules held feed certs before now (said_exit run.no)
    last_sent run reader first between now text (lines, rest, way, none) same reads is sent = record {
      text = answers_text way.stand.answers ++ end_text way.stand.answers;
      sent = sent_more (answers_text way.stand.answers) (end_text way.stand.answers) before (between Out) (now Out)
          (sent_still (answers_text way.stand.answers) before (first Out) (between Out) way.sent same) (subst (λ t. Sent t (between Out) (now Out)) is sent);
      runs = if_both feed certs rest way.stand way.lines (λ f c. RunsBy rules f c (answers_text way.stand.answers ++ end_text way.stand.answers) (said_exit run.no)) way.are_first way.steps
          (λ f c r is_feed is_rest b. said_by f c way.stand r run.no (run.no == 0) refl way.between.no b (record {
            no_line = subst (λ o. IfSome o (λ t. t ≡ ended at_end)) is_rest none;
            no_bad = ap (λ (g : Reading). g.bad) (subst (λ o. IfSome o (λ g. g ≡ all_good reads.0)) is_feed reads.2);
          }));
      cut = no_cut (said_exit run.no) (said_all run.no (run.no == 0));
    }

    -- or a write of it fails
    pub last_cut : (run : CheckRun B) (reader : FeedReader B) (first between now : Slot → Told) (text : Text) (exit : Exit)
        (through : IsThrough rules StandsFor held feed certs before run first) → between Out ≡ first Out
        → now Side ≡ first Side → now Feed ≡ between Feed → EventsRead through.2.between.events held.feed (between Feed)
        → ReadsAll StandsFor held.feed feed reader between (Ok tt) → text ≡ end_text through.2.stand.answers → CutsOff Out text (between Out)
        (now Out) exit
        → HasEnded rules held feed certs before now exit
    last_cut run reader first between now text exit (lines, rest, way, none) same side_same feed_same events_are_read reads is cut =
        let sent_text = answers_text way.stand.answers ++ take cut.part.count (end_text way.stand.answers) in
        record {
          text = sent_text;
          sent = sent_more (answers_text way.stand.answers) (take cut.part.count (end_text way.stand.answers)) before (between Out) (now Out)
              (sent_still (answers_text way.stand.answers) before (first Out) (between Out) way.sent same) (subst (λ t. Sent (take cut.part.count t) (between Out) (now Out)) is cut.part.sent);
          runs = if_both feed certs rest way.stand way.lines (λ f c. RunsBy rules f c sent_text exit) way.are_first way.steps
              (λ f c r is_feed is_rest b. cut_inside f c sent_text exit cut.exit_is (gives_last f c way.stand r cut.part.count b (record {
                no_line = subst (λ o. IfSome o (λ t. t ≡ ended at_end)) is_rest none;
                no_bad = ap (λ (g : Reading). g.bad) (subst (λ o. IfSome o (λ g. g ≡ all_good reads.0)) is_feed reads.2);
              })));
          cut = λ is_cut_off. record {
            stand = way.stand;
            lines = way.lines;
            steps = way.steps;
            lines_read = lines_still way.lines held.side (first Side) (now Side) side_same (lines_were_read way.lines held.side lines (first Side) way.read);
            events = way.between.events;
            events_read = events_still way.between.events held.feed (between Feed) (now Feed) feed_same events_are_read;
            read_to = way.between.read_to;
            last = end_text way.stand.answers;
            last_is = inr (
              record {
                events = reads.0;
                events_read = events_still reads.0 held.feed (between Feed) (now Feed) feed_same (events_read held.feed reads.0 reader between reads.1.read);
                no_bad = reads.2;
                no_line = all_first certs rest way.lines way.are_first none;
              },
              refl,
            );
            part = (drop cut.part.count (end_text way.stand.answers), sym (cut_text (answers_text way.stand.answers) (end_text way.stand.answers) cut.part.count));
            whole = write_is_fault Out exit cut.exit_is;
            cut = write_no_read exit cut.exit_is;
          };
        }

    -- the run stands at the same line where other slots of the desk changed
    pub between_kept : (stand : Stand) (run : CheckRun B) (first now : Slot → Told) → StandsBetweenLines StandsFor held.feed feed stand run first
        → now Feed ≡ first Feed → StandsBetweenLines StandsFor held.feed feed stand run now
    between_kept stand run first now between same = record {
      events = between.events;
      at = at_kept StandsFor held.feed feed between.events run.feed first now between.at same;
      read_to = between.read_to;
      reached = between.reached;
      not_past = between.not_past;
      yes = between.yes;
      no = between.no;
    }

    -- other slots of the desk changed, and no line was taken
    pub way_kept : (run : CheckRun B) (reader next : ReaderState) (first now : Slot → Told) (rest : Option TextLines)
        → IsUnderWay rules StandsFor held feed certs before run reader first rest
        → now Feed ≡ first Feed → now Out ≡ first Out → to_come next (now Side) ≡ to_come reader (first Side)
        → IsUnderWay rules StandsFor held feed certs before run next now rest
    way_kept run reader next first now rest way feed_same out_same come_same = record {
      stand = way.stand;
      lines = way.lines;
      read = way.read ∙ ap (prepend_known (text_of way.lines)) (sym come_same);
      are_first = way.are_first;
      steps = way.steps;
      between = between_kept way.stand run first now way.between feed_same;
      sent = sent_still (answers_text way.stand.answers) before (first Out) (now Out) way.sent out_same;
    }

  -- ---- the start

  told_first : (certs : Option TextLines) → certs ≡ option_map (lines_then []) certs
  told_first None = refl
  told_first (Some c) = refl

  steps_none : (feed : Option Reading) → IfSome feed (λ f. Along (Answers rules f) start [] start)
  steps_none None = tt
  steps_none (Some f) = refl

  pub both_none : (feed : Option Reading) (certs : Option TextLines) (exit : Exit) → is_cut exit ≡ true
      → IfBoth feed certs (λ f c. RunsBy rules f c [] exit)
  both_none feed certs exit cut =
      if_both feed certs certs start [] (λ f c. RunsBy rules f c [] exit) (told_first certs) (steps_none feed)
      (λ f c r is_feed is_rest h. cut_between f c start r exit cut h)

  -- a feed is read up to no line from the start
  read_none : (text : Option (List ℕ)) → IfSome (option_map reading_of text) (IsReadTo 0 [])
  read_none None = tt
  read_none (Some bytes) =
      let lines = lines_of LINE_LEN_MAX bytes in record { events_are = refl; no_bad = none_met lines.lines lines.ending [] }

  -- a run that memory is wanting for before it reads
  pub never_started : (told : Slot → Told) → HasEnded rules (held_in told) (feed_told told) (certs_told told) (told Out) told NoMemory
  never_started told = record {
    text = [];
    sent = sent_none (told Out) (told Out) refl;
    runs = both_none (feed_told told) (certs_told told) NoMemory refl;
    cut = λ is. read_between (held_in told) (feed_told told) (certs_told told) told NoMemory start [] [] (steps_none (feed_told told))
        (record { more = []; held_is = sym (nothing_waits (told Side).left) })
        (nothing_read (told Feed)) (read_none (told Feed).left) (λ read. absurd (out_of_memory.not_lines read));
  }

  pub starts : {B : Type 0} (StandsFor : B → List Event → Type 0) (run : CheckRun B) (reader : ReaderState) (told : Slot → Told)
      (rest : Option TextLines) → IsNew StandsFor run → rest ≡ certs_told told → reader.waiting ≡ []
      → IsUnderWay rules StandsFor (held_in told) (feed_told told) (certs_told told) (told Out) run reader told rest
  starts StandsFor run reader told rest new is nothing = record {
    stand = start;
    lines = [];
    read =
        sym (nothing_waits (told Side).left) ∙ ap (λ (bytes : List ℕ). prepend_known bytes (told Side).left) (sym nothing) ∙ sym (nothing_waits (to_come reader (told Side)));
    are_first = told_first (certs_told told) ∙ ap (option_map (lines_then [])) (sym is);
    steps = steps_none (feed_told told);
    between = record {
      events = [];
      at = new.feed told;
      read_to = read_so_many StandsFor (told Feed).left (feed_told told) 0 [] run.feed told (new.feed told) refl;
      reached = new.reached;
      not_past = omega arith;
      yes = new.yes;
      no = new.no;
    };
    sent = sent_none (told Out) (told Out) refl;
  }

-- the feed ends a run behind the last line with an exit of such a run
pub end_exit : {C B : Type 0} (rules : Rules C) (StandsFor : B → List Event → Type 0) (run : CheckRun B) (reader : FeedReader B)
    (told now : Slot → Told) (why : FeedStop) → MayEnd rules StandsFor run told → TakesAll StandsFor run.feed told reader now (Err why)
    → IsCertificateExit (exit_of_stop why)
end_exit rules StandsFor run reader told now why (some, whole, lines, sent, (more, rest, way, none)) takes = by why (takes some.feed whole way.between.events way.between.at)
  where
    by : (stopped : FeedStop) → ReadsAll StandsFor some.feed whole reader now (Err stopped) → IsCertificateExit (exit_of_stop stopped)
    by (stop.BadLine number cause) reads = reads.0
    by stop.Device reads = tt
    by stop.NoMemory reads = tt

-- ---- as many lines as there may be

pub allowed_line : (m n : ℕ) (text : List ℕ) (before after : Option TextLines) → before ≡ option_map (line_then text) after → m ≡ n + 1
    → option_map (at_most m) before ≡ option_map (line_then text) (option_map (at_most n) after)
allowed_line m n text before None taken size = ap (option_map (at_most m)) taken
allowed_line m n text before (Some r) taken size =
    let less : m - 1 ≡ n = omega (arith, size) in
    ap (option_map (at_most m)) taken ∙ ap (λ t. Some t) (at_most_line m text r (omega (arith, size))) ∙ ap (λ k. Some (line_then text (at_most k r))) less

pub allowed_none : (m : ℕ) (text : List ℕ) (before after : Option TextLines) → before ≡ option_map (line_then text) after → m ≡ 0
    → IfSome (option_map (at_most m) before) (λ r. r ≡ ended too_many)
allowed_none m text before None taken size = subst (λ b. IfSome (option_map (at_most m) b) (λ r. r ≡ ended too_many)) (sym taken) tt
allowed_none m text before (Some r) taken size =
    subst (λ b. IfSome (option_map (at_most m) b) (λ r. r ≡ ended too_many)) (sym taken) (ap (λ k. at_most k (line_then text r)) size ∙ at_most_none text r)

pub allowed_ended : (m : ℕ) (ending : Ending) (before : Option TextLines) → IfSome before (λ r. r ≡ ended ending)
    → IfSome (option_map (at_most m) before) (λ r. r ≡ ended ending)
allowed_ended m ending None h = tt
allowed_ended m ending (Some r) h = ap (at_most m) h ∙ at_most_ended m ending

pub reader_coming_kept : (slot : Slot) (reader : ReaderState) (before after : Slot → Told) → reader.slot ≡ slot → after slot ≡ before slot
    → coming reader after ≡ coming reader before
reader_coming_kept slot reader before after is same =
    let told : after reader.slot ≡ before reader.slot = subst (λ (s : Slot). after s ≡ before s) (sym is) same in
    ap (λ (t : Told). option_map (lines_of reader.limit) (to_come reader t)) told

-- the next line, of those that there may be
pub allowed_step : (count more : ℕ) (text : List ℕ) (old new : ReaderState) (before between now : Slot → Told)
    → coming old before ≡ option_map (line_then text) (coming new between) → new.slot ≡ Side → now Side ≡ between Side → more ≡ count + 1
    → count < CERT_LINES_MAX
    → allowed count old before ≡ option_map (line_then text) (allowed more new now)
allowed_step count more text old new before between now taken is same size few =
    allowed_line (CERT_LINES_MAX - count) (CERT_LINES_MAX - more) text (coming old before) (coming new between) taken (omega (arith, size, few))
    ∙ ap (λ (c : Option TextLines). option_map (line_then text) (option_map (at_most (CERT_LINES_MAX - more)) c)) (sym (reader_coming_kept Side new between now is same))

pub takes_is : (before after : Option TextLines) (reader : ReaderState) (found : Option Line) (line : Line) → TakesLine before after reader (Ok found)
    → found ≡ Some line
    → before ≡ option_map (line_then reader.last_bytes) after
takes_is before after reader found line takes is = subst (λ (o : Option Line). TakesLine before after reader (Ok o)) is takes

pub twice : {A B D : Type 0} (f : A → B) (h : B → D) (o : Option A) → option_map (λ x. h (f x)) o ≡ option_map h (option_map f o)
twice f h None = refl
twice f h (Some x) = refl

-- the lines that are to come to a new reader are all of them
pub allowed_all : (count : ℕ) (reader : ReaderState) (told : Slot → Told) → count ≡ 0
    → reader ≡ record { slot = Side; limit = CERT_LINE_LEN_MAX; waiting = []; number = 0; is_ended = false; last = None; last_bytes = [] }
    → allowed count reader told ≡ certs_told told
allowed_all count reader told zero is =
    ap (λ (n : ℕ). allowed n reader told) zero
    ∙ ap (λ (r : ReaderState). allowed 0 r told) is
    ∙ ap (λ left. option_map (at_most CERT_LINES_MAX) (option_map (lines_of CERT_LINE_LEN_MAX) left)) (nothing_waits (told Side).left)
    ∙ sym (twice (lines_of CERT_LINE_LEN_MAX) (at_most CERT_LINES_MAX) (told Side).left)

pub fresh_reader : (reader : ReaderState)
    → reader ≡ record { slot = Side; limit = CERT_LINE_LEN_MAX; waiting = []; number = 0; is_ended = false; last = None; last_bytes = [] }
    → IsReader Side CERT_LINE_LEN_MAX reader
fresh_reader reader is = record { slot_is = ap (λ (r : ReaderState). r.slot) is; limit_is = ap (λ (r : ReaderState). r.limit) is; open_yet = ap (λ (r : ReaderState). r.is_ended) is }

-- a run that has read nothing
pub starts_new : {C B : Type 0} (rules : Rules C) (StandsFor : B → List Event → Type 0) (run : CheckRun B) (reader : ReaderState) (told : Slot → Told)
    → IsNew StandsFor run
    → reader ≡ record { slot = Side; limit = CERT_LINE_LEN_MAX; waiting = []; number = 0; is_ended = false; last = None; last_bytes = [] }
    → IsUnderWay rules StandsFor (held_in told) (feed_told told) (certs_told told)
    (told Out) run reader told (allowed (answered_lines run) reader told)
starts_new rules StandsFor run reader told new is =
    let agreed : run.yes ≡ 0 = new.yes in
    let refused : run.no ≡ 0 = new.no in
    let zero : run.yes + run.no ≡ 0 = omega (arith, agreed, refused) in
    starts rules StandsFor run reader told (allowed (answered_lines run) reader told) new (allowed_all (answered_lines run) reader told zero is) (ap (λ (r : ReaderState). r.waiting) is)

-- the line after those that were answered is bad
pub cert_bad_at : {C B : Type 0} (rules : Rules C) (StandsFor : B → List Event → Type 0) (held : Held) (feed : Option Reading)
    (certs : Option TextLines) (before : Told) (run : CheckRun B) (reader : ReaderState) (first now : Slot → Told) (rest : Option TextLines)
    (exit : Exit) (why : LineCause)
    → IsUnderWay rules StandsFor held feed certs before run reader first rest → now Out ≡ first Out → exit ≡ BadCerts (answered_lines run + 1) why
    → IfSome rest (λ r. r ≡ ended (ending_for why))
    → HasEnded rules held feed certs before now exit
cert_bad_at rules StandsFor held feed certs before run reader first now rest exit why way same is bad =
    let both = counts_add_up way.stand.answers in
    let agreed : run.yes ≡ count_yes way.stand.answers = way.between.yes in
    let refused : run.no ≡ count_no way.stand.answers = way.between.no in
    subst (λ e. HasEnded rules held feed certs before now e) (sym is)
    (cert_bad rules StandsFor held feed certs before run reader first now rest (answered_lines run + 1) why way same (omega (arith, both, agreed, refused)) bad)

-- the counts of a run make its last line
pub end_is : (answers : List Answer) (agreed refused : ℕ) → agreed ≡ count_yes answers → refused ≡ count_no answers
    → end_line (agreed + refused) agreed refused ≡ end_text answers
end_is answers agreed refused yes_is no_is =
    let both = counts_add_up answers in
    let size : agreed + refused ≡ length answers = omega (arith, both, yes_is, no_is) in
    ap (λ k. end_line k agreed refused) size ∙ ap (λ k. end_line (length answers) k refused) yes_is ∙ ap (λ k. end_line (length answers) (count_yes answers) k) no_is

pub takes_none : (before after : Option TextLines) (reader : ReaderState) (found : Option Line) → TakesLine before after reader (Ok found)
    → found ≡ None → IfSome before (λ r. r ≡ ended at_end)
takes_none before after reader found takes is = (subst (λ (o : Option Line). TakesLine before after reader (Ok o)) is takes).0

pub takes_long : (before after : Option TextLines) (reader : ReaderState) (fault : LineFault) {number : ℕ} → TakesLine before after reader (Err fault)
    → fault ≡ LineTooLong number → IfSome before (λ r. r ≡ ended too_long)
takes_long before after reader fault takes is = subst (λ (f : LineFault). TakesLine before after reader (Err f)) is takes

pub takes_cut : (before after : Option TextLines) (reader : ReaderState) (fault : LineFault) {number : ℕ} → TakesLine before after reader (Err fault)
    → fault ≡ NoEol number → IfSome before (λ r. r ≡ ended no_eol)
takes_cut before after reader fault takes is = subst (λ (f : LineFault). TakesLine before after reader (Err f)) is takes
