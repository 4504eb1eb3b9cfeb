-- A run that answers ticks, from its start to its end.
use Rattle.std.proofs.Common.{◌≡◌, ◌∙◌, sym, ap, subst, refl, ℕ, ◌⊎◌, inl, inr, true, false, List, [], ◌∷◌, ◌++◌, length, take, drop, map, Option, Some, None, IfSome, arith, Err}
use Rattle.std.specs.List.{concat}
use Rattle.std.specs.Io.KnownBytes.{prepend_known}
use Rattle.std.specs.Option.{option_to_list}
use Rattle.std.proofs.lemmas.List.{append-nil, append_assoc, take-append-drop}
use Rattle.vx_desk.specs.declared.device.Slot.{Slot}
use Rattle.vx_desk.specs.declared.device.Slot.TheVariants.{Feed, Out, Certs}
use Rattle.vx_desk.specs.Told.{Told}
use Rattle.vx_feed.specs.declared.events.Event.{Event}
use Rattle.vx_feed.specs.Feed.{Reading, stopped_at}
use Rattle.vx_reading.specs.declared.feed.FeedReader.{FeedReader}
use Rattle.vx_reading.specs.declared.stop.FeedStop.{FeedStop}
use Rattle.vx_reading.specs.declared.stop.FeedStop.TheVariants as stop
use Rattle.vx_reading.specs.FeedReading.{IsAt, IsCutBehind, IsReadTo, ReadsNext, Says, all_good, feed_told}
use Rattle.vx_reading.specs.Stops.{bad_cause}
use Rattle.vx_reading.specs.WhatWasRead.{EventsRead, WereRead}
use Rattle.vx_reading.proofs.FaultLemmas.{cut_behind}
use Rattle.vx_reading.proofs.FeedLemmas.{events_read, read_so_many}
use Rattle.vx_drivers.specs.declared.exit.Exit.{Exit}
use Rattle.vx_drivers.specs.declared.exit.Exit.TheVariants.{Done, BadFeed, NoMemory, ReadFault, WriteFault}
use Rattle.vx_drivers.specs.declared.tick_run.TickRun.{TickRun}
use Rattle.vx_drivers.specs.Along.{Along}
use Rattle.vx_drivers.specs.Exits.{exit_of_stop, is_cut, is_write_fault}
use Rattle.vx_drivers.specs.Sending.{CutsOff, Sent, Text}
use Rattle.vx_drivers.specs.TickRun.{AreWhole, GivesTickAnswers, GivesTickParts, RunsTicksBy, RunsTicksIf, TickRules, TickStand, TakesEvent, certificates_text, counts_text, lines_text, no_events, one_more}
use Rattle.vx_drivers.specs.TickSteps.{AnswersEventsRead, CutsTick, HasAnswered, HasEndedTicks, IsAtEvent, IsNewTicks, IsThroughTicks, SendsNothing, SendsTick}
use Rattle.vx_drivers.proofs.ExitLemmas.{bad_not_cut, done_not_cut, memory_not_read, write_cuts, write_is_fault, write_not_read}
use Rattle.vx_drivers.proofs.SendingLemmas.{sent_more, sent_none, sent_still}
use Rattle.vx_drivers.proofs.TickLemmas.{counted_same, steps_more, text_last, texts_more}

-- a list with one more at its end is split before that one, or at an earlier place
split_last : {A : Type 0} (xs : List A) (a : A) (before : List A) (x : A) (after : List A)
    → xs ++ a ∷ [] ≡ before ++ x ∷ after
    → (before ≡ xs) ⊎ ((more : List A) × (xs ≡ before ++ x ∷ more))
split_last [] a [] x after is = inl refl
split_last [] a (b ∷ []) x after is = absurd (let no : ⊥ = cc in no)
split_last [] a (b ∷ c ∷ before) x after is = absurd (let no : ⊥ = cc in no)
split_last (y ∷ xs) a [] x after is = let first : y ≡ x = cc in inr (xs, ap (λ z. z ∷ xs) first)
split_last (y ∷ xs) a (b ∷ before) x after is =
    let first : y ≡ b = cc in
    let rest : xs ++ a ∷ [] ≡ before ++ x ∷ after = cc in
    further y b first (split_last xs a before x after rest)
  where
    further : (y b : _) → y ≡ b → (before ≡ xs) ⊎ ((more : List _) × (xs ≡ before ++ x ∷ more))
        → (b ∷ before ≡ y ∷ xs) ⊎ ((more : List _) × (y ∷ xs ≡ b ∷ before ++ x ∷ more))
    further y b first (inl same) = inl (ap (λ z. z ∷ before) (sym first) ∙ ap (λ l. y ∷ l) same)
    further y b first (inr (more, same)) = inr (more, ap (λ l. y ∷ l) same ∙ ap (λ z. z ∷ before ++ x ∷ more) first)

-- no byte before those that are left
untouched : (left : Option (List ℕ)) → left ≡ prepend_known [] left
untouched None = refl
untouched (Some bytes) = refl

-- before anything is read, no line was
no_line_read : (told : Told) → WereRead [] told.left told
no_line_read told = record { more = []; held_is = untouched told.left }

-- and no event
nothing_read : (told : Told) → EventsRead [] told.left told
nothing_read told = record {
  lines = [];
  were_read = no_line_read told;
  say = record { events_are = refl; none_bad = refl };
}

-- events that were taken up are the first ones of the feed, or of some feed where none is told
record Firsts (feed : Option Reading) (events : List Event) : Type 0 where
  over : Reading
  feed_is : Says feed over
  rest : List Event
  are_first : over.events ≡ events ++ rest

firsts : (feed : Option Reading) (events : List Event) → IfSome feed (IsReadTo (length events) events) → Firsts feed events
firsts None events h = record { over = all_good events; feed_is = tt; rest = []; are_first = sym (append-nil events) }
firsts (Some f) events h = record {
  over = f;
  feed_is = refl;
  rest = drop (length events) f.events;
  are_first = sym (take-append-drop (length events) f.events)
      ∙ ap (λ t. t ++ drop (length events) f.events) (sym h.events_are);
}

no_firsts : (feed : Option Reading) → Firsts feed []
no_firsts None = record { over = all_good []; feed_is = tt; rest = []; are_first = refl }
no_firsts (Some f) = record { over = f; feed_is = refl; rest = f.events; are_first = refl }

module _ {A : Type 0} (rules : TickRules A) where
  -- ---- first parts of the texts

  -- where all certificates are whole
  whole_all : (answers : List A) (out : Text) → AreWhole rules answers out (certificates_text rules answers)
  whole_all answers out before answer after is begun = (
    certificates_text rules after,
    ap (certificates_text rules) (is ∙ sym (append_assoc before (answer ∷ []) after))
        ∙ texts_more rules.certificate (before ++ answer ∷ []) after,
  )

  -- and where a part of one more follows, of whose line nothing was sent
  whole_but_last : (answers : List A) (answer : A) (part : Text)
      → AreWhole rules (answers ++ answer ∷ []) (lines_text rules answers) (certificates_text rules answers ++ part)
  whole_but_last answers answer part before x after is begun = by (split_last answers answer before x after is)
    where
      by : (before ≡ answers) ⊎ ((more : List A) × (answers ≡ before ++ x ∷ more))
          → (more : Text) × (certificates_text rules answers ++ part ≡ certificates_text rules (before ++ x ∷ []) ++ more)
      by (inl same) = let size = ap (λ l. length (lines_text rules l)) same in absurd (omega (arith, size, begun))
      by (inr (more, same)) =
          let whole = whole_all answers (lines_text rules answers) before x more same begun in (
            whole.0 ++ part,
            ap (λ t. t ++ part) whole.1
                ∙ append_assoc (certificates_text rules (before ++ x ∷ [])) whole.0 part,
          )

  gives_whole : (over : Reading) (stand : TickStand A) (rest : List Event) → over.events ≡ stand.events ++ rest
      → Along (TakesEvent rules) no_events stand.events stand
      → GivesTickParts rules over (lines_text rules stand.answers) (certificates_text rules stand.answers)
  gives_whole over stand rest first steps = record {
    out_more = [];
    certs_more = [];
    gives = record {
      stand = stand;
      steps = steps;
      rest = rest;
      are_first = first;
      last = [];
      last_is = inl refl;
      out_is = refl;
      certs_are = append-nil (certificates_text rules stand.answers);
    };
    whole = whole_all stand.answers (lines_text rules stand.answers);
  }

  gives_alone : (over : Reading) (stand : TickStand A) (rest : List Event) → over.events ≡ stand.events ++ rest
      → Along (TakesEvent rules) no_events stand.events stand
      → GivesTickAnswers rules over (lines_text rules stand.answers) (certificates_text rules stand.answers)
  gives_alone over stand rest first steps =
      record { stand = stand; steps = steps; rest = rest; are_first = first; out_is = refl; certs_are = refl }

  -- first parts of what the events of a stand give
  record GivesPartsOf (over : Reading) (stand : TickStand A) (out certs : Text) : Type 0 where
    parts : GivesTickParts rules over out certs
    stand_is : parts.gives.stand ≡ stand

  -- a part of the certificate
  gives_certificate : (over : Reading) (old : TickStand A) (event : Event) (answer : A) (rest : List Event) (n : ℕ)
      → over.events ≡ (old.events ++ event ∷ []) ++ rest
      → Along (TakesEvent rules) no_events (old.events ++ event ∷ []) (one_more old event (Some answer))
      → GivesPartsOf over (one_more old event (Some answer)) (lines_text rules old.answers)
      (certificates_text rules old.answers ++ take n (rules.certificate answer))
  gives_certificate over old event answer rest n first steps = record {
    stand_is = refl;
    parts = record {
      out_more = rules.line answer;
      certs_more = drop n (rules.certificate answer);
      gives = record {
        stand = one_more old event (Some answer);
        steps = steps;
        rest = rest;
        are_first = first;
        last = [];
        last_is = inl refl;
        out_is = sym (append-nil (lines_text rules (old.answers ++ answer ∷ [])) ∙ text_last rules.line old.answers answer);
        certs_are =
            append_assoc (certificates_text rules old.answers) (take n (rules.certificate answer))
            (drop n (rules.certificate answer))
            ∙ ap (λ t. certificates_text rules old.answers ++ t) (take-append-drop n (rules.certificate answer))
            ∙ sym (text_last rules.certificate old.answers answer);
      };
      whole = whole_but_last old.answers answer (take n (rules.certificate answer));
    };
  }

  -- the certificate, and a part of the line
  gives_line : (over : Reading) (old : TickStand A) (event : Event) (answer : A) (rest : List Event) (n : ℕ)
      → over.events ≡ (old.events ++ event ∷ []) ++ rest
      → Along (TakesEvent rules) no_events (old.events ++ event ∷ []) (one_more old event (Some answer))
      → GivesPartsOf over (one_more old event (Some answer)) (lines_text rules old.answers ++ take n (rules.line answer))
      (certificates_text rules (old.answers ++ answer ∷ []))
  gives_line over old event answer rest n first steps = record {
    stand_is = refl;
    parts = record {
      out_more = drop n (rules.line answer);
      certs_more = [];
      gives = record {
        stand = one_more old event (Some answer);
        steps = steps;
        rest = rest;
        are_first = first;
        last = [];
        last_is = inl refl;
        out_is =
            append_assoc (lines_text rules old.answers) (take n (rules.line answer)) (drop n (rules.line answer))
            ∙ ap (λ t. lines_text rules old.answers ++ t) (take-append-drop n (rules.line answer))
            ∙ sym (text_last rules.line old.answers answer)
            ∙ sym (append-nil (lines_text rules (old.answers ++ answer ∷ [])));
        certs_are = append-nil (certificates_text rules (old.answers ++ answer ∷ []));
      };
      whole = whole_all (old.answers ++ answer ∷ []) (lines_text rules old.answers ++ take n (rules.line answer));
    };
  }

  -- all answers, and a part of the last line
  gives_last : (stand : TickStand A) (n : ℕ) → Along (TakesEvent rules) no_events stand.events stand
      → GivesPartsOf (all_good stand.events) stand
      (lines_text rules stand.answers ++ take n (counts_text rules stand.answers)) (certificates_text rules stand.answers)
  gives_last stand n steps = record {
    stand_is = refl;
    parts = record {
      out_more = drop n (counts_text rules stand.answers);
      certs_more = [];
      gives = record {
        stand = stand;
        steps = steps;
        rest = [];
        are_first = sym (append-nil stand.events);
        last = counts_text rules stand.answers;
        last_is = inr (refl, refl);
        out_is =
            append_assoc (lines_text rules stand.answers) (take n (counts_text rules stand.answers))
            (drop n (counts_text rules stand.answers))
            ∙ ap (λ t. lines_text rules stand.answers ++ t) (take-append-drop n (counts_text rules stand.answers));
        certs_are = append-nil (certificates_text rules stand.answers);
      };
      whole = whole_all stand.answers (lines_text rules stand.answers ++ take n (counts_text rules stand.answers));
    };
  }

  cut_by : (over : Reading) (out certs : Text) (exit : Exit) → is_cut exit ≡ true → GivesTickParts rules over out certs
      → (is_write_fault exit ≡ false → GivesTickAnswers rules over out certs) → RunsTicksBy rules over exit out certs
  cut_by over out certs exit cut parts whole =
      subst (λ b. RunsTicksIf rules over exit out certs b) (sym cut) (record { parts = parts; whole = whole })

  -- whole answers were sent
  cut_between : (over : Reading) (stand : TickStand A) (rest : List Event) (exit : Exit) → is_cut exit ≡ true
      → over.events ≡ stand.events ++ rest → Along (TakesEvent rules) no_events stand.events stand
      → RunsTicksBy rules over exit (lines_text rules stand.answers) (certificates_text rules stand.answers)
  cut_between over stand rest exit cut first steps =
      cut_by over (lines_text rules stand.answers) (certificates_text rules stand.answers) exit cut
      (gives_whole over stand rest first steps) (λ not. gives_alone over stand rest first steps)

  -- a write failed inside a text
  cut_inside : (over : Reading) (out certs : Text) (slot : Slot) (exit : Exit) → exit ≡ WriteFault slot
      → GivesTickParts rules over out certs → RunsTicksBy rules over exit out certs
  cut_inside over out certs slot exit is parts =
      cut_by over out certs exit (write_cuts slot exit is) parts (write_is_fault slot exit is)

  -- ---- what a run that was cut off has sent of what was read

  -- all answers to the events that were read were sent
  all_read : (held : Option (List ℕ)) (feed : Option Reading) (now : Slot → Told) (exit : Exit) (stand : TickStand A)
      → Along (TakesEvent rules) no_events stand.events stand → EventsRead stand.events held (now Feed)
      → (exit ≡ ReadFault Feed → IsCutBehind feed stand.events now)
      → AnswersEventsRead rules held feed now exit (lines_text rules stand.answers) (certificates_text rules stand.answers)
  all_read held feed now exit stand steps read cut = record {
    stand = stand;
    steps = steps;
    read = read;
    last = [];
    last_is = inl refl;
    out_part = ([], refl);
    certs_part = ([], sym (append-nil (certificates_text rules stand.answers)));
    whole = λ not. (refl, refl);
    cut = cut;
  }

  -- the last line comes only behind the told feed's end
  told_last : (feed : Option Reading) (over : Reading) (stand : TickStand A) (last : Text) → Says feed over
      → (last ≡ []) ⊎ ((over ≡ all_good stand.events) × (last ≡ counts_text rules stand.answers))
      → (last ≡ []) ⊎ (Says feed (all_good stand.events) × (last ≡ counts_text rules stand.answers))
  told_last feed over stand last says (inl none) = inl none
  told_last feed over stand last says (inr (all, is)) = inr (subst (λ r. Says feed r) all says, is)

  -- or a write failed, and first parts of them were sent
  part_read : (held : Option (List ℕ)) (feed : Option Reading) (now : Slot → Told) (slot : Slot) (exit : Exit)
      (over : Reading) (stand : TickStand A) (out certs : Text) → exit ≡ WriteFault slot → Says feed over
      → GivesPartsOf over stand out certs → EventsRead stand.events held (now Feed)
      → AnswersEventsRead rules held feed now exit out certs
  part_read held feed now slot exit over stand out certs is says of read =
      let gives = of.parts.gives in
      record {
        stand = gives.stand;
        steps = gives.steps;
        read = subst (λ (s : TickStand A). EventsRead s.events held (now Feed)) (sym of.stand_is) read;
        last = gives.last;
        last_is = told_last feed over gives.stand gives.last says gives.last_is;
        out_part = (of.parts.out_more, sym gives.out_is);
        certs_part = (of.parts.certs_more, sym gives.certs_are);
        whole = write_is_fault slot exit is;
        cut = write_not_read slot exit is;
      }

  -- a run that has no memory to begin
  pub never_started : (feed : Option Reading) (told : Slot → Told)
      → HasEndedTicks rules (told Feed).left feed told told NoMemory
  never_started feed told =
      let first = no_firsts feed in
      record {
        over = first.over;
        feed_is = first.feed_is;
        out = [];
        certs = [];
        runs = cut_between first.over no_events first.rest NoMemory refl first.are_first refl;
        out_sent = sent_none (told Out) (told Out) refl;
        certs_sent = sent_none (told Certs) (told Certs) refl;
        cut = λ is.
            all_read (told Feed).left feed told NoMemory no_events refl (nothing_read (told Feed)) memory_not_read;
      }

  module _ {T : Type 0} (StandsFor : T → List Event → Type 0) where
    -- nothing was read
    pub starts : (run : TickRun T) (told : Slot → Told) → IsNewTicks StandsFor run
        → HasAnswered rules StandsFor (told Feed).left (feed_told told) told run told
    starts run told new =
        let p : run.published ≡ 0 = new.published in
        let u : run.undecided ≡ 0 = new.undecided in
        let r : run.refused ≡ 0 = new.refused in
        record {
          stand = no_events;
          between = record {
            at = new.feed told;
            steps = refl;
            counted = record { published = p; undecided = u; refused = r; few = omega (arith, p, u, r) };
          };
          certs = sent_none (told Certs) (told Certs) refl;
          out = sent_none (told Out) (told Out) refl;
        }

    module _ (held : Option (List ℕ)) (feed : Option Reading) (before : Slot → Told) where
      -- other slots of the desk changed
      still : (f : A → Text) (answers : List A) (slot : Slot) (between now : Slot → Told)
          → Sent (concat (map f answers)) (before slot) (between slot) → now slot ≡ between slot
          → Sent (concat (map f answers)) (before slot) (now slot)
      still f answers slot between now sent same = sent_still (concat (map f answers)) (before slot) (between slot)
          (now slot) sent same

      -- a text more was sent to a slot
      more : (f : A → Text) (answers : List A) (text : Text) (slot : Slot) (between read now : Slot → Told)
          → Sent (concat (map f answers)) (before slot) (between slot) → read slot ≡ between slot
          → Sent text (read slot) (now slot) → Sent (concat (map f answers) ++ text) (before slot) (now slot)
      more f answers text slot between read now sent same further =
          sent_more (concat (map f answers)) text (before slot) (read slot) (now slot)
          (still f answers slot between read sent same) further

      -- what was read stays read where the feed was left alone
      still_read : (events : List Event) (between now : Slot → Told) → now Feed ≡ between Feed
          → EventsRead events held (between Feed) → EventsRead events held (now Feed)
      still_read events between now same = subst (λ (t : Told). EventsRead events held t) (sym same)

      -- ---- one event more

      pub is_at_event : (old run : TickRun T) (between now : Slot → Told) (event : Event)
          (way : HasAnswered rules StandsFor held feed before old between)
          → IsAt StandsFor held feed (way.stand.events ++ event ∷ []) run.feed now → run.published ≡ old.published
          → run.undecided ≡ old.undecided → run.refused ≡ old.refused
          → IsAtEvent rules StandsFor held feed way.stand event run now
      is_at_event old run between now event way at p u r = record {
        at = at;
        steps = way.between.steps;
        counted = counted_same rules way.stand old run p u r way.between.counted;
      }

      pub answered_on : (old run : TickRun T) (between read now : Slot → Told) (event : Event)
          (way : HasAnswered rules StandsFor held feed before old between)
          → read Out ≡ between Out → read Certs ≡ between Certs
          → SendsTick rules StandsFor held feed way.stand event run read now
          → HasAnswered rules StandsFor held feed before run now
      answered_on old run between read now event way out_same certs_same sends = record {
        stand = one_more way.stand event sends.said;
        between = sends.between;
        certs = subst (λ t. Sent t (before Certs) (now Certs))
            (sym (texts_more rules.certificate way.stand.answers (option_to_list sends.said)))
            (more rules.certificate way.stand.answers (certificates_text rules (option_to_list sends.said))
            Certs between read now way.certs certs_same sends.certs);
        out = subst (λ t. Sent t (before Out) (now Out))
            (sym (texts_more rules.line way.stand.answers (option_to_list sends.said)))
            (more rules.line way.stand.answers (lines_text rules (option_to_list sends.said))
            Out between read now way.out out_same sends.out);
      }

      -- ---- ends

      -- nothing more was sent, and the run is cut off
      pub cut_short : (run : TickRun T) (between now : Slot → Told) (exit : Exit)
          (way : HasAnswered rules StandsFor held feed before run between)
          → now Out ≡ between Out → now Certs ≡ between Certs → is_cut exit ≡ true
          → EventsRead way.stand.events held (now Feed)
          → (exit ≡ ReadFault Feed → IsCutBehind feed way.stand.events now)
          → HasEndedTicks rules held feed before now exit
      cut_short run between now exit way out_same certs_same cuts read behind =
          let first = firsts feed way.stand.events
          (read_so_many StandsFor held feed (length way.stand.events) way.stand.events run.feed between way.between.at refl)
          in
          record {
            over = first.over;
            feed_is = first.feed_is;
            out = lines_text rules way.stand.answers;
            certs = certificates_text rules way.stand.answers;
            runs = cut_between first.over way.stand first.rest exit cuts first.are_first way.between.steps;
            out_sent = still rules.line way.stand.answers Out between now way.out out_same;
            certs_sent = still rules.certificate way.stand.answers Certs between now way.certs certs_same;
            cut = λ is. all_read held feed now exit way.stand way.between.steps read behind;
          }

      -- the feed is not read on
      pub stop_ends : (run : TickRun T) (reader : FeedReader T) (between now : Slot → Told) (why : FeedStop)
          (way : HasAnswered rules StandsFor held feed before run between)
          → now Out ≡ between Out → now Certs ≡ between Certs → EventsRead way.stand.events held (now Feed)
          → ReadsNext StandsFor held feed way.stand.events reader now (Err why)
          → HasEndedTicks rules held feed before now (exit_of_stop why)
      stop_ends run reader between now (stop.BadLine number why) way out_same certs_same read (numbered, is_cause, says)
          = record {
            over = stopped_at way.stand.events (bad_cause why);
            feed_is = says;
            out = lines_text rules way.stand.answers;
            certs = certificates_text rules way.stand.answers;
            runs = record {
              stand = way.stand;
              steps = way.between.steps;
              ends = (why, ap (λ n. BadFeed n why) numbered, refl);
              out_is = sym (append-nil (lines_text rules way.stand.answers));
              certs_are = refl;
            };
            out_sent = still rules.line way.stand.answers Out between now way.out out_same;
            certs_sent = still rules.certificate way.stand.answers Certs between now way.certs certs_same;
            cut = bad_not_cut number why;
          }
      stop_ends run reader between now stop.Device way out_same certs_same read reads =
          cut_short run between now (exit_of_stop stop.Device) way out_same certs_same refl read
          (λ is. cut_behind StandsFor held feed way.stand.events reader now reads.0 reads.1)
      stop_ends run reader between now stop.NoMemory way out_same certs_same read reads =
          cut_short run between now (exit_of_stop stop.NoMemory) way out_same certs_same refl read memory_not_read

      -- the run ended at an event
      pub event_ends : (run : TickRun T) (reader : FeedReader T) (between read now : Slot → Told) (event : Event)
          (exit : Exit) (way : HasAnswered rules StandsFor held feed before run between)
          → read Out ≡ between Out → read Certs ≡ between Certs → EventsRead way.stand.events held (read Feed)
          → IsAt StandsFor held feed (way.stand.events ++ event ∷ []) reader read → now Feed ≡ read Feed
          → SendsNothing read now exit ⊎ CutsTick rules way.stand event read now exit
          → HasEndedTicks rules held feed before now exit
      event_ends run reader between read now event exit way out_same certs_same stays at feed_same (inl nothing) =
          subst (λ e. HasEndedTicks rules held feed before now e) (sym nothing.exit_is)
          (cut_short run between now NoMemory way (nothing.out ∙ out_same) (nothing.certs ∙ certs_same) refl
          (still_read way.stand.events read now feed_same stays) memory_not_read)
      event_ends run reader between read now event exit way out_same certs_same stays at feed_same (inr cuts) =
          let events = way.stand.events ++ event ∷ [] in
          let first = firsts feed events (read_so_many StandsFor held feed (length events) events reader read at refl) in
          let steps = steps_more rules way.stand event (Some cuts.answer) way.between.steps cuts.gives in
          cut_at first steps cuts.cut
        where
          events : List Event
          events = way.stand.events ++ event ∷ []

          were_read : EventsRead events held (now Feed)
          were_read = still_read events read now feed_same (events_read held events reader read at.read)

          cut_at : Firsts feed events
              → Along (TakesEvent rules) no_events events (one_more way.stand event (Some cuts.answer))
              → (CutsOff Certs (rules.certificate cuts.answer) (read Certs) (now Certs) exit × (now Out ≡ read Out))
              ⊎ (Sent (rules.certificate cuts.answer) (read Certs) (now Certs) × CutsOff Out (rules.line cuts.answer)
              (read Out) (now Out) exit)
              → HasEndedTicks rules held feed before now exit
          cut_at first steps (inl (cut, same)) =
              let out = lines_text rules way.stand.answers in
              let certs = certificates_text rules way.stand.answers ++ take cut.part.count (rules.certificate cuts.answer) in
              let gives = gives_certificate first.over way.stand event cuts.answer first.rest cut.part.count
              first.are_first steps in
              record {
                over = first.over;
                feed_is = first.feed_is;
                out = out;
                certs = certs;
                runs = cut_inside first.over out certs Certs exit cut.exit_is gives.parts;
                out_sent = still rules.line way.stand.answers Out between now way.out (same ∙ out_same);
                certs_sent = more rules.certificate way.stand.answers (take cut.part.count (rules.certificate cuts.answer))
                    Certs between read now way.certs certs_same cut.part.sent;
                cut = λ is. part_read held feed now Certs exit first.over (one_more way.stand event (Some cuts.answer)) out certs
                    cut.exit_is first.feed_is gives were_read;
              }
          cut_at first steps (inr (sent, cut)) =
              let out = lines_text rules way.stand.answers ++ take cut.part.count (rules.line cuts.answer) in
              let certs = certificates_text rules (way.stand.answers ++ cuts.answer ∷ []) in
              let gives = gives_line first.over way.stand event cuts.answer first.rest cut.part.count first.are_first steps in
              record {
                over = first.over;
                feed_is = first.feed_is;
                out = out;
                certs = certs;
                runs = cut_inside first.over out certs Out exit cut.exit_is gives.parts;
                out_sent = more rules.line way.stand.answers (take cut.part.count (rules.line cuts.answer))
                    Out between read now way.out out_same cut.part.sent;
                certs_sent = subst (λ t. Sent t (before Certs) (now Certs))
                    (sym (text_last rules.certificate way.stand.answers cuts.answer))
                    (more rules.certificate way.stand.answers (rules.certificate cuts.answer)
                    Certs between read now way.certs certs_same sent);
                cut = λ is. part_read held feed now Out exit first.over (one_more way.stand event (Some cuts.answer)) out certs
                    cut.exit_is first.feed_is gives were_read;
              }

      -- ---- behind the last event

      pub feed_ended : (old run : TickRun T) (between now : Slot → Told)
          (way : HasAnswered rules StandsFor held feed before old between)
          → IsAt StandsFor held feed way.stand.events run.feed now → Says feed (all_good way.stand.events)
          → run.published ≡ old.published → run.undecided ≡ old.undecided → run.refused ≡ old.refused
          → now Out ≡ between Out → now Certs ≡ between Certs
          → IsThroughTicks rules StandsFor held feed before run now
      feed_ended old run between now way at says p u r out_same certs_same = record {
        way = record {
          stand = way.stand;
          between = record {
            at = at;
            steps = way.between.steps;
            counted = counted_same rules way.stand old run p u r way.between.counted;
          };
          certs = still rules.certificate way.stand.answers Certs between now way.certs certs_same;
          out = still rules.line way.stand.answers Out between now way.out out_same;
        };
        says = says;
      }

      -- the last line is sent
      pub last_sent : (run : TickRun T) (between now : Slot → Told) (text : Text)
          (through : IsThroughTicks rules StandsFor held feed before run between)
          → now Certs ≡ between Certs → text ≡ counts_text rules through.way.stand.answers
          → Sent text (between Out) (now Out)
          → HasEndedTicks rules held feed before now Done
      last_sent run between now text through certs_same is sent =
          let way = through.way in
          record {
            over = all_good way.stand.events;
            feed_is = through.says;
            out = lines_text rules way.stand.answers ++ counts_text rules way.stand.answers;
            certs = certificates_text rules way.stand.answers;
            runs = record { stand = way.stand; steps = way.between.steps; ends = refl; out_is = refl; certs_are = refl };
            out_sent = more rules.line way.stand.answers (counts_text rules way.stand.answers)
                Out between between now way.out refl (subst (λ t. Sent t (between Out) (now Out)) is sent);
            certs_sent = still rules.certificate way.stand.answers Certs between now way.certs certs_same;
            cut = done_not_cut;
          }

      -- or a write of it fails
      pub last_cut : (run : TickRun T) (between now : Slot → Told) (text : Text) (exit : Exit)
          (through : IsThroughTicks rules StandsFor held feed before run between)
          → now Certs ≡ between Certs → now Feed ≡ between Feed → text ≡ counts_text rules through.way.stand.answers
          → CutsOff Out text (between Out) (now Out) exit
          → HasEndedTicks rules held feed before now exit
      last_cut run between now text exit through certs_same feed_same is cut =
          let way = through.way in
          let part = take cut.part.count (counts_text rules way.stand.answers) in
          let gives = gives_last way.stand cut.part.count way.between.steps in
          record {
            over = all_good way.stand.events;
            feed_is = through.says;
            out = lines_text rules way.stand.answers ++ part;
            certs = certificates_text rules way.stand.answers;
            runs = cut_inside (all_good way.stand.events) (lines_text rules way.stand.answers ++ part)
                (certificates_text rules way.stand.answers) Out exit cut.exit_is gives.parts;
            out_sent = more rules.line way.stand.answers part Out between between now way.out refl
                (subst (λ t. Sent (take cut.part.count t) (between Out) (now Out)) is cut.part.sent);
            certs_sent = still rules.certificate way.stand.answers Certs between now way.certs certs_same;
            cut = λ is. part_read held feed now Out exit (all_good way.stand.events) way.stand
                (lines_text rules way.stand.answers ++ part) (certificates_text rules way.stand.answers) cut.exit_is
                through.says gives
                (still_read way.stand.events between now feed_same
                (events_read held way.stand.events run.feed between way.between.at.read));
          }
