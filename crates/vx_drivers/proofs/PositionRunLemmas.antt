-- A run that settles positions, from its start to its end.
use Rattle.std.proofs.Common.{◌≡◌, ◌≢◌, ◌==◌, ◌∙◌, sym, ap, subst, refl, ℕ, ◌+◌, ◌-◌, ◌<◌, ◌≤◌, ◌⊎◌, inl, inr, Bool, true, false, List, [], ◌∷◌, ◌++◌, length, take, drop, get_or, arith}
use Rattle.std.proofs.Common.{IfErr, IfSome, OnOk, Option, Some, None, Result, Ok, Err}
use Rattle.std.specs.Option.{option_map}
use Rattle.std.proofs.lemmas.List.{append-nil, append_assoc, take-append-drop}
use Rattle.std.proofs.lemmas.Bool.Decides.{nat_tests}
use Rattle.std.proofs.lemmas.Option.{slice_get-get_or}
use Rattle.vx_lines.specs.TextLines.{Ending, TextLines, at_end, at_most, ended, line_then, lines_of, lines_then, no_eol, too_long, too_many}
use Rattle.vx_lines.proofs.LineLemmas.{lines_then-push}
use Rattle.vx_desk.specs.declared.device.Slot.{Slot}
use Rattle.vx_desk.specs.declared.device.Slot.TheVariants.{Feed, Side, Out, Certs}
use Rattle.vx_desk.specs.Coming.{coming}
use Rattle.vx_desk.specs.Told.{Told}
use Rattle.vx_feed.specs.declared.events.Event.{Event}
use Rattle.vx_feed.specs.Feed.{Reading, stopped_at}
use Rattle.vx_settle.specs.declared.fault.PositionFault.{PositionFault}
use Rattle.vx_settle.specs.Form.{fault_unsplit, unsplit_fault}
use Rattle.vx_blocks.specs.declared.split_lines.SplitLines.{SplitLines}
use Rattle.vx_blocks.specs.declared.split_lines.Rest.{Rest}
use Rattle.vx_blocks.specs.declared.split_lines.Rest.TheVariants.{More, End, Unsplit, TooLong, NoEol}
use Rattle.vx_blocks.specs.SplitLines.{IsFresh, IsRestAfter, behind, has_line, lines_coming}
use Rattle.vx_blocks.specs.Given.{HasGiven, TakesNextLine, WereRead}
use Rattle.vx_blocks.proofs.ComingLemmas.{coming_kept, none_at_hand}
use Rattle.vx_blocks.proofs.FreshLemmas.{fresh_coming}
use Rattle.vx_blocks.proofs.GivenLemmas.{given_kept}
use Rattle.vx_blocks.proofs.TakeLemmas.{takes_next}
use Rattle.vx_reading.specs.declared.feed.FeedReader.{FeedReader}
use Rattle.vx_reading.specs.declared.stop.FeedStop.{FeedStop}
use Rattle.vx_reading.specs.declared.stop.FeedStop.TheVariants as stop
use Rattle.vx_reading.specs.FeedReading.{ReadsAll, Says, all_good, feed_told}
use Rattle.vx_reading.specs.WhatWasRead.{EventsRead}
use Rattle.vx_reading.specs.Stops.{bad_cause}
use Rattle.vx_drivers.specs.declared.exit.Exit.{Exit}
use Rattle.vx_drivers.specs.declared.exit.Exit.TheVariants.{Done, BadFeed, BadPositions, ReadFault, WriteFault, NoMemory as WantsMemory}
use Rattle.vx_drivers.specs.declared.exit.PositionCause.{PositionCause}
use Rattle.vx_drivers.specs.declared.exit.PositionCause.TheVariants as cause
use Rattle.vx_drivers.specs.declared.limits.TheConstants.{POSITION_LINES_MAX, POSITION_LINE_LEN_MAX}
use Rattle.vx_drivers.specs.declared.position_run.PositionRun.{PositionRun}
use Rattle.vx_drivers.specs.Along.{Along}
use Rattle.vx_drivers.specs.Exits.{exit_of_stop, is_cut}
use Rattle.vx_drivers.specs.Held.{Held, held_in}
use Rattle.vx_drivers.specs.PositionExits.{IsPositionExit}
use Rattle.vx_drivers.specs.PositionLines.{IsPositionLines, ReadsPositionsOn, StopsReading, bad_behind as cause_behind}
use Rattle.vx_drivers.specs.PositionRun.{GivesPositionParts, NextIsBad, PositionRules, RunsPositionsBy, RunsPositionsIf, ComesToOneMore, items_from, positions_of, settled_text}
use Rattle.vx_drivers.specs.PositionSteps.{AddsItem, EndsAllSent, HasEndedPositions, HasOpened, IsReady, IsSettling, IsThroughPositions, KeepsItem, OpensSheet, SettlesLine, SettlesLinesRead, allowed_positions, positions_told}
use Rattle.vx_drivers.specs.Sending.{Begins, CutsOff, Sent, Text}
use Rattle.vx_drivers.specs.TickSteps.{CutsBoth}
use Rattle.vx_drivers.proofs.AlongLemmas.{along_more}
use Rattle.vx_drivers.proofs.ExitLemmas.{bad_not_cut, done_not_cut, memory_not_side, write_is_fault, write_not_side}
use Rattle.vx_drivers.proofs.PositionLinesLemmas.{given_read, next_first, none_given, none_were_read, side_kept}
use Rattle.vx_drivers.proofs.RunLemmas.{allowed_ended, allowed_line, allowed_none, twice}
use Rattle.vx_drivers.proofs.SendingLemmas.{sent_more, sent_none, sent_still}

-- ---- lines that are told, or some where none are

same_some : {A : Type 0} {a b : A} → Some a ≡ Some b → a ≡ b
same_some h = cc

-- first lines and a rest are the positions
said_first : (positions rest : Option TextLines) (lines : List (List ℕ)) (left : TextLines) → positions ≡ option_map (lines_then lines) rest
    → IfSome rest (λ r. r ≡ left) → IfSome positions (λ p. p ≡ lines_then lines left)
said_first None rest lines left first is = tt
said_first (Some p) None lines left first is = absurd (let no : ⊥ = cc in no)
said_first (Some p) (Some r) lines left first is = same_some first ∙ ap (lines_then lines) is

record Left (rest : Option TextLines) : Type 0 where
  left : TextLines
  left_is : IfSome rest (λ r. r ≡ left)

some_left : (rest : Option TextLines) → Left rest
some_left None = record { left = ended at_end; left_is = tt }
some_left (Some r) = record { left = r; left_is = refl }

first_told : (positions : Option TextLines) → positions ≡ option_map (lines_then []) positions
first_told None = refl
first_told (Some p) = refl

first_more : (positions rest new : Option TextLines) (lines : List (List ℕ)) (text : List ℕ) → positions ≡ option_map (lines_then lines) rest
    → rest ≡ option_map (line_then text) new → positions ≡ option_map (lines_then (lines ++ text ∷ [])) new
first_more positions rest None lines text first is = first ∙ ap (option_map (lines_then lines)) is
first_more positions rest (Some r) lines text first is =
    first ∙ ap (option_map (lines_then lines)) is ∙ ap (λ t. Some t) (sym (lines_then-push lines text r))

-- the line that comes next, of those that are left
next_left : (rest new : Option TextLines) (text : List ℕ) (after : Left new) → rest ≡ option_map (line_then text) new
    → IfSome rest (λ r. r ≡ line_then text after.left)
next_left rest None text after is = subst (λ o. IfSome o (λ r. r ≡ line_then text after.left)) (sym is) tt
next_left rest (Some r) text after is =
    subst (λ o. IfSome o (λ t. t ≡ line_then text after.left)) (sym is) (ap (line_then text) after.left_is)

-- lines that are read ahead are to come as they were, as many as there may be
pub allowed_kept : (count : ℕ) (old new : SplitLines) (before after : Slot → Told) → lines_coming new after ≡ lines_coming old before
    → allowed_positions count old before ≡ allowed_positions count new after
allowed_kept count old new before after same = ap (option_map (at_most (POSITION_LINES_MAX - count))) (sym same)

-- ---- the texts

append_part : (first text : Text) (n : ℕ) → (first ++ take n text) ++ drop n text ≡ first ++ text
append_part first text n = append_assoc first (take n text) (drop n text) ∙ ap (λ t. first ++ t) (take-append-drop n text)

module _ {A I : Type 0} (rules : PositionRules A I) where
  items_more : (number : ℕ) (items : List I) (item : I)
      → items_from rules number (items ++ item ∷ []) ≡ items_from rules number items ++ rules.item_line (number + length items) item
  items_more number [] item =
      let same : number ≡ number + length {A = I} [] = omega arith in
      append-nil (rules.item_line number item) ∙ ap (λ n. rules.item_line n item) same
  items_more number (x ∷ items) item =
      let same : number + 1 + length items ≡ number + length (x ∷ items) = omega arith in
      ap (λ t. rules.item_line number x ++ t) (items_more (number + 1) items item)
      ∙ sym (append_assoc (rules.item_line number x) (items_from rules (number + 1) items) (rules.item_line (number + 1 + length items) item))
      ∙ ap (λ n. (rules.item_line number x ++ items_from rules (number + 1) items) ++ rules.item_line n item) same

  settled_more : (answer : A) (items : List I) (item : I)
      → settled_text rules answer (items ++ item ∷ []) ≡ settled_text rules answer items ++ rules.item_line (length items + 1) item
  settled_more answer items item =
      let same : 1 + length items ≡ length items + 1 = omega arith in
      ap (λ t. rules.line answer ++ t) (items_more 1 items item ∙ ap (λ n. items_from rules 1 items ++ rules.item_line n item) same)
      ∙ sym (append_assoc (rules.line answer) (items_from rules 1 items) (rules.item_line (length items + 1) item))

  settled_none : (answer : A) → settled_text rules answer [] ≡ rules.line answer
  settled_none answer = append-nil (rules.line answer)

  -- ---- runs that are cut off

  cut_by : (over : Reading) (lines : TextLines) (exit : Exit) (out certs : Text) → is_cut exit ≡ true → GivesPositionParts rules over lines out certs
      → RunsPositionsBy rules over lines exit out certs
  cut_by over lines exit out certs cut parts = subst (λ b. RunsPositionsIf rules over lines exit out certs b) (sym cut) parts

  no_feed : (feed : Option Reading) → (over : Reading) × Says feed over
  no_feed None = (all_good [], tt)
  no_feed (Some f) = (f, refl)

  -- nothing was sent, and the run is cut off
  pub nothing_sent : (held : Held) (feed : Option Reading) (positions : Option TextLines) (before now : Slot → Told) (exit : Exit)
      → now Out ≡ before Out → now Certs ≡ before Certs → is_cut exit ≡ true → exit ≢ ReadFault Side
      → HasEndedPositions rules held feed positions before now exit
  nothing_sent held feed positions before now exit out_same certs_same cut not_side =
      let over = no_feed feed in
      let all = some_left positions in
      record {
        over = over.0;
        feed_is = over.1;
        lines = all.left;
        lines_are = all.left_is;
        out = [];
        certs = [];
        runs = cut_by over.0 all.left exit [] [] cut (inl (refl, refl));
        out_sent = sent_none (before Out) (now Out) out_same;
        certs_sent = sent_none (before Certs) (now Certs) certs_same;
        cut = λ is. inl (record { out_is = refl; certs_are = refl; not_side = not_side });
      }

  -- the feed is not read to its end
  pub feed_stops : {B : Type 0} (StandsFor : B → List Event → Type 0) (held : Held) (feed : Option Reading) (positions : Option TextLines)
      (reader : FeedReader B)
      (before now : Slot → Told) (why : FeedStop) → now Out ≡ before Out → now Certs ≡ before Certs
      → ReadsAll StandsFor held.feed feed reader now (Err why) → HasEndedPositions rules held feed positions before now (exit_of_stop why)
  feed_stops StandsFor held feed positions reader before now (stop.BadLine number why) out_same certs_same (is_cause, events, numbered, says) =
      let all = some_left positions in
      record {
        over = stopped_at events (bad_cause why);
        feed_is = says;
        lines = all.left;
        lines_are = all.left_is;
        out = [];
        certs = [];
        runs = (why, ap (λ n. BadFeed n why) numbered, refl, refl, refl);
        out_sent = sent_none (before Out) (now Out) out_same;
        certs_sent = sent_none (before Certs) (now Certs) certs_same;
        cut = λ is. bad_not_cut number why is;
      }
  feed_stops StandsFor held feed positions reader before now stop.Device out_same certs_same reads =
      nothing_sent held feed positions before now (exit_of_stop stop.Device) out_same certs_same refl
      (λ is. let same : ReadFault Feed ≡ ReadFault Side = is in cc)
  feed_stops StandsFor held feed positions reader before now stop.NoMemory out_same certs_same reads =
      nothing_sent held feed positions before now (exit_of_stop stop.NoMemory) out_same certs_same refl memory_not_side

  -- first parts of what the opening and some lines give
  gives_part : (events : List Event) (answer : A) (items : List I) (lines : List (List ℕ)) (left : TextLines) (last out out_more certs certs_more : Text)
      (exit : Exit)
      → rules.IsOpening events answer → Along (ComesToOneMore rules answer) [] lines items
      → (last ≡ []) ⊎ ((left ≡ ended at_end) × (last ≡ rules.last_lines answer items))
      → out ++ out_more ≡ settled_text rules answer items ++ last → certs ++ certs_more ≡ rules.certificate answer
      → (out ≡ []) ⊎ (certs_more ≡ []) → is_cut exit ≡ true
      → RunsPositionsBy rules (all_good events) (lines_then lines left) exit out certs
  gives_part events answer items lines left last out out_more certs certs_more exit opening steps last_is out_is certs_are whole cut =
      cut_by (all_good events) (lines_then lines left) exit out certs cut (inr (record {
        no_bad = refl;
        out_more = out_more;
        certs_more = certs_more;
        gives = record {
          answer = answer;
          is_opening = opening;
          items = items;
          rest = left;
          before = record { lines = lines; are_first = refl; steps = steps };
          last = last;
          last_is = last_is;
          out_is = out_is;
          certs_are = certs_are;
        };
        whole = whole;
      }))

  -- all that the lines give that were read was sent
  lines_settled : (held : Held) (feed : Option Reading) (positions : Option TextLines) (now : Slot → Told) (exit : Exit) (events : List Event) (answer : A)
      (items : List I)
      (lines : List (List ℕ)) → Says feed (all_good events) → EventsRead events held.feed (now Feed) → rules.IsOpening events answer
      → Along (ComesToOneMore rules answer) [] lines items → StopsReading lines held.side (now Side) exit
      → SettlesLinesRead rules held feed positions now exit (settled_text rules answer items) (rules.certificate answer)
  lines_settled held feed positions now exit events answer items lines says read opening steps stops = record {
    events = events;
    feed_is = says;
    events_read = read;
    answer = answer;
    is_opening = opening;
    items = items;
    lines = lines;
    steps = steps;
    lines_read = stops.were_read;
    last = [];
    last_is = inl refl;
    out_part = ([], refl);
    certs_part = ([], sym (append-nil (rules.certificate answer)));
    whole = λ none. (refl, refl);
    cut = stops.cut;
  }

  -- a write failed, and a first part of it was sent
  part_settled : (held : Held) (feed : Option Reading) (positions : Option TextLines) (now : Slot → Told) (slot : Slot) (exit : Exit) (events : List Event)
      (answer : A)
      (items : List I) (lines : List (List ℕ)) (last out certs : Text) → exit ≡ WriteFault slot → Says feed (all_good events)
      → EventsRead events held.feed (now Feed)
      → rules.IsOpening events answer → Along (ComesToOneMore rules answer) [] lines items → WereRead lines held.side (now Side)
      → (last ≡ []) ⊎ (IfSome positions (λ told. told ≡ lines_then lines (ended at_end)) × (last ≡ rules.last_lines answer items))
      → Begins out (settled_text rules answer items ++ last) → Begins certs (rules.certificate answer)
      → SettlesLinesRead rules held feed positions now exit out certs
  part_settled held feed positions now slot exit events answer items lines last out certs is says read opening steps were_read last_is out_part certs_part = record {
    events = events;
    feed_is = says;
    events_read = read;
    answer = answer;
    is_opening = opening;
    items = items;
    lines = lines;
    steps = steps;
    lines_read = were_read;
    last = last;
    last_is = last_is;
    out_part = out_part;
    certs_part = certs_part;
    whole = λ none. write_is_fault slot exit is none;
    cut = λ failed. write_not_side slot exit is failed;
  }

  module _ {S : Type 0} (StandsAt : S → A → List I → Type 0) where
    -- ---- one line

    -- a line that is no position ends the run
    pub fault_ends : (answer : A) (items : List I) (text : List ℕ) (old run : PositionRun S) (count : ℕ) (fault : PositionFault) (exit : Exit)
        → count ≡ length items → exit ≡ BadPositions (count + 1) (cause.Fault fault) → rules.ComesTo answer text (Err fault)
        → SettlesLine rules StandsAt answer items text old run (Err exit)
    fault_ends answer items text old run count fault exit same exit_is comes =
        inr (record { fault = fault; exit_is = exit_is ∙ ap (λ n. BadPositions (n + 1) (cause.Fault fault)) same; comes = comes })

    -- what the output says of a line is kept to be sent
    pub item_kept : (answer : A) (items : List I) (text : List ℕ) (line : Text) (sheet : S) (old run : PositionRun S)
        → AddsItem rules StandsAt answer items text line sheet → run.sheet ≡ sheet → run.unsent.items ≡ old.unsent.items ++ line
        → KeepsItem rules StandsAt answer items text old run
    item_kept answer items text line sheet old run adds sheet_is unsent = record {
      item = adds.item;
      comes = adds.comes;
      stands = subst (λ (s : S). StandsAt s answer (items ++ adds.item ∷ [])) (sym sheet_is) adds.stands;
      unsent = unsent ∙ ap (λ (t : Text). old.unsent.items ++ t) adds.line_is;
    }

    -- ---- the opening

    -- a write of one of its texts fails
    pub opening_cut : (held : Held) (feed : Option Reading) (positions : Option TextLines) (events : List Event) (certificate line : Text) (sheet : S)
        (before read now : Slot → Told) (exit : Exit) → Says feed (all_good events) → EventsRead events held.feed (now Feed) → held.side ≡ (now Side).left
        → OpensSheet rules StandsAt events certificate line sheet
        → read Out ≡ before Out → read Certs ≡ before Certs → CutsBoth certificate line read now exit
        → HasEndedPositions rules held feed positions before now exit
    opening_cut held feed positions events certificate line sheet before read now exit says were_read side opens out_same certs_same (inl (cut, same)) =
        let all = some_left positions in
        let part = take cut.part.count certificate in
        record {
          over = all_good events;
          feed_is = says;
          lines = lines_then [] all.left;
          lines_are = said_first positions positions [] all.left (first_told positions) all.left_is;
          out = [];
          certs = part;
          runs = gives_part events opens.answer [] [] all.left [] [] (settled_text rules opens.answer []) part (drop cut.part.count certificate) exit
              opens.is_opening refl (inl refl) (sym (append-nil (settled_text rules opens.answer [])))
              (take-append-drop cut.part.count certificate ∙ opens.certificate_is) (inl refl) (ap is_cut cut.exit_is);
          out_sent = sent_none (before Out) (now Out) (same ∙ out_same);
          certs_sent = subst (λ (t : Told). Sent part t (now Certs)) certs_same cut.part.sent;
          cut = λ is. inr (part_settled held feed positions now Certs exit events opens.answer [] [] [] [] part cut.exit_is says were_read opens.is_opening refl
              (none_were_read held.side (now Side) side) (inl refl) (settled_text rules opens.answer [] ++ [], refl)
              (drop cut.part.count certificate, sym (take-append-drop cut.part.count certificate ∙ opens.certificate_is)));
        }
    opening_cut held feed positions events certificate line sheet before read now exit says were_read side opens out_same certs_same (inr (sent, cut)) =
        let all = some_left positions in
        let part = take cut.part.count line in
        record {
          over = all_good events;
          feed_is = says;
          lines = lines_then [] all.left;
          lines_are = said_first positions positions [] all.left (first_told positions) all.left_is;
          out = part;
          certs = certificate;
          runs = gives_part events opens.answer [] [] all.left [] part (drop cut.part.count line) certificate [] exit
              opens.is_opening refl (inl refl)
              (take-append-drop cut.part.count line ∙ opens.line_is ∙ sym (settled_none opens.answer) ∙ sym (append-nil (settled_text rules opens.answer [])))
              (append-nil certificate ∙ opens.certificate_is) (inr refl) (ap is_cut cut.exit_is);
          out_sent = subst (λ (t : Told). Sent part t (now Out)) out_same cut.part.sent;
          certs_sent = subst (λ (t : Told). Sent certificate t (now Certs)) certs_same sent;
          cut = λ is. inr (part_settled held feed positions now Out exit events opens.answer [] [] []
              part certificate cut.exit_is says were_read opens.is_opening refl
              (none_were_read held.side (now Side) side) (inl refl) (
                drop cut.part.count line,
                sym (take-append-drop cut.part.count line ∙ opens.line_is ∙ sym (settled_none opens.answer)
                    ∙ sym (append-nil (settled_text rules opens.answer []))),
              )
              ([], sym opens.certificate_is ∙ sym (append-nil certificate)));
        }

    -- both are sent
    pub opening_sent : (held : Option (List ℕ)) (feed : Option Reading) (events : List Event) (certificate line : Text) (sheet : S) (run : PositionRun S)
        (before read now : Slot → Told) → Says feed (all_good events) → EventsRead events held (now Feed)
        → OpensSheet rules StandsAt events certificate line sheet
        → read Out ≡ before Out → read Certs ≡ before Certs → Sent certificate (read Certs) (now Certs) → Sent line (read Out) (now Out)
        → run.sheet ≡ sheet → run.count ≡ 0 → run.unsent.items ≡ [] → HasOpened rules StandsAt held feed before run now
    opening_sent held feed events certificate line sheet run before read now says were_read opens out_same certs_same certs_sent out_sent sheet_is zero none = record {
      events = events;
      feed_is = says;
      events_read = were_read;
      answer = opens.answer;
      is_opening = opens.is_opening;
      sheet = subst (λ (s : S). StandsAt s opens.answer []) (sym sheet_is) opens.stands;
      count = zero;
      unsent = none;
      certs = subst (λ (t : Text). Sent t (before Certs) (now Certs)) opens.certificate_is
          (subst (λ (t : Told). Sent certificate t (now Certs)) certs_same certs_sent);
      out = subst (λ (t : Text). Sent t (before Out) (now Out)) opens.line_is (subst (λ (t : Told). Sent line t (now Out)) out_same out_sent);
    }

    -- no line of positions was read yet
    pub starts : (held : Held) (feed : Option Reading) (positions : Option TextLines) (before : Slot → Told) (run : PositionRun S) (ahead : SplitLines)
        (now : Slot → Told) (rest : Option TextLines) → HasOpened rules StandsAt held.feed feed before run now → rest ≡ positions
        → ahead.lines.slot ≡ Side → HasGiven [] held.side ahead now
        → IsSettling rules StandsAt held feed positions before run ahead now rest
    starts held feed positions before run ahead now rest opened same slot given = record {
      events = opened.events;
      feed_is = opened.feed_is;
      events_read = opened.events_read;
      answer = opened.answer;
      is_opening = opened.is_opening;
      items = [];
      lines = [];
      are_first = first_told positions ∙ ap (option_map (lines_then [])) (sym same);
      slot = slot;
      lines_read = given;
      steps = refl;
      sheet = opened.sheet;
      count = opened.count;
      certs = opened.certs;
      sent = rules.line opened.answer;
      text_is = settled_none opened.answer ∙ sym (append-nil (rules.line opened.answer))
          ∙ ap (λ (t : Text). rules.line opened.answer ++ t) (sym opened.unsent);
      out = opened.out;
    }

    module _ (held : Held) (feed : Option Reading) (positions : Option TextLines) (before : Slot → Told) where
      -- ---- one line more

      -- the events were read still
      still_read : (events : List Event) (between now : Slot → Told) → EventsRead events held.feed (between Feed) → now Feed ≡ between Feed
          → EventsRead events held.feed (now Feed)
      still_read events between now read same = subst (λ (t : Told). EventsRead events held.feed t) (sym same) read

      -- and so were the lines that were given
      still_given : (lines : List (List ℕ)) (ahead : SplitLines) (between now : Slot → Told) → ahead.lines.slot ≡ Side → now Side ≡ between Side
          → HasGiven lines held.side ahead between → WereRead lines held.side (now Side)
      still_given lines ahead between now slot same given =
          given_read lines held.side ahead now slot (given_kept lines held.side ahead between now (side_kept ahead between now slot same) given)

      -- where nothing is unsent there is nothing to send
      pub none_unsent : (run : PositionRun S) (now : Slot → Told) → run.unsent.items ≡ [] → Sent run.unsent.items (now Out) (now Out)
      none_unsent run now none = subst (λ (t : Text). Sent t (now Out) (now Out)) (sym none) (sent_none (now Out) (now Out) refl)

      -- what was unsent is sent, so that all is
      pub all_sent : (run : PositionRun S) (ahead : SplitLines) (between now : Slot → Told) (rest : Option TextLines)
          (way : IsSettling rules StandsAt held feed positions before run ahead between rest) → Sent run.unsent.items (between Out) (now Out)
          → Sent (settled_text rules way.answer way.items) (before Out) (now Out)
      all_sent run ahead between now rest way sent =
          subst (λ (t : Text). Sent t (before Out) (now Out)) (sym way.text_is)
          (sent_more way.sent run.unsent.items (before Out) (between Out) (now Out) way.out sent)

      -- and nothing is unsent, nor did the file of certificates change
      pub way_sent : (run new : PositionRun S) (old ahead : SplitLines) (between now : Slot → Told) (rest : Option TextLines)
          (way : IsSettling rules StandsAt held feed positions before run old between rest) → now Feed ≡ between Feed
          → now Certs ≡ between Certs → ahead.lines.slot ≡ Side → HasGiven way.lines held.side ahead now
          → new.sheet ≡ run.sheet → new.count ≡ run.count → new.unsent.items ≡ [] → Sent run.unsent.items (between Out) (now Out)
          → IsSettling rules StandsAt held feed positions before new ahead now rest
      way_sent run new old ahead between now rest way feed_same certs_same slot given sheet_same count_same none sent =
          let text = settled_text rules way.answer way.items in
          record {
            events = way.events;
            feed_is = way.feed_is;
            events_read = still_read way.events between now way.events_read feed_same;
            answer = way.answer;
            is_opening = way.is_opening;
            items = way.items;
            lines = way.lines;
            are_first = way.are_first;
            slot = slot;
            lines_read = given;
            steps = way.steps;
            sheet = subst (λ (s : S). StandsAt s way.answer way.items) (sym sheet_same) way.sheet;
            count = count_same ∙ way.count;
            certs = sent_still (rules.certificate way.answer) (before Certs) (between Certs) (now Certs) way.certs certs_same;
            sent = text;
            text_is = sym (append-nil text) ∙ ap (λ (t : Text). text ++ t) (sym none);
            out = all_sent run old between now rest way sent;
          }

      -- the next line is settled
      pub settled_on : (old run : PositionRun S) (from ahead : SplitLines) (now : Slot → Told) (rest new : Option TextLines) (text : List ℕ)
          (way : IsSettling rules StandsAt held feed positions before old from now rest) → rest ≡ option_map (line_then text) new
          → ahead.lines.slot ≡ Side → HasGiven (way.lines ++ text ∷ []) held.side ahead now
          → run.count ≡ old.count + 1 → KeepsItem rules StandsAt way.answer way.items text old run
          → IsSettling rules StandsAt held feed positions before run ahead now new
      settled_on old run from ahead now rest new text way is slot given more keeps =
          let line = rules.item_line (length way.items + 1) keeps.item in
          record {
            events = way.events;
            feed_is = way.feed_is;
            events_read = way.events_read;
            answer = way.answer;
            is_opening = way.is_opening;
            items = way.items ++ keeps.item ∷ [];
            lines = way.lines ++ text ∷ [];
            are_first = first_more positions rest new way.lines text way.are_first is;
            slot = slot;
            lines_read = given;
            steps = along_more (ComesToOneMore rules way.answer) [] way.lines text way.items (way.items ++ keeps.item ∷ []) way.steps (keeps.item, keeps.comes, refl);
            sheet = keeps.stands;
            count = more ∙ one_more way.items keeps.item way.count;
            certs = way.certs;
            sent = way.sent;
            text_is = settled_more way.answer way.items keeps.item ∙ ap (λ (t : Text). t ++ line) way.text_is
                ∙ append_assoc way.sent old.unsent.items line ∙ ap (λ (t : Text). way.sent ++ t) (sym keeps.unsent);
            out = way.out;
          }
        where
          one_more : (items : List I) (item : I) → old.count ≡ length items → old.count + 1 ≡ length (items ++ item ∷ [])
          one_more items item is = ap (λ n. n + 1) is ∙ sym (pushed items item)
            where
              pushed : (items : List I) (item : I) → length (items ++ item ∷ []) ≡ length items + 1
              pushed [] item = refl
              pushed (x ∷ items) item = let h = pushed items item in omega (arith, h)

      -- ---- ends

      -- what was unsent is sent and nothing more, and the run is cut off
      pub cut_short : (run : PositionRun S) (ahead : SplitLines) (between now : Slot → Told) (rest : Option TextLines) (exit : Exit)
          (way : IsSettling rules StandsAt held feed positions before run ahead between rest) → now Feed ≡ between Feed
          → Sent run.unsent.items (between Out) (now Out) → now Certs ≡ between Certs
          → StopsReading way.lines held.side (now Side) exit → is_cut exit ≡ true → HasEndedPositions rules held feed positions before now exit
      cut_short run ahead between now rest exit way feed_same sent certs_same stops cut =
          let after = some_left rest in
          let text = settled_text rules way.answer way.items in
          record {
            over = all_good way.events;
            feed_is = way.feed_is;
            lines = lines_then way.lines after.left;
            lines_are = said_first positions rest way.lines after.left way.are_first after.left_is;
            out = text;
            certs = rules.certificate way.answer;
            runs = gives_part way.events way.answer way.items way.lines after.left [] text [] (rules.certificate way.answer) [] exit
                way.is_opening way.steps (inl refl) refl (append-nil (rules.certificate way.answer)) (inr refl) cut;
            out_sent = all_sent run ahead between now rest way sent;
            certs_sent = sent_still (rules.certificate way.answer) (before Certs) (between Certs) (now Certs) way.certs certs_same;
            cut = λ is. inr (lines_settled held feed positions now exit way.events way.answer way.items way.lines way.feed_is
                (still_read way.events between now way.events_read feed_same) way.is_opening way.steps stops);
          }

      -- memory is wanting where nothing more was read
      pub memory_short : (run : PositionRun S) (ahead : SplitLines) (between now : Slot → Told) (rest : Option TextLines) (exit : Exit)
          → IsSettling rules StandsAt held feed positions before run ahead between rest → now Feed ≡ between Feed → now Side ≡ between Side
          → Sent run.unsent.items (between Out) (now Out)
          → now Certs ≡ between Certs → exit ≡ WantsMemory → HasEndedPositions rules held feed positions before now exit
      memory_short run ahead between now rest exit way feed_same side_same sent certs_same is =
          cut_short run ahead between now rest exit way feed_same sent certs_same
          (record {
            were_read = still_given way.lines ahead between now way.slot side_same way.lines_read;
            cut = λ failed. memory_not_side (sym is ∙ failed);
          }) (ap is_cut is)

      -- the next line is bad
      bad_end : (run : PositionRun S) (ahead : SplitLines) (between now : Slot → Told) (rest : Option TextLines) (left : TextLines) (number : ℕ)
          (why : PositionCause)
          (way : IsSettling rules StandsAt held feed positions before run ahead between rest) → Sent run.unsent.items (between Out) (now Out)
          → now Certs ≡ between Certs
          → number ≡ length way.items + 1 → IfSome rest (λ r. r ≡ left) → NextIsBad rules way.answer left why
          → HasEndedPositions rules held feed positions before now (BadPositions number why)
      bad_end run ahead between now rest left number why way sent certs_same numbered is bad =
          let text = settled_text rules way.answer way.items in
          record {
            over = all_good way.events;
            feed_is = way.feed_is;
            lines = lines_then way.lines left;
            lines_are = said_first positions rest way.lines left way.are_first is;
            out = text;
            certs = rules.certificate way.answer;
            runs = record {
              answer = way.answer;
              is_opening = way.is_opening;
              items = way.items;
              rest = left;
              before = record { lines = way.lines; are_first = refl; steps = way.steps };
              ends = (numbered, bad);
              out_is = sym (append-nil text);
              certs_are = refl;
            };
            out_sent = all_sent run ahead between now rest way sent;
            certs_sent = sent_still (rules.certificate way.answer) (before Certs) (between Certs) (now Certs) way.certs certs_same;
            cut = λ is. absurd (let no : ⊥ = cc in no);
          }

      -- it is no line, or one too many
      pub line_bad : (run : PositionRun S) (ahead : SplitLines) (between now : Slot → Told) (rest : Option TextLines) (left : TextLines) (exit : Exit)
          (why : PositionCause)
          → IsSettling rules StandsAt held feed positions before run ahead between rest → Sent run.unsent.items (between Out) (now Out)
          → now Certs ≡ between Certs
          → exit ≡ BadPositions (run.count + 1) why → IfSome rest (λ r. r ≡ left) → ((answer : A) → NextIsBad rules answer left why)
          → HasEndedPositions rules held feed positions before now exit
      line_bad run ahead between now rest left exit why way sent certs_same exit_is is bad =
          subst (λ (e : Exit). HasEndedPositions rules held feed positions before now e) (sym exit_is)
          (bad_end run ahead between now rest left (run.count + 1) why way sent certs_same (ap (λ n. n + 1) way.count) is (bad way.answer))

      -- a write of what was unsent failed
      pub unsent_cut : (run : PositionRun S) (ahead : SplitLines) (between now : Slot → Told) (rest : Option TextLines) (exit : Exit)
          (way : IsSettling rules StandsAt held feed positions before run ahead between rest) → now Feed ≡ between Feed → now Side ≡ between Side
          → now Certs ≡ between Certs → CutsOff Out run.unsent.items (between Out) (now Out) exit → HasEndedPositions rules held feed positions before now exit
      unsent_cut run ahead between now rest exit way feed_same side_same certs_same cut =
          let after = some_left rest in
          let certificate = rules.certificate way.answer in
          let out = way.sent ++ take cut.part.count run.unsent.items in
          let more = drop cut.part.count run.unsent.items in
          let whole : out ++ more ≡ settled_text rules way.answer way.items ++ [] =
          append_part way.sent run.unsent.items cut.part.count ∙ sym way.text_is ∙ sym (append-nil (settled_text rules way.answer way.items)) in
          record {
            over = all_good way.events;
            feed_is = way.feed_is;
            lines = lines_then way.lines after.left;
            lines_are = said_first positions rest way.lines after.left way.are_first after.left_is;
            out = out;
            certs = certificate;
            runs = gives_part way.events way.answer way.items way.lines after.left [] out more certificate [] exit
                way.is_opening way.steps (inl refl) whole (append-nil certificate) (inr refl) (ap is_cut cut.exit_is);
            out_sent = sent_more way.sent (take cut.part.count run.unsent.items) (before Out) (between Out) (now Out) way.out cut.part.sent;
            certs_sent = sent_still certificate (before Certs) (between Certs) (now Certs) way.certs certs_same;
            cut = λ off. inr (part_settled held feed positions now Out exit way.events way.answer way.items way.lines [] out
                certificate cut.exit_is way.feed_is (still_read way.events between now way.events_read feed_same) way.is_opening way.steps
                (still_given way.lines ahead between now way.slot side_same way.lines_read) (inl refl) (more, sym whole)
                ([], sym (append-nil certificate)));
          }

      -- what was unsent is sent, or a write of it failed, where the next is no line, or one too many
      pub line_bad_sent : (run : PositionRun S) (ahead : SplitLines) (between now : Slot → Told) (rest : Option TextLines) (left : TextLines)
          (exit result : Exit) (why : PositionCause)
          → IsSettling rules StandsAt held feed positions before run ahead between rest → now Feed ≡ between Feed → now Side ≡ between Side
          → now Certs ≡ between Certs → exit ≡ BadPositions (run.count + 1) why → IfSome rest (λ r. r ≡ left)
          → ((answer : A) → NextIsBad rules answer left why) → EndsAllSent run.unsent.items (between Out) (now Out) exit result
          → HasEndedPositions rules held feed positions before now result
      line_bad_sent run ahead between now rest left exit result why way feed_same side_same certs_same exit_is is bad (inl (same, sent)) =
          line_bad run ahead between now rest left result why way sent certs_same (same ∙ exit_is) is bad
      line_bad_sent run ahead between now rest left exit result why way feed_same side_same certs_same exit_is is bad (inr cut) =
          unsent_cut run ahead between now rest result way feed_same side_same certs_same cut

      -- the same where the run ended at a line
      pub line_ended : (old run : PositionRun S) (ahead : SplitLines) (between now : Slot → Told) (rest new : Option TextLines) (text : List ℕ)
          (exit result : Exit)
          (way : IsSettling rules StandsAt held feed positions before old ahead between rest) → rest ≡ option_map (line_then text) new → now Feed ≡ between Feed
          → now Side ≡ between Side → now Certs ≡ between Certs
          → SettlesLine rules StandsAt way.answer way.items text old run (Err exit)
          → EndsAllSent old.unsent.items (between Out) (now Out) exit result
          → HasEndedPositions rules held feed positions before now result
      line_ended old run ahead between now rest new text exit result way is feed_same side_same certs_same (inl wants) (inl (same, sent)) =
          memory_short old ahead between now rest result way feed_same side_same sent certs_same (same ∙ wants)
      line_ended old run ahead between now rest new text exit result way is feed_same side_same certs_same (inr h) (inl (same, sent)) =
          let after = some_left new in
          subst (λ (e : Exit). HasEndedPositions rules held feed positions before now e) (sym (same ∙ h.exit_is))
          (bad_end old ahead between now rest (line_then text after.left) (length way.items + 1) (cause.Fault h.fault) way sent certs_same refl
          (next_left rest new text after is) (text, after.left, refl, h.comes))
      line_ended old run ahead between now rest new text exit result way is feed_same side_same certs_same settles (inr cut) =
          unsent_cut old ahead between now rest result way feed_same side_same certs_same cut

      -- ---- between two blocks of lines

      -- what was unsent is sent, and the lines are read on
      pub read_on_sent : (run new : PositionRun S) (old ahead : SplitLines) (told between now : Slot → Told) (result : Result Unit Exit)
          → IsSettling rules StandsAt held feed positions before run old told (allowed_positions run.count old told)
          → between Feed ≡ told Feed → between Side ≡ told Side → between Certs ≡ told Certs → Sent run.unsent.items (told Out) (between Out)
          → new.sheet ≡ run.sheet → new.count ≡ run.count → new.unsent.items ≡ []
          → now Feed ≡ between Feed → now Out ≡ between Out → now Certs ≡ between Certs
          → OnOk result (IsPositionLines ahead) → OnOk result (lines_coming ahead now ≡ lines_coming old between)
          → ReadsPositionsOn old between ahead now result → IfErr result (λ exit. is_cut exit ≡ true)
          → IsReady rules StandsAt held feed positions before new ahead now (allowed_positions new.count ahead now) result
      read_on_sent run new old ahead told between now (Ok u) way feed_sent side_sent certs_sent sent sheet_same count_same none feed_same out_same certs_same lines comes reads cuts =
          let given = given_kept way.lines held.side old told between (side_kept old told between way.slot side_sent) way.lines_read in
          let still = comes ∙ coming_kept old told between (side_kept old told between way.slot side_sent) in (
            subst (λ (o : Option TextLines). IsSettling rules StandsAt held feed positions before new ahead now o)
                (allowed_kept run.count old ahead told now still ∙ ap (λ n. allowed_positions n ahead now) (sym count_same))
                (way_sent run new old ahead told now (allowed_positions run.count old told) way (feed_same ∙ feed_sent) (certs_same ∙ certs_sent)
                lines.slot (reads way.lines held.side given) sheet_same count_same none (sent_still run.unsent.items (told Out) (between Out) (now Out) sent out_same)),
            λ (h : has_line ahead ≡ false). none,
          )
      read_on_sent run new old ahead told between now (Err exit) way feed_sent side_sent certs_sent sent sheet_same count_same none feed_same out_same certs_same lines comes reads cuts =
          let given = given_kept way.lines held.side old told between (side_kept old told between way.slot side_sent) way.lines_read in
          cut_short run old told now (allowed_positions run.count old told) exit way (feed_same ∙ feed_sent)
          (sent_still run.unsent.items (told Out) (between Out) (now Out) sent out_same) (certs_same ∙ certs_sent)
          (reads way.lines held.side given) cuts

      -- ---- behind the last line

      -- memory is wanting for the last lines
      pub last_wanting : (run : PositionRun S) (now : Slot → Told) (exit : Exit) → IsThroughPositions rules StandsAt held feed positions before run now
          → exit ≡ WantsMemory
          → HasEndedPositions rules held feed positions before now exit
      last_wanting run now exit (ahead, rest, way, none, all) wants =
          memory_short run ahead now now rest exit way refl refl (none_unsent run now all) refl wants

      -- they are sent
      pub last_sent : (run : PositionRun S) (between now : Slot → Told) (text : Text)
          (through : IsThroughPositions rules StandsAt held feed positions before run between)
          → now Certs ≡ between Certs → text ≡ rules.last_lines through.2.answer through.2.items → Sent text (between Out) (now Out)
          → HasEndedPositions rules held feed positions before now Done
      last_sent run between now text (ahead, rest, way, none, all) certs_same is sent =
          let first = settled_text rules way.answer way.items in
          let last = rules.last_lines way.answer way.items in
          record {
            over = all_good way.events;
            feed_is = way.feed_is;
            lines = lines_then way.lines (ended at_end);
            lines_are = said_first positions rest way.lines (ended at_end) way.are_first none;
            out = first ++ last;
            certs = rules.certificate way.answer;
            runs = record {
              answer = way.answer;
              is_opening = way.is_opening;
              items = way.items;
              rest = ended at_end;
              before = record { lines = way.lines; are_first = refl; steps = way.steps };
              ends = refl;
              out_is = refl;
              certs_are = refl;
            };
            out_sent = sent_more first last (before Out) (between Out) (now Out)
                (all_sent run ahead between between rest way (none_unsent run between all)) (subst (λ (t : Text). Sent t (between Out) (now Out)) is sent);
            certs_sent = sent_still (rules.certificate way.answer) (before Certs) (between Certs) (now Certs) way.certs certs_same;
            cut = λ cut. done_not_cut cut;
          }

      -- or a write of them fails
      pub last_cut : (run : PositionRun S) (between now : Slot → Told) (text : Text) (exit : Exit)
          (through : IsThroughPositions rules StandsAt held feed positions before run between)
          → now Feed ≡ between Feed → now Side ≡ between Side → now Certs ≡ between Certs → text ≡ rules.last_lines through.2.answer through.2.items
          → CutsOff Out text (between Out) (now Out) exit → HasEndedPositions rules held feed positions before now exit
      last_cut run between now text exit (ahead, rest, way, none, all) feed_same side_same certs_same is cut =
          let first = settled_text rules way.answer way.items in
          let last = rules.last_lines way.answer way.items in
          record {
            over = all_good way.events;
            feed_is = way.feed_is;
            lines = lines_then way.lines (ended at_end);
            lines_are = said_first positions rest way.lines (ended at_end) way.are_first none;
            out = first ++ take cut.part.count last;
            certs = rules.certificate way.answer;
            runs = gives_part way.events way.answer way.items way.lines (ended at_end) last (first ++ take cut.part.count last) (drop cut.part.count last)
                (rules.certificate way.answer) [] exit way.is_opening way.steps (inr (refl, refl)) (append_part first last cut.part.count)
                (append-nil (rules.certificate way.answer)) (inr refl) (ap is_cut cut.exit_is);
            out_sent = sent_more first (take cut.part.count last) (before Out) (between Out) (now Out)
                (all_sent run ahead between between rest way (none_unsent run between all))
                (subst (λ (t : Text). Sent (take cut.part.count t) (between Out) (now Out)) is cut.part.sent);
            certs_sent = sent_still (rules.certificate way.answer) (before Certs) (between Certs) (now Certs) way.certs certs_same;
            cut = λ off. inr (part_settled held feed positions now Out exit way.events way.answer way.items way.lines last (first ++ take cut.part.count last)
                (rules.certificate way.answer) cut.exit_is way.feed_is (still_read way.events between now way.events_read feed_same) way.is_opening way.steps
                (still_given way.lines ahead between now way.slot side_same way.lines_read)
                (inr (said_first positions rest way.lines (ended at_end) way.are_first none, refl))
                (drop cut.part.count last, sym (append_part first last cut.part.count)) ([], sym (append-nil (rules.certificate way.answer))));
          }

-- ---- as many lines as there may be

-- the next line, of those that there may be
pub allowed_step : (count more : ℕ) (fields : List (List ℕ)) (old new : SplitLines) (before after : Slot → Told) (takes : TakesNextLine fields old new)
    → new.lines.slot ≡ Side → after Side ≡ before Side → more ≡ count + 1 → count < POSITION_LINES_MAX
    → allowed_positions count old before ≡ option_map (line_then takes.line) (allowed_positions more new after)
allowed_step count more fields old new before after takes slot same size few =
    allowed_line (POSITION_LINES_MAX - count) (POSITION_LINES_MAX - more) takes.line (lines_coming old before) (lines_coming new after)
    (next_first old new fields before after takes slot same) (omega (arith, size, few))

-- or there are as many already
pub allowed_full : (count : ℕ) (p : SplitLines) (told : Slot → Told) → IsPositionLines p → p.taken < length p.table → count ≡ POSITION_LINES_MAX
    → IfSome (allowed_positions count p told) (λ r. r ≡ ended too_many)
allowed_full count p told is below full =
    let takes = takes_next (get_or p.table p.taken []) p is.are_ahead (slice_get-get_or p.table p.taken [] below) in
    allowed_none (POSITION_LINES_MAX - count) takes.line (lines_coming p told) (lines_coming (record p { taken = p.taken + 1 }) told) (takes.coming told)
    (omega (arith, full))

-- what is bad behind the lines that were split is the next of the lines to come, or stands in its place
pub record BadNext {A I : Type 0} (rules : PositionRules A I) (rest : Option TextLines) (why : PositionCause) : Type 0 where
  pub left : TextLines
  pub left_is : IfSome rest (λ r. r ≡ left)
  pub bad : (answer : A) → NextIsBad rules answer left why

abbrev FaultsUnsplit : {A I : Type 0} → PositionRules A I → Type 0
FaultsUnsplit {A} {I} rules = (answer : A) (text : List ℕ) (f : PositionFault) → unsplit_fault text ≡ Some f → rules.ComesTo answer text (Err f)

-- what stands in place of a line, by its ending
place_left : {A I : Type 0} (rules : PositionRules A I) (most : ℕ) (ending : Ending) (why given : PositionCause) (o : Option TextLines)
    → ((answer : A) → NextIsBad rules answer (ended ending) why) → Some why ≡ Some given
    → BadNext rules (option_map (at_most most) (option_map (λ (text : TextLines). ended ending) o)) given
place_left rules most ending why given o bad is = record {
  left = ended ending;
  left_is = allowed_ended most ending (option_map (λ (text : TextLines). ended ending) o) (always o);
  bad = λ answer. subst (λ (w : PositionCause). NextIsBad rules answer (ended ending) w) (same_some is) (bad answer);
}
  where
    always : (o : Option TextLines) → IfSome (option_map (λ (text : TextLines). ended ending) o) (λ r. r ≡ ended ending)
    always None = tt
    always (Some text) = refl

bad_rest : {A I : Type 0} (rules : PositionRules A I) (count : ℕ) (last : List ℕ) (rest : Rest) (is_full : Bool) (why : PositionCause) (o : Option TextLines)
    → FaultsUnsplit rules → IsRestAfter last rest → (count == POSITION_LINES_MAX) ≡ is_full → count ≤ POSITION_LINES_MAX → cause_behind rest is_full ≡ Some why
    → BadNext rules (option_map (at_most (POSITION_LINES_MAX - count)) (option_map (behind last rest) o)) why
bad_rest rules count last More is_full why o faults is full few bad = absurd (let no : ⊥ = cc in no)
bad_rest rules count last End is_full why o faults is full few bad = absurd (let no : ⊥ = cc in no)
bad_rest rules count last (Unsplit unsplit) true why o faults is full few bad =
    let all : count ≡ POSITION_LINES_MAX = grind (arith, nat_tests) in
    record {
      left = ended too_many;
      left_is = allowed_none (POSITION_LINES_MAX - count) last (option_map (line_then last) o) o refl (omega (arith, all));
      bad = λ answer. subst (λ (w : PositionCause). NextIsBad rules answer (ended too_many) w) (same_some bad) refl;
    }
bad_rest rules count last (Unsplit unsplit) false why o faults is full few bad =
    let less : count < POSITION_LINES_MAX = grind (arith, nat_tests) in
    let rest = option_map (at_most (POSITION_LINES_MAX - (count + 1))) o in
    let after = some_left rest in
    record {
      left = line_then last after.left;
      left_is = next_left (option_map (at_most (POSITION_LINES_MAX - count)) (option_map (line_then last) o)) rest last after
          (allowed_line (POSITION_LINES_MAX - count) (POSITION_LINES_MAX - (count + 1)) last (option_map (line_then last) o) o refl (omega (arith, less)));
      bad = λ answer. subst (λ (w : PositionCause). NextIsBad rules answer (line_then last after.left) w) (same_some bad)
          (last, after.left, refl, faults answer last (fault_unsplit unsplit) (ap (option_map fault_unsplit) is));
    }
bad_rest rules count last TooLong is_full why o faults is full few bad =
    place_left rules (POSITION_LINES_MAX - count) too_long cause.TooLong why o (λ answer. refl) bad
bad_rest rules count last NoEol is_full why o faults is full few bad =
    place_left rules (POSITION_LINES_MAX - count) no_eol cause.NoEol why o (λ answer. refl) bad

pub bad_next : {A I : Type 0} (rules : PositionRules A I) (count : ℕ) (p : SplitLines) (told : Slot → Told) (why : PositionCause)
    → FaultsUnsplit rules → IsPositionLines p → has_line p ≡ false → count ≤ POSITION_LINES_MAX
    → cause_behind p.rest (count == POSITION_LINES_MAX) ≡ Some why
    → BadNext rules (allowed_positions count p told) why
bad_next rules count p told why faults is none few bad =
    subst (λ (o : Option TextLines). BadNext rules (option_map (at_most (POSITION_LINES_MAX - count)) o) why) (sym (none_at_hand p told is.are_ahead none))
    (bad_rest rules count p.lines.last_bytes p.rest (count == POSITION_LINES_MAX) why (coming p.lines told) faults is.are_ahead.reading.rest refl few bad)

-- at the end nothing is to come
pub none_next : (count : ℕ) (p : SplitLines) (told : Slot → Told) → IsPositionLines p → has_line p ≡ false → p.rest ≡ End
    → IfSome (allowed_positions count p told) (λ lines. lines ≡ ended at_end)
none_next count p told is none end =
    allowed_ended (POSITION_LINES_MAX - count) at_end (lines_coming p told)
    (subst (λ (o : Option TextLines). IfSome o (λ r. r ≡ ended at_end)) (sym (none_at_hand p told is.are_ahead none
    ∙ ap (λ (r : Rest). option_map (behind p.lines.last_bytes r) (coming p.lines told)) end))
    (always (coming p.lines told)))
  where
    always : (o : Option TextLines) → IfSome (option_map (behind p.lines.last_bytes End) o) (λ r. r ≡ ended at_end)
    always None = tt
    always (Some text) = refl

-- the lines that are to come to a new reader are all of them
pub allowed_all : (count : ℕ) (p : SplitLines) (told : Slot → Told) → count ≡ 0 → IsFresh Side POSITION_LINE_LEN_MAX p
    → allowed_positions count p told ≡ positions_told told
allowed_all count p told zero is =
    ap (λ (n : ℕ). allowed_positions n p told) zero
    ∙ ap (option_map (at_most POSITION_LINES_MAX)) (fresh_coming Side POSITION_LINE_LEN_MAX p told is)
    ∙ sym (twice (lines_of POSITION_LINE_LEN_MAX) (at_most POSITION_LINES_MAX) (told Side).left)

-- the exit of a feed that is not read to its end is one of such a run
pub stop_exit : {B : Type 0} (StandsFor : B → List Event → Type 0) (held : Option (List ℕ)) (feed : Option Reading) (reader : FeedReader B)
    (told : Slot → Told) (why : FeedStop)
    → ReadsAll StandsFor held feed reader told (Err why) → IsPositionExit (exit_of_stop why)
stop_exit StandsFor held feed reader told (stop.BadLine line why) reads = reads.0
stop_exit StandsFor held feed reader told stop.Device reads = tt
stop_exit StandsFor held feed reader told stop.NoMemory reads = tt

-- the positions of a run whose opening was answered are all to come
pub starts_open : {A I S : Type 0} (rules : PositionRules A I) (StandsAt : S → A → List I → Type 0) (before now : Slot → Told) (run : PositionRun S)
    (p : SplitLines)
    → HasOpened rules StandsAt (held_in before).feed (feed_told before) before run now → now Side ≡ before Side → IsFresh Side POSITION_LINE_LEN_MAX p
    → IsSettling rules StandsAt (held_in before) (feed_told before) (positions_told before) before run p now (allowed_positions run.count p now)
starts_open rules StandsAt before now run p opened same is =
    starts rules StandsAt (held_in before) (feed_told before) (positions_told before) before run p now (allowed_positions run.count p now) opened
    (allowed_all run.count p now opened.count is ∙ ap (λ (t : Told). option_map positions_of t.left) same)
    (ap (λ reader. reader.slot) is.lines) (none_given (held_in before).side p now is (ap (λ (t : Told). t.left) (sym same)))
