-- What a reader of a feed has taken up, and what is still to come of the feed.
use Rattle.std.proofs.Common.{◌≡◌, ◌∙◌, sym, ap, subst, refl, ℕ, ◌+◌, ◌<◌, ◌≤◌, Bool, true, false, cond, ◌||◌, List, [], ◌∷◌, ◌++◌, length, take, Option, Some, None, IfSome, Ok, Err, Result, arith, append_assoc, append-nil}
use Rattle.std.specs.Prelude.{nat_le}
use Rattle.std.specs.List.{list_any}
use Rattle.std.specs.Option.{option_map, option_map_or}
use Rattle.std.proofs.lemmas.Bool.{leb-false, or_parts}
use Rattle.std.proofs.lemmas.Bool.Decides.{nat_tests}
use Rattle.std.proofs.lemmas.List.{length_push, take_all}
use Rattle.std.proofs.Math.Seq.{take-append_seam}
use Rattle.vx_lines.specs.TextLines.{Ending, TextLines, at_end, too_long, no_eol, too_many, lines_of}
use Rattle.vx_desk.specs.declared.device.Slot.{Slot}
use Rattle.vx_desk.specs.declared.device.Slot.TheVariants.{Feed}
use Rattle.vx_desk.specs.Told.{Told}
use Rattle.vx_desk.specs.Lines.{ReaderState}
use Rattle.vx_blocks.specs.declared.split_lines.SplitLines.{SplitLines}
use Rattle.vx_blocks.specs.SplitLines.{IsFresh, IsSameText, lines_coming}
use Rattle.vx_blocks.specs.Given.{LosesNothing, WereRead, still_to_come}
use Rattle.vx_blocks.proofs.ComingLemmas.{coming_kept}
use Rattle.vx_blocks.proofs.FreshLemmas.{fresh_ahead, fresh_coming, fresh_given}
use Rattle.vx_blocks.proofs.GivenLemmas.{comes_start, given_kept, were_read}
use Rattle.vx_feed.specs.declared.events.Event.{Event}
use Rattle.vx_feed.specs.declared.limits.TheConstants.{LINES_MAX, LINE_LEN_MAX}
use Rattle.vx_feed.specs.Feed as feed
use Rattle.vx_feed.specs.Feed.{BadCause, BadLine, Reading, event_of_line, reading_after, reading_at_end, reading_from, reading_on, stopped_at, with_cause}
use Rattle.vx_feed.specs.Noted as noted
use Rattle.vx_feed.specs.Order.{IsLawfulNext, has_too_many_expiries, has_too_many_strikes, is_end}
use Rattle.vx_feed.proofs.LawfulLists.{lawful_with_one_more}
use Rattle.vx_feed.proofs.NextEvent.{any-push}
use Rattle.vx_feed.proofs.NoCauses.{no_causes}
use Rattle.vx_reading.specs.declared.feed.FeedReader.{FeedReader}
use Rattle.vx_reading.specs.declared.stop.FeedCause.{FeedCause}
use Rattle.vx_reading.specs.declared.stop.FeedStop.{FeedStop}
use Rattle.vx_reading.specs.declared.stop.FeedStop.TheVariants as stop
use Rattle.vx_reading.specs.Stops.{IsCause, bad_cause}
use Rattle.vx_reading.specs.WhatWasRead.{EventsRead}
use Rattle.vx_reading.specs.FeedReading.{HasTakenUp, IsAt, IsAtStart, IsReadFrom, IsReadTo, NamesBad, ReadsAll, ReadsNext, ReadsTo, Says, StaysRead, all_good, is_met}
use Rattle.vx_reading.proofs.SayLemmas.{say_none}

-- ---- an event that may come next

few_before : (events : List Event) (e : Event) → IsLawfulNext events e → length events < LINES_MAX
few_before events e next =
    leb-false LINES_MAX (length events)
    (or_parts (has_too_many_expiries events e || has_too_many_strikes events e) (nat_le LINES_MAX (length events)) (no_causes events e next.in_order).few).1

-- one more event is taken up
pub takes_up : {T : Type 0} (StandsFor : T → List Event → Type 0) (old new : FeedReader T) (events : List Event) (e : Event) → HasTakenUp StandsFor old events → IsLawfulNext events e
    → noted.StandsFor new.order (events ++ e ∷ []) → StandsFor new.taker (events ++ e ∷ []) → new.count ≡ old.count + 1 → new.has_end ≡ is_end e
    → HasTakenUp StandsFor new (events ++ e ∷ [])
takes_up StandsFor old new events e has next order taker count ended =
    let below : length events < LINES_MAX = few_before events e next in
    let size : length (events ++ e ∷ []) ≡ length events + 1 = length_push events e in
    let before : old.count ≡ length events = has.count in
    record {
      taker = taker;
      order = order;
      lawful = lawful_with_one_more events e has.lawful next;
      count = omega (arith, count, before, size);
      few = omega (arith, below, size);
      has_end = ended ∙ ap (λ b. b || is_end e) (sym (no_causes events e next.in_order).before_end) ∙ sym (any-push is_end events e);
    }

-- ---- the start

-- one map behind another
pub twice : {A B C : Type 0} (f : A → B) (h : B → C) (o : Option A) → option_map (λ x. h (f x)) o ≡ option_map h (option_map f o)
twice f h None = refl
twice f h (Some x) = refl

-- a reader of which nothing was read stands at the start
pub starts : {T : Type 0} (StandsFor : T → List Event → Type 0) (feed : FeedReader T) (told : Slot → Told) → IsFresh Feed LINE_LEN_MAX feed.ahead → noted.StandsFor feed.order [] → StandsFor feed.taker []
    → feed.count ≡ 0 → feed.has_end ≡ false → IsAtStart StandsFor told feed
starts StandsFor feed told fresh order taker count ended =
    let slot : feed.ahead.lines.slot ≡ Feed = ap (λ (reader : ReaderState). reader.slot) fresh.lines in
    record {
      taken_up = record { taker = taker; order = order; lawful = tt; count = count; few = omega arith; has_end = ended };
      ahead = record { slot = slot; limit = ap (λ (reader : ReaderState). reader.limit) fresh.lines; are_ahead = fresh_ahead Feed LINE_LEN_MAX feed.ahead tt fresh };
      rest = ap (option_map (reading_on [])) (fresh_coming Feed LINE_LEN_MAX feed.ahead told fresh) ∙ sym (twice (lines_of LINE_LEN_MAX) (reading_on []) (told Feed).left);
      read = record { slot = slot; lines = []; say = say_none; given = fresh_given Feed LINE_LEN_MAX feed.ahead told fresh };
    }

-- ---- a feed read up to a line

-- the events of earlier lines are the first ones, and no line of theirs is bad
record Continues (before : List Event) (whole : Reading) : Type 0 where
  more : List Event
  events_are : whole.events ≡ before ++ more
  no_bad : is_met (length before) whole ≡ false

next_is_above : (n : ℕ) → nat_le (n + 1) n ≡ false
next_is_above n = grind (arith, nat_tests)

stopped_continues : (before : List Event) (why : BadCause) → Continues before (stopped_at before why)
stopped_continues before why = record { more = []; events_are = sym (append-nil before); no_bad = next_is_above (length before) }

good_continues : (before : List Event) → Continues before (all_good before)
good_continues before = record { more = []; events_are = sym (append-nil before); no_bad = refl }

end_by : (before : List Event) (b : Bool) → Continues before (cond b (all_good before) (stopped_at before feed.missing_end))
end_by before true = good_continues before
end_by before false = stopped_continues before feed.missing_end

end_continues : (before : List Event) (ending : Ending) → Continues before (reading_at_end before ending)
end_continues before at_end = end_by before (list_any is_end before)
end_continues before too_long = stopped_continues before feed.too_long
end_continues before no_eol = stopped_continues before feed.no_eol
end_continues before too_many = stopped_continues before feed.too_long

met_before : (m n : ℕ) (bad : Option BadLine) → m ≤ n → option_map_or (λ b. nat_le b.line n) bad false ≡ false → option_map_or (λ b. nat_le b.line m) bad false ≡ false
met_before m n None le h = refl
met_before m n (Some b) le h = grind (arith, nat_tests)

earlier : (before : List Event) (e : Event) (whole : Reading) → Continues (before ++ e ∷ []) whole → Continues before whole
earlier before e whole c = record {
  more = e ∷ c.more;
  events_are = c.events_are ∙ append_assoc before (e ∷ []) c.more;
  no_bad = let n = length_push before e in met_before (length before) (length (before ++ e ∷ [])) whole.bad (omega (arith, n)) c.no_bad;
}

after_continues : (more : List Event → Reading) (before : List Event) (said : Result Event BadCause) → ((events : List Event) → Continues events (more events)) → Continues before (reading_after more before said)
after_continues more before (Err why) each = stopped_continues before why
after_continues more before (Ok e) each = earlier before e (more (before ++ e ∷ [])) (each (before ++ e ∷ []))

from_continues : (lines : List (List ℕ)) (ending : Ending) (before : List Event) → Continues before (reading_from before lines ending)
from_continues [] ending before = end_continues before ending
from_continues (line ∷ lines) ending before =
    after_continues (λ events. reading_from events lines ending) before (with_cause (event_of_line before line)) (λ events. from_continues lines ending events)

read_to_by : (number : ℕ) (events : List Event) (whole : Reading) → Continues events whole → length events ≡ number → IsReadTo number events whole
read_to_by number events whole c size = record {
  events_are = subst (λ n. events ≡ take n whole.events) size (sym (ap (take (length events)) c.events_are ∙ take-append_seam events c.more));
  no_bad = subst (λ n. is_met n whole ≡ false) size c.no_bad;
}

-- so many lines are read
pub read_so_many : {T : Type 0} (StandsFor : T → List Event → Type 0) (held : Option (List ℕ)) (whole : Option Reading) (number : ℕ) (events : List Event) (feed : FeedReader T) (told : Slot → Told)
    → IsAt StandsFor held whole events feed told → length events ≡ number → IfSome whole (IsReadTo number events)
read_so_many StandsFor held whole number events feed told at size = subst (λ w. IfSome w (IsReadTo number events)) at.rest (by (lines_coming feed.ahead told))
  where
    by : (text : Option TextLines) → IfSome (option_map (reading_on events) text) (IsReadTo number events)
    by None = tt
    by (Some t) = read_to_by number events (reading_on events t) (from_continues t.lines t.ending events) size

-- all lines are read
pub read_all : (whole : Option Reading) (number : ℕ) (events : List Event) → Says whole (all_good events) → length events ≤ number → IfSome whole (IsReadTo number events)
read_all None number events says size = tt
read_all (Some said) number events says size =
    subst (λ r. IsReadTo number events r) (sym says) (record { events_are = sym (take_all number events size); no_bad = refl })

-- the next line is bad
pub names_bad : (whole : Option Reading) (number line : ℕ) (events : List Event) (why : FeedCause) → IsCause why → Says whole (stopped_at events (bad_cause why)) → line ≡ length events + 1
    → length events + 1 ≤ number → NamesBad whole number line why
names_bad None number line events why is_cause says is within = record { is_bad = tt; within = omega (arith, is, within); has_cause = is_cause }
names_bad (Some said) number line events why is_cause says is within = record {
  is_bad = ap (λ (r : Reading). r.bad) says ∙ ap (λ n. Some (record { line = n; cause = bad_cause why })) (sym is);
  within = omega (arith, is, within);
  has_cause = is_cause;
}

-- what ends a step to a further line
pub reads_on : {T : Type 0} (StandsFor : T → List Event → Type 0) (held : Option (List ℕ)) (whole : Option Reading) (number : ℕ) (events : List Event) (feed : FeedReader T) (told : Slot → Told) (why : FeedStop)
    → length events + 1 ≤ number → ReadsNext StandsFor held whole events feed told (Err why) → ReadsTo StandsFor held whole number feed told (Err why)
reads_on StandsFor held whole number events feed told (stop.BadLine line why) within h = names_bad whole number line events why h.1 h.2 h.0 within
reads_on StandsFor held whole number events feed told stop.Device within h = (events, h.0, h.1, omega (arith, within))
reads_on StandsFor held whole number events feed told stop.NoMemory within h = tt

-- an answer that is found to be this one
pub found_is : {T : Type 0} (StandsFor : T → List Event → Type 0) (held : Option (List ℕ)) (whole : Option Reading) (events : List Event) (feed : FeedReader T) (told : Slot → Told) (found o : Option Event)
    → found ≡ o → ReadsNext StandsFor held whole events feed told (Ok found) → ReadsNext StandsFor held whole events feed told (Ok o)
found_is StandsFor held whole events feed told found o is h = subst (λ (f : Option Event). ReadsNext StandsFor held whole events feed told (Ok f)) is h

-- another slot of the desk changed
pub at_kept : {T : Type 0} (StandsFor : T → List Event → Type 0) (held : Option (List ℕ)) (whole : Option Reading) (events : List Event) (feed : FeedReader T) (before after : Slot → Told)
    → IsAt StandsFor held whole events feed before → after Feed ≡ before Feed → IsAt StandsFor held whole events feed after
at_kept StandsFor held whole events feed before after at same =
    let here : after feed.ahead.lines.slot ≡ before feed.ahead.lines.slot = subst (λ (s : Slot). after s ≡ before s) (sym at.ahead.slot) same in
    record {
      taken_up = at.taken_up;
      ahead = at.ahead;
      rest = ap (option_map (reading_on events)) (coming_kept feed.ahead before after here) ∙ at.rest;
      read = record { slot = at.read.slot; lines = at.read.lines; say = at.read.say; given = given_kept at.read.lines held feed.ahead before after here at.read.given };
    }

-- what ends the reading of the whole feed
pub reads_rest : {T : Type 0} (StandsFor : T → List Event → Type 0) (held : Option (List ℕ)) (whole : Option Reading) (events : List Event) (feed : FeedReader T) (told : Slot → Told) (why : FeedStop)
    → ReadsNext StandsFor held whole events feed told (Err why) → ReadsAll StandsFor held whole feed told (Err why)
reads_rest StandsFor held whole events feed told (stop.BadLine line why) h = (h.1, events, h.0, h.2)
reads_rest StandsFor held whole events feed told stop.Device h = (events, h.0, h.1)
reads_rest StandsFor held whole events feed told stop.NoMemory h = tt

-- what was read of a feed stays read, whatever comes of it
pub stays_read : {T : Type 0} (old : FeedReader T) (ahead : SplitLines) (before after : Slot → Told) → IsSameText old.ahead ahead → LosesNothing old.ahead before ahead after → StaysRead old before after
stays_read old ahead before after same comes = λ held events read. record {
  lines = read.lines;
  were_read = subst (λ (s : Slot). WereRead read.lines held (after s)) (same.slot ∙ read.slot) (were_read read.lines held old.ahead ahead before after read.given comes);
  say = read.say;
}

-- what was read of a feed are lines that say these events
pub events_read : {T : Type 0} (held : Option (List ℕ)) (events : List Event) (feed : FeedReader T) (told : Slot → Told)
    → IsReadFrom held events feed told → EventsRead events held (told Feed)
events_read held events feed told read =
    stays_read feed feed.ahead told told (record { slot = refl; limit = refl }) (comes_start (still_to_come feed.ahead told)) held events read
