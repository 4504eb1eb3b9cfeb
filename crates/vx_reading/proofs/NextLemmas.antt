-- What a reader of a feed has taken up once its lines were read on, the next one was taken, or none comes.
use Rattle.std.proofs.Common.{◌≡◌, ◌∙◌, sym, ap, subst, refl, ℕ, ◌+◌, ◌<◌, Bool, true, false, cond, List, [], ◌∷◌, ◌++◌, length, Option, Some, None, Result, Ok, Err, IfErr, arith}
use Rattle.std.specs.Prelude.{slice_get}
use Rattle.std.specs.List.{list_any}
use Rattle.std.specs.Option.{option_map}
use Rattle.vx_lines.specs.TextLines.{TextLines, at_end, line_then}
use Rattle.vx_desk.specs.declared.device.Slot.{Slot}
use Rattle.vx_desk.specs.declared.device.Slot.TheVariants.{Feed}
use Rattle.vx_desk.specs.Told.{Told}
use Rattle.vx_desk.specs.Calls.{read_call}
use Rattle.vx_desk.specs.Coming.{coming}
use Rattle.vx_fields.specs.declared.line.Unsplit.{Unsplit}
use Rattle.vx_fields.specs.declared.line.Unsplit.TheVariants.{Empty, Byte}
use Rattle.vx_blocks.specs.declared.split_lines.SplitLines.{SplitLines}
use Rattle.vx_blocks.specs.declared.split_lines.Rest.{Rest}
use Rattle.vx_blocks.specs.declared.split_lines.Rest.TheVariants as rests
use Rattle.vx_blocks.specs.declared.stop.ReadStop.{ReadStop}
use Rattle.vx_blocks.specs.declared.stop.ReadStop.TheVariants as read
use Rattle.vx_blocks.specs.Stops as blocks
use Rattle.vx_blocks.specs.SplitLines.{AreAhead, HasNext, IsRestAfter, IsSameText, behind, has_line, is_in_hand, lines_coming}
use Rattle.vx_blocks.specs.Given.{HasGiven, TakesNextLine}
use Rattle.vx_blocks.proofs.ComingLemmas.{all_taken, none_at_hand}
use Rattle.vx_blocks.proofs.TakeLemmas.{takes_next}
use Rattle.vx_feed.specs.declared.events.Event.{Event}
use Rattle.vx_feed.specs.declared.faults.FeedFault.{FeedFault}
use Rattle.vx_feed.specs.declared.known.KnownSymbols.{KnownSymbols}
use Rattle.vx_feed.specs.Feed.{Reading, event_of_line, fault_of_unsplit, missing_end, next_event, of_fault, reading_after, reading_at_end, reading_on, stopped_at, with_cause}
use Rattle.vx_feed.specs.Order.{is_end}
use Rattle.vx_feed.proofs.ReadLemmas.{split_says, unsplit_says}
use Rattle.vx_reading.specs.declared.feed.FeedReader.{FeedReader}
use Rattle.vx_reading.specs.declared.stop.FeedCause.{FeedCause}
use Rattle.vx_reading.specs.declared.stop.FeedCause.TheVariants as cause
use Rattle.vx_reading.specs.declared.stop.FeedStop.{FeedStop}
use Rattle.vx_reading.specs.declared.stop.FeedStop.TheVariants as stop
use Rattle.vx_reading.specs.Stops.{IsCause, IsNoFeedFault, bad_cause, feed_failed_in, feed_stop_calls, stop_of}
use Rattle.vx_reading.specs.FeedAhead.{IsFeedAhead, SaysEvent, ahead_says, cause_of_rest}
use Rattle.vx_reading.specs.FeedReading.{EndsAt, HasTakenUp, IsAt, ReadsNext, Says, all_good}
use Rattle.vx_reading.proofs.FeedLemmas.{twice}
use Rattle.vx_reading.proofs.SayLemmas.{say_more}

-- ---- stops

-- a stop of the lines that is no fault of the device is none of the feed
pub no_fault_of : (why : ReadStop) → blocks.IsNoFault why → IsNoFeedFault (stop_of why)
no_fault_of read.Device none = none
no_fault_of read.NoMemory none = tt

-- the calls of which a stop of the feed says that one failed
pub calls_of : (slot : Slot) (why : ReadStop) → slot ≡ Feed → feed_stop_calls (stop_of why) ≡ blocks.stop_calls slot why
calls_of slot read.Device is = ap (λ (s : Slot). Some (record { slot = s; kind = read_call })) (sym is)
calls_of slot read.NoMemory is = refl

-- where the device did not fail, no call failed
pub no_fault_calls : {T : Type 0} (result : Result T FeedStop) → IfErr result IsNoFeedFault → feed_failed_in result ≡ None
no_fault_calls (Ok x) none = refl
no_fault_calls (Err (stop.BadLine line why)) none = refl
no_fault_calls (Err stop.NoMemory) none = refl
no_fault_calls (Err stop.Device) none = absurd none

-- ---- lines that were read on

-- what was taken up, with other lines ahead
pub taken_with : {T : Type 0} (StandsFor : T → List Event → Type 0) (feed : FeedReader T) (ahead : SplitLines) (events : List Event) → HasTakenUp StandsFor feed events
    → HasTakenUp StandsFor (record feed { ahead = ahead }) events
taken_with StandsFor feed ahead events has = record { taker = has.taker; order = has.order; lawful = has.lawful; count = has.count; few = has.few; has_end = has.has_end }

-- what was taken up, with other symbols known
pub taken_knowing : {T : Type 0} (StandsFor : T → List Event → Type 0) (feed : FeedReader T) (known : KnownSymbols) (events : List Event) → HasTakenUp StandsFor feed events
    → HasTakenUp StandsFor (record feed { known = known }) events
taken_knowing StandsFor feed known events has = record { taker = has.taker; order = has.order; lawful = has.lawful; count = has.count; few = has.few; has_end = has.has_end }

-- the same events are taken up once lines were read on
pub read_on_at : {T : Type 0} (StandsFor : T → List Event → Type 0) (held : Option (List ℕ)) (whole : Option Reading) (events : List Event) (old : FeedReader T) (ahead : SplitLines) (before after : Slot → Told)
    (at : IsAt StandsFor held whole events old before) → AreAhead ahead → IsSameText old.ahead ahead → lines_coming ahead after ≡ lines_coming old.ahead before → HasGiven at.read.lines held ahead after
    → IsAt StandsFor held whole events (record old { ahead = ahead }) after
read_on_at StandsFor held whole events old ahead before after at are_ahead same kept given = record {
  taken_up = taken_with StandsFor old ahead events at.taken_up;
  ahead = record { slot = same.slot ∙ at.ahead.slot; limit = same.limit ∙ at.ahead.limit; are_ahead = are_ahead };
  rest = ap (option_map (reading_on events)) kept ∙ at.rest;
  read = record { slot = same.slot ∙ at.ahead.slot; lines = at.read.lines; say = at.read.say; given = given };
}

-- lines were not read on: at a fault of the device the same events are taken up
pub fault_read : {T : Type 0} (StandsFor : T → List Event → Type 0) (held : Option (List ℕ)) (whole : Option Reading) (events : List Event) (old : FeedReader T) (ahead : SplitLines) (before after : Slot → Told) (why : ReadStop)
    (at : IsAt StandsFor held whole events old before) → blocks.OnOkOrFault {T = Unit {0}} (Err why) (AreAhead ahead) → IsSameText old.ahead ahead
    → blocks.OnOkOrFault {T = Unit {0}} (Err why) (lines_coming ahead after ≡ lines_coming old.ahead before) → blocks.OnOkOrFault {T = Unit {0}} (Err why) (HasGiven at.read.lines held ahead after)
    → blocks.OnFault {T = Unit {0}} (Err why) (is_in_hand ahead ≡ false) → ReadsNext StandsFor held whole events (record old { ahead = ahead }) after (Err (stop_of why))
fault_read StandsFor held whole events old ahead before after read.Device at are_ahead same kept given none = (read_on_at StandsFor held whole events old ahead before after at are_ahead same kept given, none)
fault_read StandsFor held whole events old ahead before after read.NoMemory at are_ahead same kept given none = tt

-- ---- the next line

-- what text says, where it is told and says the same whatever it is
says_each : (text : Option TextLines) (whole : Option Reading) (say : TextLines → Reading) (said : Reading) → ((lines : TextLines) → say lines ≡ said) → option_map say text ≡ whole → Says whole said
says_each None whole say said each is = subst (λ w. Says w said) is tt
says_each (Some lines) whole say said each is = subst (λ w. Says w said) is (each lines)

-- a line that is next says its event, and what is to come behind it the rest
line_says : (line : List ℕ) (events : List Event) (text : Option TextLines)
    → option_map (λ lines. reading_after (λ es. reading_on es lines) events (with_cause (event_of_line events line))) text ≡ option_map (reading_on events) (option_map (line_then line) text)
line_says line events None = refl
line_says line events (Some lines) = refl

-- a line says what its fields say, where it was split
line_event : (fields : List (List ℕ)) (events : List Event) (said : Result Event FeedFault) (old ahead : SplitLines) (takes : TakesNextLine fields old ahead) → next_event events fields ≡ said → event_of_line events takes.line ≡ said
line_event fields events said old ahead takes is = split_says events takes.line takes.is_split.can_be ∙ ap (next_event events) (sym takes.is_split.fields_are) ∙ is

-- and then the rest, by its fields
fields_say : (fields : List (List ℕ)) (events : List Event) (said : Result Event FeedFault) (old ahead : SplitLines) (told : Slot → Told) → TakesNextLine fields old ahead → next_event events fields ≡ said
    → option_map (λ lines. reading_after (λ es. reading_on es lines) events (with_cause said)) (lines_coming ahead told) ≡ ahead_says old told events
fields_say fields events said old ahead told takes is =
    let line_said : event_of_line events takes.line ≡ said = line_event fields events said old ahead takes is in
    ap (λ (s : Result Event FeedFault). option_map (λ lines. reading_after (λ es. reading_on es lines) events (with_cause s)) (lines_coming ahead told)) (sym line_said)
    ∙ line_says takes.line events (lines_coming ahead told)
    ∙ ap (option_map (reading_on events)) (sym (takes.coming told))

-- one more event is taken up
pub feed_line_read : {T : Type 0} (StandsFor : T → List Event → Type 0) (held : Option (List ℕ)) (whole : Option Reading) (events : List Event) (event : Event) (fields : List (List ℕ)) (old new : FeedReader T)
    (ahead : SplitLines) (told : Slot → Told) → IsAt StandsFor held whole events old told → slice_get old.ahead.table old.ahead.taken ≡ Some fields → ahead ≡ record old.ahead { taken = old.ahead.taken + 1 } → new.ahead ≡ ahead
    → next_event events fields ≡ Ok event → HasTakenUp StandsFor new (events ++ event ∷ []) → IsAt StandsFor held whole (events ++ event ∷ []) new told
feed_line_read StandsFor held whole events event fields old new ahead told at fields_at taken same said has =
    let next : SplitLines = record old.ahead { taken = old.ahead.taken + 1 } in
    let takes = takes_next fields old.ahead at.ahead.are_ahead fields_at in
    let is : new.ahead ≡ next = same ∙ taken in
    record {
      taken_up = has;
      ahead = subst IsFeedAhead (sym is) (record { slot = at.ahead.slot; limit = at.ahead.limit; are_ahead = takes.ahead });
      rest = ap (λ (a : SplitLines). ahead_says a told (events ++ event ∷ [])) is ∙ fields_say fields events (Ok event) old.ahead next told takes said ∙ at.rest;
      read = record {
        slot = subst (λ (a : SplitLines). a.lines.slot ≡ Feed) (sym is) at.ahead.slot;
        lines = at.read.lines ++ takes.line ∷ [];
        say = say_more at.read.lines takes.line events event (line_event fields events (Ok event) old.ahead next takes said) at.read.say;
        given = subst (λ (a : SplitLines). HasGiven (at.read.lines ++ takes.line ∷ []) held a told) (sym is) (takes.given at.read.lines held told at.read.given);
      };
    }

-- or the line is bad by its fields
pub bad_line_read : {T : Type 0} (StandsFor : T → List Event → Type 0) (held : Option (List ℕ)) (whole : Option Reading) (events : List Event) (fields : List (List ℕ)) (old new : FeedReader T) (told : Slot → Told) (why : FeedStop)
    → IsAt StandsFor held whole events old told → slice_get old.ahead.table old.ahead.taken ≡ Some fields → SaysEvent (next_event events fields) events (old.count + 1) (Err why)
    → ReadsNext StandsFor held whole events new told (Err why)
bad_line_read StandsFor held whole events fields old new told (stop.BadLine line (cause.Event fault)) at fields_at says =
    let count : old.count ≡ length events = at.taken_up.count in
    let next : SplitLines = record old.ahead { taken = old.ahead.taken + 1 } in
    let takes = takes_next fields old.ahead at.ahead.are_ahead fields_at in (
      omega (arith, count, says.0),
      says.2,
      says_each (lines_coming next told) whole (λ lines. stopped_at events (of_fault fault)) (stopped_at events (of_fault fault)) (λ lines. refl)
          (fields_say fields events (Err fault) old.ahead next told takes says.1 ∙ at.rest),
    )
bad_line_read StandsFor held whole events fields old new told (stop.BadLine line cause.TooLong) at fields_at says = absurd says
bad_line_read StandsFor held whole events fields old new told (stop.BadLine line cause.NoEol) at fields_at says = absurd says
bad_line_read StandsFor held whole events fields old new told (stop.BadLine line cause.MissingEnd) at fields_at says = absurd says
bad_line_read StandsFor held whole events fields old new told stop.NoMemory at fields_at says = tt
bad_line_read StandsFor held whole events fields old new told stop.Device at fields_at says = absurd says

-- which is no fault of the device
pub said_no_fault : (said : Result Event FeedFault) (events : List Event) (number : ℕ) (why : FeedStop) → SaysEvent said events number (Err why) → IsNoFeedFault why
said_no_fault said events number (stop.BadLine line why) says = tt
said_no_fault said events number stop.NoMemory says = tt
said_no_fault said events number stop.Device says = absurd says

-- ---- no line at hand

-- what comes behind the lines that were split says all, where they are taken
rest_says : (ahead : SplitLines) (told : Slot → Told) (events : List Event) → AreAhead ahead → has_line ahead ≡ false
    → option_map (λ lines. reading_on events (behind ahead.lines.last_bytes ahead.rest lines)) (coming ahead.lines told) ≡ ahead_says ahead told events
rest_says ahead told events is none =
    twice (behind ahead.lines.last_bytes ahead.rest) (reading_on events) (coming ahead.lines told) ∙ ap (option_map (reading_on events)) (sym (none_at_hand ahead told is none))

-- a bad line that comes behind the lines that were split stops the feed, and has a cause
record IsBadRest (rest : Rest) (last : List ℕ) (events : List Event) (why : FeedCause) : Type 0 where
  has_cause : IsCause why
  stops : (lines : TextLines) → reading_on events (behind last rest lines) ≡ stopped_at events (bad_cause why)

unsplit_cause : (why : Unsplit) → IsCause (cause.Event (fault_of_unsplit why))
unsplit_cause Empty = tt
unsplit_cause Byte = tt

same_cause : (one other : FeedCause) → Some one ≡ Some other → one ≡ other
same_cause one other is = cc

is_bad_rest : (rest : Rest) (last : List ℕ) (events : List Event) (why : FeedCause) → cause_of_rest rest ≡ Some why → IsRestAfter last rest → IsBadRest rest last events why
is_bad_rest rests.More last events why some after = absurd (let no : ⊥ = cc in no)
is_bad_rest rests.End last events why some after = absurd (let no : ⊥ = cc in no)
is_bad_rest (rests.Unsplit unsplit) last events why some after =
    subst (IsBadRest (rests.Unsplit unsplit) last events) (same_cause (cause.Event (fault_of_unsplit unsplit)) why some) (record {
      has_cause = unsplit_cause unsplit;
      stops = λ lines. ap (λ (s : Result Event FeedFault). reading_after (λ es. reading_on es lines) events (with_cause s)) (unsplit_says events last unsplit after);
    })
is_bad_rest rests.TooLong last events why some after = subst (IsBadRest rests.TooLong last events) (same_cause cause.TooLong why some) (record { has_cause = tt; stops = λ lines. refl })
is_bad_rest rests.NoEol last events why some after = subst (IsBadRest rests.NoEol last events) (same_cause cause.NoEol why some) (record { has_cause = tt; stops = λ lines. refl })

-- the next line is bad
pub bad_rest_read : {T : Type 0} (StandsFor : T → List Event → Type 0) (held : Option (List ℕ)) (whole : Option Reading) (events : List Event) (feed : FeedReader T) (told : Slot → Told) (why : FeedCause)
    → IsAt StandsFor held whole events feed told → has_line feed.ahead ≡ false → cause_of_rest feed.ahead.rest ≡ Some why
    → ReadsNext StandsFor held whole events feed told (Err (stop.BadLine (feed.count + 1) why))
bad_rest_read StandsFor held whole events feed told why at none some =
    let ahead = feed.ahead in
    let count : feed.count ≡ length events = at.taken_up.count in
    let bad = is_bad_rest ahead.rest ahead.lines.last_bytes events why some at.ahead.are_ahead.reading.rest in (
      omega (arith, count),
      bad.has_cause,
      says_each (coming ahead.lines told) whole (λ lines. reading_on events (behind ahead.lines.last_bytes ahead.rest lines)) (stopped_at events (bad_cause why)) bad.stops
          (rest_says ahead told events at.ahead.are_ahead none ∙ at.rest),
    )

ended_by : (events : List Event) (b : Bool) → b ≡ true → cond b (all_good events) (stopped_at events missing_end) ≡ all_good events
ended_by events true is = refl
ended_by events false is = cc

missing_by : (events : List Event) (b : Bool) → b ≡ false → cond b (all_good events) (stopped_at events missing_end) ≡ stopped_at events missing_end
missing_by events true is = cc
missing_by events false is = refl

end_of : (rest : Rest) → cause_of_rest rest ≡ None → (rest ≡ rests.More → ⊥) → rest ≡ rests.End
end_of rests.More none more = absurd (more refl)
end_of rests.End none more = refl
end_of (rests.Unsplit why) none more = cc
end_of rests.TooLong none more = cc
end_of rests.NoEol none more = cc

-- the feed ends in an END line, or without one
ends_by : {T : Type 0} (StandsFor : T → List Event → Type 0) (held : Option (List ℕ)) (whole : Option Reading) (events : List Event) (feed : FeedReader T) (told : Slot → Told) (result : Result (Option Event) FeedStop)
    (b : Bool) → feed.has_end ≡ b → IsAt StandsFor held whole events feed told → ((said : Reading) → reading_at_end events at_end ≡ said → Says whole said)
    → EndsAt b (feed.count + 1) result → ReadsNext StandsFor held whole events feed told result
ends_by StandsFor held whole events feed told result true is at says ends =
    subst (λ r. ReadsNext StandsFor held whole events feed told r) (sym ends) (at, says (all_good events) (ended_by events (list_any is_end events) (sym at.taken_up.has_end ∙ is)))
ends_by StandsFor held whole events feed told result false is at says ends =
    let count : feed.count ≡ length events = at.taken_up.count in
    subst (λ r. ReadsNext StandsFor held whole events feed told r) (sym ends)
    (omega (arith, count), tt, says (stopped_at events missing_end) (missing_by events (list_any is_end events) (sym at.taken_up.has_end ∙ is)))

-- the feed ends here
pub end_read : {T : Type 0} (StandsFor : T → List Event → Type 0) (held : Option (List ℕ)) (whole : Option Reading) (events : List Event) (feed : FeedReader T) (told : Slot → Told) (result : Result (Option Event) FeedStop)
    → IsAt StandsFor held whole events feed told → HasNext feed.ahead → has_line feed.ahead ≡ false → cause_of_rest feed.ahead.rest ≡ None → EndsAt feed.has_end (feed.count + 1) result
    → ReadsNext StandsFor held whole events feed told result
end_read StandsFor held whole events feed told result at next none known ends =
    let ahead = feed.ahead in
    let is_end : ahead.rest ≡ rests.End = end_of ahead.rest known (λ more. let few : ahead.taken < length ahead.table = next more in let all = all_taken ahead none in omega (arith, few, all)) in
    let says = λ (said : Reading) (is : reading_at_end events at_end ≡ said).
    says_each (coming ahead.lines told) whole (λ lines. reading_on events (behind ahead.lines.last_bytes ahead.rest lines)) said
    (λ lines. ap (λ (r : Rest). reading_on events (behind ahead.lines.last_bytes r lines)) is_end ∙ is) (rest_says ahead told events at.ahead.are_ahead none ∙ at.rest) in
    ends_by StandsFor held whole events feed told result feed.has_end refl at says ends

-- the end of the feed is no fault of the device
pub end_no_fault : (b : Bool) (number : ℕ) (result : Result (Option Event) FeedStop) → EndsAt b number result → IfErr result IsNoFeedFault
end_no_fault true number result ends = subst (λ (r : Result (Option Event) FeedStop). IfErr r IsNoFeedFault) (sym ends) tt
end_no_fault false number result ends = subst (λ (r : Result (Option Event) FeedStop). IfErr r IsNoFeedFault) (sym ends) tt
