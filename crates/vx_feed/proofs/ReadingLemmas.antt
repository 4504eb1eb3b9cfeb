-- What a text's reading says: lawful events, and the line after them where it is bad.
use Rattle.std.proofs.Common.{◌≡◌, ◌∙◌, sym, ap, refl, ℕ, ◌+◌, Bool, true, false, cond, List, [], ◌∷◌, ◌++◌, length, Option, Some, None, Result, Ok, Err}
use Rattle.std.specs.Prelude.{◌==◌}
use Rattle.std.specs.List.{list_all, list_any}
use Rattle.vx_lines.specs.TextLines as lines
use Rattle.vx_fields.specs.Lines.{fields_of_line, is_plain}
use Rattle.vx_feed.specs.declared.events.Event.{Event}
use Rattle.vx_feed.specs.declared.faults.FeedFault.{FeedFault}
use Rattle.vx_feed.specs.declared.faults.FeedFault.TheVariants as fault
use Rattle.vx_feed.specs.declared.limits.TheConstants.{LINE_LEN_MAX}
use Rattle.vx_feed.specs.Form.{event_of_fields}
use Rattle.vx_feed.specs.Feed.{event_unless, event_in_order, next_event, event_of_line, BadCause, too_long, no_eol, missing_end, BadLine, Reading}
use Rattle.vx_feed.specs.Feed.{stopped_at, with_cause, reading_at_end, reading_after, reading_from, reading_of}
use Rattle.vx_feed.specs.Order.{is_end, order_fault, IsLawfulNext, AreLawful}
use Rattle.vx_feed.specs.LawfulPrefixes.{PrefixIsLawful, BadLineFollowsPrefix, LawfulFeedEnds}
use Rattle.vx_clock.proofs.TextRanges.{past_fault, past_test}
use Rattle.vx_feed.proofs.EventRanges.{event_in_range}
use Rattle.vx_feed.proofs.EndLaws.{end_is_last}
use Rattle.vx_feed.proofs.LawfulLists.{lawful_with_one_more}

-- ---- the event of a line may come next

unless_ok : (o : Option FeedFault) (x e : Event) → event_unless o x ≡ Ok e → (o ≡ None) × (x ≡ e)
unless_ok None x e h = (refl, cc)
unless_ok (Some f) x e h = absurd cc

in_order_ok : (before : List Event) (r : Result Event FeedFault) (e : Event) → event_in_order before r ≡ Ok e → (order_fault before e ≡ None) × (r ≡ Ok e)
in_order_ok before (Err f) e h = absurd cc
in_order_ok before (Ok x) e h =
    let found = unless_ok (order_fault before x) x e h in
    (ap (order_fault before) (sym found.1) ∙ found.0, ap Ok found.1)

next_is_lawful : (before : List Event) (fields : List (List ℕ)) (e : Event) → next_event before fields ≡ Ok e → IsLawfulNext before e
next_is_lawful before fields e h =
    let found = in_order_ok before (event_of_fields fields) e h in
    record { in_range = event_in_range fields e found.1; in_order = found.0 }

cause_ok : (r : Result Event FeedFault) (e : Event) → with_cause r ≡ Ok e → r ≡ Ok e
cause_ok (Ok x) e h = let same : x ≡ e = cc in ap Ok same
cause_ok (Err f) e h = absurd cc

line_is_lawful : (before : List Event) (line : List ℕ) (e : Event) → with_cause (event_of_line before line) ≡ Ok e → IsLawfulNext before e
line_is_lawful before line e h =
    let split = cond (list_all is_plain line) (next_event before (fields_of_line line)) (Err fault.Byte) in
    let filled = past_fault (length line == 0) fault.Kind split e (cause_ok (event_of_line before line) e h) in
    let plain = past_test (list_all is_plain line) fault.Byte (next_event before (fields_of_line line)) e filled.1 in
    next_is_lawful before (fields_of_line line) e plain.1

-- ---- readings

-- its events are lawful, a bad line is the one after them, and without one an END line is among them
record IsTold (r : Reading) : Type 0 where
  lawful : AreLawful r.events
  follows : (bad : BadLine) → r.bad ≡ Some bad → bad.line ≡ length r.events + 1
  ends : r.bad ≡ None → list_any is_end r.events ≡ true

stop_told : (before : List Event) (cause : BadCause) → AreLawful before → IsTold (stopped_at before cause)
stop_told before cause h =
    let here : BadLine = record { line = length before + 1; cause = cause } in
    record {
      lawful = h;
      follows = λ bad e. let same : here ≡ bad = cc in sym (ap (λ (b : BadLine). b.line) same);
      ends = λ e. absurd cc;
    }

end_told : (before : List Event) (c : Bool) → list_any is_end before ≡ c → AreLawful before
    → IsTold (cond c (record { events = before; bad = None }) (stopped_at before missing_end))
end_told before true e h = record { lawful = h; follows = λ bad none. absurd cc; ends = λ none. e }
end_told before false e h = stop_told before missing_end h

at_end_told : (before : List Event) (ending : lines.Ending) → AreLawful before → IsTold (reading_at_end before ending)
at_end_told before lines.at_end h = end_told before (list_any is_end before) refl h
at_end_told before lines.too_long h = stop_told before too_long h
at_end_told before lines.no_eol h = stop_told before no_eol h
at_end_told before lines.too_many h = stop_told before too_long h

after_told : (more : List Event → Reading) (before : List Event) (r : Result Event BadCause) → AreLawful before
    → ((e : Event) → r ≡ Ok e → IsLawfulNext before e) → ((events : List Event) → AreLawful events → IsTold (more events)) → IsTold (reading_after more before r)
after_told more before (Ok e) h next told = told (before ++ e ∷ []) (lawful_with_one_more before e h (next e refl))
after_told more before (Err cause) h next told = stop_told before cause h

from_told : (rest : List (List ℕ)) (ending : lines.Ending) (before : List Event) → AreLawful before → IsTold (reading_from before rest ending)
from_told [] ending before h = at_end_told before ending h
from_told (line ∷ rest) ending before h =
    after_told (λ events. reading_from events rest ending) before (with_cause (event_of_line before line)) h (line_is_lawful before line) (from_told rest ending)

told : (text : List ℕ) → IsTold (reading_of text)
told text = from_told (lines.lines_of LINE_LEN_MAX text).lines (lines.lines_of LINE_LEN_MAX text).ending [] tt

-- the lawful prefix of every text is lawful
pub prefix_is_lawful : PrefixIsLawful
prefix_is_lawful text = (told text).lawful

-- a text's bad line is the one after its lawful prefix
pub bad_line_follows_prefix : BadLineFollowsPrefix
bad_line_follows_prefix text bad h = (told text).follows bad h

-- the events of a lawful feed are lawful, and end with an END, the only one
pub lawful_feed_ends : LawfulFeedEnds
lawful_feed_ends text h = ((told text).lawful, end_is_last (reading_of text).events (told text).lawful ((told text).ends h))
