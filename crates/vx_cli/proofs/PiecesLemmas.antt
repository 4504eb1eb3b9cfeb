-- A sample feed that is sent piece by piece.
use Rattle.std.proofs.Common.{◌≡◌, ◌∙◌, refl, sym, ap, subst, ℕ, ◌+◌, ◌<◌, [], ◌++◌, length, arith, take, append-nil, Result, Ok, Err}
use Rattle.std.specs.Prelude.{MatchResult}
use Rattle.std.proofs.Math.Seq.{take-append-add}
use Rattle.std.proofs.lemmas.List.{length-append, take-append-le}
use Rattle.vx_desk.specs.Told.{Told}
use Rattle.vx_desk.specs.declared.device.Slot.TheVariants.{Out}
use Rattle.vx_drivers.specs.declared.exit.Exit.{Exit}
use Rattle.vx_drivers.specs.Sending.{CutsOff, SendsOr, Sent, SentPart, Text}
use Rattle.vx_drivers.proofs.SendingLemmas.{sent_more, sent_none}
use Rattle.vx_feed.specs.Written.{event_text, text_of_events}
use Rattle.vx_make.specs.Feed.{closing_event, head_events, make_text, tick_events_at}
use Rattle.vx_make.specs.Pieces.{made_text}
use Rattle.vx_make.proofs.PiecesLemmas.{made_begins, made_more, made_none, made_whole}
use Rattle.vx_cli.specs.Runs.{Makes}

-- a text was sent, and of the next one a first part: this is a first part of any text that begins with both
pub part_more : (first piece rest : Text) (before between after : Told) → Sent first before between → SentPart piece between after → SentPart (first ++ piece ++ rest) before after
part_more first piece rest before between after sent part =
    let count = length first + part.count in
    let whole : length (first ++ piece) ≡ length first + length piece = length-append first piece in
    let all : length (first ++ piece ++ rest) ≡ length (first ++ piece) + length rest = length-append (first ++ piece) rest in
    let taken : take count (first ++ piece ++ rest) ≡ first ++ take part.count piece =
    take-append-le count (first ++ piece) rest (omega (arith, whole, part.within)) ∙ take-append-add first piece part.count in
    record {
      count = count;
      within = omega (arith, whole, all, part.within);
      sent = subst (λ t. Sent t before after) (sym taken) (sent_more first (take part.count piece) before between after sent part.sent);
    }

-- a write of a piece failed
pub cut_in_piece : (number ticks : ℕ) (first piece rest : Text) (before between after : Told) (exit : Exit) → make_text number ticks ≡ first ++ piece ++ rest
    → Sent first before between → CutsOff Out piece between after exit → Makes number ticks before after exit
cut_in_piece number ticks first piece rest before between after exit whole sent cut =
    subst (λ e. Makes number ticks before after e) (sym cut.exit_is)
    (subst (λ t. SentPart t before after) (sym whole) (part_more first piece rest before between after sent cut.part))

-- the head was sent
pub head_sent : (number : ℕ) (head : Text) (before after : Told) → head ≡ text_of_events head_events → Sent head before after → Sent (made_text number 0) before after
head_sent number head before after is sent = subst (λ t. Sent t before after) (is ∙ made_none number) sent

-- it was cut off
pub head_cut : (number ticks : ℕ) (head : Text) (before after : Told) (exit : Exit) → head ≡ text_of_events head_events → CutsOff Out head before after exit → Makes number ticks before after exit
head_cut number ticks head before after exit is cut =
    let begins = made_begins number 0 ticks (omega arith) in
    cut_in_piece number ticks [] head begins.0 before before after exit (begins.1 ∙ ap (λ t. t ++ begins.0) (sym (made_none number) ∙ sym is)) (sent_none before before refl) cut

-- a tick more was sent
pub tick_sent : (number made : ℕ) (lines : Text) (before between after : Told) → lines ≡ text_of_events (tick_events_at number made)
    → Sent (made_text number made) before between → Sent lines between after → Sent (made_text number (made + 1)) before after
tick_sent number made lines before between after is sent more =
    subst (λ t. Sent t before after) (ap (λ t. made_text number made ++ t) is ∙ made_more number made) (sent_more (made_text number made) lines before between after sent more)

-- it was cut off
pub tick_cut : (number ticks made : ℕ) (lines : Text) (before between after : Told) (exit : Exit) → made < ticks → lines ≡ text_of_events (tick_events_at number made)
    → Sent (made_text number made) before between → CutsOff Out lines between after exit → Makes number ticks before after exit
tick_cut number ticks made lines before between after exit within is sent cut =
    let begins = made_begins number (made + 1) ticks (omega arith) in
    cut_in_piece number ticks (made_text number made) lines begins.0 before between after exit
    (begins.1 ∙ ap (λ t. t ++ begins.0) (sym (made_more number made) ∙ ap (λ t. made_text number made ++ t) (sym is))) sent cut

-- all was sent
pub all_sent : (number ticks : ℕ) (last : Text) (before between after : Told) → last ≡ event_text (closing_event number ticks)
    → Sent (made_text number ticks) before between → Sent last between after → Sent (make_text number ticks) before after
all_sent number ticks last before between after is sent more =
    subst (λ t. Sent t before after) (ap (λ t. made_text number ticks ++ t) is ∙ made_whole number ticks) (sent_more (made_text number ticks) last before between after sent more)

-- the last line was cut off
pub last_line_cut : (number ticks : ℕ) (last : Text) (before between after : Told) (exit : Exit) → last ≡ event_text (closing_event number ticks)
    → Sent (made_text number ticks) before between → CutsOff Out last between after exit → Makes number ticks before after exit
last_line_cut number ticks last before between after exit is sent cut =
    cut_in_piece number ticks (made_text number ticks) last [] before between after exit
    (sym (made_whole number ticks) ∙ ap (λ t. made_text number ticks ++ t) (sym is) ∙ sym (append-nil (made_text number ticks ++ last))) sent cut

-- how it ends, sent or cut off
pub last_sends : (number ticks : ℕ) (last : Text) (before between after : Told) (result : Result Unit Exit) → last ≡ event_text (closing_event number ticks)
    → Sent (made_text number ticks) before between → SendsOr Out last between after result
    → MatchResult result (λ _. Sent (make_text number ticks) before after) (Makes number ticks before after)
last_sends number ticks last before between after (Ok _) is sent more = all_sent number ticks last before between after is sent more
last_sends number ticks last before between after (Err exit) is sent cut = last_line_cut number ticks last before between after exit is sent cut
