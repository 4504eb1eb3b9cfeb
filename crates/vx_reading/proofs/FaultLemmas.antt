-- Where a reader of a feed stands that has no line in hand.
use Rattle.std.proofs.Common.{◌≡◌, ◌∙◌, sym, ap, subst, ℕ, ◌≤◌, false, List, ◌++◌, length, Option}
use Rattle.std.specs.Option.{option_map}
use Rattle.vx_lines.specs.TextLines.{lines_of}
use Rattle.vx_desk.specs.declared.device.Slot.{Slot}
use Rattle.vx_desk.specs.Told.{Told}
use Rattle.vx_blocks.proofs.FaultLemmas.{part_coming}
use Rattle.vx_feed.specs.declared.events.Event.{Event}
use Rattle.vx_feed.specs.declared.limits.TheConstants.{LINE_LEN_MAX}
use Rattle.vx_feed.specs.Feed.{Reading, reading_on}
use Rattle.vx_reading.specs.declared.feed.FeedReader.{FeedReader}
use Rattle.vx_reading.specs.FeedReading.{IsAt, IsCutBehind, is_waiting}
use Rattle.vx_reading.proofs.FeedLemmas.{twice}

-- a reader with no line in hand is cut off behind the events that were taken up
pub cut_behind : {T : Type 0} (StandsFor : T → List Event → Type 0) (held : Option (List ℕ)) (whole : Option Reading) (events : List Event) (feed : FeedReader T)
    (told : Slot → Told) → IsAt StandsFor held whole events feed told → is_waiting feed ≡ false → IsCutBehind whole events told
cut_behind StandsFor held whole events feed told at none =
    let ahead = feed.ahead in
    let part = part_coming ahead told at.ahead.are_ahead none in
    record {
      part = ahead.lines.waiting;
      fits = subst (λ (n : ℕ). length ahead.lines.waiting ≤ n) at.ahead.limit part.1.fits;
      no_lf = part.1.no_lf;
      rest =
          sym at.rest
          ∙ ap (option_map (reading_on events)) part.0
          ∙ sym (twice (λ (left : List ℕ). lines_of ahead.lines.limit (ahead.lines.waiting ++ left)) (reading_on events) (told ahead.lines.slot).left)
          ∙ ap (λ (n : ℕ). option_map (λ (left : List ℕ). reading_on events (lines_of n (ahead.lines.waiting ++ left))) (told ahead.lines.slot).left) at.ahead.limit
          ∙ ap (λ (s : Slot). option_map (λ (left : List ℕ). reading_on events (lines_of LINE_LEN_MAX (ahead.lines.waiting ++ left))) (told s).left) at.ahead.slot;
    }
