-- A feed of which one event after another is taken up.
use Rattle.std.proofs.Common.{◌≡◌, ◌∙◌, sym, subst, ℕ, ◌+◌, List, [], ◌∷◌, ◌++◌, length, Option, Some, None, Ok, IsTrue, arith}
use Rattle.std.proofs.lemmas.List.{length_push}
use Rattle.vx_desk.specs.declared.device.Slot.{Slot}
use Rattle.vx_desk.specs.declared.device.Slot.TheVariants.{Feed}
use Rattle.vx_desk.specs.Told.{ChangesOnly, Told}
use Rattle.vx_desk.specs.Calls.{IsStep}
use Rattle.vx_desk.proofs.CallLemmas.{step_after}
use Rattle.vx_blocks.specs.declared.split_lines.SplitLines.{SplitLines}
use Rattle.vx_blocks.specs.SplitLines.{IsSameText}
use Rattle.vx_blocks.specs.Given.{LosesNothing, still_to_come}
use Rattle.vx_blocks.proofs.GivenLemmas.{comes_twice}
use Rattle.vx_feed.specs.declared.events.Event.{Event}
use Rattle.vx_feed.specs.Feed.{Reading}
use Rattle.vx_reading.specs.declared.feed.FeedReader.{FeedReader}
use Rattle.vx_reading.specs.FeedReading.{IsAt, IsReading, StaysRead, TakesOne}
use Rattle.vx_reading.proofs.FeedLemmas.{stays_read}

-- so many events were taken up of a feed, some of them since it was first so
pub record IsReadOn {T : Type 0} (StandsFor : T → List Event → Type 0) (first : FeedReader T) (before : Slot → Told) (now : FeedReader T) (told : Slot → Told) (counter : ℕ) : Type 0 where
  pub at : (held : Option (List ℕ)) (whole : Option Reading) (events : List Event) → IsAt StandsFor held whole events first before → (further : List Event) × IsAt StandsFor held whole further now told
  pub reading : IsReading StandsFor now told
  pub count : now.count ≡ counter
  pub is_open : IsTrue (told Feed).is_open
  pub step : IsStep None before told
  pub others : ChangesOnly Feed before told
  pub comes_on : LosesNothing first.ahead before now.ahead told
  pub same : IsSameText first.ahead now.ahead

-- the same slot is read, and then again
same_twice : (first between now : SplitLines) → IsSameText first between → IsSameText between now → IsSameText first now
same_twice first between now one other = record { slot = other.slot ∙ one.slot; limit = other.limit ∙ one.limit }

-- one more event is taken up
pub takes_one_more : {T : Type 0} (StandsFor : T → List Event → Type 0) (first : FeedReader T) (before : Slot → Told) (old : FeedReader T) (told : Slot → Told) (new : FeedReader T) (after : Slot → Told) (counter : ℕ)
    (event : Event) (found : Option Event) → IsReadOn StandsFor first before old told counter → found ≡ Some event → TakesOne StandsFor old told new after (Ok found) → IsStep None told after → ChangesOnly Feed told after
    → LosesNothing old.ahead told new.ahead after → IsSameText old.ahead new.ahead → IsReadOn StandsFor first before new after (counter + 1)
takes_one_more StandsFor first before old told new after counter event found was is takes step others comes same =
    let then : TakesOne StandsFor old told new after (Ok (Some event)) = subst (λ (f : Option Event). TakesOne StandsFor old told new after (Ok f)) is takes in
    let some = was.reading in
    let further = then some.0 some.1 some.2 some.3 in
    let count : old.count ≡ length some.2 = some.3.taken_up.count in
    let now : new.count ≡ length (some.2 ++ event ∷ []) = further.taken_up.count in
    let size : length (some.2 ++ event ∷ []) ≡ length some.2 + 1 = length_push some.2 event in
    record {
      at = λ held whole events start. let one = was.at held whole events start in (one.0 ++ event ∷ [], then held whole one.0 one.1);
      reading = (some.0, some.1, some.2 ++ event ∷ [], further);
      count = omega (arith, count, now, size, was.count);
      is_open = subst IsTrue (sym (step.slots.is_open Feed)) was.is_open;
      step = step_after None before told after was.step step;
      others = λ slot other. others slot other ∙ was.others slot other;
      comes_on = comes_twice (still_to_come first.ahead before) (still_to_come old.ahead told) (still_to_come new.ahead after) was.comes_on comes;
      same = same_twice first.ahead old.ahead new.ahead was.same same;
    }

-- what was read at first stays read where lines are read on
pub still_read : {T : Type 0} (StandsFor : T → List Event → Type 0) (first : FeedReader T) (before : Slot → Told) (old : FeedReader T) (told : Slot → Told) (new : FeedReader T) (after : Slot → Told) (counter : ℕ)
    → IsReadOn StandsFor first before old told counter → LosesNothing old.ahead told new.ahead after → IsSameText old.ahead new.ahead → StaysRead first before after
still_read StandsFor first before old told new after counter was comes same =
    stays_read first new.ahead before after (same_twice first.ahead old.ahead new.ahead was.same same)
    (comes_twice (still_to_come first.ahead before) (still_to_come old.ahead told) (still_to_come new.ahead after) was.comes_on comes)
