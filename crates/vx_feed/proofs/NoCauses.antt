-- An event without a fault has no cause of one.
use Rattle.std.proofs.Common.{◌≡◌, refl, Bool, true, false, cond, List, drop, Option, Some, None}
use Rattle.vx_feed.specs.declared.events.Event.{Event}
use Rattle.vx_feed.specs.declared.faults.FeedFault.{FeedFault}
use Rattle.vx_feed.specs.declared.faults.FeedFault.TheVariants as fault
use Rattle.vx_feed.specs.Order.{first_fault, is_after_end, is_duplicate_expiry, is_duplicate_series, is_misplaced, is_other_count, is_out_of_days, is_second_opening, is_time_back, is_too_many, is_undeclared, order_causes, order_fault}

-- none of the ten causes holds
pub record HasNoCause (before : List Event) (e : Event) : Type 0 where
  pub placed : is_misplaced before e ≡ false
  pub before_end : is_after_end before e ≡ false
  pub in_time : is_time_back before e ≡ false
  pub new_expiry : is_duplicate_expiry before e ≡ false
  pub new_series : is_duplicate_series before e ≡ false
  pub declared : is_undeclared before e ≡ false
  pub few : is_too_many before e ≡ false
  pub counted : is_other_count before e ≡ false
  pub in_days : is_out_of_days before e ≡ false
  pub first_opening : is_second_opening before e ≡ false

step : (test : Bool) (f : FeedFault) (rest : Option FeedFault) → cond test (Some f) rest ≡ None → (test ≡ false) × (rest ≡ None)
step true f rest h = cc
step false f rest h = (refl, h)

-- where no fault is answered, no cause holds
pub no_causes : (before : List Event) (e : Event) → order_fault before e ≡ None → HasNoCause before e
no_causes before e h =
    let placed = step (is_misplaced before e) fault.NotFirst (first_fault (drop 1 (order_causes before e))) h in
    let before_end = step (is_after_end before e) fault.AfterEnd (first_fault (drop 2 (order_causes before e))) placed.1 in
    let in_time = step (is_time_back before e) fault.TimeBack (first_fault (drop 3 (order_causes before e))) before_end.1 in
    let new_expiry = step (is_duplicate_expiry before e) fault.DuplicateExpiry (first_fault (drop 4 (order_causes before e))) in_time.1 in
    let new_series = step (is_duplicate_series before e) fault.DuplicateSeries (first_fault (drop 5 (order_causes before e))) new_expiry.1 in
    let declared = step (is_undeclared before e) fault.UndeclaredExpiry (first_fault (drop 6 (order_causes before e))) new_series.1 in
    let few = step (is_too_many before e) fault.TooMany (first_fault (drop 7 (order_causes before e))) declared.1 in
    let counted = step (is_other_count before e) fault.EndCount (first_fault (drop 8 (order_causes before e))) few.1 in
    let in_days = step (is_out_of_days before e) fault.TimeRange (first_fault (drop 9 (order_causes before e))) counted.1 in
    let first_opening = step (is_second_opening before e) fault.SecondOpening (first_fault (drop 10 (order_causes before e))) in_days.1 in
    record {
      placed = placed.0;
      before_end = before_end.0;
      in_time = in_time.0;
      new_expiry = new_expiry.0;
      new_series = new_series.0;
      declared = declared.0;
      few = few.0;
      counted = counted.0;
      in_days = in_days.0;
      first_opening = first_opening.0;
    }
