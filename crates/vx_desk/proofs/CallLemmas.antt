-- Failed calls over several steps.
use Rattle.std.proofs.Common.{◌≡◌, ◌∙◌, sym, subst, refl, Option, Some, None}
use Rattle.vx_desk.specs.Told.{Rose, Told}
use Rattle.vx_desk.specs.declared.device.Slot.{Slot}
use Rattle.vx_desk.specs.Calls.{Calls, Failures, IsStep, NoFailure, failures}

-- nothing was done to a desk
pub step_none : (told : Slot → Told) → IsStep None told told
step_none told = record { failures = λ calls. refl; slots = record { is_open = λ slot. refl; name = λ slot. refl } }

pub step_same : {D : Type 0} (told : D → Slot → Told) (before after : D) → after ≡ before → IsStep None (told before) (told after)
step_same {D} told before after same = subst (λ (d : D). IsStep None (told before) (told d)) (sym same) (step_none (told before))

-- the call that fails after steps in which none did is the one that failed in all of them
pub failures_after : (before between after : Slot → Told) (named : Option Calls) → NoFailure before between → Failures named between after → Failures named before after
failures_after before between after None first last = λ calls. last calls ∙ first calls
failures_after before between after (Some failed) first last = record {
  rose = subst (λ n. Rose n (failures failed after)) (first failed) last.rose;
  others = λ calls other. last.others calls other ∙ first calls;
}

-- a step after steps in which no call failed
pub step_after : (named : Option Calls) (before between after : Slot → Told) → IsStep None before between → IsStep named between after → IsStep named before after
step_after named before between after first last = record {
  failures = failures_after before between after named first.failures last.failures;
  slots = record {
    is_open = λ slot. last.slots.is_open slot ∙ first.slots.is_open slot;
    name = λ slot. last.slots.name slot ∙ first.slots.name slot;
  };
}
