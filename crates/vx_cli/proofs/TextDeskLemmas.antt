-- The desk that has a feed's text in memory.
use Rattle.std.proofs.Common.{◌≡◌, ◌≢◌, ℕ, ◌<◌, ◌≤◌, List, [], ◌++◌, length, take, Some, Ok, refl, ap, arith}
use Rattle.vx_desk.specs.declared.device.Slot.{Slot}
use Rattle.vx_desk.specs.declared.device.Slot.TheVariants.{Feed, Side, Out, Certs}
use Rattle.vx_desk.specs.Told.{Reads}
use Rattle.vx_desk.specs.Calls.{IsStep, read_call}
use Rattle.vx_cli.specs.TextDesk.{told_text}

-- the next bytes of the text are read
pub reads_text : (old new buf : List ℕ) (count : ℕ) → count ≤ length buf → old ≡ take count buf ++ new → (count ≡ 0 → 0 < length buf → old ≡ [])
    → Reads buf (told_text old Feed) (told_text new Feed) (Ok count)
reads_text old new buf count within moved at_end = record {
  within = within;
  moved = ap (λ (bytes : List ℕ). Some bytes) moved;
  at_end = λ none room. at_end (let zero_read : count ≡ 0 = cc in zero_read) room;
  reads = refl;
  rest = record { sent = refl; is_open = refl; name = refl; opens = refl; writes = refl };
}

-- a read of the text changes what is told of no other slot
pub others_kept : (old new : List ℕ) (slot : Slot) → slot ≢ Feed → told_text new slot ≡ told_text old slot
others_kept old new Feed other = absurd (other refl)
others_kept old new Side other = refl
others_kept old new Out other = refl
others_kept old new Certs other = refl

-- no read of the text fails
pub never_fails : (old new : List ℕ) → IsStep (Some (record { slot = Feed; kind = read_call })) (told_text old) (told_text new) → ⊥
never_fails old new step = let up = step.failures.rose.up in let no : ⊥ = omega (arith, up) in no
