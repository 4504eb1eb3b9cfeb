-- What the files that a run reads held at first.
use Rattle.std.specs.Prelude.{ℕ, List, Option}
use Rattle.vx_desk.specs.declared.device.Slot.{Slot}
use Rattle.vx_desk.specs.declared.device.Slot.TheVariants.{Feed, Side}
use Rattle.vx_desk.specs.Told.{Told}

-- the bytes of the feed, and those of the other file that is read, where they are told
pub record Held : Type 0 where
  pub feed : Option (List ℕ)
  pub side : Option (List ℕ)

-- what two open slots still hold
abbrev pub held_in : (Slot → Told) → Held
held_in told = record { feed = (told Feed).left; side = (told Side).left }
