-- Which slots are read and which are written.
use Rattle.vx_desk.specs.declared.device.Slot.{Slot}
use Rattle.vx_desk.specs.declared.device.Slot.TheVariants.{Feed, Side, Out, Certs}

-- the slot is one that is read
abbrev pub IsReadingSlot : Slot → Type 0
IsReadingSlot Feed = Unit {0}
IsReadingSlot Side = Unit {0}
IsReadingSlot Out = ⊥
IsReadingSlot Certs = ⊥

-- the slot is one that is written
abbrev pub IsWritingSlot : Slot → Type 0
IsWritingSlot Feed = ⊥
IsWritingSlot Side = ⊥
IsWritingSlot Out = Unit {0}
IsWritingSlot Certs = Unit {0}
