-- The exits of a run.
use Rattle.std.proofs.Common.{◌≡◌, ◌≢◌, ◌∙◌, sym, ap, refl, ℕ, false, true}
use Rattle.vx_desk.specs.declared.device.Slot.{Slot}
use Rattle.vx_desk.specs.declared.device.Slot.TheVariants.{Feed, Side, Out, Certs}
use Rattle.vx_reading.specs.Stops.{feed_stop_calls}
use Rattle.vx_reading.specs.declared.stop.FeedCause.{FeedCause}
use Rattle.vx_reading.specs.declared.stop.FeedStop.{FeedStop}
use Rattle.vx_reading.specs.declared.stop.FeedStop.TheVariants as stop
use Rattle.vx_drivers.specs.declared.exit.Exit.{Exit}
use Rattle.vx_drivers.specs.declared.exit.Exit.TheVariants.{Done, BadFeed, ReadFault, WriteFault, NoMemory}
use Rattle.vx_drivers.specs.Exits.{exit_calls, exit_of_stop, is_cut, is_write_fault}

-- the stop of a feed and its exit name the same failed calls
pub stop_named : (why : FeedStop) → exit_calls (exit_of_stop why) ≡ feed_stop_calls why
stop_named (stop.BadLine line cause) = refl
stop_named stop.Device = refl
stop_named stop.NoMemory = refl

-- a failed write cuts a run off
pub write_cuts : (slot : Slot) (exit : Exit) → exit ≡ WriteFault slot → is_cut exit ≡ true
write_cuts slot exit is = ap is_cut is

-- and is one of a failed write
pub write_is_fault : {P : Type 0} (slot : Slot) (exit : Exit) → exit ≡ WriteFault slot → is_write_fault exit ≡ false → P
write_is_fault slot exit is not = absurd (let no : ⊥ = let fault : is_write_fault exit ≡ true = ap is_write_fault is in cc in no)

-- exits that cut no run off
pub done_not_cut : {P : Type 0} → is_cut Done ≡ true → P
done_not_cut is = absurd (let no : ⊥ = cc in no)

pub bad_not_cut : {P : Type 0} (line : ℕ) (why : FeedCause) → is_cut (BadFeed line why) ≡ true → P
bad_not_cut line why is = absurd (let no : ⊥ = cc in no)

-- exits that are none of a failed read of the feed
pub memory_not_read : {P : Type 0} → NoMemory ≡ ReadFault Feed → P
memory_not_read is = absurd (let no : ⊥ = cc in no)

pub write_not_read : {P : Type 0} (slot : Slot) (exit : Exit) → exit ≡ WriteFault slot → exit ≡ ReadFault Feed → P
write_not_read slot exit is read = absurd (let no : ⊥ = let same : WriteFault slot ≡ ReadFault Feed = sym is ∙ read in cc in no)

-- exits that are none of a failed read of the slot Side
pub memory_not_side : {P : Type 0} → NoMemory ≡ ReadFault Side → P
memory_not_side is = absurd (let no : ⊥ = cc in no)

pub write_not_side : {P : Type 0} (slot : Slot) (exit : Exit) → exit ≡ WriteFault slot → exit ≡ ReadFault Side → P
write_not_side slot exit is read = absurd (let no : ⊥ = let same : WriteFault slot ≡ ReadFault Side = sym is ∙ read in cc in no)

pub out_not_feed : Out ≢ Feed
out_not_feed e = cc

pub feed_not_out : Feed ≢ Out
feed_not_out e = cc

pub side_not_feed : Side ≢ Feed
side_not_feed e = cc

pub side_not_out : Side ≢ Out
side_not_out e = cc

pub feed_not_side : (slot : Slot) → slot ≡ Side → Feed ≢ slot
feed_not_side slot is e = cc

pub out_not_side : (slot : Slot) → slot ≡ Side → Out ≢ slot
out_not_side slot is e = cc

pub certs_not_feed : Certs ≢ Feed
certs_not_feed e = cc

pub certs_not_out : Certs ≢ Out
certs_not_out e = cc

pub out_not_certs : Out ≢ Certs
out_not_certs e = cc

pub feed_not_certs : Feed ≢ Certs
feed_not_certs e = cc

pub certs_not_side : (slot : Slot) → slot ≡ Side → Certs ≢ slot
certs_not_side slot is e = cc

pub side_not_certs : Side ≢ Certs
side_not_certs e = cc
