-- Slots, what a desk tells of them, and the lines that are cut from what they hold.
pub mod Slots
pub mod Told
pub mod Sending
pub mod Lines
pub mod Held
pub mod Coming
pub mod Refill
pub mod Calls
pub mod Failures
pub mod Untold
pub mod Devices
pub mod Memory
pub mod MemFiles
