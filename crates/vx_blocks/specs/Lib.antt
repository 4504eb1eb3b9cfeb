-- The lines of a slot, read ahead and split in blocks: what is to come of them, what was given, and where reading stops.
pub mod SplitLines
pub mod Given
pub mod Stops
pub mod Steps
