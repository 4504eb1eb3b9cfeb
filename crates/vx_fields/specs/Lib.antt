-- The fields of a line, and which lines are not split.
pub mod Lines
pub mod Refusal
