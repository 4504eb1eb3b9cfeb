-- The lines of a text, and how they are cut.
pub mod TextLines
pub mod Cut
