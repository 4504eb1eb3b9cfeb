-- Lemmas on widths and on the two sides of a strip.
pub mod Widths
pub mod Sides
