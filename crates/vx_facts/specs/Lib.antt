-- What a lawful feed shows.
pub mod Shown
