-- Definitions: that every certificate has a verdict, and that every run is there.
pub mod Runs
pub mod Verdicts
