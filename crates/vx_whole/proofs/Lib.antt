-- Lemmas: each test of a certificate is met or not, each line is read as something, and so each run is there.
pub mod Decided
pub mod Places
pub mod TermTests
pub mod FigureTests
pub mod Verdicts
pub mod Readings
pub mod Certificates
pub mod Positions
pub mod Ticks
