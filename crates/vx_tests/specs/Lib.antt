-- the ranges that tests state, and by which later ones are bounded
pub mod Ranges
-- what is tested of each row
pub mod Rows
pub mod Stated
pub mod Terms
-- the parts of a figure's tests
pub mod Figures
