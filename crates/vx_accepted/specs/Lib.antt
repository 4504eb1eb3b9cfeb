-- What the calculator certifies is accepted, and can be written.
pub mod Certified
pub mod Statable
pub mod Picked
pub mod Facts
pub mod Clear
