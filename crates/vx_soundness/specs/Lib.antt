-- The theorem that what is accepted means what it says.
pub mod Enclosing
pub mod Laws
