-- What a certificate states, and the laws of the index.
pub mod Certified
pub mod Laws
