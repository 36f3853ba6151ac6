pub mod Polynomial
pub mod Kind
