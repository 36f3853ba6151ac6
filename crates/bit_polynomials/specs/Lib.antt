pub mod Two
pub mod Binary
pub mod Meaning
pub mod BinaryLemmas
pub mod MeaningLemmas
pub mod Laws
