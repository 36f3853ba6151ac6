pub mod Ring
pub mod Sum
pub mod Sequence
pub mod Field
pub mod Whole
