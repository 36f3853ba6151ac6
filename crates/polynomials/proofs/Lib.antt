pub mod Coefficients
pub mod Laws
pub mod Powers
pub mod Sizes
pub mod Division
pub mod Units
pub mod Kind
