pub mod Shapes
pub mod Lent
pub mod Faults
pub mod Places
pub mod Operations
pub mod Rests
pub mod Products
pub mod Calls
