pub mod Counts
pub mod Cuts
pub mod Decimal
pub mod Filling
pub mod Pieces
