pub mod Sizes
pub mod Layout
pub mod Stored
pub mod Reader
pub mod Numbered
