pub mod Answers
pub mod Blank
pub mod Numbered
