pub mod Tables
pub mod Updates
pub mod Scans
pub mod Products
pub mod Steps
pub mod Accepting
