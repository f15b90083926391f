pub mod Rows
pub mod Calls
pub mod Steps
pub mod Openings
pub mod Fits
pub mod Faults
pub mod Once
pub mod Relabelled
