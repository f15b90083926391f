pub mod Truths
pub mod Placing
pub mod Holding
pub mod Faults
pub mod Counting
