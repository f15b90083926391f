pub mod Putting
pub mod Placing
