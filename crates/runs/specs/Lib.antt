pub mod Account
pub mod Law
pub mod Step
pub mod Determined
