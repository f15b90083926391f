pub mod Puts
pub mod From
