pub mod Settled
pub mod Turn
