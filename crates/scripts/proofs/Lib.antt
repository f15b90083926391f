pub mod Fields
pub mod Narrowed
pub mod Setups
pub mod Bytes
pub mod Calls
