pub mod Kept
pub mod Gaps
pub mod Lent
