pub mod Views
pub mod Gains
pub mod Turns
pub mod Readiness
pub mod Forms
pub mod Links
pub mod Rounds
pub mod Ends
