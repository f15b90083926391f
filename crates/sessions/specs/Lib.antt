pub mod Answered
pub mod Noted
