pub mod Reading
pub mod Answers
pub mod Once
pub mod Room
