pub mod Keeps
pub mod Meanings
pub mod Steps
pub mod Alike
