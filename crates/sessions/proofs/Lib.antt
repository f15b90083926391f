pub mod Telling
pub mod Noting
pub mod Answering
