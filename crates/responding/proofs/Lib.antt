pub mod Answering
pub mod Refusing
pub mod Once
