pub mod Lines
pub mod Texts
pub mod Fields
pub mod Parts
pub mod Once
pub mod RoundTrip
