pub mod Puts
pub mod Joins
pub mod Ranges
pub mod Cells
pub mod Entries
pub mod Stores
pub mod Searches
