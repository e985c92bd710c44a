pub mod Counting
pub mod Lists
pub mod Ranges
mod Rows
pub mod Sound
pub mod Steps
