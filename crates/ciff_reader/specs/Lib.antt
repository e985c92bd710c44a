pub mod Counting
pub mod Reading
pub mod Says
pub mod Listing
pub mod Open
pub mod Window
pub mod Steps
pub mod Awaited
