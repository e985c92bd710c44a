pub mod Bounds
pub mod Fields
pub mod Parts
pub mod Postings
pub mod Sends
pub mod Varints
