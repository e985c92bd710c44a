pub mod Lines
pub mod Queries
pub mod Reading
pub mod View
pub mod Steps
pub mod Laws
