pub mod Sums
pub mod Cost
pub mod Counts
pub mod Steps
pub mod Kept
pub mod Laws
