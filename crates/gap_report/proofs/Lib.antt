pub mod Gaps
pub mod Logs
pub mod Rows
pub mod Sums
pub mod Tallies
