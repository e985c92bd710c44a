pub mod Sums
pub mod Steps
pub mod Seats
pub mod Gathers
