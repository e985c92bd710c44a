pub mod Trace
pub mod Recursion
pub mod Laws
pub mod Progress
pub mod There
pub mod Cells
pub mod Kept
pub mod Desks
