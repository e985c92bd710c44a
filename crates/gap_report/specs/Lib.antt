pub mod Codes
pub mod Costs
pub mod Laws
pub mod Tally
