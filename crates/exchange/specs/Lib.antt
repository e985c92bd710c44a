pub mod Gain
pub mod Pairs
pub mod Round
pub mod Halving
pub mod Tries
pub mod Keys
pub mod Laws
