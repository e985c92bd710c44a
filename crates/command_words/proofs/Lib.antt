pub mod Digits
pub mod Parting
pub mod Lines
