pub mod Exponent
pub mod Growths
pub mod LogLaws
pub mod PowerLaw
pub mod Rows
pub mod Shifts
pub mod Step
