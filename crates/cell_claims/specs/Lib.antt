pub mod Numbers
pub mod Rule
pub mod Claims
pub mod Kept
