pub mod History
pub mod Answers
pub mod Listed
pub mod Rule
pub mod Kept
