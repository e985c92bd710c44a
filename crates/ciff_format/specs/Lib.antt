pub mod Canonical
pub mod Fields
pub mod Messages
pub mod Accepted
pub mod Refused
pub mod Growing
pub mod Laws
pub mod Rows
