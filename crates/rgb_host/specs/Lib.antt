pub mod Files
pub mod Seen
pub mod Memory
pub mod Real
pub mod Laws
