pub mod Varint
pub mod Field
pub mod Canonical
pub mod Laws
