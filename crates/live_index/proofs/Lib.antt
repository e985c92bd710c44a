pub mod Rules
pub mod Views
pub mod Answering
pub mod Plans
