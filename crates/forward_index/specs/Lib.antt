pub mod Forward
pub mod Flat
pub mod Rows
pub mod Bands
pub mod Marks
pub mod Start
pub mod Cell
pub mod Laws
