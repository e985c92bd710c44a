pub mod Numberings
