pub mod Feeds
pub mod Takings
pub mod Pieces
pub mod Verdicts
