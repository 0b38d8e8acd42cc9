pub mod View
pub mod Picks
