pub mod Walks
pub mod RoundWalks
pub mod Strangers
pub mod Runs
pub mod Blames
