pub mod Stops
pub mod CommandLaws
