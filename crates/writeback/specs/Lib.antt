pub mod ServedRun
pub mod Starts
