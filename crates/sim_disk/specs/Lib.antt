pub mod Bytes
pub mod Load
pub mod Sheet
pub mod Medium
pub mod Crash
pub mod Shared
pub mod Runs
pub mod Fields
