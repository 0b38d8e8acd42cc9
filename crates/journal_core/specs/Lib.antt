pub mod Causes
pub mod Places
pub mod Slots
pub mod Work
pub mod Journaled
