pub mod Chains
pub mod Lines
pub mod Sheets
pub mod Shared
pub mod Digits
