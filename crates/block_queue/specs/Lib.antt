pub mod Stock
pub mod Backlog
pub mod Fields
