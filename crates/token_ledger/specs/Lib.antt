pub mod Books
pub mod Codes
pub mod Places
pub mod Splits
pub mod Standings
