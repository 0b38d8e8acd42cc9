pub mod Places
pub mod ById
