pub mod Due
pub mod DueAt
