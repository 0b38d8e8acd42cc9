pub mod Files
pub mod Metadata
pub mod Keys
pub mod Pointers
pub mod Uses
pub mod Fields
