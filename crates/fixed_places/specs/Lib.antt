pub mod Tree
pub mod Keys
pub mod Chains
pub mod Spread
pub mod Groups
pub mod Recency
pub mod Free
