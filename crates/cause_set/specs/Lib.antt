pub mod Fields
pub mod Marks
pub mod Members
pub mod PlainTags
pub mod Shares
pub mod Tags
