pub mod FirstKept
pub mod FrontReads
