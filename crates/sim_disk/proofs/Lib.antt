pub mod Filled
pub mod FillLaws
pub mod SharedLaws
pub mod RunLaws
pub mod WriteLaws
pub mod CrashLaws
pub mod FateLaws
