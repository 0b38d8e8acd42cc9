pub mod Bits
pub mod Blocks
pub mod Held
pub mod Marks
pub mod Settling
