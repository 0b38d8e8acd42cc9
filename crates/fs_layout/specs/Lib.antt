pub mod Fields
pub mod Reading
pub mod Super
pub mod Journal
pub mod Inodes
pub mod Directory
pub mod BitsOf
pub mod Bitmaps
