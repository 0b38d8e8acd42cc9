pub mod Puts
pub mod OnSheet
