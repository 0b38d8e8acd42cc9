pub mod Log
pub mod Packing
