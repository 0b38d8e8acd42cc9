pub mod Faults
pub mod Store
pub mod Stream
pub mod Supply
pub mod Whole
