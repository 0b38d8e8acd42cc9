mod Marks
mod Words
mod Counts
mod Listing
mod AddUp
mod Parts
pub mod TagLaws
