mod Samples
mod WrittenPages
