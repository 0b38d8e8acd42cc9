pub mod Command
pub mod Refusals
pub mod Replay
pub mod Answers
pub mod Outcome
