-- What only proofs need: facts of legal histories, and from which row of which table an event comes. Nothing here is a
-- definition that a contract rests on.
pub mod Runs
pub mod Came
pub mod Pieces
pub mod Known
pub mod JournalKnown
pub mod Waits
