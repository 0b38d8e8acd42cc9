-- What is known of the page with which a run begins.
use Rattle.std.specs.Prelude.{◌≡◌, ◌<◌, Some, IsSome}
use Rattle.split_types.specs.LiveFiles.{file_at, slot_of_serial}
use Rattle.small_fs.specs.Files.{Files}
use Rattle.writeback.specs.ServedRun.{block_of}
use Rattle.writeback.specs.declared.run.Start.{Start}

-- the page has a number that a page of a file can have, its file is live in the slot, and it has the block
pub record IsStart (fs : Files) (start : Start) : Type 0 where
  pub number : start.page < 1008
  pub slot : slot_of_serial fs.slots start.serial ≡ Some start.slot.0
  pub live : IsSome (file_at fs.slots start.slot.0)
  pub block : start.block ≡ block_of fs start.serial start.page
