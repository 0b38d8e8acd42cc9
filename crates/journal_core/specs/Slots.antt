-- Where the slots of the journal lie on the disk: each has a descriptor, 262 blocks for images and a commit block.
use Rattle.std.specs.Prelude.{ℕ, ◌+◌, ◌*◌}

abbrev pub descriptor_at : ℕ → ℕ
descriptor_at slot = 262 + 264 * slot

abbrev pub commit_at : ℕ → ℕ
commit_at slot = 525 + 264 * slot
