-- The causes that a proxy has.
use Rattle.std.specs.Prelude.{Option, Some, None}
use Rattle.proxies.specs.declared.writeback.Writeback.{Writeback}
use Rattle.proxies.specs.declared.writeback.Writeback.TheVariants as writeback
use Rattle.proxies.specs.declared.commit.Commit.{Commit}
use Rattle.proxies.specs.declared.commit.Commit.TheVariants as commit

-- the causes of what writeback serves
abbrev pub causes_of_writeback : {T : Type 0} → Writeback T → Option T
causes_of_writeback writeback.Idle = None
causes_of_writeback (writeback.Serving run causes) = Some causes
causes_of_writeback (writeback.Mapped run causes) = Some causes

-- the causes of the transaction that commit works for
abbrev pub causes_of_commit : {T : Type 0} → Commit T → Option T
causes_of_commit commit.Idle = None
causes_of_commit (commit.Log t causes) = Some causes
causes_of_commit (commit.Marking t causes) = Some causes
causes_of_commit (commit.Homes t causes added) = Some causes
causes_of_commit (commit.Clear t causes) = Some causes
