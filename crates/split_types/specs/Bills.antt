-- What is billed to each process.
use Rattle.std.specs.Prelude.{ℕ, ◌+◌, ◌==◌, List, [], ◌∷◌, map, nat_lt, if◌then◌else◌}
use Rattle.split_types.specs.declared.ids.Txn.{Txn}
use Rattle.split_types.specs.declared.buf.Buf.{Buf}
use Rattle.split_types.specs.declared.request.ReqKind.{ReqKind}
use Rattle.split_types.specs.declared.request.ReqKind.TheVariants.{Pages, Log}
use Rattle.split_types.specs.declared.request.Request.{Request}
use Rattle.split_types.specs.declared.workload.Workload.{Workload}
use Rattle.split_types.specs.declared.event.Event.{Event}
use Rattle.split_types.specs.declared.event.Event.TheVariants.{Add, Done}
use Rattle.split_types.specs.History.{◌▹◌, adds}
use Rattle.split_types.specs.Rounds.{before_seal}
use Rattle.split_types.specs.Parents.{pages_of}
use Rattle.split_types.specs.Transactions.{marked_buffers}
use Rattle.split_types.specs.Blame.{causes, tag}
use Rattle.split_types.specs.Share.{bill_of_parts}
use Rattle.split_types.specs.CostAndClock.{cost_of}

-- the buffers of metadata that the seal of a transaction took, by rising block
abbrev pub sealed : List Event → Txn → List Buf
sealed h t = marked_buffers (before_seal h t)

-- the sets of processes that bear a request added after h, one for each of its blocks: for pages those to blame for
-- each page, for a log all of its tag for the first block, and then those to blame for each buffer that was sealed
abbrev pub parts_of_add : List Event → Request → List ℕ → List (List ℕ)
parts_of_add h r all = by_kind r.kind where
  by_kind : ReqKind → List (List ℕ)
  by_kind (Pages s g) = map (λ b. causes h (b ∷ [])) (pages_of s g r.n)
  by_kind (Log t) = all ∷ map (λ b. causes (before_seal h t) (b ∷ [])) (sealed h t)
  by_kind _ = all ∷ []

abbrev pub block_parts : List Event → ℕ → List (List ℕ)
block_parts [] id = []
block_parts (h ▹ Add by r) id = if id == adds h then parts_of_add h r (tag (h ▹ Add by r) id) else block_parts h id
block_parts (h ▹ e) id = block_parts h id

-- the sets of processes that bear a request: its tag alone, and from version 3 on one set for each of its blocks
abbrev pub parts : Workload → List Event → ℕ → List (List ℕ)
parts w h id = if nat_lt w.version 3 then tag h id ∷ [] else block_parts h id

-- what a process bears of the cost of a request
abbrev pub bill : Workload → List Event → ℕ → ℕ → ℕ
bill w h id p = bill_of_parts (cost_of h id) (parts w h id) p

-- what is billed to a process: what it bears of the completed requests
abbrev pub billed : Workload → List Event → ℕ → ℕ
billed w [] p = 0
billed w (h ▹ Done k id ok) p = billed w h p + bill w h id.0 p
billed w (h ▹ e) p = billed w h p
