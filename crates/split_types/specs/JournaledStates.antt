-- Transactions, slots, buffers and sets of processes, and what an fsync waits for, in the histories that serve as examples
-- of the journal, after some of their events.
use Rattle.std.specs.Prelude.{◌≡◌, [], ◌∷◌, map, filter, true, false, Some, None}
use Rattle.split_types.specs.declared.actor.Actor.TheVariants.{Cm, Dq}
use Rattle.split_types.specs.declared.buf.Buf.TheVariants.{Dir, Inode}
use Rattle.split_types.specs.declared.event.Event.TheVariants.{Seal, Send}
use Rattle.split_types.specs.History.{older}
use Rattle.split_types.specs.Rounds.{slot_of_txn}
use Rattle.split_types.specs.Parents.{metadata_buffers}
use Rattle.split_types.specs.Schedulers.{is_data_done}
use Rattle.split_types.specs.Examples.{file, slot, req, txn, three_writers, three_creators, late_homes}
use Rattle.split_types.specs.CacheExamples.{two_in_flight}
use Rattle.split_types.specs.Transactions.{in_journal, marked_buffers, awaits_home}
use Rattle.split_types.specs.Syncing.{is_written, awaited_txn, is_safe}
use Rattle.split_types.specs.Next.{next}
use Rattle.split_types.specs.LiveSets.{live_sets}
use Rattle.split_types.specs.JournalExamples.{data_before_commit, data_before_commit_load, map_before_seal, map_before_seal_load, synced, synced_load}

-- ---- the journal

pub record WorkedTransactions : Type 0 where
  pub late_slots : map (λ t. slot_of_txn late_homes (txn t)) (1 ∷ 2 ∷ []) ≡ 0 ∷ 1 ∷ []
  -- two transactions share a round, and are cleared one after the other
  pub late_in_journal :
      map (λ n. in_journal (older late_homes n)) (7 ∷ 8 ∷ 23 ∷ 41 ∷ 42 ∷ 45 ∷ [])
      ≡ [] ∷ (txn 1 ∷ []) ∷ (txn 1 ∷ txn 2 ∷ []) ∷ (txn 1 ∷ txn 2 ∷ []) ∷ (txn 2 ∷ []) ∷ [] ∷ []
  pub late_marked :
      map (λ n. marked_buffers (older late_homes n)) (2 ∷ 3 ∷ 8 ∷ 18 ∷ [])
      ≡ [] ∷ (Dir 0 ∷ Inode (slot 0) ∷ []) ∷ [] ∷ (Dir 0 ∷ Inode (slot 1) ∷ []) ∷ []
  -- the block of the directory, which both took, goes home once
  pub late_homes_left :
      map (λ n. filter (awaits_home (older late_homes n)) metadata_buffers) (8 ∷ 23 ∷ 31 ∷ 33 ∷ [])
      ≡ (Dir 0 ∷ Inode (slot 0) ∷ [])
      ∷ (Dir 0 ∷ Inode (slot 0) ∷ Inode (slot 1) ∷ [])
      ∷ (Inode (slot 0) ∷ Inode (slot 1) ∷ [])
      ∷ []
      ∷ []
  -- the commit request is there, and isn't sent before the data is done
  pub data_done : map (λ n. is_data_done (older data_before_commit n) (txn 1)) (13 ∷ 14 ∷ []) ≡ false ∷ true ∷ []
  pub data_sent :
      map (λ n. next data_before_commit_load (older data_before_commit n) Dq) (13 ∷ 14 ∷ [])
      ≡ None ∷ Some (Send (req 2) 52) ∷ []
  -- nothing is sealed between a map and its add
  pub mapped :
      map (λ n. next map_before_seal_load (older map_before_seal n) Cm) (6 ∷ 7 ∷ [])
      ≡ None ∷ Some (Seal (txn 1) 2) ∷ []

-- ---- an fsync

pub record WorkedSyncs : Type 0 where
  -- the put came before the call was admitted, at place 5
  pub written : map (λ n. is_written (older synced n) (Some (file 0)) 5) (6 ∷ 12 ∷ 13 ∷ []) ≡ false ∷ false ∷ true ∷ []
  pub awaited :
      map (λ n. awaited_txn synced_load (older synced n) 1) (13 ∷ 14 ∷ 29 ∷ []) ≡ None ∷ Some (txn 1) ∷ Some (txn 1) ∷ []
  pub safe : map (λ n. is_safe (older synced n) (Some (txn 1))) (18 ∷ 19 ∷ []) ≡ false ∷ true ∷ []

-- ---- sets of processes

pub record WorkedSets : Type 0 where
  -- three inodes, and the directory
  pub creators : map (λ n. live_sets (older three_creators n)) (12 ∷ 38 ∷ []) ≡ 4 ∷ 0 ∷ []
  pub in_flight : live_sets (older two_in_flight 8) ≡ 2
  pub writers : live_sets (older three_writers 12) ≡ 1

pub record JournaledStates : Type 0 where
  pub transactions : WorkedTransactions
  pub syncs : WorkedSyncs
  pub sets : WorkedSets
