-- What open dirtyings, parents, blame and tags are, said by the places of events.
use Rattle.std.specs.Prelude.{◌≡◌, ◌↔◌, ◌⊎◌, ℕ, ◌+◌, ◌==◌, ◌<◌, ◌≤◌, List, length, Bool, true, false, IsTrue, IsFalse, Some}
use Rattle.split_types.specs.declared.ids.Serial.{Serial}
use Rattle.split_types.specs.declared.ids.Txn.{Txn}
use Rattle.split_types.specs.declared.actor.Actor.{Actor}
use Rattle.split_types.specs.declared.buf.Buf.{Buf}
use Rattle.split_types.specs.declared.buf.Buf.TheVariants.{Page, Bitmap, Dir, Inode}
use Rattle.split_types.specs.declared.request.ReqKind.{ReqKind}
use Rattle.split_types.specs.declared.request.ReqKind.TheVariants.{Read, Pages, Log, Commit, Home, Clear}
use Rattle.split_types.specs.declared.request.Request.{Request}
use Rattle.split_types.specs.declared.event.Event.{Event}
use Rattle.split_types.specs.declared.event.Event.TheVariants.{Serve, Map, Seal, Add}
use Rattle.split_types.specs.History.{adds, event_at, older}
use Rattle.split_types.specs.Hooks.{is_dirtied, is_freed, is_out}
use Rattle.split_types.specs.OpenDirtyings.{open_at}
use Rattle.split_types.specs.Rounds.{is_clear}
use Rattle.split_types.specs.Parents.{buffer_at, parents_of}
use Rattle.split_types.specs.Sets.{has, IsSet}
use Rattle.split_types.specs.Blame.{own_blame, blame, tag}

-- ---- open dirtyings
-- the event at place i dirties the buffer, and no event at a later place frees it or writes it out
pub record IsOpen (h : List Event) (b : Buf) (i : ℕ) : Type 0 where
  pub within : i < length h
  pub dirtied : (e : Event) → event_at h i ≡ Some e → IsTrue (is_dirtied e b)
  pub kept : (j : ℕ) (e : Event) → i < j → event_at h j ≡ Some e → IsFalse (is_freed e b) × IsFalse (is_out e b)

-- the places of a buffer's open dirtyings are exactly these
abbrev pub OpenAreOpen : Type 0
OpenAreOpen = (h : List Event) (b : Buf) (i : ℕ) → IsTrue (has (open_at h b) i) ↔ IsOpen h b i

-- ---- parents
-- one of the n pages of a file from page g on has an open dirtying at place j
pub record IsOpenPage (h : List Event) (s : Serial) (g n j : ℕ) : Type 0 where
  pub page : ℕ
  pub least : g ≤ page
  pub below : page < g + n
  pub open_there : IsOpen h (Page s page) j

-- the buffer is a block of metadata
abbrev pub IsMetadata : Buf → Type 0
IsMetadata (Page s g) = ⊥
IsMetadata Bitmap = Unit {0}
IsMetadata (Dir k) = k < 4
IsMetadata (Inode slot) = slot.0 < 256

-- a block of metadata has an open dirtying at place j
pub record IsOpenMetadata (h : List Event) (j : ℕ) : Type 0 where
  pub buffer : Buf
  pub metadata : IsMetadata buffer
  pub open_there : IsOpen h buffer j

-- the event at place j passes the test, and none at a later place does
pub record IsLast (test : Event → Bool) (h : List Event) (j : ℕ) : Type 0 where
  pub event : Event
  pub there : event_at h j ≡ Some event
  pub passes : IsTrue (test event)
  pub last : (k : ℕ) (e : Event) → j < k → event_at h k ≡ Some e → IsFalse (test e)

abbrev pub is_serve : Event → Bool
is_serve (Serve s g n) = true
is_serve _ = false

abbrev pub is_seal : Event → Bool
is_seal (Seal t k) = true
is_seal _ = false

abbrev pub is_seal_of : Txn → Event → Bool
is_seal_of t (Seal u k) = u.0 == t.0
is_seal_of t _ = false

abbrev pub is_clear_add : Event → Bool
is_clear_add (Add by r) = is_clear r
is_clear_add _ = false

-- a seal stands at place j, and no clear request is added between it and the seal of transaction t
pub record IsInRound (h : List Event) (t : Txn) (j : ℕ) : Type 0 where
  pub own : ℕ
  pub own_seal : IsLast (is_seal_of t) h own
  pub event : Event
  pub there : event_at h j ≡ Some event
  pub seals : IsTrue (is_seal event)
  pub no_clear : (k : ℕ) (e : Event) → (own < k × k < j) ⊎ (j < k × k < own) → event_at h k ≡ Some e
      → IsFalse (is_clear_add e)

-- the buffer has an open dirtying at place j before a seal of the transaction's round
pub record IsOpenInRound (h : List Event) (t : Txn) (b : Buf) (j : ℕ) : Type 0 where
  pub seal : ℕ
  pub in_round : IsInRound h t seal
  pub open_there : IsOpen (older h seal) b j

-- the event at place j of h is a parent of an event that comes after h
abbrev pub IsParent : List Event → Event → ℕ → Type 0
IsParent h (Add by r) j = of_add r.kind where
  of_add : ReqKind → Type 0
  of_add (Read p s g) = ⊥
  of_add (Pages s g) = IsOpenPage h s g r.n j
  of_add (Log t) = IsLast (is_seal_of t) h j
  of_add (Commit t) = IsLast (is_seal_of t) h j
  of_add (Home t) = IsOpenInRound h t (buffer_at r.first) j
  of_add (Clear t) = IsLast (is_seal_of t) h j
IsParent h (Serve s g n) j = IsOpenPage h s g n j
IsParent h (Map slot s g n block new size) j = IsLast is_serve h j
IsParent h (Seal t k) j = IsOpenMetadata h j
IsParent h _ j = ⊥

-- the parents of an event that comes after h are exactly these
abbrev pub ParentsAreParents : Type 0
ParentsAreParents = (h : List Event) (e : Event) (j : ℕ) → IsTrue (has (parents_of h e) j) ↔ IsParent h e j

-- the parents of an event come before it
abbrev pub ParentsAreOlder : Type 0
ParentsAreOlder = (h : List Event) (e : Event) (j : ℕ) → IsTrue (has (parents_of h e) j) → j < length h

-- ---- blame
-- p is to blame for a parent of the event e at place i
pub record IsBlamedAtParent (h : List Event) (e : Event) (i p : ℕ) : Type 0 where
  pub parent : ℕ
  pub is_parent : IsTrue (has (parents_of (older h i) e) parent)
  pub blamed : IsTrue (has (blame h parent) p)

-- p is a process that makes the event itself, or that is to blame for a parent of it
pub record IsBlamed (h : List Event) (e : Event) (i p : ℕ) : Type 0 where
  pub least : 1 ≤ p
  pub most : p ≤ 256
  pub cause : IsTrue (has (own_blame e) p) ⊎ IsBlamedAtParent h e i p

-- the processes to blame for the event at a place are exactly these
abbrev pub BlamedAreBlamed : Type 0
BlamedAreBlamed =
    (h : List Event) (e : Event) (i p : ℕ) → event_at h i ≡ Some e → IsTrue (has (blame h i) p) ↔ IsBlamed h e i p

-- each stands once, by rising number
abbrev pub BlameIsSet : Type 0
BlameIsSet = (h : List Event) (i : ℕ) → IsSet (blame h i)

-- the tag of a request is the blame of its add
abbrev pub TagIsBlame : Type 0
TagIsBlame =
    (h : List Event) (i : ℕ) (by : Actor) (r : Request) → event_at h i ≡ Some (Add by r)
    → tag h (adds (older h i)) ≡ blame h i
