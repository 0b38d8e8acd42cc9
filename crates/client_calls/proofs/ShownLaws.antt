-- What follows where what decides a client's next event is what the client sees.
use Rattle.std.proofs.Common.{◌≡◌, ℕ, Bool, true, false, not, ◌&&◌, Option, Some, None, is_some, is_none, IfNone, IfSome, refl, sym, ◌∙◌, IsSomeAnd}
use Rattle.split_types.specs.declared.ids.Pid.{Pid}
use Rattle.split_types.specs.declared.ids.Serial.{Serial}
use Rattle.split_types.specs.declared.buf.Buf.{Buf}
use Rattle.split_types.specs.declared.buf.Buf.TheVariants.{Page}
use Rattle.split_types.specs.declared.event.Event.TheVariants.{Put, Get}
use Rattle.split_types.specs.LiveFiles.{Slots}
use Rattle.split_types.specs.Pieces.{Piece}
use Rattle.split_types.specs.Clients.{PieceState, put_of, get_of}
use Rattle.page_cache.specs.Held.{Held}
use Rattle.page_cache.specs.Cached.{Cached, page_of, is_idle, is_loading}
use Rattle.page_cache.specs.Changes.{IsVictim, IsLoaded}
use Rattle.client_calls.specs.declared.standing.Standing.{Standing}
use Rattle.client_calls.specs.declared.working_file.WorkingFile.{WorkingFile}
use Rattle.client_calls.specs.View.{View, is_crowded}
use Rattle.client_calls.specs.CallFile.{IsThere}
use Rattle.client_calls.specs.Space.{block_of, block_at, is_used_up}
use Rattle.client_calls.specs.Standing.{standing_of}
use Rattle.client_calls.specs.Shows.{IsEvicted, ShowsPiece}

-- the page that a cache finds, if it finds one, is the page that is evicted next
pub found_is :
    (c : Cached) (next found : Option Buf) → IsEvicted c next
    → IfNone found ((b : Buf) → is_idle (page_of c b) ≡ false) → IfSome found (IsVictim c) → next ≡ found
found_is c next None evicted none some = evicted.none none
found_is c next (Some b) evicted none some = evicted.some b some

-- what decides says of the page what its standing says
pub record Stands (s : PieceState) (page : Standing) : Type 0 where
  pub held : s.held ≡ page.held
  pub loading : s.loading ≡ page.loading
  pub unsettled : s.unsettled ≡ page.unsettled

pub stands :
    (p : Pid) (file : Serial) (left : Piece) (v : View) (s : PieceState) (b : Buf) (page : Standing)
    → ShowsPiece p file left v s → b ≡ Page file left.page → page ≡ standing_of (page_of v.cache b) → Stands s page
stands p file left v s b page shows here so = record {
  held = rw (so, here) shows.held;
  loading = rw (so, here) shows.loading;
  unsettled = rw (so, here) shows.unsettled;
}

-- whether a put waits
pub waits_as :
    (p : Pid) (file : Serial) (left : Piece) (v : View) (s : PieceState) (page : Standing) (waits : Bool)
    → ShowsPiece p file left v s → Stands s page → waits ≡ (not page.unsettled && is_crowded v)
    → (not s.unsettled && s.crowded) ≡ waits
waits_as p file left v s page waits shows so is = rw (so.unsettled, shows.crowded, is) refl

-- the block of the page
pub block_is :
    (slots : Slots) (file : WorkingFile) (page : ℕ) → IsThere slots file
    → block_of slots file.serial page ≡ block_at slots file.slot.0 page
block_is slots file page there = rw (there.slot, block_of) refl

-- whether no block can be had for the page
pub lacks_as :
    (p : Pid) (file : WorkingFile) (left : Piece) (v : View) (s : PieceState) (b : Buf) (page : Standing) (lacks : Bool)
    → ShowsPiece p file.serial left v s → IsThere v.files.slots file → b ≡ Page file.serial left.page
    → page ≡ standing_of (page_of v.cache b)
    → lacks
    ≡ (is_none (block_at v.files.slots file.slot.0 left.page) && not page.dirty && is_used_up v.blocks)
    → s.without_space ≡ lacks
lacks_as p file left v s b page lacks shows there here so is =
    rw (is, so, here, ← block_is v.files.slots file left.page there) shows.without_space

-- the events that move the piece
pub put_is :
    (p : Pid) (file : Serial) (left : Piece) (v : View) (s : PieceState) (fill : ℕ) → ShowsPiece p file left v s
    → put_of s fill ≡ Put p file left.page left.from left.to fill
put_is p file left v s fill shows = rw (shows.by, shows.serial, shows.piece) refl

pub get_is :
    (p : Pid) (file : Serial) (left : Piece) (v : View) (s : PieceState) (all : ℕ) → ShowsPiece p file left v s
    → s.sum ≡ all → get_of s s.sum ≡ Get p file left.page left.from left.to all
get_is p file left v s all shows is = rw (shows.by, shows.serial, shows.piece, is) refl

-- the bytes of a page that is held and not loading are there
held_there : (x : Option Held) → is_some x ≡ true → is_loading x ≡ false → IsSomeAnd x (λ p. p.state.loading ≡ false)
held_there None held there = absurd (cc)
held_there (Some p) held there = there

pub loaded :
    (p : Pid) (file : Serial) (left : Piece) (v : View) (s : PieceState) → ShowsPiece p file left v s
    → s.held ≡ true → s.loading ≡ false → IsLoaded v.cache (Page file left.page)
loaded p file left v s shows held there =
    held_there (page_of v.cache (Page file left.page)) (sym shows.held ∙ held) (sym shows.loading ∙ there)
