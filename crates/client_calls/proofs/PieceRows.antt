-- The rows of the tables of pieces, one by one.
use Rattle.std.proofs.Common.{◌≡◌, ℕ, true, false, not, ◌&&◌, Some, None, refl}
use Rattle.split_types.specs.declared.call.Reply.TheVariants.{NoSpace}
use Rattle.split_types.specs.declared.event.Event.TheVariants.{Ret}
use Rattle.split_types.specs.Clients.{PieceState, put_of, get_of, evict_of, next_of_put, next_of_absent, next_of_load, next_of_get}

-- ---- a write's piece

pub put_loading : (s : PieceState) (fill : ℕ) → s.read_badly ≡ false → s.loading ≡ true → next_of_put s fill ≡ None
put_loading s fill fine loading = rw (fine, loading) refl

pub put_mapped :
    (s : PieceState) (fill : ℕ) → s.read_badly ≡ false → s.loading ≡ false → s.in_mapped_run ≡ true
    → next_of_put s fill ≡ None
put_mapped s fill fine there mapped = rw (fine, there, mapped) refl

-- the piece comes to the question whether its page has space
pub record IsOpen (s : PieceState) : Type 0 where
  pub fine : s.read_badly ≡ false
  pub there : s.loading ≡ false
  pub apart : s.in_mapped_run ≡ false

pub put_stops :
    (s : PieceState) (fill : ℕ) → IsOpen s → s.without_space ≡ true
    → next_of_put s fill ≡ Some (Ret s.by (NoSpace s.moved))
put_stops s fill is lacks = rw (is.fine, is.there, is.apart, lacks) refl

pub put_waits :
    (s : PieceState) (fill : ℕ) → IsOpen s → s.without_space ≡ false → (not s.unsettled && s.crowded) ≡ true
    → next_of_put s fill ≡ None
put_waits s fill is has waits = rw (is.fine, is.there, is.apart, has, waits) refl

pub put_held :
    (s : PieceState) (fill : ℕ) → IsOpen s → s.without_space ≡ false → (not s.unsettled && s.crowded) ≡ false
    → s.held ≡ true → next_of_put s fill ≡ Some (put_of s fill)
put_held s fill is has goes held = rw (is.fine, is.there, is.apart, has, goes, held) refl

pub put_full :
    (s : PieceState) (fill : ℕ) → IsOpen s → s.without_space ≡ false → (not s.unsettled && s.crowded) ≡ false
    → s.held ≡ false → s.full ≡ true → next_of_put s fill ≡ evict_of s.by s.victim
put_full s fill is has goes absent full = rw (is.fine, is.there, is.apart, has, goes, absent, full) refl

pub put_absent :
    (s : PieceState) (fill : ℕ) → IsOpen s → s.without_space ≡ false → (not s.unsettled && s.crowded) ≡ false
    → s.held ≡ false → s.full ≡ false → next_of_put s fill ≡ next_of_absent s fill
put_absent s fill is has goes absent room = rw (is.fine, is.there, is.apart, has, goes, absent, room) refl

-- ---- a read's piece

pub get_loading : (s : PieceState) → s.read_badly ≡ false → s.loading ≡ true → next_of_get s ≡ None
get_loading s fine loading = rw (fine, loading) refl

pub get_held :
    (s : PieceState) → s.read_badly ≡ false → s.loading ≡ false → s.held ≡ true
    → next_of_get s ≡ Some (get_of s s.sum)
get_held s fine there held = rw (fine, there, held) refl

pub get_load :
    (s : PieceState) (block : ℕ) → s.read_badly ≡ false → s.loading ≡ false → s.held ≡ false → s.block ≡ Some block
    → next_of_get s ≡ next_of_load s block
get_load s block fine there absent some = rw (fine, there, absent, some) refl
