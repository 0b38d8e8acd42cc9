-- The causes of a buffer as events come: what an event makes of the set of the processes to blame for its open
-- dirtyings. It holds of every buffer, pages and metadata alike, and of every history.
use Rattle.std.specs.Prelude.{◌≡◌, ℕ, List, [], ◌∷◌, length, map, ◌||◌, IsTrue, IsFalse}
use Rattle.split_types.specs.declared.ids.Serial.{Serial}
use Rattle.split_types.specs.declared.actor.Actor.{Actor}
use Rattle.split_types.specs.declared.buf.Buf.{Buf}
use Rattle.split_types.specs.declared.request.ReqKind.TheVariants.{Pages}
use Rattle.split_types.specs.declared.request.Request.{Request}
use Rattle.split_types.specs.declared.event.Event.{Event}
use Rattle.split_types.specs.declared.event.Event.TheVariants.{Add}
use Rattle.split_types.specs.History.{◌▹◌}
use Rattle.split_types.specs.Hooks.{is_dirtied, is_freed, is_out}
use Rattle.split_types.specs.Parents.{pages_of}
use Rattle.split_types.specs.Sets.{union_of}
use Rattle.split_types.specs.Blame.{blame, causes}

-- the causes of one buffer
abbrev pub causes_of : List Event → Buf → List ℕ
causes_of h b = causes h (b ∷ [])

pub record RunningCauses : Type 0 where
  -- an event that doesn't touch the buffer leaves them
  pub kept : (h : List Event) (e : Event) (b : Buf) → IsFalse (is_dirtied e b)
      → IsFalse (is_freed e b || is_out e b) → causes_of (h ▹ e) b ≡ causes_of h b
  -- one that frees it or writes it out ends them
  pub ended : (h : List Event) (e : Event) (b : Buf) → IsFalse (is_dirtied e b)
      → IsTrue (is_freed e b || is_out e b) → causes_of (h ▹ e) b ≡ []
  -- one that dirties it adds those to blame for the event
  pub dirtied : (h : List Event) (e : Event) (b : Buf) → IsTrue (is_dirtied e b) → IsFalse (is_freed e b || is_out e b)
      → causes_of (h ▹ e) b ≡ union_of (causes_of h b ∷ blame (h ▹ e) (length h) ∷ [])
  -- those to blame for a request for pages are the causes of all its pages
  pub pages : (h : List Event) (by : Actor) (r : Request) (s : Serial) (g : ℕ) → r.kind ≡ Pages s g
      → blame (h ▹ Add by r) (length h) ≡ union_of (map (causes_of h) (pages_of s g r.n))
