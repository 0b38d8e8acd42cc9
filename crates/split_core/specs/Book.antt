-- What the book of requests has to do with a history.
use Rattle.std.specs.Prelude.{◌≡◌, ℕ, List, length, slice_get, Some}
use Rattle.split_types.specs.declared.event.Event.{Event}
use Rattle.split_types.specs.History.{adds}
use Rattle.split_types.specs.Requests.{requests, state_of}
use Rattle.split_types.specs.CostAndClock.{cost_of}
use Rattle.split_types.specs.Blame.{tag}
use Rattle.split_core.specs.declared.note.book.Entry.{Entry}
use Rattle.split_core.specs.declared.note.book.Book.{Book}

-- what is written of the request of a number
pub record IsEntry (h : List Event) (id : ℕ) (x : Entry) : Type 0 where
  pub request_is : slice_get (requests h) id ≡ Some x.request
  pub tag_is : x.tag ≡ tag h id
  pub cost_is : x.cost ≡ cost_of h id
  pub state_is : x.state ≡ state_of h id

-- each is what is written of its request
abbrev pub AreEntries : List Event → List Entry → Type 0
AreEntries h xs = (i : ℕ) (x : Entry) → slice_get xs i ≡ Some x → IsEntry h x.request.id.0 x

pub record BookStands (b : Book) (h : List Event) : Type 0 where
  pub added : length b.entries.items ≡ adds h
  pub entries_are : (id : ℕ) (x : Entry) → slice_get b.entries.items id ≡ Some x → IsEntry h id x
