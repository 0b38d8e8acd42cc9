-- What requests cost, and what the clock says.
use Rattle.std.specs.Prelude.{ℕ, ◌+◌, ◌-◌, ◌*◌, ◌==◌, List, [], nat_lt, if◌then◌else◌}
use Rattle.split_types.specs.declared.event.Event.{Event}
use Rattle.split_types.specs.declared.event.Event.TheVariants.{Add, Send, Done, Tick}
use Rattle.split_types.specs.History.{◌▹◌, adds}

-- how far apart two blocks are
abbrev pub distance : ℕ → ℕ → ℕ
distance a b = (a - b) + (b - a)

-- what it costs to move over a distance
abbrev pub seek : ℕ → ℕ
seek x = if x == 0 then 0 else if nat_lt x 64 then 20 else if nat_lt x 1024 then 50 else 100

-- what a request of n blocks at first costs, with the head here
abbrev pub cost_at : ℕ → ℕ → ℕ → ℕ
cost_at head first n = seek (distance first head) + 2 * n

-- the first block of a request, and its length
abbrev pub first_of : List Event → ℕ → ℕ
first_of [] id = 0
first_of (h ▹ Add by r) id = if id == adds h then r.first else first_of h id
first_of (h ▹ e) id = first_of h id

abbrev pub length_of : List Event → ℕ → ℕ
length_of [] id = 0
length_of (h ▹ Add by r) id = if id == adds h then r.n else length_of h id
length_of (h ▹ e) id = length_of h id

-- where the head stands: at 0 before any send, afterwards behind the last request that was sent
abbrev pub head : List Event → ℕ
head [] = 0
head (h ▹ Send id cost) = first_of h id.0 + length_of h id.0
head (h ▹ e) = head h

-- the cost of a request, with the head as it stood before it was sent; 0 where it wasn't sent
abbrev pub cost_of : List Event → ℕ → ℕ
cost_of [] id = 0
cost_of (h ▹ Send i c) id = if id == i.0 then cost_at (head h) (first_of h id) (length_of h id) else cost_of h id
cost_of (h ▹ e) id = cost_of h id

-- the clock: the costs of the completed requests, and all ticks
abbrev pub now : List Event → ℕ
now [] = 0
now (h ▹ Done k id ok) = now h + cost_of h id.0
now (h ▹ Tick d) = now h + d
now (h ▹ e) = now h

-- all ticks
abbrev pub ticks : List Event → ℕ
ticks [] = 0
ticks (h ▹ Tick d) = ticks h + d
ticks (h ▹ e) = ticks h
