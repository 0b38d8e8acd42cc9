-- Which events ask for memory.
use Rattle.std.specs.Prelude.{Bool, true, false}
use Rattle.split_types.specs.declared.event.Event.{Event}
use Rattle.split_types.specs.declared.event.Event.TheVariants.{Make, Put, Drop, Serve, Map, Seal, Add, Send}

-- a file is made or dropped, bytes are put, a run is served or mapped, a transaction is sealed, or a request is added or
-- sent
abbrev pub asks : Event → Bool
asks (Make by slot serial) = true
asks (Put by serial page from to fill) = true
asks (Drop by slot serial) = true
asks (Serve serial page n) = true
asks (Map slot serial page n block new size) = true
asks (Seal t k) = true
asks (Add by request) = true
asks (Send id cost) = true
asks e = false
