-- What is due at a printer whose text goes to a sink.
use Rattle.std.specs.Prelude.{◌≡◌, ℕ, List}
use Rattle.sink_printer.specs.declared.printer.SinkPrinter.{SinkPrinter}
use Rattle.sink_printer.specs.Due.{Told, Due}

-- both print to one sink, and of a text that was begun at the first the rest is due at the second
abbrev pub DueAt : {K : Type 0} → Told K → SinkPrinter K → List ℕ → SinkPrinter K → List ℕ → Type 0
DueAt told start whole now rest = (now.sink.ghost_name ≡ start.sink.ghost_name)
    × Due told start.sink.now whole now.sink.now now.page.now now.failed rest
