-- What is due at a printer whose text goes to a sink.
use Rattle.std.specs.Prelude.{◌≡◌, ℕ, ◌≤◌, List, ◌++◌, Option, Bool, true, false, Result, OnOk, OnErr}
use Rattle.std.specs.Io.KnownBytes.{Appends}
use Rattle.outside.specs.Faults.{Rose}
use Rattle.outside.specs.Whole.{AppendsFront}

-- what a sink tells of itself: the bytes that it holds, how often it has failed, how many bytes it can hold
pub record Told (K : Type 0) : Type 0 where
  pub held : K → Option (List ℕ)
  pub faults : K → ℕ
  pub room : K → Option ℕ

-- a front of the text was handed to the sink, some of it is kept, and the rest is still to come
pub record Underway (before now : Option (List ℕ)) (whole kept rest : List ℕ) : Type 0 where
  pub handed : List ℕ
  pub parts : whole ≡ handed ++ (kept ++ rest)
  pub appended : Appends before now handed

-- of a text that was begun when the sink was as at the start: what the sink has now, where it didn't fail and where it
-- did
pub record Due {K : Type 0} (told : Told K) (start : K) (whole : List ℕ) (now : K) (kept : List ℕ) (failed : Bool)
    (rest : List ℕ) : Type 0 where
  pub later : told.faults start ≤ told.faults now
  pub same_room : told.room now ≡ told.room start
  pub fine : failed ≡ false → Underway (told.held start) (told.held now) whole kept rest
  pub front : failed ≡ true → AppendsFront (told.held start) (told.held now) whole
  pub rose : failed ≡ true → Rose (told.faults start) (told.faults now)

-- bytes were handed to the sink, but where it had failed before
pub record Hands {K : Type 0} (told : Told K) (before : K) (failed_before : Bool) (now : K) (failed : Bool)
    (bytes : List ℕ) : Type 0 where
  pub later : told.faults before ≤ told.faults now
  pub same_room : told.room now ≡ told.room before
  pub skipped : failed_before ≡ true → (failed ≡ true) × (now ≡ before)
  pub handed : failed ≡ false → Appends (told.held before) (told.held now) bytes
  pub front : failed_before ≡ false → failed ≡ true → AppendsFront (told.held before) (told.held now) bytes
  pub rose : failed_before ≡ false → failed ≡ true → Rose (told.faults before) (told.faults now)

-- what came of printing a whole text to a sink
pub record Sent {K T E : Type 0} (told : Told K) (before now : K) (text : List ℕ) (result : Result T E) : Type 0 where
  pub whole : OnOk result (Appends (told.held before) (told.held now) text)
  pub front : OnErr result (AppendsFront (told.held before) (told.held now) text)
  pub rose : OnErr result (Rose (told.faults before) (told.faults now))
  pub same_room : told.room now ≡ told.room before
