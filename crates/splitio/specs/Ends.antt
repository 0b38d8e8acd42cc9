-- How the program ends, and what it did to its streams.
use Rattle.std.specs.Prelude.{◌≡◌, ◌⊎◌, ℕ, List, map, Vec, String, Result, Ok, Err}
use Rattle.split_top.specs.declared.call.Status.{Status}
use Rattle.split_top.specs.declared.call.Status.TheVariants as status
use Rattle.split_top.specs.Outcome.{Told, Outcome}

-- the exit status of an answer
abbrev pub number_of : Status → ℕ
number_of status.Ok = 0
number_of status.Refused = 1
number_of status.BadWords = 2
number_of status.ReadFault = 3
number_of status.WriteFault = 4
number_of status.OutOfMemory = 5
number_of status.AuditNo = 6

-- why there are no words: one is no text, or there is no memory for them
abbrev pub IsNoWords : Status → Type 0
IsNoWords s = (s ≡ status.BadWords) ⊎ (s ≡ status.OutOfMemory)

-- the words that were given, by their bytes
abbrev pub spelled : {A : Type 0} → Result (Vec (String A) A) Status → Result (List (List ℕ)) Status
spelled (Ok words) = Ok (map (λ word. word.bytes.items) words.items)
spelled (Err s) = Err s

-- the program ended with this status
pub record EndedWith {S K : Type 0} (told : Told S K) (words : List (List ℕ)) (source_old source : S)
    (sink_old sink : K) (s : Status) (code : ℕ) : Type 0 where
  pub code_is : code ≡ number_of s
  -- the top call did what its contract says, or there was no memory to pass the words on and nothing was touched
  pub outcome : Outcome told words source_old source sink_old sink s ⊎ ((s ≡ status.OutOfMemory) × (source ≡ source_old)
      × (sink ≡ sink_old))

-- what the program did and its exit status, where it was given words or the status that says why there are none
abbrev pub Ends : {S K : Type 0} → Told S K → Result (List (List ℕ)) Status → S → S → K → K → ℕ → Type 0
Ends told (Ok words) source_old source sink_old sink code =
    (s : Status) × EndedWith told words source_old source sink_old sink s code
Ends told (Err s) source_old source sink_old sink code = (code ≡ number_of s) × (source ≡ source_old)
    × (sink ≡ sink_old)
