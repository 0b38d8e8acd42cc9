-- An actor at the front of a text.
use Rattle.std.specs.Prelude.{◌≡◌, ℕ, List, ◌∷◌, ◌++◌, true}
use Rattle.split_types.specs.declared.actor.Actor.{Actor}
use Rattle.split_types.specs.declared.actor.Actor.TheVariants.{Client, Dn}
use Rattle.split_types.specs.Lines.{actor_word}
use Rattle.workload_reader.specs.Fields.{ends_number}

-- no digit follows a word that ends with a number
abbrev pub IsEnded : Actor → List ℕ → Type 0
IsEnded (Client p) rest = ends_number rest ≡ true
IsEnded (Dn k) rest = ends_number rest ≡ true
IsEnded _ rest = Unit {0}

-- an actor's word behind a space
pub record ActorAt (text : List ℕ) (a : Actor) (rest : List ℕ) : Type 0 where
  pub text_is : text ≡ 32 ∷ actor_word a ++ rest
  pub ends : IsEnded a rest
