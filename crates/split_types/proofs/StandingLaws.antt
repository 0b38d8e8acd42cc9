-- How far a process is with its call, and that what other processes do leaves it there.
use Rattle.std.proofs.Common.{◌≡◌, ℕ, ◌==◌, List, Bool, false, Option, Some, None, refl, subst, inl, inr, true}
use Rattle.std.proofs.lemmas.Bool.{cases_Bool, both_ways, eqb-true}
use Rattle.split_types.specs.declared.ids.Pid.{Pid}
use Rattle.split_types.specs.declared.ids.Serial.{Serial}
use Rattle.split_types.specs.declared.call.Call.{Call}
use Rattle.split_types.specs.declared.call.Reply.{Reply}
use Rattle.split_types.specs.declared.workload.Workload.{Workload}
use Rattle.split_types.specs.declared.event.Event.{Event}
use Rattle.split_types.specs.declared.event.Event.TheVariants.{Enter, Admit, Put, Get, Ret}
use Rattle.split_types.specs.History.{◌▹◌}
use Rattle.split_types.specs.Calls.{is_entered, is_admitted, moved, call_of}
use Rattle.split_types.specs.Files.{bound_file}
use Rattle.split_types.specs.FileSizes.{size_at_admit}
use Rattle.split_types.specs.Pieces.{Piece, next_piece}

-- how far a process is: a call is under way, and was admitted; that call, the size that its file had then, the bytes
-- that it moved, and the file that it is bound to, which may be dropped meanwhile
pub record Standing : Type 0 where
  pub entered : Bool
  pub admitted : Bool
  pub call : Option Call
  pub size : ℕ
  pub bytes : ℕ
  pub file : Option Serial

abbrev pub standing : Workload → List Event → ℕ → Standing
standing w h p = record {
  entered = is_entered h p;
  admitted = is_admitted h p;
  call = call_of w h p;
  size = size_at_admit w h p;
  bytes = moved h p;
  file = bound_file w h p;
}

-- the first piece that is left of its call, if there is one
abbrev pub left_by : Standing → Option Piece
left_by s = elim s.call [ None ↦ None | Some c ↦ next_piece c s.size s.bytes ]

-- ---- events of other processes
-- what holds of p and not of q tells them apart
pub not_own : (p : ℕ) (q : Pid) (test : ℕ → Bool) → test p ≡ true → test q.0 ≡ false → (q.0 == p) ≡ false
not_own p q test is out = elim (cases_Bool (q.0 == p)) [
  | inr other ↦ other
  | inl same ↦ absurd (both_ways (test p) (subst (λ x. test x ≡ false) (eqb-true q.0 p same) out) is)
]

pub stands_enter : (w : Workload) (h : List Event) (q : Pid) (n p : ℕ) → (q.0 == p) ≡ false
    → standing w (h ▹ Enter q n) p ≡ standing w h p
stands_enter w h q n p other = rw other refl

pub stands_admit : (w : Workload) (h : List Event) (q : Pid) (p : ℕ) → (q.0 == p) ≡ false
    → standing w (h ▹ Admit q) p ≡ standing w h p
stands_admit w h q p other = rw (other, size_at_admit, bound_file) refl

pub stands_put : (w : Workload) (h : List Event) (q : Pid) (s : Serial) (g from to fill p : ℕ) → (q.0 == p) ≡ false
    → standing w (h ▹ Put q s g from to fill) p ≡ standing w h p
stands_put w h q s g from to fill p other = rw other refl

pub stands_get : (w : Workload) (h : List Event) (q : Pid) (s : Serial) (g from to sum p : ℕ) → (q.0 == p) ≡ false
    → standing w (h ▹ Get q s g from to sum) p ≡ standing w h p
stands_get w h q s g from to sum p other = rw other refl

pub stands_ret : (w : Workload) (h : List Event) (q : Pid) (r : Reply) (p : ℕ) → (q.0 == p) ≡ false
    → standing w (h ▹ Ret q r) p ≡ standing w h p
stands_ret w h q r p other = rw (other, bound_file) refl
