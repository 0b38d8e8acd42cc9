-- Who is to blame for the pages that are dirty.
use Rattle.std.proofs.Common.{◌≡◌, ℕ, zero, suc, ◌+◌, ◌<◌, ◌≤◌, List, [], ◌∷◌, length, map, nat_lt, true, arith, sym, inl, inr, ◌∙◌, ap}
use Rattle.std.specs.List.{flat_map, list_any}
use Rattle.std.proofs.lemmas.Bool.{or_cases, or_left, and_from, and_parts}
use Rattle.std.proofs.lemmas.Bool.Decides.{nat_tests}
use Rattle.split_types.specs.declared.ids.Pid.{Pid}
use Rattle.split_types.specs.declared.ids.Serial.{Serial}
use Rattle.split_types.specs.declared.buf.Buf.TheVariants.{Page}
use Rattle.split_types.specs.declared.workload.Workload.{Workload}
use Rattle.split_types.specs.declared.event.Event.{Event}
use Rattle.split_types.specs.declared.event.Event.TheVariants.{Put}
use Rattle.split_types.specs.History.{◌▹◌}
use Rattle.split_types.specs.Hooks.{maker, is_dirtied}
use Rattle.split_types.specs.OpenDirtyings.{open_at}
use Rattle.split_types.specs.Pages.{is_dirty}
use Rattle.split_types.specs.Parents.{pages_of}
use Rattle.split_types.specs.Sets.{pids, has, some_has, union_of}
use Rattle.split_types.specs.Blame.{blame, tag}
use Rattle.split_types.specs.Accepted.{IsAccepted}
use Rattle.split_types.specs.Legal.{IsLegal}
use Rattle.split_types.specs.LegalHistories.{ArePayers}
use Rattle.split_types.specs.Proving.Came.{Came}
use Rattle.split_types.specs.Proving.Came.Came.{came_enter, came_admit, came_changed, came_exists, came_no_slot, came_make, came_drop, came_no_file, came_too_big}
use Rattle.split_types.specs.Proving.Came.Came.{came_wrote, came_read, came_fault, came_no_space, came_get, came_zeros, came_evict, came_load}
use Rattle.split_types.specs.Proving.Came.Came.{came_flushed, came_synced, came_seal, came_journal, came_serve, came_skip, came_map, came_grow, came_add, came_send, came_done}
use Rattle.split_types.specs.Proving.Pieces.{PutIn}
use Rattle.split_types.proofs.AcceptedLaws.{procs_most}
use Rattle.split_types.proofs.CameLaws.{came}
use Rattle.split_types.proofs.PutLaws.{put_in}
use Rattle.split_types.proofs.OpenLaws.{dirty_are_open}
use Rattle.split_types.proofs.OpenDirtyings.{open_at-below, open_at-more}
use Rattle.split_types.proofs.Members.{has-flat_map, list_any-map_at}
use Rattle.split_types.proofs.Sets.{has-pids, has-union_of, one-is_set, union-one, union-is_set}
use Rattle.split_types.proofs.Blame.{blame-stays, blame-new, has_at}

-- ---- who is to blame for a page that is dirty
-- one process of the workload is to blame for the event at this place
pub record BlamesOne (w : Workload) (h : List Event) (i : ℕ) : Type 0 where
  pub by : ℕ
  pub least : 1 ≤ by
  pub most : by ≤ length w.procs
  pub blamed : blame h i ≡ by ∷ []

blames_still : (w : Workload) (h : List Event) (e : Event) (i : ℕ) → i < length h → BlamesOne w h i
    → BlamesOne w (h ▹ e) i
blames_still w h e i below b = record {
  by = b.by;
  least = b.least;
  most = b.most;
  blamed = blame-stays h e i below ∙ b.blamed;
}

blames_put : (w : Workload) (h : List Event) (by : Pid) (s : Serial) (g from to fill i : ℕ)
    → PutIn w h by s g from to fill → i ≡ length h
    → BlamesOne w (h ▹ Put by s g from to fill) i
blames_put w h by s g from to fill i put last = record {
  by = by.0;
  least = put.by_least;
  most = put.by_most;
  blamed = ap (blame (h ▹ Put by s g from to fill)) last ∙ blame-new h (Put by s g from to fill)
      ∙ union-one (by.0 ∷ []) (one-is_set by.0 put.by_least (omega (arith, put.by_most, put.procs_most)));
}

-- of the events that come next a put alone dirties a page; the others dirty metadata at most
blames_new : (w : Workload) (h : List Event) (e : Event) (s : Serial) (g i : ℕ) → IsAccepted w
    → Came w h e → i ≡ length h → is_dirtied e (Page s g) ≡ true → BlamesOne w (h ▹ e) i
blames_new w h (Put by t k from to fill) s g i accepted c last dirty =
    blames_put w h by t k from to fill i (put_in w h by t k from to fill accepted c) last
blames_new w h e s g i accepted (came_enter p c has out) last dirty = absurd (cc)
blames_new w h e s g i accepted (came_admit p c has in' out may) last dirty = absurd (cc)
blames_new w h e s g i accepted (came_make p name slot admitted idle unused at) last dirty = absurd (cc)
blames_new w h e s g i accepted (came_drop p name serial working idle) last dirty = absurd (cc)
blames_new w h e s g i accepted (came_no_file p c admitted none) last dirty = absurd (cc)
blames_new w h e s g i accepted (came_changed p c admitted names acted) last dirty = absurd (cc)
blames_new w h e s g i accepted (came_exists p name admitted idle taken) last dirty = absurd (cc)
blames_new w h e s g i accepted (came_no_slot p name admitted idle unused none) last dirty = absurd (cc)
blames_new w h e s g i accepted (came_too_big p name off len fill t working big) last dirty = absurd (cc)
blames_new w h e s g i accepted (came_no_space p name off len fill t piece here out none) last dirty = absurd (cc)
blames_new w h e s g i accepted (came_wrote p name off len fill t working none) last dirty = absurd (cc)
blames_new w h e s g i accepted (came_read p name off len t working none) last dirty = absurd (cc)
blames_new w h e s g i accepted (came_fault p c t piece working left bad) last dirty = absurd (cc)
blames_new w h e s g i accepted (came_get p name off len t piece here held) last dirty = absurd (cc)
blames_new w h e s g i accepted (came_zeros p name off len t piece here absent none) last dirty = absurd (cc)
blames_new w h e s g i accepted (came_evict p c t piece here absent v k found) last dirty = absurd (cc)
blames_new w h e s g i accepted (came_load p c t piece here absent block at) last dirty = absurd (cc)
blames_new w h e s g i accepted (came_serve run idle found) last dirty = absurd (cc)
blames_new w h e s g i accepted (came_skip run at gone) last dirty = absurd (cc)
blames_new w h e s g i accepted (came_map run free serves there none at) last dirty = absurd (cc)
blames_new w h e s g i accepted (came_grow run block serves there at short) last dirty = absurd (cc)
blames_new w h e s g i accepted (came_add run block at there placed known) last dirty = absurd (cc)
blames_new w h e s g i accepted (came_flushed q name t working idle down) last dirty = absurd (cc)
blames_new w h e s g i accepted (came_synced q name t working acted safe) last dirty = absurd (cc)
blames_new w h e s g i accepted (came_seal may) last dirty = absurd (cc)
blames_new w h e s g i accepted (came_journal kind first n j) last dirty = absurd (cc)
blames_new w h e s g i accepted (came_send r free picked) last dirty = absurd (cc)
blames_new w h e s g i accepted (came_done k r at) last dirty = absurd (cc)

-- each open dirtying of a page is a put of a process
pub open_blames : (w : Workload) (h : List Event) (s : Serial) (g i : ℕ) → IsAccepted w → IsLegal w h
    → has (open_at h (Page s g)) i ≡ true → BlamesOne w h i
open_blames w [] s g i accepted legal is = absurd (cc)
open_blames w (h ▹ e) s g i accepted legal is = elim (open_at-more h e (Page s g) i is) [
  | inl new ↦ blames_new w h e s g i accepted (came w h (maker e) e legal.0) new.0 new.1
  | inr old ↦ blames_still w h e i (open_at-below h (Page s g) i old.0) (open_blames w h s g i accepted legal.1 old.0)
]

opens_blame : (w : Workload) (h : List Event) (s : Serial) (g n i : ℕ) → IsAccepted w → IsLegal w h
    → has (flat_map (open_at h) (pages_of s g n)) i ≡ true → BlamesOne w h i
opens_blame w h s g n i accepted legal is = any_blames g n (sym (has-flat_map (open_at h) (pages_of s g n) i) ∙ is)
  where
    any_blames : (g n : ℕ) → list_any (λ b. has (open_at h b) i) (pages_of s g n) ≡ true → BlamesOne w h i
    any_blames g zero is = absurd (cc)
    any_blames g (suc n) is = elim (or_cases (has (open_at h (Page s g)) i)
        (list_any (λ b. has (open_at h b) i) (pages_of s (g + 1) n)) is) [
          | inl here ↦ open_blames w h s g i accepted legal here
          | inr later ↦ any_blames (g + 1) n later
        ]

-- a page that is dirty has an open dirtying
pub first_of : (places : List ℕ) → nat_lt 0 (length places) ≡ true → (i : ℕ) × (has places i ≡ true)
first_of [] some = absurd (cc)
first_of (i ∷ places) some = (i, grind (arith, nat_tests))

pub dirty_open : (w : Workload) (h : List Event) (s : Serial) (g : ℕ) → IsAccepted w → IsLegal w h
    → is_dirty w h (Page s g) ≡ true → (i : ℕ) × (has (open_at h (Page s g)) i ≡ true)
dirty_open w h s g accepted legal dirty =
    first_of (open_at h (Page s g)) (sym (dirty_are_open w h s g accepted legal) ∙ dirty)

-- ---- the tag of a request for pages
one_is : (by p : ℕ) → has (by ∷ []) p ≡ true → p ≡ by
one_is by p is = grind (arith, nat_tests)

pub one_has : (by : ℕ) → has (by ∷ []) by ≡ true
one_has by = grind (arith, nat_tests)

pub length_some : (set : List ℕ) (p : ℕ) → has set p ≡ true → 1 ≤ length set
length_some [] p is = absurd (cc)
length_some (q ∷ set) p is = omega arith

-- the processes that are to blame for the open dirtyings of some pages, of which the first is dirty
abbrev pub blames : List Event → Serial → ℕ → ℕ → List (List ℕ)
blames h s g n = map (blame h) (flat_map (open_at h) (pages_of s g n))

blamed_is : (w : Workload) (h : List Event) (s : Serial) (g n p : ℕ) → IsAccepted w → IsLegal w h
    → some_has (blames h s g n) p ≡ true → (1 ≤ p) × (p ≤ length w.procs)
blamed_is w h s g n p accepted legal is =
    let at = has_at (blame h) (flat_map (open_at h) (pages_of s g n)) p is in
    let one = opens_blame w h s g n at.0 accepted legal at.1 in
    let same = one_is one.by p (ap (λ set. has set p) (sym one.blamed) ∙ at.2) in
    (omega (arith, same, one.least), omega (arith, same, one.most))

pub some_blamed : (w : Workload) (h : List Event) (s : Serial) (g n : ℕ) → IsAccepted w → IsLegal w h → 1 ≤ n
    → is_dirty w h (Page s g) ≡ true
    → (p : ℕ) × (some_has (blames h s g n) p ≡ true) × (1 ≤ p) × (p ≤ length w.procs)
some_blamed w h s g zero accepted legal some dirty = absurd (omega arith)
some_blamed w h s g (suc n) accepted legal some dirty =
    let at = dirty_open w h s g accepted legal dirty in
    let one = open_blames w h s g at.0 accepted legal at.1 in
    let among : has (flat_map (open_at h) (pages_of s g (suc n))) at.0 ≡ true =
    has-flat_map (open_at h) (pages_of s g (suc n)) at.0 ∙ or_left (has (open_at h (Page s g)) at.0) _ at.1 in
    let blamed : has (blame h at.0) one.by ≡ true = ap (λ set. has set one.by) one.blamed ∙ one_has one.by in (
      one.by,
      list_any-map_at (λ set. has set one.by) (blame h) (flat_map (open_at h) (pages_of s g (suc n))) at.0 among blamed,
      one.least,
      one.most,
    )

pub union_are : (w : Workload) (h : List Event) (s : Serial) (g n : ℕ) → IsAccepted w → IsLegal w h → 1 ≤ n
    → is_dirty w h (Page s g) ≡ true
    → ArePayers w (union_of ([] ∷ blames h s g n))
union_are w h s g n accepted legal some dirty =
    let first = some_blamed w h s g n accepted legal some dirty in
    let most = procs_most w accepted in
    let pid : has pids first.0 ≡ true = has-pids first.0 ∙ grind (arith, nat_tests, first.2, first.3, most) in
    let in_set : has (union_of ([] ∷ blames h s g n)) first.0 ≡ true =
    has-union_of ([] ∷ blames h s g n) first.0 ∙ and_from _ _ pid first.1 in
    let blamed : (p : ℕ) → has (union_of ([] ∷ blames h s g n)) p ≡ true → some_has (blames h s g n) p ≡ true =
    λ p is.
    (and_parts (has pids p) (some_has (blames h s g n) p) (sym (has-union_of ([] ∷ blames h s g n) p) ∙ is)).1
    in
    record {
      is_set = union-is_set ([] ∷ blames h s g n);
      some = length_some (union_of ([] ∷ blames h s g n)) first.0 in_set;
      least = λ p is. (blamed_is w h s g n p accepted legal (blamed p is)).0;
      most = λ p is. (blamed_is w h s g n p accepted legal (blamed p is)).1;
    }

-- one process of the workload pays
pub one_pays : (w : Workload) (p : ℕ) → IsAccepted w → 1 ≤ p → p ≤ length w.procs → ArePayers w (p ∷ [])
one_pays w p accepted least most = record {
  is_set = one-is_set p least (omega (arith, most, procs_most w accepted));
  some = omega arith;
  least = λ q is. omega (arith, least, same q is);
  most = λ q is. omega (arith, most, same q is);
}
  where
    same : (q : ℕ) → has (p ∷ []) q ≡ true → p ≡ q
    same q is = grind (arith, nat_tests, is)
