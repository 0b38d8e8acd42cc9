-- What awaits its home is what the seals of the round under way took, until a home request brings it there.
use Rattle.std.proofs.Common.{◌≡◌, ℕ, ◌==◌, ◌<◌, ◌≤◌, ◌⊎◌, List, [], ◌∷◌, ◌++◌, length, Bool, true, false, ◌&&◌, Some, None, refl, arith, subst, sym, inl, inr, ◌∙◌, ap}
use Rattle.std.specs.List.{flat_map}
use Rattle.std.proofs.lemmas.Bool.{or_left, and_from, and_parts, eq-eqb, eqb-true, ltb-true}
use Rattle.std.proofs.lemmas.List.Concat.{flat_map-cons}
use Rattle.split_types.specs.declared.ids.Txn.{Txn}
use Rattle.split_types.specs.declared.actor.Actor.{Actor}
use Rattle.split_types.specs.declared.actor.Actor.TheVariants.{Cm}
use Rattle.split_types.specs.declared.buf.Buf.{Buf}
use Rattle.split_types.specs.declared.buf.Buf.TheVariants.{Page, Bitmap, Dir, Inode}
use Rattle.split_types.specs.declared.request.ReqKind.{ReqKind}
use Rattle.split_types.specs.declared.request.ReqKind.TheVariants.{Read, Pages, Log, Commit, Home, Clear}
use Rattle.split_types.specs.declared.request.Request.{Request}
use Rattle.split_types.specs.declared.workload.Workload.{Workload}
use Rattle.split_types.specs.declared.event.Event.{Event}
use Rattle.split_types.specs.declared.event.Event.TheVariants.{Seal, Add}
use Rattle.split_types.specs.History.{◌▹◌, adds}
use Rattle.split_types.specs.ByPlace.{IsMetadata}
use Rattle.split_types.specs.Hooks.{maker}
use Rattle.split_types.specs.OpenDirtyings.{open_at}
use Rattle.split_types.specs.Parents.{metadata_buffers, home_block}
use Rattle.split_types.specs.Sets.{has}
use Rattle.split_types.specs.Rounds.{open_round, seals}
use Rattle.split_types.specs.Transactions.{in_journal, oldest_in, brings_home, awaiting_at, awaits_home, next_home, stage, stage_of_add, Stage}
use Rattle.split_types.specs.Transactions.Stage.{Fresh, Sealed, Logging, Committing, Homing, Clearing}
use Rattle.split_types.specs.Accepted.{IsAccepted}
use Rattle.split_types.specs.Legal.{IsLegal}
use Rattle.split_types.specs.Proving.Came.{Came, IsIdle, MayGoHome, MayClear, Journals, journal_request}
use Rattle.split_types.specs.Proving.Came.IsIdle.{idle_fresh, idle_committed, idle_homed, idle_cleared}
use Rattle.split_types.specs.Proving.Came.MayGoHome.{home_first, home_next}
use Rattle.split_types.specs.Proving.Came.MayClear.{clear_first, clear_next}
use Rattle.split_types.specs.Proving.Came.Came.{came_load, came_add, came_journal}
use Rattle.split_types.specs.Proving.JournalKnown.{AtStage, IsOpenAt, JournalKnown}
use Rattle.split_types.proofs.CameLaws.{came}
use Rattle.split_types.proofs.JournalRows.{row_length}
use Rattle.split_types.proofs.Lists.{find_there, list_any_here}
use Rattle.split_types.proofs.Parents.{metadata_any}
use Rattle.split_types.proofs.JournalRounds.{none_awaits, seal_is}
use Rattle.split_types.proofs.JournalStepsAdds.{journal_known}

-- what the seals of the round under way took of a buffer
abbrev pub taken : List Event → Buf → List ℕ
taken h b = flat_map (λ s. open_at s.before b) (open_round h)

-- by what the commit thread did last, what awaits its home is that, or nothing
abbrev pub Awaits : List Event → Buf → Stage → Type 0
Awaits h b (Homing t) = (awaiting_at h b ≡ []) ⊎ (awaiting_at h b ≡ taken h b)
Awaits h b (Clearing t) = awaiting_at h b ≡ []
Awaits h b Fresh = awaiting_at h b ≡ taken h b
Awaits h b (Sealed t k) = awaiting_at h b ≡ taken h b
Awaits h b (Logging t) = awaiting_at h b ≡ taken h b
Awaits h b (Committing t) = awaiting_at h b ≡ taken h b

-- where the commit thread is idle
idle_awaits : (w : Workload) (h : List Event) (b : Buf) → JournalKnown w h → IsIdle h → Awaits h b (stage h)
    → awaiting_at h b ≡ taken h b
idle_awaits w h b j (idle_fresh is) a = subst (Awaits h b) is a
idle_awaits w h b j (idle_committed t is done) a = subst (Awaits h b) is a
idle_awaits w h b j (idle_homed t is home done none) a =
    let at : AtStage h j.cleared (Homing t) = subst (AtStage h j.cleared) is j.stands
    in absurd
    (omega (arith, at.0, at.1, row_length j.cleared (in_journal h) (seals h) j.row, empty (in_journal h) none))
  where
    empty : (ts : List Txn) → oldest_in ts ≡ None → length ts ≡ 0
    empty [] none = refl
    empty (u ∷ ts) none = absurd (cc)
idle_awaits w h b j (idle_cleared t is done none) a =
    let round : open_round h ≡ [] = subst (IsOpenAt h j.base j.cleared) is j.slots.open_is
    in let nothing : awaiting_at h b ≡ [] = subst (Awaits h b) is a
    in nothing ∙ sym (ap (flat_map (λ s. open_at s.before b)) round)

-- where no home is left
none_left : (h : List Event) (b : Buf) → IsMetadata b → next_home h ≡ None → awaiting_at h b ≡ []
none_left h b metadata none = by_list (awaiting_at h b) refl
  where
    by_list : (at : List ℕ) → awaiting_at h b ≡ at → awaiting_at h b ≡ []
    by_list [] is = is
    by_list (i ∷ at) is =
        absurd
        (none_awaits h b i metadata none
        (ap (λ l. has l i) is ∙ or_left (i == i) (has at i) (eq-eqb i i refl)))

-- a home block is one of a buffer of metadata
pub home_is : (h : List Event) (b : Buf) → next_home h ≡ Some b
    → (c : Buf) × IsMetadata c × (home_block c ≡ home_block b) × (0 < length (awaiting_at h c))
home_is h b is =
    let there = find_there (awaits_home h) metadata_buffers b is
    in let any = list_any_here (λ c. awaits_home h c && home_block c == home_block b) metadata_buffers there.0 b there.1
    (and_from (awaits_home h b) (home_block b == home_block b) there.2 (eq-eqb (home_block b) (home_block b) refl))
    in let c = metadata_any (λ c. awaits_home h c && home_block c == home_block b) any
    in let both = and_parts (awaits_home h c.0) (home_block c.0 == home_block b) c.2
    in (c.0, c.1, eqb-true (home_block c.0) (home_block b) both.1, ltb-true 0 (length (awaiting_at h c.0)) both.0)

pub home_some : (h : List Event) (b : Buf) → next_home h ≡ Some b → 1 ≤ home_block b
home_some h b is = let c = home_is h b is in subst (λ n. 1 ≤ n) c.2 (some c.0 c.1)
  where
    some : (c : Buf) → IsMetadata c → 1 ≤ home_block c
    some (Page s g) metadata = absurd metadata
    some Bitmap metadata = omega arith
    some (Dir k) metadata = omega arith
    some (Inode slot) metadata = omega arith

-- ---- a request of the journal
before_home : (w : Workload) (h : List Event) (b : Buf) → JournalKnown w h → MayGoHome w h → Awaits h b (stage h)
    → (awaiting_at h b ≡ []) ⊎ (awaiting_at h b ≡ taken h b)
before_home w h b j (home_first idle goes) a = inr (idle_awaits w h b j idle a)
before_home w h b j (home_next t is) a = subst (Awaits h b) is a

before_clear : (h : List Event) (b : Buf) → IsMetadata b → MayClear h → Awaits h b (stage h) → awaiting_at h b ≡ []
before_clear h b metadata (clear_first t is home done) a = none_left h b metadata home
before_clear h b metadata (clear_next t is done) a = subst (Awaits h b) is a

home_awaits : (h : List Event) (t : Txn) (first n : ℕ) (b : Buf)
    → (awaiting_at h b ≡ []) ⊎ (awaiting_at h b ≡ taken h b)
    → Awaits (h ▹ Add Cm (journal_request (adds h) (Home t) first n)) b (Homing t)
home_awaits h t first n b before = by_test (brings_home (journal_request (adds h) (Home t) first n) b)
  where
    by_test : (c : Bool) → ◌⊎◌ (◌≡◌ {A = List ℕ} (elim c [ true ↦ [] | false ↦ awaiting_at h b ]) [])
        (◌≡◌ {A = List ℕ} (elim c [ true ↦ [] | false ↦ awaiting_at h b ]) (taken h b))
    by_test true = inl refl
    by_test false = before

added_awaits : (w : Workload) (h : List Event) (kind : ReqKind) (first n : ℕ) (b : Buf) → IsMetadata b
    → JournalKnown w h → Journals w h kind first n → Awaits h b (stage h)
    → Awaits (h ▹ Add Cm (journal_request (adds h) kind first n)) b (stage_of_add kind (stage h))
added_awaits w h (Read p s g) first n b metadata j next a = absurd next
added_awaits w h (Pages s g) first n b metadata j next a = absurd next
added_awaits w h (Log t) first n b metadata j next a = subst (Awaits h b) next.before a
added_awaits w h (Commit t) first n b metadata j next a = subst (Awaits h b) next.before a
added_awaits w h (Home t) first n b metadata j next a = home_awaits h t first n b (before_home w h b j next.before a)
added_awaits w h (Clear t) first n b metadata j next a = before_clear h b metadata next.before a

-- one that moves pages leaves it
pages_await : (h g : List Event) (b : Buf) (s : Stage) → awaiting_at g b ≡ awaiting_at h b → open_round g ≡ open_round h
    → Awaits h b s → Awaits g b s
pages_await h g b s at round a = by_stage s a
  where
    same : taken g b ≡ taken h b
    same = ap (flat_map (λ s. open_at s.before b)) round

    by_stage : (s : Stage) → Awaits h b s → Awaits g b s
    by_stage Fresh a = at ∙ a ∙ sym same
    by_stage (Sealed t k) a = at ∙ a ∙ sym same
    by_stage (Logging t) a = at ∙ a ∙ sym same
    by_stage (Committing t) a = at ∙ a ∙ sym same
    by_stage (Homing t) (inl a) = inl (at ∙ a)
    by_stage (Homing t) (inr a) = inr (at ∙ a ∙ sym same)
    by_stage (Clearing t) a = at ∙ a

add_awaits : (w : Workload) (h : List Event) (by : Actor) (r : Request) (b : Buf) → IsMetadata b → JournalKnown w h
    → Came w h (Add by r) → Awaits h b (stage h) → Awaits (h ▹ Add by r) b (stage (h ▹ Add by r))
add_awaits w h by r b metadata j (came_load p c s piece here absent block at) a =
    pages_await h (h ▹ Add by r) b (stage h) refl refl a
add_awaits w h by r b metadata j (came_add run block at there placed long) a =
    pages_await h (h ▹ Add by r) b (stage h) refl refl a
add_awaits w h by r b metadata j (came_journal kind first n next) a = added_awaits w h kind first n b metadata j next a

-- ---- every legal history
pub awaits_are : (w : Workload) (h : List Event) (b : Buf) → IsAccepted w → IsLegal w h → IsMetadata b
    → Awaits h b (stage h)
awaits_are w [] b accepted legal metadata = refl
awaits_are w (h ▹ Seal t k) b accepted legal metadata =
    let may = (seal_is w h t k (came w h Cm (Seal t k) legal.0)).may
    in ap (λ l. open_at h b ++ l)
    (idle_awaits w h b (journal_known w h accepted legal.1) may.idle (awaits_are w h b accepted legal.1 metadata))
    ∙ sym (flat_map-cons (λ s. open_at s.before b) (record { txn = t; before = h }) (open_round h))
awaits_are w (h ▹ Add by r) b accepted legal metadata =
    add_awaits w h by r b metadata (journal_known w h accepted legal.1)
    (came w h (maker (Add by r)) (Add by r) legal.0) (awaits_are w h b accepted legal.1 metadata)
awaits_are w (h ▹ e) b accepted legal metadata =
    pages_await h (h ▹ e) b (stage h) refl refl (awaits_are w h b accepted legal.1 metadata)

-- before a home request, what awaits it is what the round took
pub home_takes : (w : Workload) (h : List Event) (b : Buf) (i : ℕ) → IsAccepted w → IsLegal w h → IsMetadata b
    → MayGoHome w h → has (awaiting_at h b) i ≡ true → awaiting_at h b ≡ taken h b
home_takes w h b i accepted legal metadata may is =
    elim (before_home w h b (journal_known w h accepted legal) may (awaits_are w h b accepted legal metadata)) [
      | inl none ↦ absurd (let nothing : has [] i ≡ true = sym (ap (λ l. has l i) none) ∙ is in cc)
      | inr all ↦ all
    ]
