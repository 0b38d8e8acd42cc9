-- Where the commit thread has no next event and none of its requests is left, nothing is marked and what was sealed is
-- committed; once all calls have returned nothing is in the journal.
use Rattle.std.proofs.Common.{◌≡◌, ℕ, ◌+◌, ◌==◌, ◌<◌, ◌≤◌, ◌⊎◌, List, [], ◌∷◌, ◌++◌, length, filter, slice_get, nat_lt, Bool, true, false, not, ◌&&◌, ◌||◌, Option, Some, None, refl, arith, subst, sym, inl, inr, ap, ◌∙◌, if◌then◌else◌}
use Rattle.std.specs.List.{list_any, list_all}
use Rattle.std.proofs.lemmas.Bool.{both_ways, cases_Bool, cases_lt, or_left, or_right, eq-eqb, eqb-true, false_from_ne_true, lt-ltb, not_from_false}
use Rattle.std.proofs.lemmas.Bool.Decides.{nat_tests}
use Rattle.split_types.specs.declared.ids.ReqId.{ReqId}
use Rattle.split_types.specs.declared.ids.Txn.{Txn}
use Rattle.split_types.specs.declared.actor.Actor.{Actor}
use Rattle.split_types.specs.declared.actor.Actor.TheVariants.{Cm}
use Rattle.split_types.specs.declared.buf.Buf.{Buf}
use Rattle.split_types.specs.declared.request.ReqKind.{ReqKind}
use Rattle.split_types.specs.declared.request.ReqKind.TheVariants.{Read, Pages, Log, Commit, Home, Clear}
use Rattle.split_types.specs.declared.request.Request.{Request}
use Rattle.split_types.specs.declared.request.Service.TheVariants.{Idle}
use Rattle.split_types.specs.declared.workload.Workload.{Workload}
use Rattle.split_types.specs.declared.event.Event.{Event}
use Rattle.split_types.specs.declared.event.Event.TheVariants.{Seal, Add, Done}
use Rattle.split_types.specs.Rows.{◌⇒◌∣◌}
use Rattle.split_types.specs.History.{◌▹◌, adds}
use Rattle.split_types.specs.Hooks.{maker}
use Rattle.split_types.specs.OpenDirtyings.{open_at}
use Rattle.split_types.specs.Parents.{metadata_buffers}
use Rattle.split_types.specs.Reads.{request_numbered}
use Rattle.split_types.specs.Requests.{is_numbered, unfinished}
use Rattle.split_types.specs.Rounds.{seals}
use Rattle.split_types.specs.Workloads.{processes}
use Rattle.split_types.specs.Calls.{is_finished}
use Rattle.split_types.specs.FileMaps.{commits, is_committed}
use Rattle.split_types.specs.Transactions.{journal_slots, in_journal, oldest_in, clears, is_marked, marked_buffers, brings_home, awaiting_at, awaits_home, next_home, under_way, stage, stage_of_add, Stage}
use Rattle.split_types.specs.Transactions.Stage.{Fresh, Sealed, Logging, Committing, Homing, Clearing}
use Rattle.split_types.specs.Committing.{CommitState, commit_state, is_map_waiting, goes_home, add_home, add_clear, add_log, add_commit, next_of_idle, next_of_sealing, next_of_clearing, next_of_homing, next_of_stage}
use Rattle.split_types.specs.Writeback.{service}
use Rattle.split_types.specs.Accepted.{IsAccepted}
use Rattle.split_types.specs.Legal.{IsLegal}
use Rattle.split_types.specs.Next.{next}
use Rattle.split_types.specs.Proving.Came.{Came, IsIdle, MayClear, MayGoHome, Journals, journal_request}
use Rattle.split_types.specs.Proving.Came.IsIdle.{idle_fresh, idle_committed, idle_homed, idle_cleared}
use Rattle.split_types.specs.Proving.Came.MayClear.{clear_first, clear_next}
use Rattle.split_types.specs.Proving.Came.MayGoHome.{home_first, home_next}
use Rattle.split_types.specs.Proving.Came.Came.{came_load, came_add, came_journal, came_done}
use Rattle.split_types.proofs.CameLaws.{came}
use Rattle.split_types.proofs.CacheLaws.{is_known}
use Rattle.split_types.proofs.KeptLists.{any_pushed, in_filter}
use Rattle.split_types.proofs.Lists.{find_some, list_any_here, any_in_filter}
use Rattle.split_types.proofs.JournalRounds.{WasSealed, seal_is, logged}

-- ---- the slots of the journal
length_filter : {X : Type 0} (p : X → Bool) (xs : List X) → length (filter p xs) ≤ length xs
length_filter p [] = omega arith
length_filter p (x ∷ xs) = by_test (p x) (length_filter p xs)
  where
    by_test : (t : Bool) → length (filter p xs) ≤ length xs
        → length (if t then x ∷ filter p xs else filter p xs) ≤ length (x ∷ xs)
    by_test true l = omega arith
    by_test false l = omega arith

length_push : {X : Type 0} (xs : List X) (x : X) → length (xs ++ x ∷ []) ≡ length xs + 1
length_push [] x = refl
length_push (y ∷ ys) x = omega (arith, length_push ys x)

pub used_most : (w : Workload) (h : List Event) → IsLegal w h → length (in_journal h) ≤ journal_slots w
used_most w [] legal = omega arith
used_most w (h ▹ Seal t k) legal =
    let row = seal_is w h t k (came w h Cm (Seal t k) legal.0)
    in omega (arith, length_push (in_journal h) t, row.may.left)
used_most w (h ▹ Done k id true) legal =
    omega (
      arith,
      length_filter (λ t. not (clears t (request_numbered h id))) (in_journal h),
      used_most w h legal.1,
    )
used_most w (h ▹ e) legal = used_most w h legal.1

slots_some : (w : Workload) → 1 ≤ journal_slots w
slots_some w = by_test (nat_lt w.version 2)
  where
    by_test : (t : Bool) → 1 ≤ (if t then 1 else 4)
    by_test true = omega arith
    by_test false = omega arith

-- ---- what a stage says
-- nothing was sealed
fresh_before : (w : Workload) (h : List Event) (by : Actor) (r : Request) → Came w h (Add by r)
    → stage_of_add r.kind (stage h) ≡ Fresh → stage h ≡ Fresh
fresh_before w h by r (came_load p c s piece here absent block at) is = is
fresh_before w h by r (came_add run block at there placed long) is = is
fresh_before w h by r (came_journal kind first n j) is = of_kind kind j is
  where
    of_kind : (kind : ReqKind) → Journals w h kind first n → stage_of_add kind (stage h) ≡ Fresh → stage h ≡ Fresh
    of_kind (Read p s g) j is = absurd (j)
    of_kind (Pages s g) j is = absurd (j)
    of_kind (Log t) j is = absurd (cc)
    of_kind (Commit t) j is = absurd (cc)
    of_kind (Home t) j is = absurd (cc)
    of_kind (Clear t) j is = absurd (cc)

fresh_empty : (w : Workload) (h : List Event) → IsLegal w h → stage h ≡ Fresh → in_journal h ≡ []
fresh_empty w [] legal is = refl
fresh_empty w (h ▹ Seal t k) legal is = absurd (cc)
fresh_empty w (h ▹ Add by r) legal is =
    fresh_empty w h legal.1 (fresh_before w h by r (came w h (maker (Add by r)) (Add by r) legal.0) is)
fresh_empty w (h ▹ Done k id true) legal is =
    ap (filter (λ t. not (clears t (request_numbered h id)))) (fresh_empty w h legal.1 is)
fresh_empty w (h ▹ e) legal is = fresh_empty w h legal.1 is

-- the buffers of a transaction that was sealed await their home until its round goes home
abbrev is_writing : Stage → Bool
is_writing (Sealed t k) = true
is_writing (Logging t) = true
is_writing (Committing t) = true
is_writing _ = false

abbrev some_awaits : List Event → Type 0
some_awaits h = list_any (awaits_home h) metadata_buffers ≡ true

seal_awaits : (h : List Event) (t : Txn) (k : ℕ) (bufs : List Buf) → 1 ≤ length (filter (is_marked h) bufs)
    → list_any (awaits_home (h ▹ Seal t k)) bufs ≡ true
seal_awaits h t k [] some = absurd (omega arith)
seal_awaits h t k (b ∷ bufs) some = by_test (is_marked h b) refl (λ more. seal_awaits h t k bufs more) some
  where
    longer : (xs ys : List ℕ) → nat_lt 0 (length xs) ≡ true → nat_lt 0 (length (xs ++ ys)) ≡ true
    longer [] ys is = absurd (cc)
    longer (x ∷ xs) ys is = lt-ltb 0 (length (x ∷ xs ++ ys)) (omega arith)

    by_test : (t' : Bool) → is_marked h b ≡ t'
        → (1 ≤ length (filter (is_marked h) bufs) → list_any (awaits_home (h ▹ Seal t k)) bufs ≡ true)
        → 1 ≤ length (if t' then b ∷ filter (is_marked h) bufs else filter (is_marked h) bufs)
        → (awaits_home (h ▹ Seal t k) b || list_any (awaits_home (h ▹ Seal t k)) bufs) ≡ true
    by_test true is later some =
        or_left (awaits_home (h ▹ Seal t k) b) (list_any (awaits_home (h ▹ Seal t k)) bufs)
        (longer (open_at h b) (awaiting_at h b) is)
    by_test false is later some =
        or_right (awaits_home (h ▹ Seal t k) b) (list_any (awaits_home (h ▹ Seal t k)) bufs)
        (later some)

written_came : (w : Workload) (h : List Event) (by : Actor) (r : Request)
    → (is_writing (stage h) ≡ true → some_awaits h) → Came w h (Add by r)
    → is_writing (stage_of_add r.kind (stage h)) ≡ true → some_awaits (h ▹ Add by r)
written_came w h by r old (came_load p c s piece here absent block at) is = old is
written_came w h by r old (came_add run block at there placed long) is = old is
written_came w h by r old (came_journal kind first n j) is = of_kind kind j is
  where
    of_kind : (kind : ReqKind) → Journals w h kind first n → is_writing (stage_of_add kind (stage h)) ≡ true
        → some_awaits (h ▹ Add Cm (journal_request (adds h) kind first n))
    of_kind (Read p s g) j is = absurd (j)
    of_kind (Pages s g) j is = absurd (j)
    of_kind (Log t) j is = old (ap is_writing j.before)
    of_kind (Commit t) j is = old (ap is_writing j.before)
    of_kind (Home t) j is = absurd (cc)
    of_kind (Clear t) j is = absurd (cc)

written_awaits : (w : Workload) (h : List Event) → IsLegal w h → is_writing (stage h) ≡ true → some_awaits h
written_awaits w [] legal is = absurd (cc)
written_awaits w (h ▹ Seal t k) legal is =
    seal_awaits h t k metadata_buffers (seal_is w h t k (came w h Cm (Seal t k) legal.0)).may.some
written_awaits w (h ▹ Add by r) legal is =
    written_came w h by r (λ at. written_awaits w h legal.1 at) (came w h (maker (Add by r)) (Add by r) legal.0) is
written_awaits w (h ▹ e) legal is = written_awaits w h legal.1 is

-- ---- where the commit thread rests
-- nothing is marked, the transaction that was sealed last is written, and what is in the journal waits for calls that
-- haven't returned
pub record Rests (w : Workload) (h : List Event) : Type 0 where
  pub unmarked : length (marked_buffers h) ≡ 0
  pub written : logged (stage h) ≡ None
  pub stays : list_all (is_finished w h) (processes w) ≡ true → length (in_journal h) ≡ 0

-- idle: nothing is in the journal, or some buffer awaits its home
record AtRest (w : Workload) (h : List Event) : Type 0 where
  idle : next_of_idle (commit_state w h) ≡ None
  written : logged (stage h) ≡ None
  goes : (in_journal h ≡ []) ⊎ some_awaits h

empty_in : (ts : List Txn) → oldest_in ts ≡ None → ts ≡ []
empty_in [] none = refl
empty_in (t ∷ ts) none = absurd (cc)

homing_rest : (w : Workload) (h : List Event) → logged (stage h) ≡ None
    → next_of_clearing (commit_state w h) ≡ None → AtRest w h
homing_rest w h written none = by_oldest (oldest_in (in_journal h)) refl none
  where
    by_oldest : (o : Option Txn) → oldest_in (in_journal h) ≡ o
        → ◌≡◌ {A = Option Event}
        (elim o [ None ↦ next_of_idle (commit_state w h) | Some t ↦ add_clear (commit_state w h) t ]) None
        → AtRest w h
    by_oldest None at is = record { idle = is; written = written; goes = inl (empty_in (in_journal h) at) }
    by_oldest (Some t) at is = absurd (cc)

at_rest : (w : Workload) (h : List Event) → IsLegal w h → under_way h ≡ 0 → next w h Cm ≡ None → AtRest w h
at_rest w h legal done none = by_stage (stage h) refl none
  where
    idle : nat_lt 0 (under_way h) ≡ false
    idle = ap (nat_lt 0) done

    rest_of : (e : Option Event) → ◌≡◌ {A = Option Event} (nat_lt 0 (under_way h) ⇒ None ∣ e) None → e ≡ None
    rest_of e is = go (nat_lt 0 (under_way h)) idle is
      where
        go : (t : Bool) → t ≡ false → ◌≡◌ {A = Option Event} (t ⇒ None ∣ e) None → e ≡ None
        go true busy is = absurd (cc)
        go false busy is = is

    by_stage : (s : Stage) → stage h ≡ s → next_of_stage (commit_state w h) s ≡ None → AtRest w h
    by_stage Fresh at is =
        record { idle = is; written = ap logged at; goes = inl (fresh_empty w h legal at) }
    by_stage (Sealed t k) at is = absurd (cc)
    by_stage (Logging t) at is =
        absurd (let some : add_commit (commit_state w h) t ≡ None = rest_of (add_commit (commit_state w h) t) is in cc)
    by_stage (Committing t) at is =
        record {
          idle = rest_of (next_of_idle (commit_state w h)) is;
          written = ap logged at;
          goes = inr (written_awaits w h legal (ap is_writing at));
        }
    by_stage (Homing t) at is = by_home (next_home h) is
      where
        by_home : (o : Option Buf)
            → ◌≡◌ {A = Option Event}
            (elim o [
              | Some b ↦ add_home (commit_state w h) b
              | None ↦ (nat_lt 0 (under_way h) ⇒ None ∣ next_of_clearing (commit_state w h))
            ]) None
            → AtRest w h
        by_home (Some b) is = absurd (cc)
        by_home None is = homing_rest w h (ap logged at) (rest_of (next_of_clearing (commit_state w h)) is)
    by_stage (Clearing t) at is = homing_rest w h (ap logged at) (rest_of (next_of_clearing (commit_state w h)) is)

-- the tests that decide, each by its value
decide : (used slots marked : ℕ) (returned waits : Bool) (e seal : Event) → used ≤ slots → 1 ≤ slots → waits ≡ false
    → ◌≡◌ {A = Option Event}
    ((nat_lt 0 used && (used == slots || (returned && marked == 0))) ⇒ Some e
    ∣ (nat_lt used slots && nat_lt 0 marked && not waits) ⇒ Some seal ∣ None) None
    → (marked ≡ 0) × (returned ≡ true → used ≡ 0)
decide used slots marked returned waits e seal most some calm none =
    go (nat_lt 0 used) (used == slots) (marked == 0) (nat_lt used slots) (nat_lt 0 marked) waits calm none
    refl refl refl refl refl
  where
    go : (some_used all none_marked left some_marked waits : Bool) → waits ≡ false
        → ◌≡◌ {A = Option Event}
        ((some_used && (all || (returned && none_marked))) ⇒ Some e
        ∣ (left && some_marked && not waits) ⇒ Some seal ∣ None) None
        → nat_lt 0 used ≡ some_used → (used == slots) ≡ all → (marked == 0) ≡ none_marked → nat_lt used slots ≡ left
        → nat_lt 0 marked ≡ some_marked → (marked ≡ 0) × (returned ≡ true → used ≡ 0)
    go u a m l s true calm none one two three four five = absurd (cc)
    go true true m l s false calm none one two three four five = absurd (cc)
    go u a m true true false calm none one two three four five = absurd (grind (arith, nat_tests))
    go u a m l s false calm none one two three four five = grind (arith, nat_tests)

pub rests : (w : Workload) (h : List Event) → IsLegal w h → under_way h ≡ 0 → service h ≡ Idle → next w h Cm ≡ None
    → Rests w h
rests w h legal done idle none =
    let at = at_rest w h legal done none
    in let marked = by_home (next_home h) refl at.goes at.idle
    in record { unmarked = marked.0; written = at.written; stays = marked.1 }
  where
    calm : is_map_waiting (service h) ≡ false
    calm = ap is_map_waiting idle

    by_home : (o : Option Buf) → next_home h ≡ o → (in_journal h ≡ []) ⊎ some_awaits h
        → ◌≡◌ {A = Option Event}
        (goes_home (commit_state w h) ⇒ elim o [ None ↦ None | Some b ↦ add_home (commit_state w h) b ]
        ∣ next_of_sealing (commit_state w h)) None
        → (length (marked_buffers h) ≡ 0)
        × (list_all (is_finished w h) (processes w) ≡ true → length (in_journal h) ≡ 0)
    by_home (Some b) at goes is =
        decide (length (in_journal h)) (journal_slots w) (length (marked_buffers h))
        (list_all (is_finished w h) (processes w)) (is_map_waiting (service h)) _ _ (used_most w h legal) (slots_some w)
        calm is
    by_home None at (inr some) is =
        absurd
        (let first = find_some (awaits_home h) metadata_buffers some
        in let found : Some first.element ≡ None = sym first.found ∙ at in cc)
    by_home None at (inl empty) is =
        let used : length (in_journal h) ≡ 0 = ap length empty
        in (sealing used (rest used is), λ all. used)
      where
        rest : length (in_journal h) ≡ 0
            → ◌≡◌ {A = Option Event} (goes_home (commit_state w h) ⇒ None ∣ next_of_sealing (commit_state w h)) None
            → next_of_sealing (commit_state w h) ≡ None
        rest used is =
            go (goes_home (commit_state w h)) (ap (λ n. nat_lt 0 n && (n == journal_slots w
            || (list_all (is_finished w h) (processes w) && length (marked_buffers h) == 0))) used) is
          where
            go : (t : Bool) → t ≡ false
                → ◌≡◌ {A = Option Event} (t ⇒ None ∣ next_of_sealing (commit_state w h)) None
                → next_of_sealing (commit_state w h) ≡ None
            go true goes is = absurd (cc)
            go false goes is = is

        sealing : length (in_journal h) ≡ 0 → next_of_sealing (commit_state w h) ≡ None
            → length (marked_buffers h) ≡ 0
        sealing used is =
            go (length (in_journal h)) (journal_slots w) (length (marked_buffers h)) (is_map_waiting (service h)) _ used
            (slots_some w) calm is
          where
            go : (n slots marked : ℕ) (waits : Bool) (seal : Event) → n ≡ 0 → 1 ≤ slots → waits ≡ false
                → ◌≡◌ {A = Option Event} ((nat_lt n slots && nat_lt 0 marked && not waits) ⇒ Some seal ∣ None) None
                → marked ≡ 0
            go n slots marked waits seal none some calm is = by_tests (nat_lt n slots) (nat_lt 0 marked) waits
                (lt-ltb n slots (omega (arith, none, some))) calm is refl
              where
                by_tests : (a b c : Bool) → a ≡ true → c ≡ false
                    → ◌≡◌ {A = Option Event} ((a && b && not c) ⇒ Some seal ∣ None) None → nat_lt 0 marked ≡ b
                    → marked ≡ 0
                by_tests a true true left calm is same = absurd (cc)
                by_tests true true false left calm is same = absurd (cc)
                by_tests false true false left calm is same = absurd (cc)
                by_tests a false c left calm is same = grind (arith, nat_tests)

-- ---- commits
-- a request that isn't done well commits the transaction
abbrev is_committing : List Event → Txn → Bool
is_committing h t = list_any (λ r. commits t (Some r)) (unfinished h)

-- a transaction that was sealed is committed, or is about to be
abbrev Goes : List Event → Txn → Type 0
Goes h t = ((is_committed h t || is_committing h t) ≡ true) ⊎ (logged (stage h) ≡ Some t)

idle_unlogged : (h : List Event) → IsIdle h → logged (stage h) ≡ None
idle_unlogged h (idle_fresh at) = ap logged at
idle_unlogged h (idle_committed t at done) = ap logged at
idle_unlogged h (idle_homed t at home done none) = ap logged at
idle_unlogged h (idle_cleared t at done none) = ap logged at

home_unlogged : (w : Workload) (h : List Event) → MayGoHome w h → logged (stage h) ≡ None
home_unlogged w h (home_first idle goes) = idle_unlogged h idle
home_unlogged w h (home_next t at) = ap logged at

clear_unlogged : (h : List Event) → MayClear h → logged (stage h) ≡ None
clear_unlogged h (clear_first t at home done) = ap logged at
clear_unlogged h (clear_next t at done) = ap logged at

unlogged : (h : List Event) (t : Txn) → logged (stage h) ≡ None → Goes h t
    → (is_committed h t || is_committing h t) ≡ true
unlogged h t none (inl there) = there
unlogged h t none (inr at) = absurd (let some : None ≡ Some t = sym none ∙ at in cc)

-- a request that is added leaves it so
add_goes : (h : List Event) (by : Actor) (r : Request) (t : Txn) → (is_committed h t || is_committing h t) ≡ true
    → (is_committed h t || is_committing (h ▹ Add by r) t) ≡ true
add_goes h by r t is = by_test (is_committed h t) is
  where
    by_test : (c : Bool) → (c || is_committing h t) ≡ true → (c || is_committing (h ▹ Add by r) t) ≡ true
    by_test true is = refl
    by_test false is =
        any_pushed (λ x. commits t (Some x)) (unfinished h) r ∙ or_right (commits t (Some r)) (is_committing h t) is

journal_goes : (w : Workload) (h : List Event) (kind : ReqKind) (first n : ℕ) (t : Txn) → Journals w h kind first n
    → Goes h t → Goes (h ▹ Add Cm (journal_request (adds h) kind first n)) t
journal_goes w h (Read p s g) first n t j go = absurd (j)
journal_goes w h (Pages s g) first n t j go = absurd (j)
journal_goes w h (Log u) first n t j (inl there) = inl (add_goes h Cm (journal_request (adds h) (Log u) first n) t there)
journal_goes w h (Log u) first n t j (inr at) = inr (ap logged (sym j.before) ∙ at)
journal_goes w h (Commit u) first n t j (inl there) =
    inl (add_goes h Cm (journal_request (adds h) (Commit u) first n) t there)
journal_goes w h (Commit u) first n t j (inr at) =
    inl (or_right (is_committed h t) (is_committing (h ▹ Add Cm (journal_request (adds h) (Commit u) first n)) t)
    (any_pushed (λ x. commits t (Some x)) (unfinished h) (journal_request (adds h) (Commit u) first n)
    ∙ or_left (u.0 == t.0) (is_committing h t) (eq-eqb u.0 t.0 same)))
  where
    same : u.0 ≡ t.0
    same = let both : Some u ≡ Some t = ap logged (sym j.before) ∙ at in cc
journal_goes w h (Home u) first n t j go =
    inl (add_goes h Cm (journal_request (adds h) (Home u) first n) t
    (unlogged h t (home_unlogged w h j.before) go))
journal_goes w h (Clear u) first n t j go =
    inl (add_goes h Cm (journal_request (adds h) (Clear u) first n) t (unlogged h t (clear_unlogged h j.before) go))

came_goes : (w : Workload) (h : List Event) (by : Actor) (r : Request) (t : Txn) → Came w h (Add by r) → Goes h t
    → Goes (h ▹ Add by r) t
came_goes w h by r t (came_load p c s piece here absent block at) (inl there) = inl (add_goes h by r t there)
came_goes w h by r t (came_load p c s piece here absent block at) (inr is) = inr is
came_goes w h by r t (came_add run block at there placed long) (inl is) = inl (add_goes h by r t is)
came_goes w h by r t (came_add run block at there placed long) (inr is) = inr is
came_goes w h by r t (came_journal kind first n j) go = journal_goes w h kind first n t j go

-- a request that is done commits what it commits
done_goes : (w : Workload) (h : List Event) (k : ℕ) (id : ReqId) (t : Txn) → IsAccepted w → IsLegal w h
    → (is_committed h t || is_committing h t) ≡ true
    → (is_committed (h ▹ Done k id true) t || is_committing (h ▹ Done k id true) t) ≡ true
done_goes w h k id t accepted legal is = elim (cases_Bool (is_committed h t)) [
  | inl there ↦
      or_left (commits t (request_numbered h id) || is_committed h t) (is_committing (h ▹ Done k id true) t)
      (or_right (commits t (request_numbered h id)) (is_committed h t) there)
  | inr past ↦ (let committing : is_committing h t ≡ true = sym (ap (λ b. b || is_committing h t) past) ∙ is
      in let found = find_some (λ x. commits t (Some x)) (unfinished h) committing
      in let x = found.element
      in let f = is_known w h accepted legal
      in let named : request_numbered h x.id ≡ Some x =
      f.kept_pages.named found.place x (ap (λ l. slice_get l found.place) f.well ∙ found.there)
      in elim (cases_Bool (is_numbered id x)) [
        | inl this ↦
            or_left (commits t (request_numbered h id) || is_committed h t) (is_committing (h ▹ Done k id true) t)
            (or_left (commits t (request_numbered h id)) (is_committed h t)
            (ap (commits t) (sym (ap (request_numbered h) (same_id x.id id (eqb-true x.id.0 id.0 this))) ∙ named)
            ∙ found.passes))
        | inr other ↦ (let left = in_filter (λ y. not (is_numbered id y)) (unfinished h) found.place x found.there
            (not_from_false (is_numbered id x) other)
            in or_right (commits t (request_numbered h id) || is_committed h t) (is_committing (h ▹ Done k id true) t)
            (list_any_here (λ y. commits t (Some y)) (filter (λ y. not (is_numbered id y)) (unfinished h)) left.0 x
            left.1 found.passes))
      ])
]
  where
    same_id : (a b : ReqId) → a.0 ≡ b.0 → a ≡ b
    same_id a b same = ap (λ n. record { 0 = n }) same

goes_sealed : (w : Workload) (h : List Event) (t : Txn) → IsAccepted w → IsLegal w h → WasSealed h t → Goes h t
goes_sealed w [] t accepted legal s = absurd (omega (arith, s.least, s.most))
goes_sealed w (h ▹ Seal u k) t accepted legal s =
    let row = seal_is w h u k (came w h Cm (Seal u k) legal.0)
    in elim (cases_lt (seals h) t.0) [
      | inl new ↦ inr (ap (λ n. Some (record { 0 = n })) (omega (arith, row.txn, s.most, new)))
      | inr old ↦
          inl (unlogged h t (idle_unlogged h row.may.idle)
          (goes_sealed w h t accepted legal.1 (record { least = s.least; most = omega (arith, old) })))
    ]
goes_sealed w (h ▹ Add by r) t accepted legal s =
    came_goes w h by r t (came w h (maker (Add by r)) (Add by r) legal.0)
    (goes_sealed w h t accepted legal.1 (record { least = s.least; most = s.most }))
goes_sealed w (h ▹ Done k id true) t accepted legal s =
    elim (goes_sealed w h t accepted legal.1 (record { least = s.least; most = s.most })) [
      | inl there ↦ inl (done_goes w h k id t accepted legal.1 there)
      | inr at ↦ inr at
    ]
goes_sealed w (h ▹ e) t accepted legal s =
    goes_sealed w h t accepted legal.1 (record { least = s.least; most = s.most })

-- so where the commit thread rests and no request is left all that was sealed is committed
pub all_committed : (w : Workload) (h : List Event) (t : Txn) → IsAccepted w → IsLegal w h → Rests w h
    → unfinished h ≡ [] → WasSealed h t → is_committed h t ≡ true
all_committed w h t accepted legal rest none s =
    last (is_committed h t) (ap (list_any (λ r. commits t (Some r))) none)
    (unlogged h t rest.written (goes_sealed w h t accepted legal s))
  where
    last : (c : Bool) → is_committing h t ≡ false → (c || is_committing h t) ≡ true → c ≡ true
    last true past is = refl
    last false past is = absurd (both_ways (is_committing h t) past is)
