-- Some process is to blame for each event that dirties a buffer, for each serve and seal, and for each request of the
-- journal; and processes of the workload alone are.
use Rattle.std.proofs.Common.{◌≡◌, ℕ, ◌+◌, ◌==◌, ◌<◌, ◌≤◌, List, [], ◌∷◌, length, map, filter, Bool, true, false, Some, refl, arith, subst, sym, inl, inr, ◌∙◌, ap}
use Rattle.std.specs.List.{flat_map, list_any}
use Rattle.std.proofs.lemmas.Bool.{or_cases, or_left, or_right, and_from, and_parts, cases_Bool, cond-true, cond-false, eqb-true}
use Rattle.std.proofs.lemmas.Bool.Decides.{nat_tests}
use Rattle.split_types.specs.declared.ids.Pid.{Pid}
use Rattle.split_types.specs.declared.ids.Serial.{Serial}
use Rattle.split_types.specs.declared.ids.Slot.{Slot}
use Rattle.split_types.specs.declared.ids.Txn.{Txn}
use Rattle.split_types.specs.declared.actor.Actor.TheVariants.{Wb, Cm}
use Rattle.split_types.specs.declared.buf.Buf.{Buf}
use Rattle.split_types.specs.declared.buf.Buf.TheVariants.{Page}
use Rattle.split_types.specs.declared.request.ReqKind.{ReqKind}
use Rattle.split_types.specs.declared.request.ReqKind.TheVariants.{Read, Pages, Log, Commit, Home, Clear}
use Rattle.split_types.specs.declared.request.Run.{Run}
use Rattle.split_types.specs.declared.request.Service.{Service}
use Rattle.split_types.specs.declared.workload.Workload.{Workload}
use Rattle.split_types.specs.declared.event.Event.{Event}
use Rattle.split_types.specs.declared.event.Event.TheVariants.{Make, Put, Drop, Serve, Map, Skip, Seal, Add}
use Rattle.split_types.specs.History.{◌▹◌, adds}
use Rattle.split_types.specs.Hooks.{maker, is_dirtied}
use Rattle.split_types.specs.OpenDirtyings.{open_at}
use Rattle.split_types.specs.Files.{is_live}
use Rattle.split_types.specs.Pages.{is_put_since, is_dirty}
use Rattle.split_types.specs.Parents.{metadata_buffers, buffer_at, last_serve, parents_of}
use Rattle.split_types.specs.Rounds.{seal_place, last_txn, round_of, open_round}
use Rattle.split_types.specs.Sets.{pids, has, some_has, union_of, IsSet}
use Rattle.split_types.specs.Blame.{own_blame, blame}
use Rattle.split_types.specs.Transactions.{is_marked, brings_home, awaiting_at}
use Rattle.split_types.specs.Writeback.{after_add, service, served_run}
use Rattle.split_types.specs.Accepted.{IsAccepted}
use Rattle.split_types.specs.Legal.{IsLegal}
use Rattle.split_types.specs.LegalHistories.{ArePayers}
use Rattle.split_types.specs.Proving.Came.{Came, Journals, journal_request}
use Rattle.split_types.specs.Proving.Came.Came.{came_make, came_put, came_drop, came_load, came_serve, came_map, came_grow, came_journal}
use Rattle.split_types.proofs.AcceptedLaws.{procs_most}
use Rattle.split_types.proofs.CameLaws.{came}
use Rattle.split_types.proofs.KnownLaws.{maps_known}
use Rattle.split_types.proofs.ReadyLaws.{ready_parts}
use Rattle.split_types.proofs.DirtyLaws.{serves_live}
use Rattle.split_types.proofs.OpenDirtyings.{open_at-more}
use Rattle.split_types.proofs.Members.{has-flat_map, has-append, list_any-map_at}
use Rattle.split_types.proofs.Sets.{has-pids, has-union_of, union-is_set}
use Rattle.split_types.proofs.Blame.{blame-stays, blame-new, has_at}
use Rattle.split_types.proofs.RoundLaws.{any_of}
use Rattle.split_types.proofs.PageTags.{first_of, one_has, length_some, some_blamed}
use Rattle.split_types.proofs.JournalRounds.{WasSealed, seal_is, seal_placed, was_sealed, was_logging, oldest_sealed, takes_at, taken_in_round, round_of_last, GoesHome, goes_home_at}

-- ---- processes of the workload alone
one_process : (w : Workload) (h : List Event) (q : Pid) (p : ℕ) → 1 ≤ q.0 → q.0 ≤ length w.procs
    → has (q.0 ∷ []) p ≡ true → (1 ≤ p) × (p ≤ length w.procs)
one_process w h q p least most is =
    let same : q.0 ≡ p = grind (arith, nat_tests)
    in (omega (arith, same, least), omega (arith, same, most))

-- the process that makes an event, where that is to blame
own_within : (w : Workload) (h : List Event) (e : Event) (p : ℕ) → Came w h e → has (own_blame e) p ≡ true
    → (1 ≤ p) × (p ≤ length w.procs)
own_within w h e p (came_make q name slot admitted idle unused at) is =
    one_process w h q p admitted.has.first admitted.has.last is
own_within w h e p (came_put q name off len fill s piece here may) is =
    one_process w h q p here.working.admitted.has.first here.working.admitted.has.last is
own_within w h e p (came_drop q name serial working idle) is =
    one_process w h q p working.admitted.has.first working.admitted.has.last is
own_within w h e p (came_load q c s piece here absent block at) is =
    one_process w h q p here.working.admitted.has.first here.working.admitted.has.last is
own_within w h e p (came_journal kind first n j) is = of_kind kind j is
  where
    of_kind : (kind : ReqKind) → Journals w h kind first n
        → has (own_blame (Add Cm (journal_request (adds h) kind first n))) p ≡ true
        → (1 ≤ p) × (p ≤ length w.procs)
    of_kind (Read q s g) j is = absurd (j)
    of_kind (Pages s g) j is = absurd (j)
    of_kind (Log t) j is = absurd (cc)
    of_kind (Commit t) j is = absurd (cc)
    of_kind (Home t) j is = absurd (cc)
    of_kind (Clear t) j is = absurd (cc)
own_within w h e p c is = absurd (cc)

-- an event that comes next, where it holds of the places before
new_within : (w : Workload) (h : List Event) (e : Event) (p : ℕ) → Came w h e
    → ((i : ℕ) → has (blame h i) p ≡ true → (1 ≤ p) × (p ≤ length w.procs))
    → has (blame (h ▹ e) (length h)) p ≡ true → (1 ≤ p) × (p ≤ length w.procs)
new_within w h e p c old is =
    let sets = own_blame e ∷ map (blame h) (parents_of h e)
    in let both =
    and_parts (has pids p) (some_has sets p) (sym (ap (λ l. has l p) (blame-new h e) ∙ has-union_of sets p) ∙ is)
    in elim (or_cases (has (own_blame e) p) (some_has (map (blame h) (parents_of h e)) p) both.1) [
      | inl own ↦ own_within w h e p c own
      | inr parent ↦ (let at = has_at (blame h) (parents_of h e) p parent in old at.0 at.2)
    ]

pub blame_within : (w : Workload) (h : List Event) (i p : ℕ) → IsLegal w h → has (blame h i) p ≡ true
    → (1 ≤ p) × (p ≤ length w.procs)
blame_within w [] i p legal is = absurd (cc)
blame_within w (h ▹ e) i p legal is = elim (cases_Bool (i == length h)) [
  | inl last ↦
      new_within w h e p (came w h (maker e) e legal.0) (λ j at. blame_within w h j p legal.1 at)
      (subst (λ k. has (blame (h ▹ e) k) p ≡ true) (eqb-true i (length h) last) is)
  | inr past ↦
      blame_within w h i p legal.1
      (sym (ap (λ l. has l p) (cond-false (i == length h)
      (union_of (own_blame e ∷ map (blame h) (parents_of h e))) (blame h i) past)) ∙ is)
]

-- ---- at least one process
-- the event at this place has some process to blame
pub record BlamesSome (w : Workload) (h : List Event) (i : ℕ) : Type 0 where
  pub below : i < length h
  pub by : ℕ
  pub least : 1 ≤ by
  pub most : by ≤ length w.procs
  pub blamed : has (blame h i) by ≡ true

pub some_still : (w : Workload) (h : List Event) (e : Event) (i : ℕ) → BlamesSome w h i → BlamesSome w (h ▹ e) i
some_still w h e i b = record {
  below = omega (arith, b.below);
  by = b.by;
  least = b.least;
  most = b.most;
  blamed = ap (λ l. has l b.by) (blame-stays h e i b.below) ∙ b.blamed;
}

some_from : (w : Workload) (h : List Event) (e : Event) (i p : ℕ) → IsAccepted w → i ≡ length h → 1 ≤ p
    → p ≤ length w.procs → some_has (own_blame e ∷ map (blame h) (parents_of h e)) p ≡ true → BlamesSome w (h ▹ e) i
some_from w h e i p accepted last least most is =
    let sets = own_blame e ∷ map (blame h) (parents_of h e)
    in let fits = procs_most w accepted
    in let pid : has pids p ≡ true = has-pids p ∙ grind (arith, nat_tests, least, most, fits)
    in record {
      below = omega (arith, last);
      by = p;
      least = least;
      most = most;
      blamed =
          ap (λ k. has (blame (h ▹ e) k) p) last ∙ ap (λ l. has l p) (blame-new h e)
          ∙ has-union_of sets p ∙ and_from (has pids p) (some_has sets p) pid is;
    }

-- its own process
some_own : (w : Workload) (h : List Event) (e : Event) (i : ℕ) (q : Pid) → IsAccepted w → i ≡ length h → 1 ≤ q.0
    → q.0 ≤ length w.procs → own_blame e ≡ q.0 ∷ [] → BlamesSome w (h ▹ e) i
some_own w h e i q accepted last least most own =
    some_from w h e i q.0 accepted last least most
    (or_left (has (own_blame e) q.0) (some_has (map (blame h) (parents_of h e)) q.0)
    (ap (λ l. has l q.0) own ∙ one_has q.0))

-- or one of a parent's
pub some_parent : (w : Workload) (h : List Event) (e : Event) (i j : ℕ) → IsAccepted w → i ≡ length h
    → has (parents_of h e) j ≡ true → BlamesSome w h j → BlamesSome w (h ▹ e) i
some_parent w h e i j accepted last is b =
    some_from w h e i b.by accepted last b.least b.most
    (or_right (has (own_blame e) b.by) (some_has (map (blame h) (parents_of h e)) b.by)
    (list_any-map_at (λ set. has set b.by) (blame h) (parents_of h e) j is b.blamed))

-- ---- serves
serve_new : (w : Workload) (h : List Event) (s : Serial) (g n : ℕ) → IsAccepted w → IsLegal w (h ▹ Serve s g n)
    → Came w h (Serve s g n) → BlamesSome w (h ▹ Serve s g n) (length h)
serve_new w h s g n accepted legal (came_serve run none found) =
    let l = h ▹ Serve run.serial run.page run.n in
    let served = maps_known.served w l run accepted legal refl in
    let parts =
    ready_parts w l run.serial (run.page + 0)
    (served.ready (serves_live w h run found) 0 (omega (arith, served.some))) in
    let dirty : is_dirty w h (Page run.serial run.page) ≡ true =
    subst (λ g. is_dirty w h (Page run.serial g) ≡ true) (omega arith)
    (and_from (is_live w h run.serial.0) (is_put_since h (Page run.serial (run.page + 0))) parts.live parts.put)
    in
    let some = some_blamed w h run.serial run.page run.n accepted legal.1 served.some dirty in
    some_from w h (Serve run.serial run.page run.n) (length h) some.0 accepted refl some.2 some.3 some.1

-- a run that is mapped was served
mapped_run : (w : Workload) (h : List Event) (slot : Slot) (s : Serial) (g n block : ℕ) (new : Bool) (size : ℕ)
    → Came w h (Map slot s g n block new size) → (run : Run) × (served_run (service h) ≡ Some run)
mapped_run w h slot s g n block new size (came_map run free serves there none at) = (run, ap served_run serves)
mapped_run w h slot s g n block new size (came_grow run from serves there at short) = (run, ap served_run serves)

served_before : (kind : ReqKind) (s : Service) (run : Run) → served_run (after_add kind s) ≡ Some run
    → served_run s ≡ Some run
served_before (Pages t g) s run is = absurd (cc)
served_before (Read p t g) s run is = is
served_before (Log t) s run is = is
served_before (Commit t) s run is = is
served_before (Home t) s run is = is
served_before (Clear t) s run is = is

-- the serve of the service under way
record ServeBlames (w : Workload) (h : List Event) : Type 0 where
  place : ℕ
  last : has (last_serve h) place ≡ true
  blames_some : BlamesSome w h place

serve_still : (w : Workload) (h : List Event) (e : Event) → ((i : ℕ) → has (last_serve h) i ≡ has (last_serve (h ▹ e)) i)
    → ServeBlames w h → ServeBlames w (h ▹ e)
serve_still w h e same b = record {
  place = b.place;
  last = sym (same b.place) ∙ b.last;
  blames_some = some_still w h e b.place b.blames_some;
}

serve_blames : (w : Workload) (h : List Event) (run : Run) → IsAccepted w → IsLegal w h
    → served_run (service h) ≡ Some run → ServeBlames w h
serve_blames w [] run accepted legal is = absurd (cc)
serve_blames w (h ▹ Serve s g n) run accepted legal is = record {
  place = length h;
  last = one_has (length h);
  blames_some = serve_new w h s g n accepted legal (came w h Wb (Serve s g n) legal.0);
}
serve_blames w (h ▹ Map slot s g n block new size) run accepted legal is =
    let before = mapped_run w h slot s g n block new size (came w h Wb (Map slot s g n block new size) legal.0)
    in serve_still w h (Map slot s g n block new size) (λ i. refl) (serve_blames w h before.0 accepted legal.1 before.1)
serve_blames w (h ▹ Skip) run accepted legal is = absurd (cc)
serve_blames w (h ▹ Add by r) run accepted legal is =
    serve_still w h (Add by r) (λ i. refl)
    (serve_blames w h run accepted legal.1 (served_before r.kind (service h) run is))
serve_blames w (h ▹ e) run accepted legal is =
    serve_still w h e (λ i. refl) (serve_blames w h run accepted legal.1 is)

-- ---- events that dirty a buffer
map_new : (w : Workload) (h : List Event) (slot : Slot) (s : Serial) (g n block : ℕ) (new : Bool) (size i : ℕ)
    → IsAccepted w → IsLegal w h → i ≡ length h → Came w h (Map slot s g n block new size)
    → BlamesSome w (h ▹ Map slot s g n block new size) i
map_new w h slot s g n block new size i accepted legal last c =
    let run = mapped_run w h slot s g n block new size c
    in let serve = serve_blames w h run.0 accepted legal run.1
    in some_parent w h (Map slot s g n block new size) i serve.place accepted last serve.last serve.blames_some

dirty_new : (w : Workload) (h : List Event) (e : Event) (b : Buf) (i : ℕ) → IsAccepted w → IsLegal w h → i ≡ length h
    → Came w h e → is_dirtied e b ≡ true → BlamesSome w (h ▹ e) i
dirty_new w h (Make by slot s) b i accepted legal last (came_make q name k admitted idle unused at) dirty =
    some_own w h (Make by slot s) i by accepted last admitted.has.first admitted.has.last refl
dirty_new w h (Put by s g from to fill) b i accepted legal last (came_put q name off len f t piece here may) dirty =
    some_own w h (Put by s g from to fill) i by accepted last here.working.admitted.has.first
    here.working.admitted.has.last refl
dirty_new w h (Drop by slot s) b i accepted legal last (came_drop q name t working idle) dirty =
    some_own w h (Drop by slot s) i by accepted last working.admitted.has.first working.admitted.has.last refl
dirty_new w h (Map slot s g n block new size) b i accepted legal last c dirty =
    map_new w h slot s g n block new size i accepted legal last c
dirty_new w h e b i accepted legal last c dirty = absurd (cc)

-- each open dirtying of any buffer
pub open_blames_some : (w : Workload) (h : List Event) (b : Buf) (i : ℕ) → IsAccepted w → IsLegal w h
    → has (open_at h b) i ≡ true → BlamesSome w h i
open_blames_some w [] b i accepted legal is = absurd (cc)
open_blames_some w (h ▹ e) b i accepted legal is = elim (open_at-more h e b i is) [
  | inl new ↦ dirty_new w h e b i accepted legal.1 new.0 (came w h (maker e) e legal.0) new.1
  | inr old ↦ some_still w h e i (open_blames_some w h b i accepted legal.1 old.0)
]

-- ---- seals
marked_open : (h : List Event) (bufs : List Buf) → 1 ≤ length (filter (is_marked h) bufs)
    → (b : Buf) × (i : ℕ) × (has (open_at h b) i ≡ true) × (has (flat_map (open_at h) bufs) i ≡ true)
marked_open h [] some = absurd (omega arith)
marked_open h (b ∷ bufs) some = elim (cases_Bool (is_marked h b)) [
  | inl here ↦ (let first = first_of (open_at h b) here in (
    b,
    first.0,
    first.1,
    has-flat_map (open_at h) (b ∷ bufs) first.0
        ∙ or_left (has (open_at h b) first.0) (list_any (λ x. has (open_at h x) first.0) bufs) first.1,
  ))
  | inr past ↦
      (let more = marked_open h bufs (subst (λ l. 1 ≤ length l) (cond-false (is_marked h b)
      (b ∷ filter (is_marked h) bufs) (filter (is_marked h) bufs) past) some) in (
        more.0,
        more.1,
        more.2,
        has-flat_map (open_at h) (b ∷ bufs) more.1
            ∙ or_right (has (open_at h b) more.1) (list_any (λ x. has (open_at h x) more.1) bufs)
            (sym (has-flat_map (open_at h) bufs more.1) ∙ more.3),
      ))
]

seal_new : (w : Workload) (h : List Event) (t : Txn) (k : ℕ) → IsAccepted w → IsLegal w h → Came w h (Seal t k)
    → BlamesSome w (h ▹ Seal t k) (length h)
seal_new w h t k accepted legal c =
    let some = marked_open h metadata_buffers (seal_is w h t k c).may.some
    in some_parent w h (Seal t k) (length h) some.1 accepted refl some.3
    (open_blames_some w h some.0 some.1 accepted legal some.2)

pub seal_blames : (w : Workload) (h : List Event) (t : Txn) (i : ℕ) → IsAccepted w → IsLegal w h
    → has (seal_place h t) i ≡ true → BlamesSome w h i
seal_blames w [] t i accepted legal is = absurd (cc)
seal_blames w (h ▹ Seal u k) t i accepted legal is = elim (cases_Bool (u.0 == t.0)) [
  | inl same ↦
      (let at : length h ≡ i =
      grind (arith, nat_tests, cond-true (u.0 == t.0) (length h ∷ []) (seal_place h t) same, is)
      in subst (BlamesSome w (h ▹ Seal u k)) at
      (seal_new w h u k accepted legal.1 (came w h Cm (Seal u k) legal.0)))
  | inr other ↦
      some_still w h (Seal u k) i
      (seal_blames w h t i accepted legal.1
      (sym (ap (λ l. has l i) (cond-false (u.0 == t.0) (length h ∷ []) (seal_place h t) other)) ∙ is))
]
seal_blames w (h ▹ e) t i accepted legal is = some_still w h e i (seal_blames w h t i accepted legal.1 is)

-- what awaits its home
pub awaiting_blames : (w : Workload) (h : List Event) (b : Buf) (i : ℕ) → IsAccepted w → IsLegal w h
    → has (awaiting_at h b) i ≡ true → BlamesSome w h i
awaiting_blames w [] b i accepted legal is = absurd (cc)
awaiting_blames w (h ▹ Seal t k) b i accepted legal is =
    some_still w h (Seal t k) i
    (elim (or_cases (has (open_at h b) i) (has (awaiting_at h b) i)
    (sym (has-append (open_at h b) (awaiting_at h b) i) ∙ is)) [
      | inl here ↦ open_blames_some w h b i accepted legal.1 here
      | inr old ↦ awaiting_blames w h b i accepted legal.1 old
    ])
awaiting_blames w (h ▹ Add by r) b i accepted legal is =
    some_still w h (Add by r) i (awaiting_blames w h b i accepted legal.1 (awaited (brings_home r b) is))
  where
    awaited : (t : Bool) → has (elim t [ true ↦ [] | false ↦ awaiting_at h b ]) i ≡ true
        → has (awaiting_at h b) i ≡ true
    awaited true is = absurd (cc)
    awaited false is = is
awaiting_blames w (h ▹ e) b i accepted legal is = some_still w h e i (awaiting_blames w h b i accepted legal.1 is)

-- ---- requests of the journal
-- a parent of the request that has some process to blame
record ParentBlames (w : Workload) (h : List Event) (e : Event) : Type 0 where
  place : ℕ
  is_parent : has (parents_of h e) place ≡ true
  blames_some : BlamesSome w h place

of_seal : (w : Workload) (h : List Event) (t : Txn) (e : Event) → IsAccepted w → IsLegal w h → WasSealed h t
    → parents_of h e ≡ seal_place h t → ParentBlames w h e
of_seal w h t e accepted legal s is =
    let at = seal_placed w h t legal s
    in record {
      place = at.0;
      is_parent = ap (λ l. has l at.0) is ∙ at.1;
      blames_some = seal_blames w h t at.0 accepted legal at.1;
    }

of_home : (w : Workload) (h : List Event) (id first n : ℕ) → IsAccepted w → IsLegal w h → GoesHome h first
    → ParentBlames w h (Add Cm (journal_request id (Home (last_txn h)) first n))
of_home w h id first n accepted legal g =
    let taken = taken_in_round w h g.buffer g.place legal g.metadata g.awaits
    in let round = round_of_last w h (takes_at g.buffer g.place) legal taken
    in record {
      place = g.place;
      is_parent =
          has-flat_map (λ seal. open_at seal.before (buffer_at first)) (round_of h (last_txn h)) g.place
          ∙ ap (λ l. list_any (λ seal. has (open_at seal.before (buffer_at first)) g.place) l) round
          ∙ subst (λ b. any_of (takes_at b g.place) (open_round h) ≡ true) (sym g.block) taken;
      blames_some = awaiting_blames w h g.buffer g.place accepted legal g.awaits;
    }

of_request : (w : Workload) (h : List Event) (id : ℕ) (kind : ReqKind) (first n : ℕ) → IsAccepted w → IsLegal w h
    → Journals w h kind first n → ParentBlames w h (Add Cm (journal_request id kind first n))
of_request w h id (Read p s g) first n accepted legal j = absurd (j)
of_request w h id (Pages s g) first n accepted legal j = absurd (j)
of_request w h id (Log t) first n accepted legal j =
    of_seal w h t (Add Cm (journal_request id (Log t) first n)) accepted legal
    (was_sealed w h t j.buffers legal j.before) refl
of_request w h id (Commit t) first n accepted legal j =
    of_seal w h t (Add Cm (journal_request id (Commit t) first n)) accepted legal
    (was_logging w h t legal j.before) refl
of_request w h id (Home t) first n accepted legal j =
    subst (λ u. ParentBlames w h (Add Cm (journal_request id (Home u) first n))) (sym j.last)
    (of_home w h id first n accepted legal
    (subst (GoesHome h) (sym j.place) (goes_home_at h j.buffer j.awaits)))
of_request w h id (Clear t) first n accepted legal j =
    of_seal w h t (Add Cm (journal_request id (Clear t) first n)) accepted legal
    (oldest_sealed w h t legal j.oldest) refl

-- those to blame for it pay
pub journal_tag : (w : Workload) (h : List Event) (kind : ReqKind) (first n : ℕ) → IsAccepted w → IsLegal w h
    → Journals w h kind first n
    → ArePayers w (blame (h ▹ Add Cm (journal_request (adds h) kind first n)) (length h))
journal_tag w h kind first n accepted legal j =
    let e = Add Cm (journal_request (adds h) kind first n)
    in let parent = of_request w h (adds h) kind first n accepted legal j
    in let some = some_parent w h e (length h) parent.place accepted refl parent.is_parent parent.blames_some
    in let within : (p : ℕ) → has (blame (h ▹ e) (length h)) p ≡ true → (1 ≤ p) × (p ≤ length w.procs) =
    λ p is. new_within w h e p (came_journal kind first n j) (λ i at. blame_within w h i p legal at) is
    in record {
      is_set =
          subst IsSet (sym (blame-new h e)) (union-is_set (own_blame e ∷ map (blame h) (parents_of h e)));
      some = length_some (blame (h ▹ e) (length h)) some.by some.blamed;
      least = λ p is. (within p is).0;
      most = λ p is. (within p is).1;
    }
