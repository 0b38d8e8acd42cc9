-- How many transactions a legal history seals, and how many requests it has for its journal.
use Rattle.std.proofs.Common.{◌≡◌, ℕ, ◌+◌, ◌*◌, ◌==◌, ◌≤◌, List, [], ◌∷◌, length, filter, slice_get, count_by, nat_lt, Bool, true, false, not, Some, refl, arith, subst, sym, inl, inr, cond, ap, ◌∙◌, sum_by, if◌then◌else◌}
use Rattle.std.specs.List.{range_with_len, list_any}
use Rattle.std.proofs.lemmas.Bool.{both_ways, cases_Bool, cond-true, cond-false, or_cases, or_left, or_right, eq-eqb, eqb-true, false_from_ne_true, not_from_false, not-true, lt-ltb}
use Rattle.std.proofs.lemmas.Bool.Decides.{nat_tests}
use Rattle.std.proofs.lemmas.List.Sums.{sum_by-cons}
use Rattle.std.proofs.lemmas.Option.{same_Some}
use Rattle.split_types.specs.declared.ids.Pid.{Pid}
use Rattle.split_types.specs.declared.ids.ReqId.{ReqId}
use Rattle.split_types.specs.declared.ids.Serial.{Serial}
use Rattle.split_types.specs.declared.ids.Slot.{Slot}
use Rattle.split_types.specs.declared.ids.Txn.{Txn}
use Rattle.split_types.specs.declared.actor.Actor.{Actor}
use Rattle.split_types.specs.declared.actor.Actor.TheVariants.{Client, Cm}
use Rattle.split_types.specs.declared.request.ReqKind.{ReqKind}
use Rattle.split_types.specs.declared.request.ReqKind.TheVariants.{Read, Pages, Log, Commit, Home, Clear}
use Rattle.split_types.specs.declared.request.Request.{Request}
use Rattle.split_types.specs.declared.workload.Workload.{Workload}
use Rattle.split_types.specs.declared.event.Event.{Event}
use Rattle.split_types.specs.declared.event.Event.TheVariants.{Make, Put, Drop, Flushed, Map, Seal, Add, Done}
use Rattle.split_types.specs.History.{◌▹◌, adds}
use Rattle.split_types.specs.Hooks.{maker}
use Rattle.split_types.specs.Parents.{home_block}
use Rattle.split_types.specs.Reads.{request_numbered}
use Rattle.split_types.specs.Requests.{is_numbered, unfinished}
use Rattle.split_types.specs.Rounds.{seals}
use Rattle.split_types.specs.Workloads.{processes}
use Rattle.split_types.specs.Transactions.{in_journal, oldest_in, clears, is_of_commit, under_way, stage, Stage}
use Rattle.split_types.specs.Transactions.Stage.{Sealed, Logging}
use Rattle.split_types.specs.Accepted.{IsAccepted}
use Rattle.split_types.specs.Legal.{IsLegal}
use Rattle.split_types.specs.Proving.Came.{Came, MayClear, Journals, journal_request}
use Rattle.split_types.specs.Proving.Came.MayClear.{clear_first, clear_next}
use Rattle.split_types.specs.Proving.Came.Came.{came_make, came_drop, came_flushed, came_load, came_add, came_journal, came_done}
use Rattle.split_types.proofs.CameLaws.{came}
use Rattle.split_types.proofs.KeptLists.{any_pushed, in_filter}
use Rattle.split_types.proofs.Lists.{count_push, find_some, list_any_here}
use Rattle.split_types.proofs.SumLaws.{sum_by_raised, count_by_less, count_by_fewer}
use Rattle.split_types.proofs.WorkLaws.{changes}
use Rattle.split_types.proofs.CacheLaws.{is_known}
use Rattle.split_types.proofs.JournalRounds.{seal_is}
use Rattle.split_types.proofs.MarkCounts.{no_marks, no_awaits, marks, marks_are, marks_stay, marks_put, marks_make, marks_drop, marks_map, marks_seal, awaits, awaits_seal, awaits_add, awaits_home_add}

-- ---- what is counted
-- the number of maps
abbrev pub maps : List Event → ℕ
maps [] = 0
maps (h ▹ Map slot serial page n block new size) = maps h + 1
maps (h ▹ e) = maps h

-- the kinds of requests of the journal
abbrev pub is_log : ReqKind → Bool
is_log (Log t) = true
is_log _ = false

abbrev pub is_commit : ReqKind → Bool
is_commit (Commit t) = true
is_commit _ = false

abbrev pub is_home : ReqKind → Bool
is_home (Home t) = true
is_home _ = false

abbrev pub is_clear : ReqKind → Bool
is_clear (Clear t) = true
is_clear _ = false

-- the number of requests of a kind that were added
abbrev pub adds_of : (ReqKind → Bool) → List Event → ℕ
adds_of test [] = 0
adds_of test (h ▹ Add by r) = adds_of test h + cond (test r.kind) 1 0
adds_of test (h ▹ e) = adds_of test h

-- all requests of the journal
abbrev pub journal_adds : List Event → ℕ
journal_adds h = adds_of is_log h + adds_of is_commit h + adds_of is_home h + adds_of is_clear h

-- one more event of process q
pub one_more : (f : ℕ → ℕ) (q : Pid) (m : ℕ) → 1 ≤ q.0 → q.0 ≤ m
    → sum_by f (range_with_len 1 m) + 1 ≤ sum_by (λ p. if q.0 == p then f p + 1 else f p) (range_with_len 1 m)
one_more f q m least most =
    sum_by_raised f (λ p. if q.0 == p then f p + 1 else f p) q.0 1 m (λ p. each (q.0 == p) (f p))
    (rw (eq-eqb q.0 q.0 refl) (omega arith)) least (omega arith)
  where
    each : (b : Bool) (n : ℕ) → n ≤ (if b then n + 1 else n)
    each true n = omega arith
    each false n = omega arith

-- the files that were made or dropped, and the calls that were flushed
abbrev pub changes_of_all : Workload → List Event → ℕ
changes_of_all w h = sum_by (changes h) (processes w)

-- a process makes or drops a file, or is flushed
changed_make : (w : Workload) (h : List Event) (q : Pid) (slot : Slot) (s : Serial) → Came w h (Make q slot s)
    → changes_of_all w h + 1 ≤ changes_of_all w (h ▹ Make q slot s)
changed_make w h q slot s (came_make p name k admitted idle unused at) =
    one_more (changes h) q (length w.procs) admitted.has.first admitted.has.last

changed_drop : (w : Workload) (h : List Event) (q : Pid) (slot : Slot) (s : Serial) → Came w h (Drop q slot s)
    → changes_of_all w h + 1 ≤ changes_of_all w (h ▹ Drop q slot s)
changed_drop w h q slot s (came_drop p name serial working idle) =
    one_more (changes h) q (length w.procs) working.admitted.has.first working.admitted.has.last

changed_flushed : (w : Workload) (h : List Event) (q : Pid) → Came w h (Flushed q)
    → changes_of_all w h + 1 ≤ changes_of_all w (h ▹ Flushed q)
changed_flushed w h q (came_flushed p name serial working idle down) =
    one_more (changes h) q (length w.procs) working.admitted.has.first working.admitted.has.last

-- ---- seals
-- for each seal, and another where something is marked, a file was made, dropped or mapped
some_at_most : (n m : ℕ) → n ≤ m → cond (nat_lt 0 n) 1 0 ≤ cond (nat_lt 0 m) 1 0
some_at_most n m few = elim (cases_Bool (nat_lt 0 m)) [
  | inl some ↦ grind (arith, nat_tests)
  | inr none ↦ grind (arith, nat_tests)
]

one_at_most : (b : Bool) → cond b 1 0 ≤ 1
one_at_most true = omega arith
one_at_most false = omega arith

abbrev some_marked : List Event → ℕ
some_marked h = cond (nat_lt 0 (marks h)) 1 0

sealed : (w : Workload) (h : List Event) → IsLegal w h → seals h + some_marked h ≤ changes_of_all w h + maps h
sealed w [] legal = omega (arith, some_at_most (marks []) 0 (omega (arith, no_marks)))
sealed w (h ▹ Make by slot s) legal =
    omega (
      arith,
      sealed w h legal.1,
      changed_make w h by slot s (came w h (Client by) (Make by slot s) legal.0),
      one_at_most (nat_lt 0 (marks (h ▹ Make by slot s))),
    )
sealed w (h ▹ Drop by slot s) legal =
    omega (
      arith,
      sealed w h legal.1,
      changed_drop w h by slot s (came w h (Client by) (Drop by slot s) legal.0),
      one_at_most (nat_lt 0 (marks (h ▹ Drop by slot s))),
    )
sealed w (h ▹ Flushed by) legal =
    omega (arith, sealed w h legal.1, changed_flushed w h by (came w h (Client by) (Flushed by) legal.0))
sealed w (h ▹ Put by s g from to fill) legal =
    omega (
      arith,
      sealed w h legal.1,
      some_at_most (marks (h ▹ Put by s g from to fill)) (marks h) (marks_put h by s g from to fill),
    )
sealed w (h ▹ Map slot s g n block new size) legal =
    omega (arith, sealed w h legal.1, one_at_most (nat_lt 0 (marks (h ▹ Map slot s g n block new size))))
sealed w (h ▹ Seal t k) legal =
    let some = (seal_is w h t k (came w h Cm (Seal t k) legal.0)).may.some
    in let marked : some_marked h ≡ 1 = ap (λ b. cond b 1 0) (lt-ltb 0 (marks h) (omega (arith, some, marks_are h)))
    in let none : some_marked (h ▹ Seal t k) ≡ 0 = ap (λ n. cond (nat_lt 0 n) 1 0) (marks_seal h t k)
    in omega (arith, sealed w h legal.1, marked, none)
sealed w (h ▹ Add by r) legal =
    omega (
      arith,
      sealed w h legal.1,
      some_at_most (marks (h ▹ Add by r)) (marks h) (marks_stay h (Add by r) (λ b. refl)),
    )
sealed w (h ▹ e) legal = sealed w h legal.1

-- ---- logs and commit requests
-- a log of the transaction that was sealed last is still to come, or its commit request
abbrev needs_log : Stage → Bool
needs_log (Sealed t k) = true
needs_log _ = false

abbrev needs_commit : Stage → Bool
needs_commit (Sealed t k) = true
needs_commit (Logging t) = true
needs_commit _ = false

-- a request of the journal of this kind was added after h
logged_after : (w : Workload) (h : List Event) (kind : ReqKind) (first n : ℕ) → Journals w h kind first n
    → adds_of is_log h + cond (needs_log (stage h)) 1 0 ≤ seals h
    → adds_of is_log (h ▹ Add Cm (journal_request (adds h) kind first n))
    + cond (needs_log (stage (h ▹ Add Cm (journal_request (adds h) kind first n)))) 1 0 ≤ seals h
logged_after w h (Read p s g) first n j k = absurd (j)
logged_after w h (Pages s g) first n j k = absurd (j)
logged_after w h (Log t) first n j k =
    omega (arith, subst (λ s. adds_of is_log h + cond (needs_log s) 1 0 ≤ seals h) j.before k)
logged_after w h (Commit t) first n j k = omega (arith, k)
logged_after w h (Home t) first n j k = omega (arith, k)
logged_after w h (Clear t) first n j k = omega (arith, k)

logged_came : (w : Workload) (h : List Event) (by : Actor) (r : Request) → Came w h (Add by r)
    → adds_of is_log h + cond (needs_log (stage h)) 1 0 ≤ seals h
    → adds_of is_log (h ▹ Add by r) + cond (needs_log (stage (h ▹ Add by r))) 1 0 ≤ seals h
logged_came w h by r (came_load p c s piece here absent block at) k = omega (arith, k)
logged_came w h by r (came_add run block at there placed long) k = omega (arith, k)
logged_came w h by r (came_journal kind first n j) k = logged_after w h kind first n j k

logged : (w : Workload) (h : List Event) → IsLegal w h → adds_of is_log h + cond (needs_log (stage h)) 1 0 ≤ seals h
logged w [] legal = omega arith
logged w (h ▹ Seal t k) legal = omega (arith, logged w h legal.1)
logged w (h ▹ Add by r) legal =
    logged_came w h by r (came w h (maker (Add by r)) (Add by r) legal.0) (logged w h legal.1)
logged w (h ▹ e) legal = logged w h legal.1

committed_after : (w : Workload) (h : List Event) (kind : ReqKind) (first n : ℕ) → Journals w h kind first n
    → adds_of is_commit h + cond (needs_commit (stage h)) 1 0 ≤ seals h
    → adds_of is_commit (h ▹ Add Cm (journal_request (adds h) kind first n))
    + cond (needs_commit (stage (h ▹ Add Cm (journal_request (adds h) kind first n)))) 1 0 ≤ seals h
committed_after w h (Read p s g) first n j k = absurd (j)
committed_after w h (Pages s g) first n j k = absurd (j)
committed_after w h (Log t) first n j k =
    omega (arith, subst (λ s. adds_of is_commit h + cond (needs_commit s) 1 0 ≤ seals h) j.before k)
committed_after w h (Commit t) first n j k =
    omega (arith, subst (λ s. adds_of is_commit h + cond (needs_commit s) 1 0 ≤ seals h) j.before k)
committed_after w h (Home t) first n j k = omega (arith, k)
committed_after w h (Clear t) first n j k = omega (arith, k)

committed_came : (w : Workload) (h : List Event) (by : Actor) (r : Request) → Came w h (Add by r)
    → adds_of is_commit h + cond (needs_commit (stage h)) 1 0 ≤ seals h
    → adds_of is_commit (h ▹ Add by r) + cond (needs_commit (stage (h ▹ Add by r))) 1 0 ≤ seals h
committed_came w h by r (came_load p c s piece here absent block at) k = omega (arith, k)
committed_came w h by r (came_add run block at there placed long) k = omega (arith, k)
committed_came w h by r (came_journal kind first n j) k = committed_after w h kind first n j k

committed : (w : Workload) (h : List Event) → IsLegal w h
    → adds_of is_commit h + cond (needs_commit (stage h)) 1 0 ≤ seals h
committed w [] legal = omega arith
committed w (h ▹ Seal t k) legal = omega (arith, committed w h legal.1)
committed w (h ▹ Add by r) legal =
    committed_came w h by r (came w h (maker (Add by r)) (Add by r) legal.0) (committed w h legal.1)
committed w (h ▹ e) legal = committed w h legal.1

-- ---- home requests
-- for each home request, each buffer that awaits one, and each that is marked, a file was made, dropped or mapped
homed_after : (w : Workload) (h : List Event) (kind : ReqKind) (first n : ℕ) → Journals w h kind first n
    → adds_of is_home (h ▹ Add Cm (journal_request (adds h) kind first n))
    + awaits (h ▹ Add Cm (journal_request (adds h) kind first n)) ≤ adds_of is_home h + awaits h
homed_after w h (Read p s g) first n j = absurd (j)
homed_after w h (Pages s g) first n j = absurd (j)
homed_after w h (Log t) first n j =
    omega (arith, awaits_add h Cm (journal_request (adds h) (Log t) first n))
homed_after w h (Commit t) first n j =
    omega (arith, awaits_add h Cm (journal_request (adds h) (Commit t) first n))
homed_after w h (Home t) first n j =
    omega (
      arith,
      awaits_home_add h Cm (journal_request (adds h) (Home t) first n) j.buffer j.awaits
          (λ c same. eq-eqb first (home_block c) (j.place ∙ sym same)),
    )
homed_after w h (Clear t) first n j =
    omega (arith, awaits_add h Cm (journal_request (adds h) (Clear t) first n))

homed_came : (w : Workload) (h : List Event) (by : Actor) (r : Request) → Came w h (Add by r)
    → adds_of is_home (h ▹ Add by r) + awaits (h ▹ Add by r) ≤ adds_of is_home h + awaits h
homed_came w h by r (came_load p c s piece here absent block at) = omega (arith, awaits_add h by r)
homed_came w h by r (came_add run block at there placed long) = omega (arith, awaits_add h by r)
homed_came w h by r (came_journal kind first n j) = homed_after w h kind first n j

homed : (w : Workload) (h : List Event) → IsLegal w h
    → adds_of is_home h + awaits h + marks h ≤ 3 * changes_of_all w h + 2 * maps h
homed w [] legal = omega (arith, no_marks, no_awaits)
homed w (h ▹ Make by slot s) legal =
    omega (
      arith,
      homed w h legal.1,
      changed_make w h by slot s (came w h (Client by) (Make by slot s) legal.0),
      marks_make h by slot s,
    )
homed w (h ▹ Drop by slot s) legal =
    omega (
      arith,
      homed w h legal.1,
      changed_drop w h by slot s (came w h (Client by) (Drop by slot s) legal.0),
      marks_drop h by slot s,
    )
homed w (h ▹ Flushed by) legal =
    omega (arith, homed w h legal.1, changed_flushed w h by (came w h (Client by) (Flushed by) legal.0))
homed w (h ▹ Put by s g from to fill) legal = omega (arith, homed w h legal.1, marks_put h by s g from to fill)
homed w (h ▹ Map slot s g n block new size) legal =
    omega (arith, homed w h legal.1, marks_map h slot s g n block new size)
homed w (h ▹ Seal t k) legal = omega (arith, homed w h legal.1, awaits_seal h t k, marks_seal h t k)
homed w (h ▹ Add by r) legal =
    omega (
      arith,
      homed w h legal.1,
      homed_came w h by r (came w h (maker (Add by r)) (Add by r) legal.0),
      marks_stay h (Add by r) (λ b. refl),
    )
homed w (h ▹ e) legal = homed w h legal.1

-- ---- clear requests
-- a request that isn't done well clears the transaction
abbrev is_clearing : List Event → Txn → Bool
is_clearing h t = list_any (λ r. clears t (Some r)) (unfinished h)

-- the transactions in the journal that none clears
abbrev uncleared : List Event → ℕ
uncleared h = count_by (λ t. not (is_clearing h t)) (in_journal h)

-- a request that is added leaves no more
uncleared_add : (h : List Event) (by : Actor) (r : Request) → uncleared (h ▹ Add by r) ≤ uncleared h
uncleared_add h by r =
    count_by_less (λ t. not (is_clearing (h ▹ Add by r) t)) (λ t. not (is_clearing h t)) (in_journal h)
    (λ t is. elim (cases_Bool (is_clearing h t)) [
      | inr none ↦ not_from_false (is_clearing h t) none
      | inl some ↦
          absurd
          (both_ways (is_clearing (h ▹ Add by r) t) (not-true (is_clearing (h ▹ Add by r) t) is)
          (any_pushed (λ x. clears t (Some x)) (unfinished h) r ∙ or_right (clears t (Some r)) (is_clearing h t) some))
    ])

-- where no request of the commit thread is under way, none clears
none_clears : (h : List Event) (t : Txn) → under_way h ≡ 0 → is_clearing h t ≡ false
none_clears h t none = go (unfinished h) none
  where
    kind_of : (r : Request) → clears t (Some r) ≡ true → is_of_commit r ≡ true
    kind_of r is = of_kind r.kind is
      where
        of_kind : (k : ReqKind) → clears t (Some (record { id = r.id; kind = k; first = r.first; n = r.n })) ≡ true
            → is_of_commit (record { id = r.id; kind = k; first = r.first; n = r.n }) ≡ true
        of_kind (Clear u) is = refl
        of_kind k is = absurd (cc)

    go : (rs : List Request) → length (filter is_of_commit rs) ≡ 0
        → list_any (λ r. clears t (Some r)) rs ≡ false
    go [] is = refl
    go (r ∷ rs) is = elim (cases_Bool (is_of_commit r)) [
      | inl here ↦ absurd (let more = ap length (cond-true (is_of_commit r) (r ∷ filter is_of_commit rs)
          (filter is_of_commit rs) here) in omega (arith, is, more))
      | inr past ↦
          false_from_ne_true (list_any (λ r. clears t (Some r)) (r ∷ rs))
          (λ any. elim (or_cases (clears t (Some r)) (list_any (λ r. clears t (Some r)) rs) any) [
            | inl this ↦ both_ways (is_of_commit r) past (kind_of r this)
            | inr later ↦
                both_ways (list_any (λ r. clears t (Some r)) rs)
                (go rs (sym (ap length (cond-false (is_of_commit r) (r ∷ filter is_of_commit rs)
                (filter is_of_commit rs) past)) ∙ is)) later
          ])
    ]

done_before : (h : List Event) → MayClear h → under_way h ≡ 0
done_before h (clear_first t at home done) = done
done_before h (clear_next t at done) = done

-- the oldest transaction in the journal is cleared: one less is left
uncleared_clear : (h : List Event) (id first n : ℕ) (t : Txn) → under_way h ≡ 0 → oldest_in (in_journal h) ≡ Some t
    → uncleared (h ▹ Add Cm (journal_request id (Clear t) first n)) + 1 ≤ uncleared h
uncleared_clear h id first n t done oldest =
    let r = journal_request id (Clear t) first n
    in count_by_fewer (λ u. not (is_clearing (h ▹ Add Cm r) u)) (λ u. not (is_clearing h u)) (λ u. t.0 == u.0)
    (in_journal h) (λ u is. not_from_false (is_clearing h u) (none_clears h u done))
    (λ u same. (
      not_from_false (is_clearing h u) (none_clears h u done),
      ap not (any_pushed (λ x. clears u (Some x)) (unfinished h) r ∙ or_left (clears u (Some r)) (is_clearing h u) same),
    )) (first_in (in_journal h) oldest)
  where
    first_in : (ts : List Txn) → oldest_in ts ≡ Some t → list_any (λ u. t.0 == u.0) ts ≡ true
    first_in [] is = absurd (cc)
    first_in (u ∷ ts) is =
        or_left (t.0 == u.0) (list_any (λ v. t.0 == v.0) ts) (eq-eqb t.0 u.0 (ap (λ x. x.0) (sym (same_Some u t is))))

cleared_after : (w : Workload) (h : List Event) (kind : ReqKind) (first n : ℕ) → Journals w h kind first n
    → adds_of is_clear (h ▹ Add Cm (journal_request (adds h) kind first n))
    + uncleared (h ▹ Add Cm (journal_request (adds h) kind first n)) ≤ adds_of is_clear h + uncleared h
cleared_after w h (Read p s g) first n j = absurd (j)
cleared_after w h (Pages s g) first n j = absurd (j)
cleared_after w h (Log t) first n j =
    omega (arith, uncleared_add h Cm (journal_request (adds h) (Log t) first n))
cleared_after w h (Commit t) first n j =
    omega (arith, uncleared_add h Cm (journal_request (adds h) (Commit t) first n))
cleared_after w h (Home t) first n j =
    omega (arith, uncleared_add h Cm (journal_request (adds h) (Home t) first n))
cleared_after w h (Clear t) first n j =
    omega (arith, uncleared_clear h (adds h) first n t (done_before h j.before) j.oldest)

cleared_came : (w : Workload) (h : List Event) (by : Actor) (r : Request) → Came w h (Add by r)
    → adds_of is_clear (h ▹ Add by r) + uncleared (h ▹ Add by r) ≤ adds_of is_clear h + uncleared h
cleared_came w h by r (came_load p c s piece here absent block at) = omega (arith, uncleared_add h by r)
cleared_came w h by r (came_add run block at there placed long) = omega (arith, uncleared_add h by r)
cleared_came w h by r (came_journal kind first n j) = cleared_after w h kind first n j

-- what a filter keeps passes a test only where it passed another
kept_fewer : {X : Type 0} (p r q : X → Bool) (xs : List X) → ((x : X) → q x ≡ true → r x ≡ true → p x ≡ true)
    → count_by r (filter q xs) ≤ count_by p xs
kept_fewer p r q [] each = omega arith
kept_fewer p r q (x ∷ xs) each = elim (cases_Bool (q x)) [
  | inr out ↦
      subst (λ l. count_by r l ≤ count_by p (x ∷ xs))
      (sym (cond-false (q x) (x ∷ filter q xs) (filter q xs) out))
      (omega (arith, kept_fewer p r q xs each, sum_by-cons (λ y. cond (p y) 1 0) x xs))
  | inl kept ↦
      subst (λ l. count_by r l ≤ count_by p (x ∷ xs))
      (sym (cond-true (q x) (x ∷ filter q xs) (filter q xs) kept))
      (omega (
        arith,
        kept_fewer p r q xs each,
        sum_by-cons (λ y. cond (p y) 1 0) x xs,
        sum_by-cons (λ y. cond (r y) 1 0) x (filter q xs),
        one (r x) (p x) (each x kept),
      ))
]
  where
    one : (a b : Bool) → (a ≡ true → b ≡ true) → cond a 1 0 ≤ cond b 1 0
    one false b is = omega arith
    one true true is = omega arith
    one true false is = absurd (let h = is refl in cc)

-- a request that is done clears what it clears
uncleared_done : (w : Workload) (h : List Event) (k : ℕ) (id : ReqId) (ok : Bool) → IsAccepted w → IsLegal w h
    → Came w h (Done k id ok) → uncleared (h ▹ Done k id ok) ≤ uncleared h
uncleared_done w h k id ok accepted legal (came_done j r at) =
    kept_fewer (λ t. not (is_clearing h t)) (λ t. not (is_clearing (h ▹ Done k r.id true) t))
    (λ t. not (clears t (request_numbered h r.id))) (in_journal h)
    (λ t kept none. elim (cases_Bool (is_clearing h t)) [
      | inr free ↦ not_from_false (is_clearing h t) free
      | inl some ↦
          absurd
          (both_ways (is_clearing (h ▹ Done k r.id true) t)
          (not-true (is_clearing (h ▹ Done k r.id true) t) none)
          (still t (not-true (clears t (request_numbered h r.id)) kept) some))
    ])
  where
    same_id : (a b : ReqId) → a.0 ≡ b.0 → a ≡ b
    same_id a b same = ap (λ n. record { 0 = n }) same

    still : (t : Txn) → clears t (request_numbered h r.id) ≡ false → is_clearing h t ≡ true
        → is_clearing (h ▹ Done k r.id true) t ≡ true
    still t kept some =
        let f = is_known w h accepted legal
        in let found = find_some (λ x. clears t (Some x)) (unfinished h) some
        in let x = found.element
        in let named : request_numbered h x.id ≡ Some x =
        f.kept_pages.named found.place x (ap (λ l. slice_get l found.place) f.well ∙ found.there)
        in let other : is_numbered r.id x ≡ false =
        false_from_ne_true (is_numbered r.id x)
        (λ same. both_ways (clears t (Some x))
        (sym (ap (clears t) (sym (ap (request_numbered h) (same_id x.id r.id (eqb-true x.id.0 r.id.0 same))) ∙ named))
        ∙ kept) found.passes)
        in let left = in_filter (λ y. not (is_numbered r.id y)) (unfinished h) found.place x found.there
        (not_from_false (is_numbered r.id x) other)
        in list_any_here (λ y. clears t (Some y)) (filter (λ y. not (is_numbered r.id y)) (unfinished h)) left.0 x
        left.1 found.passes

cleared : (w : Workload) (h : List Event) → IsAccepted w → IsLegal w h
    → adds_of is_clear h + uncleared h ≤ seals h
cleared w [] accepted legal = omega arith
cleared w (h ▹ Seal t k) accepted legal =
    omega (
      arith,
      cleared w h accepted legal.1,
      count_push (λ u. not (is_clearing h u)) (in_journal h) t,
      one_at_most (not (is_clearing h t)),
    )
cleared w (h ▹ Add by r) accepted legal =
    omega (
      arith,
      cleared w h accepted legal.1,
      cleared_came w h by r (came w h (maker (Add by r)) (Add by r) legal.0),
    )
cleared w (h ▹ Done k id ok) accepted legal =
    omega (
      arith,
      cleared w h accepted legal.1,
      uncleared_done w h k id ok accepted legal.1 (came w h (maker (Done k id ok)) (Done k id ok) legal.0),
    )
cleared w (h ▹ e) accepted legal = cleared w h accepted legal.1

-- ---- all of them
-- a seal needs a change or a map; each transaction is logged, committed and cleared once, and each change or map brings
-- three or two buffers home at most
pub record JournalTally (w : Workload) (h : List Event) : Type 0 where
  pub sealed : seals h ≤ changes_of_all w h + maps h
  pub added : journal_adds h ≤ 3 * seals h + 3 * changes_of_all w h + 2 * maps h

pub journal_tally : (w : Workload) (h : List Event) → IsAccepted w → IsLegal w h → JournalTally w h
journal_tally w h accepted legal = record {
  sealed = omega (arith, sealed w h legal);
  added =
      omega (arith, logged w h legal, committed w h legal, homed w h legal, cleared w h accepted legal);
}
