-- What the journal has to do with a history, over a completion of a home or a clear request, and so over any completion.
use Rattle.std.proofs.Common.{◌≡◌, ℕ, ◌+◌, ◌-◌, ◌==◌, ◌<◌, ◌≤◌, List, [], ◌∷◌, length, filter, slice_get, nat_lt, nat_le, ◌&&◌, Bool, true, false, not, ◌||◌, ◌⊎◌, set, Some, None, refl, ap, sym, subst, ◌∙◌, inl, inr, arith, length-set, if◌then◌else◌}
use Rattle.std.specs.Option.{is_some}
use Rattle.std.proofs.lemmas.Bool.{cases_Bool, or_parts, or_cases, both_ways, ltb-true, ltb-false, lt-ltb, le-ltb}
use Rattle.split_types.specs.declared.ids.Txn.{Txn}
use Rattle.split_types.specs.declared.request.ReqKind.{ReqKind}
use Rattle.split_types.specs.declared.request.ReqKind.TheVariants as kind
use Rattle.split_types.specs.declared.request.Request.{Request}
use Rattle.split_types.specs.declared.workload.Workload.{Workload}
use Rattle.split_types.specs.declared.event.Event.{Event}
use Rattle.split_types.specs.declared.event.Event.TheVariants.{Done}
use Rattle.split_types.specs.History.{◌▹◌}
use Rattle.split_types.specs.FileMaps.{is_committed}
use Rattle.split_types.specs.Reads.{request_numbered}
use Rattle.split_types.specs.Requests.{in_flight}
use Rattle.split_types.specs.Rounds.{seals, last_txn, slot_of_txn}
use Rattle.split_types.specs.Transactions.{clears, in_journal, oldest_in, awaits_home, next_home, is_of_commit, under_way, stage, Stage}
use Rattle.split_types.specs.Transactions.Stage.{Fresh, Sealed, Logging, Committing, Homing, Clearing}
use Rattle.split_types.specs.Proving.Known.{KnownRequests}
use Rattle.split_types.specs.Proving.JournalKnown.{AreInARow, AtStage, AreHomes, IsOpenAt, JournalKnown}
use Rattle.split_types.proofs.JournalRows.{row_clear, row_length}
use Rattle.proxies.specs.declared.commit.Commit.TheVariants.{Idle, Homes, Clear}
use Rattle.journal_core.specs.declared.work.Work.{Work}
use Rattle.journal_core.specs.Places.{blocks_of}
use Rattle.journal_core.specs.Work.{txn}
use Rattle.journal_core.specs.Journaled.{Journaled, after_done}
use Rattle.split_core.specs.Journaling.{is_commit_request}
use Rattle.split_core.proofs.JournalWorkPlaces.{blocks_first}
use Rattle.split_core.proofs.JournalWorkKnown.{GoesHome, Clears, Works, Stands, work_of, stands_on, same_txn}
use Rattle.split_core.proofs.JournalWorkDone.{OneDone, named, held_done, keeps_done, after_done_is, done_with, left_some, none_of, same_clear, less, of_kind, stays, logged_done, committed_done}

-- ---- the first in the journal
-- the first transaction in the journal, where none of its round is cleared: its slot is the first, and the round has all
-- that the journal holds
record IsFirst (h : List Event) : Type 0 where
  first : Txn
  oldest : oldest_in (in_journal h) ≡ Some first
  number : first.0 + length (in_journal h) ≡ seals h + 1
  slot : slot_of_txn h first ≡ 0
  used : length (in_journal h) ≡ slot_of_txn h (last_txn h) + 1

is_first : (w : Workload) (h : List Event) (j : JournalKnown w h) → j.base ≡ j.cleared → j.cleared < seals h → IsFirst h
is_first w h j same some = by_row (in_journal h) refl j.row
  where
    by_row : (ts : List Txn) → in_journal h ≡ ts → AreInARow j.cleared ts (seals h) → IsFirst h
    by_row [] is row = absurd (omega (arith, row, some))
    by_row (u ∷ ts) is row =
        let long : j.cleared + length (u ∷ ts) ≡ seals h = row_length j.cleared (u ∷ ts) (seals h) row in
        let held : length (in_journal h) ≡ length (u ∷ ts) = ap length is in
        let slot = j.slots.slot_is u (omega (arith, same, row.0)) (omega (arith, row.0, some)) in
        let last = j.slots.slot_is (last_txn h) (omega (arith, same, some)) (omega arith) in
        record {
          first = u;
          oldest = ap oldest_in is;
          number = omega (arith, long, held, row.0);
          slot = omega (arith, slot, same, row.0);
          used = omega (arith, long, held, last, same);
        }

-- the transactions behind the one that is cleared
record AreRest (w : Workload) (h : List Event) (known : JournalKnown w h) (u : Txn) (ts : List Txn) : Type 0 where
  number : u.0 ≡ known.cleared + 1
  slot : slot_of_txn h u + known.base + 1 ≡ u.0
  last : slot_of_txn h (last_txn h) + known.base + 1 ≡ seals h
  row : AreInARow (known.cleared + 1) ts (seals h)

are_rest : (w : Workload) (h : List Event) (known : JournalKnown w h) (u : Txn) (ts : List Txn) → in_journal h ≡ u ∷ ts
    → AreRest w h known u ts
are_rest w h known u ts is =
    let row : AreInARow known.cleared (u ∷ ts) (seals h) =
    subst (λ l. AreInARow known.cleared l (seals h)) is known.row in
    let long = row_length known.cleared (u ∷ ts) (seals h) row in
    record {
      number = row.0;
      slot = known.slots.slot_is u (omega (arith, known.slots.order, row.0)) (omega (arith, row.0, long));
      last = known.slots.slot_is (last_txn h) (omega (arith, known.slots.order, long)) (omega arith);
      row = row.1;
    }

module _ (w : Workload) (h : List Event) (k : ℕ) (r : Request) (j : Journaled (List ℕ)) (d : OneDone w h k r j) where
  abbrev after : List Event
  after = h ▹ Done k r.id true

  fewer : under_way after + 1 ≡ under_way h
  fewer = less w h k r j d

  -- ---- a home request
  home_done : (t : Txn) → stage h ≡ Homing t → r.kind ≡ kind.Home t → d.known.base ≡ d.known.cleared
      → d.known.cleared < seals h → GoesHome h j.work t → Stands w after (after_done j)
  home_done t is kd same some goes = elim (cases_Bool (more || nat_lt 1 (under_way h))) [
    | inl on ↦
        subst (Stands w after) (sym (made true on))
        (done_with w h k r j going j.slots d.stands refl
        (subst (Works after going (length j.logged)) (sym is) (inl (record {
          slot = goes.slot;
          added = goes.added;
          work_is =
              ap (λ n. work_of (Homes t goes.slot goes.added) n (seals h) (seals h) (length (in_journal h)))
              (omega (arith, fewer))
              ∙ ap (λ l. work_of (Homes t goes.slot goes.added) (under_way after) (seals h) (seals h)
              (length {A = Txn} l)) (sym held);
          some = λ none. others none (or_cases more (nat_lt 1 (under_way h)) on);
        })))
        (stays w h k r j d before goes.work_is (λ u. rw kd refl)))
    | inr last ↦
        (let parts = or_parts more (nat_lt 1 (under_way h)) last in
        let first = is_first w h d.known same some in
        let none : next_home h ≡ None = none_of (next_home h) (sym left ∙ parts.0) in
        let idle : under_way after ≡ 0 = omega (arith, fewer, ltb-false 1 (under_way h) parts.1) in
        subst (Stands w after) (sym (made false last))
        (done_with w h k r j clearing j.slots d.stands refl
        (subst (Works after clearing (length j.logged)) (sym is) (inr (
          none,
          idle,
          record {
            txn = first.first;
            oldest = ap oldest_in held ∙ first.oldest;
            work_is =
                same_clear (txn (seals h + 1 - used)) first.first 0 (slot_of_txn h first.first) 0 (under_way after)
                (seals h) used (slot_of_txn h (last_txn h) + 1)
                (same_txn (txn (seals h + 1 - used)) first.first (omega (arith, first.number))) (sym first.slot) (sym idle)
                first.used;
          },
        )))
        (stays w h k r j d before goes.work_is (λ u. rw kd refl))))
  ]
    where
      used : ℕ
      used = length (in_journal h)

      more : Bool
      more = nat_lt 0 (length (blocks_of j.round))

      left : more ≡ is_some (next_home h)
      left =
          left_some (blocks_of j.round) (next_home h)
          (blocks_first (awaits_home h) j.round d.stands.round_long d.stands.round_is)

      held : in_journal after ≡ in_journal h
      held = held_done h k r d.requests_known d.at (λ u. rw kd refl)

      before : Work
      before = work_of (Homes t goes.slot goes.added) (under_way h) (seals h) (seals h) used

      going : Work
      going = work_of (Homes t goes.slot goes.added) (under_way h - 1) (seals h) (seals h) used

      clearing : Work
      clearing = work_of (Clear (txn (seals h + 1 - used)) 0) 0 (seals h) (seals h) used

      made : (b : Bool) → (more || nat_lt 1 (under_way h)) ≡ b
          → after_done j ≡ record j { work = if b then going else clearing }
      made b is =
          after_done_is j before goes.work_is
          ∙ ap (λ x. record j { work = if x then going else clearing }) is

      others : next_home h ≡ None → (more ≡ true) ⊎ (nat_lt 1 (under_way h) ≡ true) → 1 ≤ under_way after
      others none (inl on) = absurd (both_ways more (left ∙ ap is_some none) on)
      others none (inr on) = omega (arith, fewer, ltb-true 1 (under_way h) on)

  -- ---- a clear request
  clear_done : (t : Txn) → stage h ≡ Clearing t → r.kind ≡ kind.Clear t → t.0 ≡ d.known.cleared + 1
      → under_way h ≡ 1 → Clears h j.work → Stands w after (after_done j)
  clear_done t is kd number one doing = by_held (in_journal h) refl
    where
      idle : under_way after ≡ 0
      idle = omega (arith, fewer, one)

      u : Txn
      u = doing.txn

      slot : ℕ
      slot = slot_of_txn h u

      used : ℕ
      used = slot_of_txn h (last_txn h) + 1

      before : Work
      before = work_of (Clear u slot) (under_way h) (seals h) (seals h) used

      next : Work
      next = work_of (Clear (txn (u.0 + 1)) (slot + 1)) 0 (seals h) (seals h) used

      rest : Work
      rest = work_of Idle 0 (seals h) (seals h) 0

      made : (b : Bool) → nat_lt (slot + 1) used ≡ b
          → after_done j ≡ record j { slots = set j.slots slot None; work = if b then next else rest }
      made b is =
          after_done_is j before doing.work_is
          ∙ ap (λ x. record j { slots = set j.slots slot None; work = if x then next else rest }) is

      done : (b : Bool) → nat_lt (slot + 1) used ≡ b
          → Works after (if b then next else rest) (length j.logged) (Clearing t)
          → ((x : Txn) → is_committed after x
          ≡ (nat_le 1 x.0 && nat_le x.0 (if b then next else rest).committed))
          → Stands w after (after_done j)
      done b test works committed =
          subst (Stands w after) (sym (made b test))
          (done_with w h k r j (if b then next else rest) (set j.slots slot None) d.stands (length-set j.slots slot None)
          (subst (Works after (if b then next else rest) (length j.logged)) (sym is) works) committed)

      by_held : (ts : List Txn) → in_journal h ≡ ts → Stands w after (after_done j)
      by_held [] at = absurd (let some : None ≡ Some u = sym (ap oldest_in at) ∙ doing.oldest in cc)
      by_held (v ∷ ts) at =
          let same : v ≡ u = let both : Some v ≡ Some u = sym (ap oldest_in at) ∙ doing.oldest in cc in
          let rests : AreRest w h d.known u ts = are_rest w h d.known u ts (at ∙ ap (λ x. x ∷ ts) same) in
          let held : in_journal after ≡ ts =
          ap (λ o. filter (λ x. not (clears x o)) (in_journal h)) (named h k r d.requests_known d.at)
          ∙ rw kd (ap (filter (λ x. not (t.0 == x.0))) (at ∙ ap (λ x. x ∷ ts) same))
          ∙ row_clear t.0 d.known.cleared u ts (seals h) number (rests.number, rests.row) in
          by_rest ts rests held
        where
          by_rest : (ts : List Txn) → AreRest w h d.known u ts → in_journal after ≡ ts → Stands w after (after_done j)
          by_rest [] rests held =
              let all : seals h ≡ u.0 = omega (arith, rests.number, rests.row) in
              let past : nat_lt (slot + 1) used ≡ false =
              le-ltb (slot + 1) used (omega (arith, rests.slot, rests.last, all)) in
              done false past
              (inr (idle, held, ap (λ l. work_of Idle 0 (seals h) (seals h) (length {A = Txn} l)) (sym held)))
              (stays w h k r j d before doing.work_is (λ x. rw kd refl))
          by_rest (v ∷ ts) rests held =
              let number : v.0 ≡ u.0 + 1 = omega (arith, rests.number, rests.row.0) in
              let high : v.0 ≤ seals h =
              omega (arith, row_length (d.known.cleared + 1) (v ∷ ts) (seals h) rests.row, rests.row.0) in
              let at : slot_of_txn h v + d.known.base + 1 ≡ v.0 =
              d.known.slots.slot_is v (omega (arith, number, rests.slot)) high in
              let on : nat_lt (slot + 1) used ≡ true =
              lt-ltb (slot + 1) used (omega (arith, rests.slot, rests.last, number, high)) in
              done true on
              (inl (record {
                txn = v;
                oldest = ap oldest_in held;
                work_is =
                    same_clear (txn (u.0 + 1)) v (slot + 1) (slot_of_txn h v) 0 (under_way after) (seals h) used used
                    (same_txn (txn (u.0 + 1)) v (sym number)) (omega (arith, at, number, rests.slot)) (sym idle) refl;
              }))
              (stays w h k r j d before doing.work_is (λ x. rw kd refl))

  -- ---- any request of the commit thread
  commit_done : Stands w after (after_done j)
  commit_done = by_stage (stage h) refl d.known.stands d.stands.works d.known.slots.open_is
    where
      one : 1 ≤ under_way h
      one = omega (arith, fewer)

      by_stage : (s : Stage) → stage h ≡ s → AtStage h d.known.cleared s → Works h j.work (length j.logged) s
          → IsOpenAt h d.known.base d.known.cleared s → Stands w after (after_done j)
      by_stage Fresh is at works opens = absurd (omega (arith, one, at.0))
      by_stage (Sealed t n) is at works opens = absurd (omega (arith, one, at.0))
      by_stage (Logging t) is at (inl works) opens =
          logged_done w h k r j d t is (of_kind w h k r j d (kind.Log t) at.3) works.0 works.1
      by_stage (Logging t) is at (inr works) opens = absurd (omega (arith, one, works.0))
      by_stage (Committing t) is at (inl works) opens =
          committed_done w h k r j d t is (of_kind w h k r j d (kind.Commit t) at.3) at.1 works.0 works.1
      by_stage (Committing t) is at (inr works) opens = absurd (omega (arith, one, works.0))
      by_stage (Homing t) is at (inl works) opens =
          let homes : AreHomes h t = at.2 in
          home_done t is (of_kind w h k r j d (kind.Home t) homes.kinds) opens.0 (omega (arith, at.0, at.1)) works
      by_stage (Homing t) is at (inr works) opens = absurd (omega (arith, one, works.1))
      by_stage (Clearing t) is (inl at) (inl works) opens =
          clear_done t is (of_kind w h k r j d (kind.Clear t) at.2) at.1 at.0 works
      by_stage (Clearing t) is (inr none) works opens = absurd (omega (arith, one, none))
      by_stage (Clearing t) is (inl at) (inr works) opens = absurd (omega (arith, one, works.0))

-- ---- any request
pages_stand : (w : Workload) (h : List Event) (k : ℕ) (r : Request) (j : Journaled (List ℕ)) → KnownRequests h
    → slice_get (in_flight h) k ≡ Some r → is_of_commit r ≡ false → Stands w h j
    → Stands w (h ▹ Done k r.id true) j
pages_stand w h k r j f at none s = by_kind r.kind refl
  where
    by_kind : (kd : ReqKind) → r.kind ≡ kd → Stands w (h ▹ Done k r.id true) j
    by_kind (kind.Read p x g) is =
        stands_on w h (h ▹ Done k r.id true) j (keeps_done h k r f at none (λ t. rw is refl) (λ t. rw is refl))
        (λ b metadata. refl) s
    by_kind (kind.Pages x g) is =
        stands_on w h (h ▹ Done k r.id true) j (keeps_done h k r f at none (λ t. rw is refl) (λ t. rw is refl))
        (λ b metadata. refl) s
    by_kind (kind.Log t) is = absurd (both_ways (is_of_commit r) none (rw is refl))
    by_kind (kind.Commit t) is = absurd (both_ways (is_of_commit r) none (rw is refl))
    by_kind (kind.Home t) is = absurd (both_ways (is_of_commit r) none (rw is refl))
    by_kind (kind.Clear t) is = absurd (both_ways (is_of_commit r) none (rw is refl))

pub stands_done : (w : Workload) (h : List Event) (k : ℕ) (r : Request) (j : Journaled (List ℕ)) → KnownRequests h
    → slice_get (in_flight h) k ≡ Some r → JournalKnown w h → Stands w h j
    → Stands w (h ▹ Done k r.id true)
    (if is_commit_request (request_numbered h r.id) then after_done j else j)
stands_done w h k r j f at known s =
    subst (λ o. Stands w (h ▹ Done k r.id true) (if is_commit_request o then after_done j else j))
    (sym (named h k r f at)) (by_test (is_of_commit r) refl)
  where
    by_test : (b : Bool) → is_of_commit r ≡ b → Stands w (h ▹ Done k r.id true) (if b then after_done j else j)
    by_test true is =
        commit_done w h k r j
        (record { requests_known = f; at = at; known = known; stands = s; commits_it = is })
    by_test false is = pages_stand w h k r j f at is s
