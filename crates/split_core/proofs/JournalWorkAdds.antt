-- What the journal has to do with a history, over an add: one of the commit thread's is the next one of its stage.
use Rattle.std.proofs.Common.{◌≡◌, ℕ, ◌+◌, ◌-◌, ◌==◌, ◌≤◌, List, [], ◌∷◌, ◌++◌, length, get_or, set, filter, slice_get, nat_le, nat_lt, cond, Bool, true, false, ◌&&◌, Option, Some, None, option_map, refl, ap, sym, subst, ◌∙◌, inl, inr, arith, length-set}
use Rattle.std.specs.Option.{is_some}
use Rattle.std.proofs.lemmas.Bool.{both_ways}
use Rattle.std.proofs.lemmas.Bool.Decides.{nat_tests}
use Rattle.std.proofs.lemmas.List.Sums.{length-filter}
use Rattle.split_types.specs.declared.ids.Txn.{Txn}
use Rattle.split_types.specs.declared.actor.Actor.{Actor}
use Rattle.split_types.specs.declared.actor.Actor.TheVariants.{Cm}
use Rattle.split_types.specs.declared.buf.Buf.{Buf}
use Rattle.split_types.specs.declared.request.ReqKind.{ReqKind}
use Rattle.split_types.specs.declared.request.ReqKind.TheVariants as kind
use Rattle.split_types.specs.declared.request.Request.{Request}
use Rattle.split_types.specs.declared.workload.Workload.{Workload}
use Rattle.split_types.specs.declared.event.Event.{Event}
use Rattle.split_types.specs.declared.event.Event.TheVariants.{Add}
use Rattle.split_types.specs.History.{◌▹◌, adds}
use Rattle.split_types.specs.ByPlace.{IsMetadata}
use Rattle.split_types.specs.Parents.{metadata_buffers, home_block}
use Rattle.split_types.specs.Requests.{unfinished}
use Rattle.split_types.specs.Rounds.{seals, last_txn, slot_of_txn}
use Rattle.split_types.specs.Transactions.{descriptor_at, commit_at, in_journal, oldest_in, is_marked, awaiting_at, awaits_home, next_home, is_of_commit, under_way, stage, stage_of_add}
use Rattle.split_types.specs.Transactions.Stage.{Sealed, Logging, Homing, Clearing}
use Rattle.split_types.specs.Proving.Came.{Journals, IsLogOf, IsCommitOf, IsHomeOf, IsClearOf, MayGoHome, MayClear, journal_request}
use Rattle.split_types.specs.Proving.Came.MayGoHome.{home_first, home_next}
use Rattle.split_types.specs.Proving.Came.MayClear.{clear_first, clear_next}
use Rattle.split_types.specs.Proving.JournalKnown.{AtStage, JournalKnown}
use Rattle.split_types.proofs.Shared.{slice_get-push, count_push, find_there}
use Rattle.split_types.proofs.JournalRows.{under_add}
use Rattle.split_types.proofs.JournalStepsAdds.{with_request}
use Rattle.split_types.proofs.JournalStepsDone.{some_under_way}
use Rattle.split_types.proofs.JournalStepsSeal.{rested}
use Rattle.proxies.specs.declared.commit.Commit.TheVariants.{Idle, Log, Marking, Homes, Clear}
use Rattle.journal_core.specs.declared.work.Work.{Work}
use Rattle.journal_core.specs.Places.{place_of, place_in, blocks_of}
use Rattle.journal_core.specs.Work.{begun, slot_in, added_work}
use Rattle.journal_core.specs.Journaled as journal
use Rattle.journal_core.specs.Journaled.{Journaled, without, carried_place, after_added}
use Rattle.split_core.proofs.JournalWorkPlaces.{place_within, place_home, same_place, same_home, among_metadata, blocks_first, set_some}
use Rattle.split_core.proofs.JournalWorkKnown.{AreFor, Rests, Writes, GoesHome, Clears, Works, LeavesHomes, Begin, Stands, Keeps, work_of, same_txn}
use Rattle.split_core.proofs.JournalWorkSeal.{rests_idle}

-- ---- a request that moves pages
under_pages : (left : List Request) (r : Request) → is_of_commit r ≡ false
    → length (filter is_of_commit (left ++ r ∷ [])) ≡ length (filter is_of_commit left)
under_pages left r none =
    omega (
      arith,
      length-filter is_of_commit (left ++ r ∷ []),
      length-filter is_of_commit left,
      count_push is_of_commit left r,
      zero_of (is_of_commit r) none,
    )
  where
    zero_of : (b : Bool) → b ≡ false → ◌≡◌ {A = ℕ} (cond b 1 0) 0
    zero_of b is = rw is refl

old_pages : (left : List Request) (r : Request) (i : ℕ) (q : Request) → is_of_commit r ≡ false
    → slice_get (left ++ r ∷ []) i ≡ Some q → is_of_commit q ≡ true → (k : ℕ) × (slice_get left k ≡ Some q)
old_pages left r i q none at commits = elim (slice_get-push left r i q at) [
  | inl old ↦ (i, old)
  | inr this ↦
      absurd (both_ways (is_of_commit q) (subst (λ x. is_of_commit x ≡ false) this.1 none) commits)
]

pub keeps_pages : (h : List Event) (by : Actor) (r : Request) → is_of_commit r ≡ false
    → stage_of_add r.kind (stage h) ≡ stage h → next_home (h ▹ Add by r) ≡ next_home h
    → ((b : Buf) → awaits_home (h ▹ Add by r) b ≡ awaits_home h b) → Keeps h (h ▹ Add by r)
keeps_pages h by r none stays home awaits = record {
  same_stage = stays;
  sealed = refl;
  held = refl;
  slot = λ t. refl;
  under = under_pages (unfinished h) r none;
  left = λ i q at commits. old_pages (unfinished h) r i q none at commits;
  home = home;
  awaits = awaits;
  settled = λ t. refl;
}

-- ---- a request of the commit thread
after_added_is : (j : Journaled (List ℕ)) (work : Work) → j.work ≡ work
    → after_added j ≡ record j {
      round = without (carried_place (slot_in (begun work)) (journal.next_home j)) j.round;
      work = added_work work;
    }
after_added_is j work is =
    ap (λ (x : Work).
    record j { round = without (carried_place (slot_in (begun x)) (journal.next_home j)) j.round; work = added_work x })
    is

-- where none was under way, the new one is the only one
begin_first : (P : ℕ → Type 0) (left : List Request) (r : Request) → length (filter is_of_commit left) ≡ 0
    → P r.first → (i : ℕ) (q : Request) → slice_get (left ++ r ∷ []) i ≡ Some q → is_of_commit q ≡ true → P q.first
begin_first P left r none here i q at commits = elim (slice_get-push left r i q at) [
  | inl old ↦ absurd (omega (arith, none, some_under_way left i q old commits))
  | inr this ↦ subst (λ (x : Request). P x.first) this.1 here
]

settled_on : (n m : ℕ) (h : List Event) (t : Txn) (b : Bool) → m ≡ n → b ≡ (nat_le 1 t.0 && nat_le t.0 n)
    → b ≡ (nat_le 1 t.0 && nat_le t.0 m)
settled_on n m h t b same is = is ∙ ap (λ k. nat_le 1 t.0 && nat_le t.0 k) (sym same)

-- one that brings no buffer home changes the work alone
requested : (w : Workload) (h : List Event) (r : Request) (j : Journaled (List ℕ)) (work : Work) → Stands w h j
    → ((b : Buf) → awaits_home (h ▹ Add Cm r) b ≡ awaits_home h b)
    → ((b : Buf) → is_marked (h ▹ Add Cm r) b ≡ is_marked h b)
    → Works (h ▹ Add Cm r) work (length j.logged) (stage (h ▹ Add Cm r))
    → LeavesHomes (length (blocks_of j.round)) (stage (h ▹ Add Cm r))
    → Begin (h ▹ Add Cm r) (stage (h ▹ Add Cm r)) → work.committed ≡ j.work.committed
    → Stands w (h ▹ Add Cm r) (record j { work = work })
requested w h r j work s awaits marks works homes begin same = record {
  marks_long = s.marks_long;
  round_long = s.round_long;
  slots_long = s.slots_long;
  marks_are = λ b is. s.marks_are b is ∙ sym (marks b);
  round_is = λ b is. s.round_is b is ∙ sym (awaits b);
  works = works;
  homes = homes;
  begin = begin;
  committed = λ t. settled_on j.work.committed work.committed h t _ same (s.committed t);
}

log_stands : (w : Workload) (h : List Event) (t : Txn) (first n : ℕ) (j : Journaled (List ℕ)) → JournalKnown w h
    → IsLogOf h t first n → Stands w h j → Stands w (with_request h (kind.Log t) first n) (after_added j)
log_stands w h t first n j known is s =
    let at : AtStage h known.cleared (Sealed t is.buffers) = subst (AtStage h known.cleared) is.before known.stands in
    let works : Works h j.work (length j.logged) (Sealed t is.buffers) =
    subst (Works h j.work (length j.logged)) is.before s.works in
    let homes : 1 ≤ length (blocks_of j.round) =
    subst (LeavesHomes (length (blocks_of j.round))) is.before s.homes in
    let writes : Writes h j.work (Log t (slot_of_txn h t)) 0 = works.0 in
    let before : Work = work_of (Log t (slot_of_txn h t)) 0 (seals h) writes.committed (length (in_journal h)) in
    let r : Request = journal_request (adds h) (kind.Log t) first n in
    subst (Stands w (with_request h (kind.Log t) first n)) (sym (after_added_is j before writes.work_is))
    (requested w h r j (added_work before) s (λ b. refl) (λ b. refl)
    (inl (
      omega (arith, under_add (unfinished h) r refl, at.0),
      record { committed = writes.committed; before = writes.before; work_is = refl },
    ))
    homes
    (begin_first (λ x. x ≡ descriptor_at (slot_of_txn h t)) (unfinished h) r at.0
    (is.place ∙ ap (λ u. descriptor_at (slot_of_txn h u)) (sym (same_txn t (last_txn h) at.1))))
    (ap (λ (x : Work). x.committed) (sym writes.work_is)))

commit_stands : (w : Workload) (h : List Event) (t : Txn) (first n : ℕ) (j : Journaled (List ℕ)) → JournalKnown w h
    → IsCommitOf h t first n → Stands w h j → Stands w (with_request h (kind.Commit t) first n) (after_added j)
commit_stands w h t first n j known is s = by_case (subst (Works h j.work (length j.logged)) is.before s.works)
  where
    at : AtStage h known.cleared (Logging t)
    at = subst (AtStage h known.cleared) is.before known.stands

    homes : 1 ≤ length (blocks_of j.round)
    homes = subst (LeavesHomes (length (blocks_of j.round))) is.before s.homes

    r : Request
    r = journal_request (adds h) (kind.Commit t) first n

    by_case : Works h j.work (length j.logged) (Logging t)
        → Stands w (with_request h (kind.Commit t) first n) (after_added j)
    by_case (inl one) = absurd (omega (arith, is.done, one.0))
    by_case (inr free) =
        let writes : Writes h j.work (Marking t (slot_of_txn h t)) 0 = free.1 in
        let before : Work = work_of (Marking t (slot_of_txn h t)) 0 (seals h) writes.committed (length (in_journal h)) in
        subst (Stands w (with_request h (kind.Commit t) first n)) (sym (after_added_is j before writes.work_is))
        (requested w h r j (added_work before) s (λ b. refl) (λ b. refl)
        (inl (
          omega (arith, under_add (unfinished h) r refl, is.done),
          record { committed = writes.committed; before = writes.before; work_is = refl },
        ))
        homes
        (begin_first (λ x. x ≡ commit_at (slot_of_txn h t)) (unfinished h) r is.done
        (is.place ∙ ap (λ u. commit_at (slot_of_txn h u)) (sym (same_txn t (last_txn h) at.1))))
        (ap (λ (x : Work). x.committed) (sym writes.work_is)))

-- a clear request, where the first in the journal is next
cleared_stands : (w : Workload) (h : List Event) (t : Txn) (first n : ℕ) (j : Journaled (List ℕ))
    → IsClearOf h t first n → under_way h ≡ 0 → Clears h j.work → Stands w h j
    → Stands w (with_request h (kind.Clear t) first n) (after_added j)
cleared_stands w h t first n j is done clears s =
    let same : clears.txn ≡ t = let both : Some clears.txn ≡ Some t = sym clears.oldest ∙ is.oldest in cc in
    let used = slot_of_txn h (last_txn h) + 1 in
    let before : Work = work_of (Clear t (slot_of_txn h t)) (under_way h) (seals h) (seals h) used in
    let at : j.work ≡ before =
    clears.work_is ∙ ap (λ u. work_of (Clear u (slot_of_txn h u)) (under_way h) (seals h) (seals h) used) same in
    let r : Request = journal_request (adds h) (kind.Clear t) first n in
    subst (Stands w (with_request h (kind.Clear t) first n)) (sym (after_added_is j before at))
    (requested w h r j (added_work before) s (λ b. refl) (λ b. refl)
    (inl (record {
      txn = t;
      oldest = is.oldest;
      work_is =
          ap (λ k. work_of (Clear t (slot_of_txn h t)) k (seals h) (seals h) used)
          (sym (under_add (unfinished h) r refl));
    }))
    tt
    (begin_first (λ x. x ≡ commit_at (slot_of_txn h t)) (unfinished h) r done is.place)
    (ap (λ (x : Work). x.committed) (sym at)))

clear_stands : (w : Workload) (h : List Event) (t : Txn) (first n : ℕ) (j : Journaled (List ℕ))
    → IsClearOf h t first n → Stands w h j → Stands w (with_request h (kind.Clear t) first n) (after_added j)
clear_stands w h t first n j is s = by_before is.before
  where
    by_before : MayClear h → Stands w (with_request h (kind.Clear t) first n) (after_added j)
    by_before (clear_first u at home done) = by_case (subst (Works h j.work (length j.logged)) at s.works)
      where
        by_case : Works h j.work (length j.logged) (Homing u)
            → Stands w (with_request h (kind.Clear t) first n) (after_added j)
        by_case (inl goes) = absurd (omega (arith, done, goes.some home))
        by_case (inr clears) = cleared_stands w h t first n j is done clears.2 s
    by_before (clear_next u at done) = by_case (subst (Works h j.work (length j.logged)) at s.works)
      where
        by_case : Works h j.work (length j.logged) (Clearing u)
            → Stands w (with_request h (kind.Clear t) first n) (after_added j)
        by_case (inl clears) = cleared_stands w h t first n j is done clears s
        by_case (inr rests) =
            absurd (let some : None ≡ Some t = sym (ap oldest_in rests.1) ∙ is.oldest in cc)

-- ---- a request that brings a buffer home
taken : (t : Bool) (places : List ℕ)
    → cond t false (nat_lt 0 (length places)) ≡ nat_lt 0 (length {A = ℕ} (elim t [ true ↦ [] | false ↦ places ]))
taken true places = refl
taken false places = refl

turned : (m n : ℕ) → (m == n) ≡ (n == m)
turned m n = grind (arith, nat_tests)

-- the buffer that goes home next
record Goes (h : List Event) (round : List (Option (List ℕ))) (b : Buf) : Type 0 where
  metadata : IsMetadata b
  place : place_in (slice_get (blocks_of round) 0) ≡ place_of b

goes_next : (h : List Event) (round : List (Option (List ℕ))) (b : Buf) → length round ≡ 261
    → AreFor (awaits_home h) round → next_home h ≡ Some b → Goes h round b
goes_next h round b long are next =
    let there = find_there (awaits_home h) metadata_buffers b next in
    let metadata : IsMetadata b = among_metadata there.0 b there.1 in
    let first : slice_get (blocks_of round) 0 ≡ Some (home_block b) =
    blocks_first (awaits_home h) round long are ∙ ap (option_map home_block) next in
    record {
      metadata = metadata;
      place = ap place_in first ∙ omega (arith, place_home b metadata);
    }

carried : (h : List Event) (t : Txn) (first n : ℕ) (round : List (Option (List ℕ))) (b : Buf) → length round ≡ 261
    → AreFor (awaits_home h) round → next_home h ≡ Some b → first ≡ home_block b
    → AreFor (awaits_home (with_request h (kind.Home t) first n))
    (set round (place_in (slice_get (blocks_of round) 0)) None)
carried h t first n round b long are next block c is =
    let goes = goes_next h round b long are next in
    let same : (place_of c == place_of b) ≡ (first == home_block c) =
    turned (place_of c) (place_of b) ∙ sym (same_place b c goes.metadata is)
    ∙ sym (same_home b c goes.metadata is) ∙ ap (λ x. x == home_block c) (sym block) in
    ap (λ p. is_some (get_or (set round p None) (place_of c) None)) goes.place
    ∙ set_some round (place_of b) (place_of c) None (omega (arith, place_within b goes.metadata, long))
    ∙ ap (λ x. cond x false (is_some (get_or round (place_of c) None))) same
    ∙ ap (λ x. cond (first == home_block c) false x) (are c is)
    ∙ taken (first == home_block c) (awaiting_at h c)

homed : (w : Workload) (h : List Event) (t : Txn) (first n : ℕ) (j : Journaled (List ℕ)) (work : Work)
    → IsHomeOf w h t first n → Stands w h j → GoesHome (with_request h (kind.Home t) first n) work t
    → work.committed ≡ j.work.committed
    → Stands w (with_request h (kind.Home t) first n)
    (record j { round = set j.round (place_in (journal.next_home j)) None; work = work })
homed w h t first n j work is s goes same = record {
  marks_long = s.marks_long;
  round_long = length-set j.round (place_in (journal.next_home j)) None ∙ s.round_long;
  slots_long = s.slots_long;
  marks_are = s.marks_are;
  round_is = carried h t first n j.round is.buffer s.round_long s.round_is is.awaits is.place;
  works = inl goes;
  homes = tt;
  begin = λ i q at commits. tt;
  committed = λ u. settled_on j.work.committed work.committed h u _ same (s.committed u);
}

home_stands : (w : Workload) (h : List Event) (t : Txn) (first n : ℕ) (j : Journaled (List ℕ)) → JournalKnown w h
    → IsHomeOf w h t first n → Stands w h j → Stands w (with_request h (kind.Home t) first n) (after_added j)
home_stands w h t first n j known is s = by_before is.before
  where
    g : List Event
    g = with_request h (kind.Home t) first n

    more : under_way g ≡ under_way h + 1
    more = under_add (unfinished h) (journal_request (adds h) (kind.Home t) first n) refl

    by_before : MayGoHome w h → Stands w g (after_added j)
    by_before (home_first idle goes) =
        let rests : Rests h j.work = rests_idle w h j.work (length j.logged) idle known s.works in
        let before : Work = work_of Idle 0 (seals h) (seals h) (length (in_journal h)) in
        let none : under_way h ≡ 0 = (rested w h idle known).none in
        subst (Stands w g) (sym (after_added_is j before rests))
        (homed w h t first n j (added_work before) is s
        (record {
          slot = length (in_journal h) - 1;
          added = 1;
          work_is =
              ap (λ u. work_of (Homes u (length (in_journal h) - 1) 1) 1 (seals h) (seals h) (length (in_journal h)))
              (sym is.last)
              ∙ ap (λ k. work_of (Homes t (length (in_journal h) - 1) 1) k (seals h) (seals h) (length (in_journal h)))
              (omega (arith, more, none));
          some = λ left. omega (arith, more);
        })
        (ap (λ (x : Work). x.committed) (sym rests)))
    by_before (home_next u at) = by_case (subst (Works h j.work (length j.logged)) at s.works)
      where
        last : AtStage h known.cleared (Homing u)
        last = subst (AtStage h known.cleared) at known.stands

        same : u ≡ t
        same = same_txn u (last_txn h) last.0 ∙ sym is.last

        by_case : Works h j.work (length j.logged) (Homing u) → Stands w g (after_added j)
        by_case (inr clears) = absurd (let some : None ≡ Some is.buffer = sym clears.0 ∙ is.awaits in cc)
        by_case (inl goes) =
            let before : Work =
            work_of (Homes u goes.slot goes.added) (under_way h) (seals h) (seals h) (length (in_journal h)) in
            subst (Stands w g) (sym (after_added_is j before goes.work_is))
            (homed w h t first n j (added_work before) is s
            (record {
              slot = goes.slot;
              added = goes.added + 1;
              work_is =
                  ap (λ x. work_of (Homes x goes.slot (goes.added + 1)) (under_way h + 1) (seals h) (seals h)
                  (length (in_journal h))) same
                  ∙ ap (λ k. work_of (Homes t goes.slot (goes.added + 1)) k (seals h) (seals h) (length (in_journal h)))
                  (sym more);
              some = λ left. omega (arith, more);
            })
            (ap (λ (x : Work). x.committed) (sym goes.work_is)))

-- ---- any add
pub journal_stands : (w : Workload) (h : List Event) (k : ReqKind) (first n : ℕ) (j : Journaled (List ℕ))
    → JournalKnown w h → Journals w h k first n → Stands w h j → Stands w (with_request h k first n) (after_added j)
journal_stands w h (kind.Read p x g) first n j known next s = absurd (next)
journal_stands w h (kind.Pages x g) first n j known next s = absurd (next)
journal_stands w h (kind.Log t) first n j known next s = log_stands w h t first n j known next s
journal_stands w h (kind.Commit t) first n j known next s = commit_stands w h t first n j known next s
journal_stands w h (kind.Home t) first n j known next s = home_stands w h t first n j known next s
journal_stands w h (kind.Clear t) first n j known next s = clear_stands w h t first n j next s
