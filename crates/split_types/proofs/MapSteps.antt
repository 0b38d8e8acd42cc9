-- The maps of files and the run that is served, through each kind of event but a map.
use Rattle.std.proofs.Common.{◌≡◌, ℕ, ◌+◌, ◌==◌, ◌<◌, List, [], ◌∷◌, length, Bool, true, false, not, ◌&&◌, ◌||◌, Option, Some, None, refl, arith, subst, sym, inl, inr, ◌∙◌, ap}
use Rattle.std.proofs.lemmas.Bool.{cases_Bool, and_parts, and_from, or_cases, or_left, or_right, both_ways, eqb-true, ne_eqb, not-true, not_from_false, false_from_ne_true}
use Rattle.std.proofs.lemmas.Bool.Decides.{nat_tests}
use Rattle.std.proofs.lemmas.List.Folds.{list_any-append}
use Rattle.std.proofs.lemmas.Option.{same_Some}
use Rattle.split_types.specs.declared.ids.Pid.{Pid}
use Rattle.split_types.specs.declared.ids.ReqId.{ReqId}
use Rattle.split_types.specs.declared.ids.Serial.{Serial}
use Rattle.split_types.specs.declared.ids.Slot.{Slot}
use Rattle.split_types.specs.declared.ids.Txn.{Txn}
use Rattle.split_types.specs.declared.buf.Buf.TheVariants.{Page}
use Rattle.split_types.specs.declared.actor.Actor.TheVariants.{Client, Wb, Cm}
use Rattle.split_types.specs.declared.request.Request.{Request}
use Rattle.split_types.specs.declared.request.Run.{Run}
use Rattle.split_types.specs.declared.workload.Workload.{Workload}
use Rattle.split_types.specs.declared.event.Event.{Event}
use Rattle.split_types.specs.declared.event.Event.TheVariants.{Make, Put, Drop, Serve, Skip, Add, Done}
use Rattle.split_types.specs.History.{◌▹◌, adds}
use Rattle.split_types.specs.Hooks.{covers, same_buf}
use Rattle.split_types.specs.Requests.{is_numbered, unfinished}
use Rattle.split_types.specs.Reads.{request_numbered}
use Rattle.split_types.specs.Rounds.{next_txn}
use Rattle.split_types.specs.Writeback.{service, served_run}
use Rattle.split_types.specs.Files.{is_live}
use Rattle.split_types.specs.Pages.{is_put_since, is_ready}
use Rattle.split_types.specs.FileMaps.{mapped_block, is_in_map, is_dropped, drop_txn, commits, is_committed, makes}
use Rattle.split_types.specs.FileSlots.{next_serial}
use Rattle.split_types.specs.Serving.{request_for}
use Rattle.split_types.specs.FilesInOrder.{all_files}
use Rattle.split_types.specs.Proving.Came.{read_request}
use Rattle.split_types.proofs.Lists.{none_in_filter}
use Rattle.split_types.proofs.JournalAdds.{IsOfJournal}
use Rattle.split_types.proofs.MapBlocks.{blocks_keep}
use Rattle.split_types.proofs.MapState.{Serves, ServesOf, settles, keeps_of, MapsOf, ready_stays, ready_put, serves_stay}

-- the run that is served, where the same pages are ready and the same files are there
served_still : (w : Workload) (h later : List Event) (run : Run)
    → Serves (all_files w h) (λ s g. mapped_block w h s g) (λ s. is_live w h s) (λ s g. is_ready w h (Page s g)) run
    → ((g : ℕ) → is_ready w h (Page run.serial g) ≡ true → is_ready w later (Page run.serial g) ≡ true)
    → Serves (all_files w h) (λ s g. mapped_block w h s g) (λ s. is_live w h s) (λ s g. is_ready w later (Page s g)) run
served_still w h later run serves stays =
    serves_stay (all_files w h) (all_files w h) (λ s g. mapped_block w h s g) (λ s. is_live w h s) (λ s. is_live w h s)
    (λ s g. is_ready w h (Page s g)) (λ s g. is_ready w later (Page s g)) run serves (omega arith) (λ there. there)
    (λ there g ready. stays g ready)

-- ---- files
kept_make : (new live dropped : Bool) → (live || dropped) ≡ true → ((new || live) || dropped) ≡ true
kept_make true live dropped is = refl
kept_make false live dropped is = is

was_kept : (new live dropped : Bool) → new ≡ false → ((new || live) || dropped) ≡ true → (live || dropped) ≡ true
was_kept true live dropped out is = absurd (cc)
was_kept false live dropped out is = is

-- a file with blocks that keeps them after a make isn't the new one
pub make_keeps : (w : Workload) (h : List Event) (by : Pid) (slot : Slot) (s g x : ℕ) → MapsOf w h
    → mapped_block w h s g ≡ Some x → keeps_of w (h ▹ Make by slot (next_serial w h)) s ≡ true
    → keeps_of w h s ≡ true
make_keeps w h by slot s g x f at =
    was_kept (length w.files + makes h == s) (is_live w h s)
    (is_dropped h s && not (settles (λ t. is_committed h t) (drop_txn h s)))
    (ne_eqb (length w.files + makes h) s
    (λ (e : length w.files + makes h ≡ s). omega (arith, f.numbered s (f.kept s g x at), e)))

-- a make gives a file a number that none had
pub step_make : (w : Workload) (h : List Event) (by : Pid) (slot : Slot) → MapsOf w h
    → MapsOf w (h ▹ Make by slot (next_serial w h))
step_make w h by slot f = record {
  blocks = blocks_keep w (λ s g. mapped_block w h s g) (λ s x. is_in_map w h s x) (keeps_of w h)
      (keeps_of w (h ▹ Make by slot (next_serial w h))) f.blocks (λ s g x at. make_keeps w h by slot s g x f at);
  kept = λ s g x at. kept_make (count == s) (is_live w h s) (is_dropped h s) (f.kept s g x at);
  numbered = λ s is. elim (cases_Bool (count == s)) [
    | inl new ↦ (let same : count ≡ s = eqb-true count s new in omega (arith, same))
    | inr old ↦ omega (arith, f.numbered s (was_kept (count == s) (is_live w h s) (is_dropped h s) old is))
  ];
  put = λ s g is. (let was = f.put s g is in (omega (arith, was.0), was.1));
  served = λ run at. serves_stay (all_files w h) (all_files w (h ▹ Make by slot (next_serial w h)))
      (λ s g. mapped_block w h s g) (λ s. is_live w h s) (λ s. is_live w (h ▹ Make by slot (next_serial w h)) s)
      (λ s g. is_ready w h (Page s g)) (λ s g. is_ready w (h ▹ Make by slot (next_serial w h)) (Page s g)) run
      (f.served run at) (omega arith) (λ there. was_there run (f.served run at).numbered there)
      (λ there g ready. ready_stays w h (h ▹ Make by slot (next_serial w h)) run.serial g ready there (λ put. put)
      (λ idle. idle));
  mapped = f.mapped;
}
  where
    count : ℕ
    count = length w.files + makes h

    was_there : (run : Run) → run.serial.0 < count → (count == run.serial.0 || is_live w h run.serial.0) ≡ true
        → is_live w h run.serial.0 ≡ true
    was_there run below is = elim (or_cases (count == run.serial.0) (is_live w h run.serial.0) is) [
      | inl new ↦ (let same : count ≡ run.serial.0 = eqb-true count run.serial.0 new in absurd (omega (arith, same)))
      | inr old ↦ old
    ]

kept_drop : (here live dropped : Bool) → (live || dropped) ≡ true → ((not here && live) || (here || dropped)) ≡ true
kept_drop true live dropped is = refl
kept_drop false live dropped is = is

was_dropped : (here live dropped : Bool) → here ≡ false → ((not here && live) || (here || dropped)) ≡ true
    → (live || dropped) ≡ true
was_dropped true live dropped out is = absurd (cc)
was_dropped false live dropped out is = is

-- a file that keeps its blocks after a drop did so before: it is another one, or the one that was there
drop_other : (here : Bool) (live dropped : Bool) (t u : Option Txn) (committed : Txn → Bool)
    → (here ≡ true → live ≡ true)
    → ((not here && live) || ((here || dropped) && not (settles committed (elim here [ true ↦ t | false ↦ u ]))))
    ≡ true
    → (live || (dropped && not (settles committed u))) ≡ true
drop_other true live dropped t u committed there is = or_left live (dropped && not (settles committed u)) (there refl)
drop_other false live dropped t u committed there is = is

pub drop_keeps : (w : Workload) (h : List Event) (by : Pid) (slot : Slot) (serial : Serial) (s : ℕ)
    → is_live w h serial.0 ≡ true → keeps_of w (h ▹ Drop by slot serial) s ≡ true → keeps_of w h s ≡ true
drop_keeps w h by slot serial s there =
    drop_other (serial.0 == s) (is_live w h s) (is_dropped h s) (Some (next_txn h)) (drop_txn h s)
    (λ t. is_committed h t)
    (λ same. subst (λ n. is_live w h n ≡ true) (eqb-true serial.0 s same) there)

-- a drop is one of a file that is there
pub step_drop : (w : Workload) (h : List Event) (by : Pid) (slot : Slot) (serial : Serial) → MapsOf w h
    → is_live w h serial.0 ≡ true → MapsOf w (h ▹ Drop by slot serial)
step_drop w h by slot serial f there = record {
  blocks = blocks_keep w (λ s g. mapped_block w h s g) (λ s x. is_in_map w h s x) (keeps_of w h)
      (keeps_of w (h ▹ Drop by slot serial)) f.blocks (λ s g x at. drop_keeps w h by slot serial s there);
  kept = λ s g x at. kept_drop (serial.0 == s) (is_live w h s) (is_dropped h s) (f.kept s g x at);
  numbered = λ s is. elim (cases_Bool (serial.0 == s)) [
    | inl here ↦
        (let same : serial.0 ≡ s = eqb-true serial.0 s here in
        omega (arith, same, f.numbered serial.0 (or_left (is_live w h serial.0) (is_dropped h serial.0) there)))
    | inr other ↦ f.numbered s (was_dropped (serial.0 == s) (is_live w h s) (is_dropped h s) other is)
  ];
  put = f.put;
  served = λ run at. serves_stay (all_files w h) (all_files w h)
      (λ s g. mapped_block w h s g) (λ s. is_live w h s) (λ s. is_live w (h ▹ Drop by slot serial) s)
      (λ s g. is_ready w h (Page s g)) (λ s g. is_ready w (h ▹ Drop by slot serial) (Page s g)) run
      (f.served run at) (omega arith)
      (λ still. (and_parts (not (serial.0 == run.serial.0)) (is_live w h run.serial.0) still).1)
      (λ still g ready. ready_stays w h (h ▹ Drop by slot serial) run.serial g ready still (λ put. put)
      (λ idle. idle));
  mapped = f.mapped;
}

-- ---- pages
-- a put of a page that a file may have
pub step_put : (w : Workload) (h : List Event) (by : Pid) (t : Serial) (page from to fill : ℕ) → MapsOf w h
    → is_live w h t.0 ≡ true → page < 1008 → MapsOf w (h ▹ Put by t page from to fill)
step_put w h by t page from to fill f there below = record {
  blocks = f.blocks;
  kept = f.kept;
  numbered = f.numbered;
  put = λ s g is. elim (or_cases (s.0 == t.0 && g == page) (is_put_since h (Page s g)) is) [
    | inl here ↦
        (let same : (s.0 ≡ t.0) × (g ≡ page) = grind (arith, nat_tests) in
        let least = f.numbered t.0 (or_left (is_live w h t.0) (is_dropped h t.0) there) in
        (omega (arith, same.0, least), omega (arith, same.1)))
    | inr old ↦ f.put s g old
  ];
  served = λ run at. served_still w h (h ▹ Put by t page from to fill) run (f.served run at)
      (λ g ready. still (run.serial) g ready);
  mapped = f.mapped;
}
  where
    still : (s : Serial) (g : ℕ) → is_ready w h (Page s g) ≡ true
        → is_ready w (h ▹ Put by t page from to fill) (Page s g) ≡ true
    still s g ready =
        ready_stays w h (h ▹ Put by t page from to fill) s g ready (ready_put w h s g ready).0
        (λ put. or_right (same_buf (Page s g) (Page t page)) (is_put_since h (Page s g)) put) (λ idle. idle)

-- a read of a page takes none
pub step_load : (w : Workload) (h : List Event) (by : Pid) (t : Serial) (page block : ℕ) → MapsOf w h
    → MapsOf w (h ▹ Add (Client by) (read_request (adds h) by t page block))
step_load w h by t page block f = record {
  blocks = f.blocks;
  kept = f.kept;
  numbered = f.numbered;
  put = f.put;
  served = λ run at. served_still w h (h ▹ Add (Client by) (read_request (adds h) by t page block)) run
      (f.served run at) (λ g ready. still (run.serial) g ready);
  mapped = f.mapped;
}
  where
    still : (s : Serial) (g : ℕ) → is_ready w h (Page s g) ≡ true
        → is_ready w (h ▹ Add (Client by) (read_request (adds h) by t page block)) (Page s g) ≡ true
    still s g ready =
        ready_stays w h (h ▹ Add (Client by) (read_request (adds h) by t page block)) s g ready
        (ready_put w h s g ready).0 (λ put. put)
        (λ idle. list_any-append (λ r. covers r (Page s g)) (unfinished h)
        (read_request (adds h) by t page block ∷ [])
        ∙ ap (λ b. b || false) idle)

-- it may commit a transaction, so that files no longer keep their blocks
done_other : (live dropped : Bool) (t : Option Txn) (committed was : Txn → Bool)
    → ((u : Txn) → was u ≡ true → committed u ≡ true) → (live || (dropped && not (settles committed t))) ≡ true
    → (live || (dropped && not (settles was t))) ≡ true
done_other true dropped t committed was more is = refl
done_other false false t committed was more is = absurd (cc)
done_other false true None committed was more is = refl
done_other false true (Some u) committed was more is =
    not_from_false (was u)
    (false_from_ne_true (was u) (λ before. both_ways (committed u) (not-true (committed u) is) (more u before)))

pub done_keeps : (w : Workload) (h : List Event) (k : ℕ) (id : ReqId) (s : ℕ)
    → keeps_of w (h ▹ Done k id true) s ≡ true → keeps_of w h s ≡ true
done_keeps w h k id s =
    done_other (is_live w h s) (is_dropped h s) (drop_txn h s) (λ t. is_committed (h ▹ Done k id true) t)
    (λ t. is_committed h t)
    (λ t was. or_right (commits t (request_numbered h id)) (is_committed h t) was)

-- a request that is done
pub step_done : (w : Workload) (h : List Event) (k : ℕ) (id : ReqId) → MapsOf w h → MapsOf w (h ▹ Done k id true)
step_done w h k id f = record {
  blocks = blocks_keep w (λ s g. mapped_block w h s g) (λ s x. is_in_map w h s x) (keeps_of w h)
      (keeps_of w (h ▹ Done k id true)) f.blocks (λ s g x at. done_keeps w h k id s);
  kept = f.kept;
  numbered = f.numbered;
  put = f.put;
  served = λ run at. served_still w h (h ▹ Done k id true) run (f.served run at)
      (λ g ready. still (run.serial) g ready);
  mapped = f.mapped;
}
  where
    still : (s : Serial) (g : ℕ) → is_ready w h (Page s g) ≡ true
        → is_ready w (h ▹ Done k id true) (Page s g) ≡ true
    still s g ready =
        ready_stays w h (h ▹ Done k id true) s g ready (ready_put w h s g ready).0 (λ put. put)
        (λ idle. none_in_filter (λ r. covers r (Page s g)) (λ r. not (is_numbered id r)) (unfinished h) idle)

-- ---- writeback
-- a serve of such a run
pub step_serve : (w : Workload) (h : List Event) (run : Run) → MapsOf w h → ServesOf w h run
    → MapsOf w (h ▹ Serve run.serial run.page run.n)
step_serve w h run f serves = record {
  blocks = f.blocks;
  kept = f.kept;
  numbered = f.numbered;
  put = f.put;
  served = λ next at. subst (ServesOf w h) (same_Some run next at) serves;
  mapped = λ next at. absurd (cc);
}

-- a run that is skipped
pub step_skip : (w : Workload) (h : List Event) → MapsOf w h → MapsOf w (h ▹ Skip)
step_skip w h f = record {
  blocks = f.blocks;
  kept = f.kept;
  numbered = f.numbered;
  put = f.put;
  served = λ run at. absurd (cc);
  mapped = λ run at. absurd (cc);
}

-- a request that is added for a run
pub step_add : (w : Workload) (h : List Event) (run : Run) (block : ℕ) → MapsOf w h
    → MapsOf w (h ▹ Add Wb (request_for (adds h) run block))
step_add w h run block f = record {
  blocks = f.blocks;
  kept = f.kept;
  numbered = f.numbered;
  put = λ s g is. f.put s g
      (and_parts (not (covers (request_for (adds h) run block) (Page s g))) (is_put_since h (Page s g)) is).1;
  served = λ next at. absurd (cc);
  mapped = λ next at. absurd (cc);
}

-- ---- the commit thread
-- a request of the journal takes no page
pub step_journal : (w : Workload) (h : List Event) (r : Request) → IsOfJournal r → MapsOf w h
    → MapsOf w (h ▹ Add Cm r)
step_journal w h r j f = record {
  blocks = f.blocks;
  kept = f.kept;
  numbered = f.numbered;
  put = λ s g is. f.put s g (and_parts (not (covers r (Page s g))) (is_put_since h (Page s g)) is).1;
  served = λ run at. served_still w h (h ▹ Add Cm r) run
      (f.served run (subst (λ s. served_run s ≡ Some run) (j.service_stays (service h)) at))
      (λ g ready. still (run.serial) g ready);
  mapped = λ run at. f.mapped run (sym (j.service_stays (service h)) ∙ at);
}
  where
    still : (s : Serial) (g : ℕ) → is_ready w h (Page s g) ≡ true → is_ready w (h ▹ Add Cm r) (Page s g) ≡ true
    still s g ready =
        ready_stays w h (h ▹ Add Cm r) s g ready (ready_put w h s g ready).0
        (λ put. and_from (not (covers r (Page s g))) (is_put_since h (Page s g))
        (ap not (j.covers_none (Page s g))) put)
        (λ idle. list_any-append (λ q. covers q (Page s g)) (unfinished h) (r ∷ [])
        ∙ ap (λ b. b || (covers r (Page s g) || false)) idle ∙ ap (λ b. b || false) (j.covers_none (Page s g)))
