-- What a process sees of the stack is what decides its next event.
use Rattle.std.proofs.Common.{◌≡◌, ℕ, ◌-◌, ◌≤◌, List, length, sum, slice_range, Bool, true, false, ◌&&◌, ◌||◌}
use Rattle.std.proofs.Common.{Option, Some, None, is_some, refl, ap, sym, ◌∙◌, subst, nat_le, option_map}
use Rattle.std.specs.Prelude.{IsSomeAnd, IfSome}
use Rattle.std.proofs.lemmas.Bool.{cond-true, le-leb, and_from}
use Rattle.split_types.specs.declared.ids.Pid.{Pid}
use Rattle.split_types.specs.declared.ids.Serial.{Serial}
use Rattle.split_types.specs.declared.ids.ReqId.{ReqId}
use Rattle.split_types.specs.declared.actor.Actor.TheVariants.{Client}
use Rattle.split_types.specs.declared.buf.Buf.TheVariants.{Page}
use Rattle.split_types.specs.declared.call.Call.{Call}
use Rattle.split_types.specs.declared.request.Run.{Run}
use Rattle.split_types.specs.declared.workload.Workload.{Workload}
use Rattle.split_types.specs.declared.event.Event.{Event}
use Rattle.split_types.specs.History.{adds}
use Rattle.split_types.specs.Calls.{call_of}
use Rattle.split_types.specs.Files.{is_live, bound_file}
use Rattle.split_types.specs.FileSizes.{working_file, size_at_admit}
use Rattle.split_types.specs.FileSlots.{slot_of_some}
use Rattle.split_types.specs.LiveFiles.{free_slot}
use Rattle.split_types.specs.Schedulers.{admits}
use Rattle.split_types.specs.Pages.{is_busy}
use Rattle.split_types.specs.Pieces as pieces
use Rattle.split_types.specs.HeldPages.{unsettled_pages}
use Rattle.split_types.specs.PagesInCache.{IsThere}
use Rattle.split_types.specs.Clients.{piece_state, state_left, client_state, next_of_client}
use Rattle.split_types.specs.Writeback.{service}
use Rattle.split_types.specs.Next.{next}
use Rattle.split_types.specs.Syncing.{admit_place, awaited_txn, is_written, is_safe}
use Rattle.split_types.specs.FilesInOrder.{AreFiles}
use Rattle.split_types.specs.Accepted.{IsAccepted}
use Rattle.split_types.specs.Legal.{IsLegal}
use Rattle.split_types.proofs.Shared.{files_are_in_order, maps_known, live_of}
use Rattle.cause_set.specs.Tags.{Tags}
use Rattle.page_cache.specs.Held.{Held}
use Rattle.page_cache.specs.Cached as cached
use Rattle.client_calls.specs.declared.progress.Progress.{Progress}
use Rattle.client_calls.specs.declared.next.ClientNext.TheVariants.{Nothing, Wait, Act}
use Rattle.client_calls.specs.View.{View, piece_left}
use Rattle.client_calls.specs.CallFile as called
use Rattle.client_calls.specs.Space as space
use Rattle.client_calls.specs.Shows.{ShowsPiece, ShowsLeft, Shows, ShowsCall, answer_of}
use Rattle.split_core.specs.declared.note.pages.Pages.{Pages}
use Rattle.split_core.specs.declared.note.filing.Filing.{Filing}
use Rattle.split_core.specs.Pages.{PagesStand}
use Rattle.split_core.specs.Filing.{FilingStands}
use Rattle.split_core.specs.StandsFor.{Simulation}
use Rattle.split_core.specs.Clients.{IsProgress, mapped_run}
use Rattle.split_core.specs.Givens.{is_sync}
use Rattle.split_core.proofs.ClientViewsPages.{none_badly, unsettled_in, evicted}
use Rattle.split_core.proofs.ClientViewsFiles.{file_is, slot_is, name_taken_is, block_is, space_is, run_is}

-- ---- what decides
-- what is read of what an fsync waits for
pub record Synced : Type 0 where
  pub flushable : Bool
  pub committed : Bool

-- so it is where the call of process p is an fsync
pub record SyncedIs (w : Workload) (h : List Event) (p : ℕ) (sync : Synced) : Type 0 where
  pub flushable : is_sync (call_of w h p) ≡ true → sync.flushable ≡ is_written h (bound_file w h p) (admit_place h p)
  pub committed : sync.committed ≡ is_safe h (awaited_txn w h p)

-- what a process sees
abbrev pub sees : Workload → Pages → Filing → ℕ → Option Run → Progress → ReqId → Synced → View
sees w p f n run x id sync = record {
  cache = p.cache;
  places = w.cache;
  n = n;
  files = f.fs;
  blocks = f.alloc;
  mapped = run;
  progress = x;
  may_admit = true;
  flushable = sync.flushable;
  committed = sync.committed;
  next_id = id;
}

-- all that the view of a process stands for
pub record Seen (w : Workload) (p : Pages) (f : Filing) (tags : Tags) (h : List Event) (q : Pid) (n : ℕ)
    (run : Option Run) (x : Progress) (id : ReqId) (sync : Synced) : Type 0 where
  pub accepted : IsAccepted w
  pub legal : IsLegal w h
  pub stands : PagesStand w p tags h
  pub filing : FilingStands w f h
  pub progress : IsProgress w h q.0 x
  pub procs : n ≡ length w.procs
  pub run_is : run ≡ mapped_run (service h)
  pub number : id.0 ≡ adds h
  pub synced : SyncedIs w h q.0 sync

-- so is what is read of a core that is seen as v
pub seen_from : (w : Workload) (p : Pages) (f : Filing) (tags : Tags) (h : List Event) (q : Pid) (n : ℕ)
    (run : Option Run) (x : Progress) (id : ReqId) (sync : Synced) (v : Simulation)
    → (let s : Simulation = record { workload = w; history = h } in s) ≡ v → IsAccepted w → IsLegal w h
    → PagesStand w p tags h → FilingStands w f h → IsProgress v.workload v.history q.0 x → n ≡ length w.procs
    → run ≡ mapped_run (service v.history) → id.0 ≡ adds h → SyncedIs w h q.0 sync
    → Seen w p f tags h q n run x id sync
seen_from w p f tags h q n run x id sync v view accepted legal stands filing progress procs serves number synced =
    record {
      accepted = accepted;
      legal = legal;
      stands = stands;
      filing = filing;
      progress = subst (λ (s : Simulation). IsProgress s.workload s.history q.0 x) (sym view) progress;
      procs = procs;
      run_is = subst (λ (s : Simulation). run ≡ mapped_run (service s.history)) (sym view) serves;
      number = number;
      synced = synced;
    }

in_order : (w : Workload) (h : List Event) → IsAccepted w → IsLegal w h → AreFiles w h
in_order w h accepted legal = files_are_in_order w h accepted legal

loaded_there : (x : Option Held) → IsSomeAnd x (λ p. p.state.loading ≡ false)
    → (is_some x ≡ true) × (cached.is_loading x ≡ false)
loaded_there None loaded = absurd loaded
loaded_there (Some p) loaded = (refl, loaded)

shows_piece : (w : Workload) (p : Pages) (f : Filing) (tags : Tags) (h : List Event) (q : Pid) (n : ℕ)
    (run : Option Run) (x : Progress) (id : ReqId) (sync : Synced) (s : Serial) (left : pieces.Piece)
    → Seen w p f tags h q n run x id sync → is_live w h s.0 ≡ true
    → ShowsPiece q s left (sees w p f n run x id sync) (piece_state w h q s left)
shows_piece w p f tags h q n run x id sync s left seen live =
    let stands = seen.stands in
    let b = Page s left.page in
    let y = cached.page_of p.cache b in
    let place = block_is w h s left.page (in_order w h seen.accepted seen.legal)
    (maps_known.maps w h seen.accepted seen.legal) live
    ∙ ap (λ slots. space.block_of slots s left.page) (sym seen.filing.files.slots) in
    record {
      by = refl;
      serial = refl;
      piece = refl;
      read_badly = none_badly w h q.0 b seen.legal ∙ sym seen.progress.well;
      moved = sym seen.progress.moved;
      loading = sym (stands.loading_are s left.page);
      in_mapped_run = run_is h b ∙ ap (λ r. space.is_in_run r b) (sym seen.run_is);
      unsettled =
          ap (λ t. t || is_busy w h b) (sym (stands.dirty_are s left.page))
          ∙ ap (λ t. is_some (cached.tag_in y) || t) (sym (stands.busy_are s left.page)) ∙ sym (unsettled_in y);
      held = sym (stands.held_are s left.page);
      block = place;
      without_space =
          space_is w h s left.page f.alloc (space.block_of f.fs.slots s left.page) (space.is_dirty y)
          seen.filing.blocks place (sym (stands.dirty_are s left.page));
      crowded =
          ap (λ m. nat_le (w.cache - m) (length (unsettled_pages w h))) (sym seen.procs)
          ∙ ap (nat_le (w.cache - n)) (sym stands.unsettled_counted);
      full = ap (nat_le w.cache) (sym stands.held_counted);
      victim = evicted w p tags h stands;
      adds = sym seen.number;
      sum = λ loaded.
          let there = loaded_there y loaded in
          let here : IsThere w h b = record {
            held = sym (stands.held_are s left.page) ∙ there.0;
            loaded = sym (stands.loading_are s left.page) ∙ there.1;
          } in
          ap (λ bytes. sum (slice_range bytes left.from left.to)) (sym (stands.bytes_are s left.page here));
    }

shows_some : (w : Workload) (p : Pages) (f : Filing) (tags : Tags) (h : List Event) (q : Pid) (n : ℕ)
    (run : Option Run) (x : Progress) (id : ReqId) (sync : Synced) (s : Serial) (left : Option pieces.Piece)
    → Seen w p f tags h q n run x id sync → is_live w h s.0 ≡ true
    → ShowsLeft q (sees w p f n run x id sync) (Some s) left (option_map (piece_state w h q s) left)
shows_some w p f tags h q n run x id sync s None seen live = refl
shows_some w p f tags h q n run x id sync s (Some left) seen live =
    shows_piece w p f tags h q n run x id sync s left seen live

shows_left : (w : Workload) (p : Pages) (f : Filing) (tags : Tags) (h : List Event) (q : Pid) (n : ℕ)
    (run : Option Run) (x : Progress) (id : ReqId) (sync : Synced) (file : Option Serial)
    → Seen w p f tags h q n run x id sync → working_file w h q.0 ≡ file
    → ShowsLeft q (sees w p f n run x id sync) file (pieces.piece_left w h q.0) (state_left w h q file)
shows_left w p f tags h q n run x id sync None seen is = refl
shows_left w p f tags h q n run x id sync (Some s) seen is =
    shows_some w p f tags h q n run x id sync s (pieces.piece_left w h q.0) seen
    (live_of w h (bound_file w h q.0) s is)

-- the first piece that is left
left_is : (w : Workload) (h : List Event) (p : ℕ) (x : Progress) → IsProgress w h p x
    → piece_left x ≡ pieces.piece_left w h p
left_is w h p x is =
    ap (λ o. elim o [ None ↦ None | Some c ↦ pieces.next_piece c x.size_at_admit x.moved ]) is.call
    ∙ ap (λ n. elim (call_of w h p) [ None ↦ None | Some c ↦ pieces.next_piece c n x.moved ]) is.size
    ∙ ap (λ n. elim (call_of w h p) [ None ↦ None | Some c ↦ pieces.next_piece c (size_at_admit w h p) n ]) is.moved

admits_all : (w : Workload) (h : List Event) (p : ℕ) → IsAccepted w → admits w h p ≡ true
admits_all w h p accepted = rw accepted.built.sched refl

-- how far a process has come shows what decides its next event before its call is let in
pub shows_call : (w : Workload) (h : List Event) (q : Pid) (x : Progress) → IsAccepted w → IsProgress w h q.0 x
    → ShowsCall q x true (client_state w h q)
shows_call w h q x accepted is = record {
  by = refl;
  number = sym is.number;
  call = sym is.call;
  entered = sym is.entered;
  may_admit_is = admits_all w h q.0 accepted;
  admitted = sym is.admitted;
}

-- the file that a call is bound to, as it is seen
seen_file : (w : Workload) (p : Pages) (f : Filing) (tags : Tags) (h : List Event) (q : Pid) (n : ℕ)
    (run : Option Run) (x : Progress) (id : ReqId) (sync : Synced) → Seen w p f tags h q n run x id sync
    → working_file w h q.0 ≡ called.file_in f.fs.slots x.bound
seen_file w p f tags h q n run x id sync seen =
    file_is w h (bound_file w h q.0) (in_order w h seen.accepted seen.legal)
    ∙ ap (λ slots. called.file_in slots (bound_file w h q.0)) (sym seen.filing.files.slots)
    ∙ ap (called.file_in f.fs.slots) (sym seen.progress.bound)

-- its slot is this one, if there is one
abbrev IsSlotOf : Workload → List Event → ℕ → Option ℕ → Type 0
IsSlotOf w h p o = IfSome o (λ slot. slot_of_some w h (working_file w h p) ≡ record { 0 = slot })

seen_slot : (w : Workload) (p : Pages) (f : Filing) (tags : Tags) (h : List Event) (q : Pid) (n : ℕ)
    (run : Option Run) (x : Progress) (id : ReqId) (sync : Synced) → Seen w p f tags h q n run x id sync
    → IsSlotOf w h q.0 (called.slot_in f.fs.slots x.bound)
seen_slot w p f tags h q n run x id sync seen =
    subst (λ o. IsSlotOf w h q.0 (called.slot_in f.fs.slots o)) (sym seen.progress.bound)
    (subst (λ slots. IsSlotOf w h q.0 (called.slot_in slots (bound_file w h q.0))) (sym seen.filing.files.slots)
    (slot_is w h (bound_file w h q.0) (in_order w h seen.accepted seen.legal)))

pub shows : (w : Workload) (p : Pages) (f : Filing) (tags : Tags) (h : List Event) (q : Pid) (n : ℕ)
    (run : Option Run) (x : Progress) (id : ReqId) (sync : Synced) → Seen w p f tags h q n run x id sync
    → Shows q (sees w p f n run x id sync) (client_state w h q)
shows w p f tags h q n run x id sync seen =
    let is = seen.progress in
    let file = working_file w h q.0 in
    let serial : ℕ → Serial = λ m. record { 0 = m } in
    record {
      by = refl;
      number = sym is.number;
      call = sym is.call;
      entered = sym is.entered;
      may_admit = admits_all w h q.0 seen.accepted;
      admitted = sym is.admitted;
      acted = sym is.acted;
      flushable = λ name asked. sym (seen.synced.flushable (ap is_sync (sym is.call ∙ asked)));
      committed = λ name asked. sym seen.synced.committed;
      name_taken =
          name_taken_is w h (call_of w h q.0) (in_order w h seen.accepted seen.legal)
          ∙ ap (λ slots. called.is_name_taken slots (call_of w h q.0)) (sym seen.filing.files.slots)
          ∙ ap (called.is_name_taken f.fs.slots) (sym is.call);
      free_slot = ap free_slot (sym seen.filing.files.slots);
      new_serial = ap serial (sym seen.filing.files.next);
      file = seen_file w p f tags h q n run x id sync seen;
      slot = seen_slot w p f tags h q n run x id sync seen;
      moved = sym is.moved;
      got = sym is.sum;
      piece =
          subst (λ o. ShowsLeft q (sees w p f n run x id sync) o (piece_left x) (state_left w h q file))
          (seen_file w p f tags h q n run x id sync seen)
          (subst (λ l. ShowsLeft q (sees w p f n run x id sync) file l (state_left w h q file))
          (sym (left_is w h q.0 x is)) (shows_left w p f tags h q n run x id sync file seen refl));
    }

-- ---- what comes of the answer
pub acts : (o : Option Event) (call : Option Call) (e : Event) → answer_of o call ≡ Act e → o ≡ Some e
acts (Some d) call e is = cc (is)
acts None None e is = absurd (cc (is))
acts None (Some call) e is = absurd (cc (is))

pub waits : (o : Option Event) (call : Option Call) → answer_of o call ≡ Wait → o ≡ None
waits (Some d) call is = absurd (cc (is))
waits None call is = refl

pub ends : (o : Option Event) (call : Option Call) → answer_of o call ≡ Nothing → o ≡ None
ends (Some d) call is = absurd (cc (is))
ends None call is = refl

-- a process's next event
pub client_next : (w : Workload) (h : List Event) (p : Pid) → 1 ≤ p.0 → p.0 ≤ length w.procs
    → next w h (Client p) ≡ next_of_client (client_state w h p)
client_next w h p first last =
    cond-true (nat_le 1 p.0 && nat_le p.0 (length w.procs)) (next_of_client (client_state w h p)) None
    (and_from (nat_le 1 p.0) (nat_le p.0 (length w.procs)) (le-leb 1 p.0 first) (le-leb p.0 (length w.procs) last))
