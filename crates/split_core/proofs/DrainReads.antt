-- Whether a history is drained is read from the parts.
use Rattle.std.proofs.Common.{◌≡◌, ℕ, zero, suc, ◌+◌, ◌<◌, ◌≤◌, ◌==◌, List, [], ◌∷◌, length, map, slice_get, Bool, true}
use Rattle.std.proofs.Common.{false, not, ◌&&◌, count_by, Option, Some, None, is_some, refl, ap, sym, ◌∙◌, subst, arith, inl, inr}
use Rattle.std.specs.List.{range_with_len, list_all, list_any}
use Rattle.std.proofs.lemmas.Bool.{and_from, and_parts, or_left, eqb-true, eq-eqb, ne_eqb, cases_lt, false_from_ne_true}
use Rattle.std.proofs.Math.Bool.{and-false}
use Rattle.std.specs.Prelude.{is_none}
use Rattle.std.proofs.lemmas.List.{nil_from_length, length-map}
use Rattle.std.proofs.lemmas.List.Folds.{list_all_at}
use Rattle.std.proofs.lemmas.List.FromFn.{get_or-range_with_len, length-range_with_len}
use Rattle.page_cache.specs.Held.{Held}
use Rattle.page_cache.specs.Cached as cached
use Rattle.page_cache.specs.Changes.{IsReady}
use Rattle.split_types.specs.declared.ids.Serial.{Serial}
use Rattle.split_types.specs.declared.buf.Buf.{Buf}
use Rattle.split_types.specs.declared.buf.Buf.TheVariants.{Page, Bitmap, Dir, Inode}
use Rattle.split_types.specs.declared.request.Request.{Request}
use Rattle.split_types.specs.declared.workload.Workload.{Workload}
use Rattle.split_types.specs.declared.event.Event.{Event}
use Rattle.split_types.specs.Requests.{is_numbered, requests, queued, in_flight, unfinished}
use Rattle.split_types.specs.Pages.{is_live_page, is_dirty, is_busy}
use Rattle.split_types.specs.HeldPages.{known_pages}
use Rattle.split_types.specs.Hooks.{same_buf, covers}
use Rattle.split_types.specs.Workloads.{processes}
use Rattle.split_types.specs.Transactions.{marked_buffers, in_journal}
use Rattle.split_types.specs.Calls.{is_finished}
use Rattle.split_types.specs.Legal.{is_drained}
use Rattle.split_types.specs.Proving.Known.{Known}
use Rattle.split_types.proofs.Shared.{nothing_left, known, find_some, list_any_here, same_buf-is, pages_are_known}
use Rattle.tag_table.specs.Tags.{tags_of}
use Rattle.journal_core.specs.Journaled.{seen, can_seal, next_due}
use Rattle.cause_set.specs.Tags.{Tags}
use Rattle.split_core.specs.declared.plan.Plan.{Plan}
use Rattle.split_core.specs.declared.parts.Parts.{Parts}
use Rattle.split_core.specs.declared.note.clients.Clients.{Clients}
use Rattle.split_core.specs.declared.note.pages.Pages.{Pages}
use Rattle.split_core.specs.declared.note.dispatch.Dispatch.{Dispatch}
use Rattle.split_core.specs.Clients.{ClientsStand}
use Rattle.split_core.specs.Pages.{PagesStand}
use Rattle.split_core.specs.Dispatch.{DispatchStands}
use Rattle.split_core.specs.StandsFor.{StandsFor}
use Rattle.split_core.proofs.JournalNotes.{shown}
use Rattle.split_core.proofs.JournalNotesSeen.{can_seal_seen, due_seen}

-- ---- calls
all_of : (test : ℕ → Bool) (a n : ℕ) → ((i : ℕ) → i < n → test (a + i) ≡ true)
    → list_all test (range_with_len a n) ≡ true
all_of test a zero each = refl
all_of test a (suc n) each =
    and_from (test a) (list_all test (range_with_len (a + 1) n))
    (subst (λ p. test p ≡ true) (omega arith) (each 0 (omega arith)))
    (all_of test (a + 1) n (λ i lt. subst (λ p. test p ≡ true) (omega arith) (each (i + 1) (omega arith))))

pub all_finished : (w : Workload) (c : Clients) (h : List Event) → ClientsStand w c h → length w.procs ≤ c.finished
    → list_all (is_finished w h) (processes w) ≡ true
all_finished w c h stands all = all_of (is_finished w h) 1 (length w.procs)
    (λ i lt. subst (λ p. is_finished w h p ≡ true) (omega arith) (stands.finished_are i (omega (arith, all))))

pub one_left : (w : Workload) (c : Clients) (h : List Event) → ClientsStand w c h → c.finished < length w.procs
    → list_all (is_finished w h) (processes w) ≡ false
one_left w c h stands less =
    list_all_at (is_finished w h) (processes w) c.finished 0 (omega (arith, length-range_with_len 1 (length w.procs)))
    (ap (is_finished w h) (get_or-range_with_len 1 (length w.procs) c.finished 0 less ∙ omega arith)
    ∙ stands.next_is_left less)

-- ---- pages
-- what no request is queued or in flight for is done
none_unfinished : (w : Workload) (h : List Event) → Known w h → queued h ≡ [] → in_flight h ≡ [] → unfinished h ≡ []
none_unfinished w h f queue flight =
    nothing_left (requests h) (unfinished h) (λ id. omega (
      arith,
      f.waiting.left_once id,
      ap (count_by (is_numbered id)) queue,
      ap (count_by (is_numbered id)) flight,
    ))

none_busy : (w : Workload) (h : List Event) (b : Buf) → unfinished h ≡ [] → is_busy w h b ≡ false
none_busy w h b none = ap (λ l. is_live_page w h b && list_any (λ r. covers r b) l) none
    ∙ and-false (is_live_page w h b)

none_passes : {X : Type 0} (p : X → Bool) (xs : List X) → ((k : ℕ) (x : X) → slice_get xs k ≡ Some x → p x ≡ false)
    → list_any p xs ≡ false
none_passes p [] none = refl
none_passes p (x ∷ xs) none = let here = none 0 x refl in rw here (none_passes p xs (λ k y at. none (suc k) y at))

-- in the cache a page is ready where it is dirty and not busy
ready_is : (x : Option Held) → cached.is_ready x ≡ (is_some (cached.tag_in x) && not (cached.is_busy x))
ready_is None = refl
ready_is (Some p) = refl

ready_held : (x : Option Held) → cached.is_ready x ≡ true → is_some x ≡ true
ready_held None is = absurd (cc)
ready_held (Some p) is = refl

none_dirty : (w : Workload) (p : Pages) (tags : Tags) (h : List Event) → PagesStand w p tags h → unfinished h ≡ []
    → ((b : Buf) → IsReady p.cache b → ⊥) → list_any (is_dirty w h) (known_pages h) ≡ false
none_dirty w p tags h stands done none = none_passes (is_dirty w h) (known_pages h) (λ k b at. clean b)
  where
    at_page : (s : Serial) (g : ℕ) → is_dirty w h (Page s g) ≡ true → ⊥
    at_page s g dirty =
        let x = cached.page_of p.cache (Page s g)
        in none (Page s g)
        (ready_is x
        ∙ and_from (is_some (cached.tag_in x)) (not (cached.is_busy x)) (stands.dirty_are s g ∙ dirty)
        (ap not (stands.busy_are s g ∙ none_busy w h (Page s g) done)))

    clean : (b : Buf) → is_dirty w h b ≡ false
    clean (Page s g) = false_from_ne_true (is_dirty w h (Page s g)) (λ dirty. at_page s g dirty)
    clean Bitmap = refl
    clean (Dir k) = refl
    clean (Inode s) = refl

-- a page that is dirty is among those that are known
dirty_known : (w : Workload) (h : List Event) (b : Buf) → is_dirty w h b ≡ true
    → list_any (is_dirty w h) (known_pages h) ≡ true
dirty_known w h b dirty =
    let found = find_some (same_buf b) (known_pages h)
    (pages_are_known.unsettled w h b (or_left (is_dirty w h b) (is_busy w h b) dirty))
    in list_any_here (is_dirty w h) (known_pages h) found.place found.element found.there
    (subst (λ x. is_dirty w h x ≡ true) (same_buf-is b found.element found.passes) dirty)

some_dirty : (w : Workload) (p : Pages) (tags : Tags) (h : List Event) (b : Buf) → PagesStand w p tags h
    → IsReady p.cache b → list_any (is_dirty w h) (known_pages h) ≡ true
some_dirty w p tags h (Page s g) stands ready =
    let x = cached.page_of p.cache (Page s g)
    in let both = and_parts (is_some (cached.tag_in x)) (not (cached.is_busy x)) (sym (ready_is x) ∙ ready)
    in dirty_known w h (Page s g) (sym (stands.dirty_are s g) ∙ both.0)
some_dirty w p tags h Bitmap stands ready =
    absurd (stands.pages_alone Bitmap (ready_held (cached.page_of p.cache Bitmap) ready))
some_dirty w p tags h (Dir k) stands ready =
    absurd (stands.pages_alone (Dir k) (ready_held (cached.page_of p.cache (Dir k)) ready))
some_dirty w p tags h (Inode s) stands ready =
    absurd (stands.pages_alone (Inode s) (ready_held (cached.page_of p.cache (Inode s)) ready))

-- ---- all together
pub calls_left : (w : Workload) (plan : Plan) (p : Parts) (h : List Event) → StandsFor w plan p h
    → p.clients.finished < length w.procs → is_drained w h ≡ false
calls_left w plan p h stands less = rw (one_left w p.clients h stands.parts.clients less) refl

-- a request is queued or in flight
some_left : (a b c d e f : Bool) → (b && c) ≡ false → (a && b && c && d && e && f) ≡ false
some_left false b c d e f is = refl
some_left true false c d e f is = refl
some_left true true false d e f is = refl
some_left true true true d e f is = absurd (cc)

-- no buffer is marked, and no transaction is in the journal
abbrev journal_rests : List Event → Bool
journal_rests h = length (marked_buffers h) == 0 && length (in_journal h) == 0

pub requests_left : (w : Workload) (d : Dispatch) (h : List Event) → DispatchStands d h
    → (length d.queue.queued == 0 && length d.queue.in_flight == 0) ≡ false → is_drained w h ≡ false
requests_left w d h stands some =
    some_left (list_all (is_finished w h) (processes w)) (length (queued h) == 0) (length (in_flight h) == 0)
    (not (list_any (is_dirty w h) (known_pages h))) (length (marked_buffers h) == 0) (length (in_journal h) == 0)
    (ap (λ l. length l == 0 && length (in_flight h) == 0) (sym stands.queued_are)
    ∙ ap (λ n. length d.queue.queued == 0 && n == 0)
    (sym (ap length stands.sent_are) ∙ length-map d.queue.in_flight (λ (x : Request × ℕ). x.0))
    ∙ some)

-- no request is queued or in flight
pub record AreDone (h : List Event) : Type 0 where
  pub queue : queued h ≡ []
  pub flight : in_flight h ≡ []

are_done : (d : Dispatch) (h : List Event) → DispatchStands d h
    → (length d.queue.queued == 0 && length d.queue.in_flight == 0) ≡ true → AreDone h
are_done d h stands empty =
    let both = and_parts (length d.queue.queued == 0) (length d.queue.in_flight == 0) empty
    in record {
      queue = sym stands.queued_are ∙ nil_from_length d.queue.queued (eqb-true (length d.queue.queued) 0 both.0);
      flight = sym stands.sent_are
          ∙ ap (map (λ (x : Request × ℕ). x.0))
          (nil_from_length d.queue.in_flight (eqb-true (length d.queue.in_flight) 0 both.1));
    }

-- a page is dirty
pub pages_left : (w : Workload) (plan : Plan) (p : Parts) (h : List Event) (b : Buf) → StandsFor w plan p h
    → IsReady p.pages.cache b → is_drained w h ≡ false
pages_left w plan p h b stands ready =
    dirty_left (list_all (is_finished w h) (processes w)) (length (queued h) == 0) (length (in_flight h) == 0)
    (list_any (is_dirty w h) (known_pages h)) (length (marked_buffers h) == 0) (length (in_journal h) == 0)
    (some_dirty w p.pages (tags_of p.tags) h b stands.parts.pages ready)
  where
    dirty_left : (a b c d e f : Bool) → d ≡ true → (a && b && c && not d && e && f) ≡ false
    dirty_left false b c d e f is = refl
    dirty_left true false c d e f is = refl
    dirty_left true true false d e f is = refl
    dirty_left true true true true e f is = refl
    dirty_left true true true false e f is = absurd (cc)

-- what is left is the journal's
pub drained_by : (w : Workload) (plan : Plan) (p : Parts) (h : List Event) (r : Bool) → StandsFor w plan p h
    → length w.procs ≤ p.clients.finished
    → (length p.dispatch.queue.queued == 0 && length p.dispatch.queue.in_flight == 0) ≡ true
    → ((b : Buf) → IsReady p.pages.cache b → ⊥)
    → r ≡ (not (can_seal p.journaling.journal) && is_none (next_due p.journaling.journal true)) → r ≡ is_drained w h
drained_by w plan p h r stands all empty none is =
    let j = p.journaling.journal
    in let tags = tags_of p.tags
    in let done = are_done p.dispatch h stands.parts.dispatch empty
    in let finished = all_finished w p.clients h stands.parts.clients all
    in let left = none_unfinished w h (known w h stands.accepted stands.legal) done.queue done.flight
    in let clean = none_dirty w p.pages tags h stands.parts.pages left none
    in let shows = shown w h p.journaling tags stands.accepted stands.legal stands.parts.journaling
    in let rests : journal_rests h ≡ (not (can_seal j) && is_none (next_due j true)) =
    shows.drained_is done.queue done.flight
    ∙ ap (λ b. not b && is_none (next_due (seen tags j) true)) (can_seal_seen tags j)
    ∙ ap (λ o. not (can_seal j) && is_none o) (due_seen tags j true)
    in is ∙ sym rests ∙ sym (tests finished done clean)
  where
    tests : list_all (is_finished w h) (processes w) ≡ true → AreDone h
        → list_any (is_dirty w h) (known_pages h) ≡ false → is_drained w h ≡ journal_rests h
    tests finished done clean = rw (finished, done.queue, done.flight, clean) refl

-- all calls have returned where so many processes have finished as there are
pub returned_is : (w : Workload) (c : Clients) (h : List Event) → ClientsStand w c h
    → (c.finished == length w.procs) ≡ list_all (is_finished w h) (processes w)
returned_is w c h stands = elim (cases_lt c.finished (length w.procs)) [
  | inl less ↦
      ne_eqb c.finished (length w.procs) (λ same. omega (arith, less, same)) ∙ sym (one_left w c h stands less)
  | inr all ↦
      eq-eqb c.finished (length w.procs) (omega (arith, all, stands.finished_most))
      ∙ sym (all_finished w c h stands all)
]
