-- A page that is loading is neither dirty nor busy: what is dirty or busy stays in the cache, and what is there isn't
-- read.
use Rattle.std.proofs.Common.{◌≡◌, ℕ, ◌+◌, ◌-◌, ◌<◌, List, [], ◌∷◌, Bool, true, false, not, ◌&&◌, ◌||◌, refl, arith, subst, sym, inl, inr, ap, ◌∙◌}
use Rattle.std.specs.List.{list_any}
use Rattle.std.proofs.lemmas.Bool.{both_ways, and_parts, and_from, and_right, or_cases, or_parts, or_from, or_left, or_right, not_from_false, false_from_ne_true}
use Rattle.std.proofs.lemmas.List.Folds.{list_any-append}
use Rattle.split_types.specs.declared.ids.Pid.{Pid}
use Rattle.split_types.specs.declared.ids.Serial.{Serial}
use Rattle.split_types.specs.declared.buf.Buf.{Buf}
use Rattle.split_types.specs.declared.buf.Buf.TheVariants.{Page}
use Rattle.split_types.specs.declared.actor.Actor.{Actor}
use Rattle.split_types.specs.declared.request.Request.{Request}
use Rattle.split_types.specs.declared.request.Run.{Run}
use Rattle.split_types.specs.declared.workload.Workload.{Workload}
use Rattle.split_types.specs.declared.event.Event.{Event}
use Rattle.split_types.specs.declared.event.Event.TheVariants.{Put, Add, Done, Evict}
use Rattle.split_types.specs.History.{◌▹◌, adds}
use Rattle.split_types.specs.Hooks.{maker, same_buf, is_among, covers}
use Rattle.split_types.specs.Requests.{is_numbered, unfinished}
use Rattle.split_types.specs.Files.{is_live, bound_file}
use Rattle.split_types.specs.Pages.{is_live_page, is_put_since, is_dirty, is_busy, is_ready}
use Rattle.split_types.specs.Reads.{reads, outstanding, is_read_of, is_loading}
use Rattle.split_types.specs.HeldPages.{is_placed, is_held, is_unsettled}
use Rattle.split_types.specs.Victims.{is_pinned}
use Rattle.split_types.specs.Accepted.{IsAccepted}
use Rattle.split_types.specs.Legal.{IsLegal}
use Rattle.split_types.specs.Proving.Came.{Came}
use Rattle.split_types.specs.Proving.Came.Came.{came_put, came_evict, came_load, came_add, came_journal}
use Rattle.split_types.proofs.CameLaws.{came}
use Rattle.split_types.proofs.JournalAdds.{of_journal}
use Rattle.split_types.proofs.KnownLaws.{maps_known}
use Rattle.split_types.proofs.FileLaws.{live_of}
use Rattle.split_types.proofs.ReadyLaws.{ReadyParts, ready_parts}
use Rattle.split_types.proofs.Lists.{none_in_filter}
use Rattle.split_types.proofs.KeptLists.{any_filter, any_push}
use Rattle.split_types.proofs.HeldLaws.{same_buf-is}
use Rattle.split_types.proofs.VictimLaws.{victims_are_oldest}
use Rattle.split_types.proofs.CoverLaws.{among_parts}

-- ---- requests for pages
-- a page of a run that is ready is ready
run_ready : (w : Workload) (h : List Event) (run : Run) (s : Serial) (g : ℕ)
    → ((k : ℕ) → k < run.n → is_ready w h (Page run.serial (run.page + k)) ≡ true)
    → is_among run.serial run.page run.n (Page s g) ≡ true → ReadyParts w h s g
run_ready w h run s g all_ready is =
    let parts = among_parts run.serial s run.page run.n g is
    in let offset : run.page + (g - run.page) ≡ g = omega (arith, parts)
    in ready_parts w h s g
    (subst (λ k. is_ready w h (Page s k) ≡ true) offset
    (subst (λ t. is_ready w h (Page t (run.page + (g - run.page))) ≡ true) (ap (λ n. record { 0 = n }) parts.0)
    (all_ready (g - run.page) (omega (arith, parts)))))

-- a request that is added takes no page but one that was put and isn't busy
pub taken_ready : (w : Workload) (h : List Event) (by : Actor) (r : Request) (s : Serial) (g : ℕ) → IsAccepted w
    → IsLegal w h → Came w h (Add by r) → covers r (Page s g) ≡ true → ReadyParts w h s g
taken_ready w h by r s g accepted legal (came_load p c t piece here absent block at) is = absurd (cc)
taken_ready w h by r s g accepted legal (came_add run block at there placed long) is =
    run_ready w h run s g ((maps_known.served w h run accepted legal at).ready there) is
taken_ready w h by r s g accepted legal (came_journal kind first n j) is =
    absurd (both_ways (covers r (Page s g)) ((of_journal w h (adds h) kind first n j).covers_none (Page s g)) is)

-- ---- what is dirty or busy is in the cache
-- what is evicted is a page of a file that is there, and neither dirty nor busy
evicted_settled : (w : Workload) (h : List Event) (by : Pid) (s : Serial) (g : ℕ) → Came w h (Evict by s g)
    → (is_live w h s.0 ≡ true) × (is_unsettled w h (Page s g) ≡ false)
evicted_settled w h by s g (came_evict p c t piece here absent u k found) =
    only (is_live w h s.0) (list_any (λ r. reads r (Page s g)) (outstanding h)) (is_placed h (Page s g))
    (is_unsettled w h (Page s g)) (is_loading w h (Page s g)) (is_pinned w h (Page s g))
    (victims_are_oldest.some w h (Page s g) found).evictable
  where
    only : (live read placed u l p : Bool)
        → (((live && read) || (live && placed)) && not (u || l || p)) ≡ true → (live ≡ true) × (u ≡ false)
    only false read placed u l p may = absurd (cc)
    only true true placed true l p may = absurd (cc)
    only true false true true l p may = absurd (cc)
    only true false false u l p may = absurd (cc)
    only true read placed false l p may = (refl, refl)

pub put_settled : (w : Workload) (h : List Event) (s : Serial) (g : ℕ) → is_live w h s.0 ≡ true
    → is_unsettled w h (Page s g) ≡ false → is_put_since h (Page s g) ≡ false
put_settled w h s g live none =
    sym (ap (λ b. b && is_put_since h (Page s g)) live)
    ∙ (or_parts (is_dirty w h (Page s g)) (is_busy w h (Page s g)) none).0

pub idle_settled : (w : Workload) (h : List Event) (s : Serial) (g : ℕ) → is_live w h s.0 ≡ true
    → is_unsettled w h (Page s g) ≡ false → list_any (λ r. covers r (Page s g)) (unfinished h) ≡ false
idle_settled w h s g live none =
    sym (ap (λ b. b && list_any (λ r. covers r (Page s g)) (unfinished h)) live)
    ∙ (or_parts (is_dirty w h (Page s g)) (is_busy w h (Page s g)) none).1

-- the page was not put since a request last took it, and none that isn't done well writes it
abbrev pub IsRested : List Event → Buf → Type 0
IsRested h b = (is_put_since h b ≡ false) × (list_any (λ r. covers r b) (unfinished h) ≡ false)

evicted_rested : (w : Workload) (h : List Event) (by : Pid) (s : Serial) (g : ℕ) → Came w h (Evict by s g)
    → IsRested h (Page s g)
evicted_rested w h by s g row =
    let is = evicted_settled w h by s g row
    in (put_settled w h s g is.0 is.1, idle_settled w h s g is.0 is.1)

-- a page that is evicted isn't this one, which was put or is busy
not_evicted : (w : Workload) (h : List Event) (by : Pid) (t : Serial) (k : ℕ) (s : Serial) (g : ℕ)
    → Came w h (Evict by t k) → (IsRested h (Page s g) → ⊥) → same_buf (Page s g) (Page t k) ≡ false
not_evicted w h by t k s g row some =
    false_from_ne_true (same_buf (Page s g) (Page t k))
    (λ same. some (subst (IsRested h) (sym (same_buf-is (Page s g) (Page t k) same))
    (evicted_rested w h by t k row)))

put_placed : (w : Workload) (h : List Event) (s : Serial) (g : ℕ) → IsAccepted w → IsLegal w h
    → is_put_since h (Page s g) ≡ true → is_placed h (Page s g) ≡ true
put_placed w [] s g accepted legal is = absurd (cc)
put_placed w (h ▹ Put by t k from to fill) s g accepted legal is =
    elim (or_cases (same_buf (Page s g) (Page t k)) (is_put_since h (Page s g)) is) [
      | inl here ↦ or_left (same_buf (Page s g) (Page t k)) (is_placed h (Page s g)) here
      | inr old ↦
          or_right (same_buf (Page s g) (Page t k)) (is_placed h (Page s g))
          (put_placed w h s g accepted legal.1 old)
    ]
put_placed w (h ▹ Add by r) s g accepted legal is =
    put_placed w h s g accepted legal.1 (and_parts (not (covers r (Page s g))) (is_put_since h (Page s g)) is).1
put_placed w (h ▹ Done k id true) s g accepted legal is =
    or_right (is_read_of h id (Page s g)) (is_placed h (Page s g)) (put_placed w h s g accepted legal.1 is)
put_placed w (h ▹ Evict by t k) s g accepted legal is =
    and_from (not (same_buf (Page s g) (Page t k))) (is_placed h (Page s g))
    (not_from_false (same_buf (Page s g) (Page t k))
    (not_evicted w h by t k s g (came w h (maker (Evict by t k)) (Evict by t k) legal.0)
    (λ rested. both_ways (is_put_since h (Page s g)) rested.0 is)))
    (put_placed w h s g accepted legal.1 is)
put_placed w (h ▹ e) s g accepted legal is = put_placed w h s g accepted legal.1 is

busy_placed : (w : Workload) (h : List Event) (s : Serial) (g : ℕ) → IsAccepted w → IsLegal w h
    → list_any (λ r. covers r (Page s g)) (unfinished h) ≡ true → is_placed h (Page s g) ≡ true
busy_placed w [] s g accepted legal is = absurd (cc)
busy_placed w (h ▹ Put by t k from to fill) s g accepted legal is =
    or_right (same_buf (Page s g) (Page t k)) (is_placed h (Page s g)) (busy_placed w h s g accepted legal.1 is)
busy_placed w (h ▹ Add by r) s g accepted legal is =
    elim (any_push (λ q. covers q (Page s g)) (unfinished h) r is) [
      | inl old ↦ busy_placed w h s g accepted legal.1 old
      | inr new ↦
          put_placed w h s g accepted legal.1
          (taken_ready w h by r s g accepted legal.1 (came w h (maker (Add by r)) (Add by r) legal.0) new).put
    ]
busy_placed w (h ▹ Done k id true) s g accepted legal is =
    or_right (is_read_of h id (Page s g)) (is_placed h (Page s g))
    (busy_placed w h s g accepted legal.1
    (any_filter (λ r. covers r (Page s g)) (λ r. not (is_numbered id r)) (unfinished h) is))
busy_placed w (h ▹ Evict by t k) s g accepted legal is =
    and_from (not (same_buf (Page s g) (Page t k))) (is_placed h (Page s g))
    (not_from_false (same_buf (Page s g) (Page t k))
    (not_evicted w h by t k s g (came w h (maker (Evict by t k)) (Evict by t k) legal.0)
    (λ rested. both_ways (list_any (λ r. covers r (Page s g)) (unfinished h)) rested.1 is)))
    (busy_placed w h s g accepted legal.1 is)
busy_placed w (h ▹ e) s g accepted legal is = busy_placed w h s g accepted legal.1 is

-- ---- what is read is neither
-- a page that isn't held isn't placed
pub absent_unplaced : (w : Workload) (h : List Event) (s : Serial) (g : ℕ) → is_live w h s.0 ≡ true
    → is_held w h (Page s g) ≡ false → is_placed h (Page s g) ≡ false
absent_unplaced w h s g live none =
    sym (ap (λ b. b && is_placed h (Page s g)) live)
    ∙ (or_parts (is_loading w h (Page s g)) (is_live w h s.0 && is_placed h (Page s g)) none).1

-- nor is it dirty or busy
absent_rested : (w : Workload) (h : List Event) (s : Serial) (g : ℕ) → IsAccepted w → IsLegal w h
    → is_live w h s.0 ≡ true → is_held w h (Page s g) ≡ false → IsRested h (Page s g)
absent_rested w h s g accepted legal live none =
    let out = absent_unplaced w h s g live none
    in (
      false_from_ne_true (is_put_since h (Page s g))
          (λ put. both_ways (is_placed h (Page s g)) out (put_placed w h s g accepted legal put)),
      false_from_ne_true (list_any (λ r. covers r (Page s g)) (unfinished h))
          (λ busy. both_ways (is_placed h (Page s g)) out (busy_placed w h s g accepted legal busy)),
    )

-- what is put isn't loading
pub put_not_read : (w : Workload) (h : List Event) (by : Pid) (t : Serial) (k from to fill : ℕ) (s : Serial) (g : ℕ)
    → Came w h (Put by t k from to fill) → list_any (λ r. reads r (Page s g)) (outstanding h) ≡ true
    → same_buf (Page s g) (Page t k) ≡ false
put_not_read w h by t k from to fill s g (came_put p name off len byte u piece here may) is =
    false_from_ne_true (same_buf (Page s g) (Page t k))
    (λ same. both_ways (is_loading w h (Page t k)) here.there
    (and_from (is_live w h t.0) (list_any (λ r. reads r (Page t k)) (outstanding h))
    (live_of w h (bound_file w h p.0) t here.working.file)
    (subst (λ b. list_any (λ r. reads r b) (outstanding h) ≡ true) (same_buf-is (Page s g) (Page t k) same) is)))

-- a read is added for a page of a file that is there, which isn't held
pub record IsAbsentRead (w : Workload) (h : List Event) (r : Request) (s : Serial) (g : ℕ) : Type 0 where
  pub live : is_live w h s.0 ≡ true
  pub absent : is_held w h (Page s g) ≡ false
  pub none : covers r (Page s g) ≡ false

pub read_absent : (w : Workload) (h : List Event) (by : Actor) (r : Request) (s : Serial) (g : ℕ) → Came w h (Add by r)
    → reads r (Page s g) ≡ true → IsAbsentRead w h r s g
read_absent w h by r s g (came_load p c t piece here absent block at) is =
    let same = sym (same_buf-is (Page s g) (Page t piece.page) is)
    in record {
      live =
          subst (λ b. is_live_page w h b ≡ true) same (live_of w h (bound_file w h p.0) t here.working.file);
      absent = subst (λ b. is_held w h b ≡ false) same absent.absent;
      none = refl;
    }
read_absent w h by r s g (came_add run block at there placed long) is = absurd (cc)
read_absent w h by r s g (came_journal kind first n j) is =
    absurd (let none = (of_journal w h (adds h) kind first n j).reads_none (Page s g) in cc)

pub loading_rested : (w : Workload) (h : List Event) (s : Serial) (g : ℕ) → IsAccepted w → IsLegal w h
    → list_any (λ r. reads r (Page s g)) (outstanding h) ≡ true → IsRested h (Page s g)
loading_rested w [] s g accepted legal is = absurd (cc)
loading_rested w (h ▹ Put by t k from to fill) s g accepted legal is =
    let old = loading_rested w h s g accepted legal.1 is
    in let row = came w h (maker (Put by t k from to fill)) (Put by t k from to fill) legal.0
    in (
      or_from (same_buf (Page s g) (Page t k)) (is_put_since h (Page s g))
          (put_not_read w h by t k from to fill s g row is) old.0,
      old.1,
    )
loading_rested w (h ▹ Add by r) s g accepted legal is =
    elim (any_push (λ q. reads q (Page s g)) (outstanding h) r is) [
      | inl was ↦
          (let old = loading_rested w h s g accepted legal.1 was
          in added old (false_from_ne_true (covers r (Page s g))
          (λ taken. both_ways (is_put_since h (Page s g)) old.0
          (taken_ready w h by r s g accepted legal.1 row taken).put)))
      | inr new ↦
          (let read = read_absent w h by r s g row new
          in added (absent_rested w h s g accepted legal.1 read.live read.absent) read.none)
    ]
  where
    row : Came w h (Add by r)
    row = came w h (maker (Add by r)) (Add by r) legal.0

    added : IsRested h (Page s g) → covers r (Page s g) ≡ false → IsRested (h ▹ Add by r) (Page s g)
    added old none = (
      and_right (not (covers r (Page s g))) (is_put_since h (Page s g)) old.0,
      list_any-append (λ q. covers q (Page s g)) (unfinished h) (r ∷ [])
          ∙ or_from (list_any (λ q. covers q (Page s g)) (unfinished h)) (covers r (Page s g) || false) old.1
          (or_from (covers r (Page s g)) false none refl),
    )
loading_rested w (h ▹ Done k id true) s g accepted legal is =
    let old =
    loading_rested w h s g accepted legal.1
    (any_filter (λ r. reads r (Page s g)) (λ r. not (is_numbered id r)) (outstanding h) is)
    in (
      old.0,
      none_in_filter (λ r. covers r (Page s g)) (λ r. not (is_numbered id r)) (unfinished h) old.1,
    )
loading_rested w (h ▹ Done k id false) s g accepted legal is =
    loading_rested w h s g accepted legal.1
    (any_filter (λ r. reads r (Page s g)) (λ r. not (is_numbered id r)) (outstanding h) is)
loading_rested w (h ▹ e) s g accepted legal is = loading_rested w h s g accepted legal.1 is

-- a page that is loading is neither dirty nor busy
pub loading_settled : (w : Workload) (h : List Event) (s : Serial) (g : ℕ) → IsAccepted w → IsLegal w h
    → is_loading w h (Page s g) ≡ true → is_unsettled w h (Page s g) ≡ false
loading_settled w h s g accepted legal is =
    let rested =
    loading_rested w h s g accepted legal
    (and_parts (is_live w h s.0) (list_any (λ r. reads r (Page s g)) (outstanding h)) is).1
    in or_from (is_dirty w h (Page s g)) (is_busy w h (Page s g))
    (and_right (is_live w h s.0) (is_put_since h (Page s g)) rested.0)
    (and_right (is_live w h s.0) (list_any (λ r. covers r (Page s g)) (unfinished h)) rested.1)
