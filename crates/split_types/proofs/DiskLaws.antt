-- The disk holds the bytes of every page that is neither dirty nor busy.
use Rattle.std.proofs.Common.{◌≡◌, ℕ, ◌+◌, ◌-◌, ◌==◌, ◌<◌, ◌≤◌, List, [], ◌∷◌, length, slice_get, filter, Bool, true, false, not, ◌&&◌, ◌||◌, ◌⊎◌, Option, Some, refl, arith, subst, sym, inl, inr, ap, ◌∙◌}
use Rattle.std.specs.List.{list_any}
use Rattle.std.proofs.lemmas.Bool.{cases_Bool, both_ways, eqb-true, and_parts, and_cases, or_cases, or_parts, false_from_ne_true, not_from_false}
use Rattle.std.proofs.lemmas.List.{length-replicate}
use Rattle.std.proofs.lemmas.List.Folds.{list_any-append}
use Rattle.std.proofs.lemmas.Option.{same_Some, slice_get_within}
use Rattle.split_types.specs.declared.ids.ReqId.{ReqId}
use Rattle.split_types.specs.declared.ids.Serial.{Serial}
use Rattle.split_types.specs.declared.ids.Slot.{Slot}
use Rattle.split_types.specs.declared.buf.Buf.{Buf}
use Rattle.split_types.specs.declared.buf.Buf.TheVariants.{Page}
use Rattle.split_types.specs.declared.request.Request.{Request}
use Rattle.split_types.specs.declared.workload.Workload.{Workload}
use Rattle.split_types.specs.declared.event.Event.{Event}
use Rattle.split_types.specs.declared.event.Event.TheVariants.{Make, Drop, Put, Map, Add, Done}
use Rattle.split_types.specs.History.{◌▹◌, adds}
use Rattle.split_types.specs.Hooks.{maker, same_buf, covers}
use Rattle.split_types.specs.Workloads.{first_block}
use Rattle.split_types.specs.Requests.{is_numbered, requests, unfinished}
use Rattle.split_types.specs.Files.{is_live}
use Rattle.split_types.specs.Pages.{is_put_since}
use Rattle.split_types.specs.HeldPages.{is_unsettled}
use Rattle.split_types.specs.FileMaps.{mapped_block, free_blocks}
use Rattle.split_types.specs.PageBytes.{filled_page, filled, page_bytes, PutsFit}
use Rattle.split_types.specs.DiskBytes.{carried, preset_fill, start_block, Adding, adding, writes, after_write, disk_block}
use Rattle.split_types.specs.Writeback.{served_run}
use Rattle.split_types.specs.DiskContents.{IsOnDisk, CleanPagesAreOnDisk}
use Rattle.split_types.specs.Accepted.{IsAccepted}
use Rattle.split_types.specs.Legal.{IsLegal}
use Rattle.split_types.specs.Proving.Came.{Came}
use Rattle.split_types.specs.Proving.Came.Came.{came_map, came_grow}
use Rattle.split_types.specs.Proving.Known.{Known}
use Rattle.split_types.proofs.Lists.{slice_get-push, find_some, filter_there, list_any_here}
use Rattle.split_types.proofs.KeptLists.{case_true, case_false, in_filter}
use Rattle.split_types.proofs.ByteLaws.{length-page_bytes}
use Rattle.split_types.proofs.WaitingLaws.{same_number}
use Rattle.split_types.proofs.CameLaws.{came}
use Rattle.split_types.proofs.KnownLaws.{maps_known, known}
use Rattle.split_types.proofs.ReadyLaws.{ready_parts}
use Rattle.split_types.proofs.MapBlocks.{IsNew, map_cases}
use Rattle.split_types.proofs.MapRuns.{free_is}
use Rattle.split_types.proofs.PutLaws.{put_in_legal}
use Rattle.split_types.proofs.HeldLaws.{same_buf-is, same_buf-self}
use Rattle.split_types.proofs.PagesKeep.{made_serial}
use Rattle.split_types.proofs.CoverLaws.{covered, writes_covered, carried_covered, written, writes_other}
use Rattle.split_types.proofs.WriteLaws.{adding_new, adding_kept, adding_there, before_legal, left_run, IsDone, is_done}
use Rattle.split_types.proofs.StartLaws.{start_data, start_page}
use Rattle.split_types.proofs.ReadLaws.{read_loading}
use Rattle.split_types.proofs.LoadingLaws.{taken_ready, put_settled, idle_settled, loading_settled}

-- ---- a put of another page
same_buf-other : (b c : Buf) → same_buf b c ≡ false → same_buf c b ≡ false
same_buf-other b c other =
    false_from_ne_true (same_buf c b)
    (λ is. both_ways (same_buf b c) other
    (subst (λ z. same_buf b z ≡ true) (sym (same_buf-is c b is)) (same_buf-self b)))

other_put : (w : Workload) (h : List Event) (s t : Serial) (g k from to fill : ℕ)
    → same_buf (Page s g) (Page t k) ≡ false
    → ◌≡◌ {A = List ℕ} (elim (same_buf (Page t k) (Page s g)) [
      | true ↦ filled (page_bytes w h s g) from to fill
      | false ↦ page_bytes w h s g
    ]) (page_bytes w h s g)
other_put w h s t g k from to fill other =
    case_false (same_buf (Page t k) (Page s g)) (filled (page_bytes w h s g) from to fill) (page_bytes w h s g)
    (same_buf-other (Page s g) (Page t k) other)

-- ---- what a request that isn't done well carries
-- it carries the page as it is, where that wasn't put since
pub carries_page : (w : Workload) (h : List Event) (s : Serial) (g k : ℕ) (r : Request) (before : List Event)
    → IsAccepted w → IsLegal w h → is_put_since h (Page s g) ≡ false → slice_get (unfinished h) k ≡ Some r
    → covers r (Page s g) ≡ true → adding h r.id ≡ Some (record { request = r; before = before })
    → page_bytes w before s g ≡ page_bytes w h s g
carries_page w [] s g k r before accepted legal rested at is added = absurd (cc)
carries_page w (h ▹ Put by t j from to fill) s g k r before accepted legal rested at is added =
    let parts = or_parts (same_buf (Page s g) (Page t j)) (is_put_since h (Page s g)) rested
    in carries_page w h s g k r before accepted legal.1 parts.1 at is added
    ∙ sym (other_put w h s t g j from to fill parts.0)
carries_page w (h ▹ Add by q) s g k r before accepted legal rested at is added =
    elim (slice_get-push (unfinished h) q k r at) [
      | inl old ↦ (let own = f.waiting.left_of k r old
          in let below : r.id.0 < adds h =
          omega (arith, slice_get_within (requests h) r.id.0 r own, f.numbered.counted)
          in carries_page w h s g k r before accepted legal.1
          (unput old (and_cases (not (covers q (Page s g))) (is_put_since h (Page s g)) rested)) old is
          (sym (adding_kept w h (Add by q) r.id legal below) ∙ added))
      | inr new ↦ (let here : adding (h ▹ Add by q) r.id ≡ Some (record { request = r; before = h }) =
          subst (λ x. adding (h ▹ Add by q) x.id ≡ Some (record { request = x; before = h })) new.1 (adding_new h by q)
          in ap (λ l. page_bytes w l s g) (ap (λ a. a.before) (same_Some _ _ (sym added ∙ here))))
    ]
  where
    f : Known w h
    f = known w h accepted legal.1

    -- the new request doesn't take the page, since it is busy
    unput : slice_get (unfinished h) k ≡ Some r
        → (not (covers q (Page s g)) ≡ false) ⊎ (is_put_since h (Page s g) ≡ false)
        → is_put_since h (Page s g) ≡ false
    unput old (inr none) = none
    unput old (inl taken) =
        absurd (both_ways (list_any (λ x. covers x (Page s g)) (unfinished h))
        (taken_ready w h by q s g accepted legal.1 (came w h (maker (Add by q)) (Add by q) legal.0)
        (taken_is (covers q (Page s g)) taken)).idle
        (list_any_here (λ x. covers x (Page s g)) (unfinished h) k r old is))
      where
        taken_is : (b : Bool) → not b ≡ false → b ≡ true
        taken_is true is = refl
        taken_is false is = absurd (cc)
carries_page w (h ▹ Done j id true) s g k r before accepted legal rested at is added =
    let there = filter_there (λ q. not (is_numbered id q)) (unfinished h) k r at
    in carries_page w h s g there.0 r before accepted legal.1 rested there.1 is added
carries_page w (h ▹ e) s g k r before accepted legal rested at is added =
    carries_page w h s g k r before accepted legal.1 rested at is added

-- ---- a request that is done
-- where it writes the block that holds what it carries
after_written : (w : Workload) (o : Option Adding) (r : Request) (before : List Event) (x : ℕ) (bytes : List ℕ)
    → o ≡ Some (record { request = r; before = before }) → writes r x ≡ true
    → after_write w o x bytes ≡ carried w before r (x - r.first)
after_written w o r before x bytes added is =
    ap (λ a. after_write w a x bytes) added
    ∙ case_true (writes r x) (carried w before r (x - r.first)) bytes is

-- and else it stays as it was
after_other : (w : Workload) (o : Option Adding) (r : Request) (before : List Event) (x : ℕ) (bytes : List ℕ)
    → o ≡ Some (record { request = r; before = before }) → writes r x ≡ false → after_write w o x bytes ≡ bytes
after_other w o r before x bytes added none =
    ap (λ a. after_write w a x bytes) added
    ∙ case_false (writes r x) (carried w before r (x - r.first)) bytes none

-- where a request is done that doesn't write the page, and none is left that does, there was none before
idle_before : (w : Workload) (h : List Event) (id : ReqId) (s : Serial) (g : ℕ) → Known w h → (r : Request)
    → slice_get (requests h) r.id.0 ≡ Some r → r.id ≡ id → covers r (Page s g) ≡ false
    → list_any (λ q. covers q (Page s g)) (filter (λ q. not (is_numbered id q)) (unfinished h)) ≡ false
    → list_any (λ q. covers q (Page s g)) (unfinished h) ≡ false
idle_before w h id s g f r own number none idle = false_from_ne_true (list_any takes (unfinished h)) by_found
  where
    takes : Request → Bool
    takes q = covers q (Page s g)

    stays : Request → Bool
    stays q = not (is_numbered id q)

    by_found : list_any takes (unfinished h) ≡ true → ⊥
    by_found any =
        let found = find_some takes (unfinished h) any
        in elim (cases_Bool (is_numbered id found.element)) [
          | inl same ↦
              (let one =
              same_number (requests h) (unfinished h) found.place found.element r f.waiting.left_of found.there own
              (subst (λ i. is_numbered i found.element ≡ true) (sym number) same)
              in both_ways (takes r) none (subst (λ q. takes q ≡ true) one found.passes))
          | inr other ↦
              (let kept =
              in_filter stays (unfinished h) found.place found.element found.there
              (not_from_false (is_numbered id found.element) other)
              in both_ways (list_any takes (filter stays (unfinished h))) idle
              (list_any_here takes (filter stays (unfinished h)) kept.0 found.element kept.1 found.passes))
        ]

-- ---- pages that get blocks
-- writeback maps pages that were put and that no request took since
mapped_put : (w : Workload) (h : List Event) (slot : Slot) (t : Serial) (page n block : ℕ) (new : Bool) (size k : ℕ)
    → IsAccepted w → IsLegal w h → Came w h (Map slot t page n block new size) → k < n
    → is_put_since h (Page t (page + k)) ≡ true
mapped_put w h slot t page n block new size k accepted legal (came_map run free serves there none at) below =
    let served = maps_known.served w h run accepted legal (ap served_run serves)
    in let least = (free_is (free_blocks w h) run.n free at).most
    in (ready_parts w h run.serial (run.page + k) (served.ready there k (omega (arith, least, below)))).put
mapped_put w h slot t page n block new size k accepted legal (came_grow run first serves there at short) below =
    let served = maps_known.served w h run accepted legal (ap served_run serves)
    in (ready_parts w h run.serial (run.page + k) (served.ready there k below)).put

-- so a page that was not put had its block before
mapped_before : (w : Workload) (h : List Event) (slot : Slot) (t : Serial) (page n block : ℕ) (new : Bool) (size : ℕ)
    (s : Serial) (g x : ℕ) → IsAccepted w → IsLegal w (h ▹ Map slot t page n block new size)
    → mapped_block w (h ▹ Map slot t page n block new size) s.0 g ≡ Some x → is_put_since h (Page s g) ≡ false
    → mapped_block w h s.0 g ≡ Some x
mapped_before w h slot t page n block new size s g x accepted legal at rested =
    elim (map_cases (mapped_block w h) t.0 page n block s.0 g x at) [
      | inl fresh ↦ absurd (both_ways (is_put_since h (Page s g)) rested (put fresh))
      | inr old ↦ old
    ]
  where
    e : Event
    e = Map slot t page n block new size

    put : IsNew t.0 page n block s.0 g x → is_put_since h (Page s g) ≡ true
    put fresh =
        let own = mapped_put w h slot t page n block new size fresh.behind accepted legal.1
        (came w h (maker e) e legal.0) fresh.below
        in subst (λ k. is_put_since h (Page s k) ≡ true) (sym fresh.page_is)
        (subst (λ u. is_put_since h (Page u (page + fresh.behind)) ≡ true)
        (ap (λ i. record { 0 = i }) (sym fresh.file)) own)

-- ---- pages that are neither dirty nor busy
pub clean_page : (w : Workload) (h : List Event) (s : Serial) (g x : ℕ) → IsAccepted w → IsLegal w h
    → is_live w h s.0 ≡ true → mapped_block w h s.0 g ≡ Some x → is_put_since h (Page s g) ≡ false
    → list_any (λ r. covers r (Page s g)) (unfinished h) ≡ false → disk_block w h x ≡ page_bytes w h s g
clean_page w [] s g x accepted legal live at rested idle = start_page w s g x at
clean_page w (h ▹ Put by t k from to fill) s g x accepted legal live at rested idle =
    let parts = or_parts (same_buf (Page s g) (Page t k)) (is_put_since h (Page s g)) rested
    in clean_page w h s g x accepted legal.1 live at parts.1 idle
    ∙ sym (other_put w h s t g k from to fill parts.0)
clean_page w (h ▹ Map slot t page n block new size) s g x accepted legal live at rested idle =
    let before = mapped_before w h slot t page n block new size s g x accepted legal at rested
    in clean_page w h s g x accepted legal.1 live before rested idle
clean_page w (h ▹ Add by r) s g x accepted legal live at rested idle =
    let parts =
    or_parts (list_any (λ q. covers q (Page s g)) (unfinished h)) (covers r (Page s g) || false)
    (sym (list_any-append (λ q. covers q (Page s g)) (unfinished h) (r ∷ [])) ∙ idle)
    in clean_page w h s g x accepted legal.1 live at
    (unput (covers r (Page s g)) (is_put_since h (Page s g)) (or_parts (covers r (Page s g)) false parts.1).0 rested)
    parts.0
  where
    unput : (taken put : Bool) → taken ≡ false → (not taken && put) ≡ false → put ≡ false
    unput true put none is = absurd (cc)
    unput false put none is = is
clean_page w (h ▹ Done k id true) s g x accepted legal live at rested idle =
    elim (cases_Bool (covers d.request (Page s g))) [
      | inl own ↦
          (let c = covered w h d.request s g x d.run at own
          in after_written w (adding h id) d.request d.before x (disk_block w h x) d.added
          (writes_covered d.request s g x c)
          ∙ carried_covered w d.before d.request s g x c
          ∙ carries_page w h s g d.place d.request d.before accepted legal.1 rested d.there own
          (ap (adding h) d.number ∙ d.added))
      | inr other ↦
          after_other w (adding h id) d.request d.before x (disk_block w h x) d.added
          (writes_other w h d.place d.request s g x accepted legal.1 d.there d.run live at other)
          ∙ clean_page w h s g x accepted legal.1 live at rested
          (idle_before w h id s g f d.request (f.waiting.left_of d.place d.request d.there) d.number other idle)
    ]
  where
    f : Known w h
    f = known w h accepted legal.1

    d : IsDone w h k id
    d = is_done w h k id accepted legal
clean_page w (h ▹ Make by slot serial) s g x accepted legal live at rested idle =
    elim (or_cases (serial.0 == s.0) (is_live w h s.0) live) [
      | inl new ↦
          absurd (omega (
            arith,
            eqb-true serial.0 s.0 new,
            made_serial w h by slot serial (came w h (maker (Make by slot serial)) (Make by slot serial) legal.0),
            ((maps_known.maps w h accepted legal.1).placed s.0 g x at).numbered,
          ))
      | inr old ↦ clean_page w h s g x accepted legal.1 old at rested idle
    ]
clean_page w (h ▹ Drop by slot serial) s g x accepted legal live at rested idle =
    clean_page w h s g x accepted legal.1 (and_parts (not (serial.0 == s.0)) (is_live w h s.0) live).1 at rested idle
clean_page w (h ▹ e) s g x accepted legal live at rested idle = clean_page w h s g x accepted legal.1 live at rested idle

-- ---- other blocks
-- a block of data that no page ever had keeps what it held at the start
pub other_block : (w : Workload) (h : List Event) (x : ℕ) → IsAccepted w → IsLegal w h → first_block w ≤ x
    → ((s : Serial) (g : ℕ) → mapped_block w h s.0 g ≡ Some x → ⊥) → disk_block w h x ≡ start_block w x
other_block w [] x accepted legal from none = refl
other_block w (h ▹ Done k id true) x accepted legal from none =
    let d = is_done w h k id accepted legal
    in after_other w (adding h id) d.request d.before x (disk_block w h x) d.added
    (false_from_ne_true (writes d.request x)
    (λ is. (let there = written w h d.request x d.run from is in none there.serial there.page there.at)))
    ∙ other_block w h x accepted legal.1 from none
other_block w (h ▹ Map slot t page n block new size) x accepted legal from none =
    other_block w h x accepted legal.1 from
    (λ s g at. none s g
    (maps_known.stays w h (Map slot t page n block new size) s.0 g x accepted legal at))
other_block w (h ▹ e) x accepted legal from none = other_block w h x accepted legal.1 from none

-- ---- whole blocks
-- every put of a legal history stays within its page
pub puts_fit : (w : Workload) (h : List Event) → IsAccepted w → IsLegal w h → PutsFit h
puts_fit w [] accepted legal = tt
puts_fit w (h ▹ Put by s g from to fill) accepted legal =
    let at = put_in_legal w h by s g from to fill accepted legal
    in (omega (arith, at.some), at.to_most, puts_fit w h accepted legal.1)
puts_fit w (h ▹ e) accepted legal = puts_fit w h accepted legal.1

pub whole_page : (w : Workload) (h : List Event) (s : Serial) (g : ℕ) → IsAccepted w → IsLegal w h
    → length (page_bytes w h s g) ≡ 4096
whole_page w h s g accepted legal = length-page_bytes w h s g (puts_fit w h accepted legal)

pub whole_block : (w : Workload) (h : List Event) (x : ℕ) → IsAccepted w → IsLegal w h → first_block w ≤ x
    → length (disk_block w h x) ≡ 4096
unfolding filled_page
whole_block w [] x accepted legal from =
    ap length (start_data w x from) ∙ length-replicate 4096 (preset_fill w.files (x - first_block w))
whole_block w (h ▹ Done k id true) x accepted legal from =
    let d = is_done w h k id accepted legal
    in elim (cases_Bool (writes d.request x)) [
      | inl is ↦
          (let there = written w h d.request x d.run from is
          in let c = covered w h d.request there.serial there.page x d.run there.at there.covers_it
          in ap length (after_written w (adding h id) d.request d.before x (disk_block w h x) d.added is
          ∙ carried_covered w d.before d.request there.serial there.page x c)
          ∙ whole_page w d.before there.serial there.page accepted
          (before_legal w h id (record { request = d.request; before = d.before }) legal.1 d.added))
      | inr none ↦
          ap length (after_other w (adding h id) d.request d.before x (disk_block w h x) d.added none)
          ∙ whole_block w h x accepted legal.1 from
    ]
whole_block w (h ▹ e) x accepted legal from = whole_block w h x accepted legal.1 from

-- ---- every page that has a block
on_disk : (w : Workload) (h : List Event) (s : Serial) (g x : ℕ) → IsAccepted w → IsLegal w h
    → is_live w h s.0 ≡ true → mapped_block w h s.0 g ≡ Some x → IsOnDisk w h s g x
on_disk w h s g x accepted legal live at = record {
  clean = clean;
  busy =
      λ k r rested there is. (let own = (known w h accepted legal).waiting.left_of k r there
      in let add = adding_there w h r.id.0 r accepted legal own
      in let c = covered w h r s g x (left_run w h k r accepted legal there) at is
      in record {
        before = add.0;
        added = add.1;
        written = writes_covered r s g x c;
        bytes_are =
            carried_covered w add.0 r s g x c
            ∙ carries_page w h s g k r add.0 accepted legal
            (sym (ap (λ b. b && is_put_since h (Page s g)) live) ∙ rested) there is add.1;
      });
  settled = λ loading. loading_settled w h s g accepted legal loading;
  found =
      λ k id done read. clean (loading_settled w h s g accepted legal
      (read_loading w h k id s g accepted done live read));
}
  where
    clean : is_unsettled w h (Page s g) ≡ false → disk_block w h x ≡ page_bytes w h s g
    clean none =
        clean_page w h s g x accepted legal live at (put_settled w h s g live none) (idle_settled w h s g live none)

pub clean_pages_are_on_disk : CleanPagesAreOnDisk
clean_pages_are_on_disk = record { pages = on_disk; others = other_block; whole = whole_block }
