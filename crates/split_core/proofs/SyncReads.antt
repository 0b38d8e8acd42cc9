-- What is kept of an fsync says whether all puts that it waits for are on the disk.
use Rattle.std.proofs.Common.{◌≡◌, ℕ, ◌-◌, ◌≤◌, ◌==◌, Bool, true, false, not, ◌&&◌, ◌||◌, List, [], ◌∷◌, length, nat_lt}
use Rattle.std.proofs.Common.{slice_index_or, Option, Some, None, is_some, inl, inr, refl, ap, sym, ◌∙◌, subst, arith}
use Rattle.std.specs.List.{list_any}
use Rattle.std.specs.Cmp.{both_ways}
use Rattle.std.proofs.lemmas.Bool.{cases_Bool, cases_lt, or_cases, or_left, or_right, and_parts, and_from, cond-true}
use Rattle.std.proofs.lemmas.Bool.{cond-false, eq-eqb, eqb-true}
use Rattle.std.proofs.lemmas.Option.{get_or_from_slice_get}
use Rattle.std.proofs.lemmas.List.{get_or_past}
use Rattle.std.proofs.lemmas.List.Folds.{list_any_at, list_any-append}
use Rattle.split_types.specs.declared.ids.Serial.{Serial}
use Rattle.split_types.specs.declared.buf.Buf.{Buf}
use Rattle.split_types.specs.declared.buf.Buf.TheVariants.{Page}
use Rattle.split_types.specs.declared.workload.Workload.{Workload}
use Rattle.split_types.specs.declared.event.Event.{Event}
use Rattle.split_types.specs.declared.event.Event.TheVariants.{Put, Drop, Map, Add}
use Rattle.split_types.specs.History.{◌▹◌}
use Rattle.split_types.specs.Hooks.{covers, same_buf}
use Rattle.split_types.specs.OpenDirtyings.{open_at}
use Rattle.split_types.specs.Requests.{unfinished}
use Rattle.split_types.specs.Calls.{call_of}
use Rattle.split_types.specs.Files.{bound_file}
use Rattle.split_types.specs.HeldPages.{pages_moved, with_page, known_pages}
use Rattle.split_types.specs.Syncing.{admit_place, unwritten_puts, is_unwritten, is_written}
use Rattle.split_types.specs.Accepted.{IsAccepted}
use Rattle.split_types.specs.Legal.{IsLegal}
use Rattle.split_types.proofs.Shared.{some_at, find_some, list_any_here, same_buf-is, with_pages-old}
use Rattle.split_types.proofs.HeldLaws.{busy_known}
use Rattle.split_core.specs.declared.note.syncs.Unwritten.{Unwritten}
use Rattle.split_core.specs.declared.note.syncs.CallSync.{CallSync}
use Rattle.split_core.specs.declared.note.syncs.Syncs.{Syncs}
use Rattle.split_core.specs.Givens.{is_sync}
use Rattle.split_core.specs.Syncs.{is_in, is_any_before, flying_puts, PutsAre, CallSyncIs, SyncsStand}
use Rattle.split_core.proofs.SyncPuts.{open_put, open_drop, open_add, unfinished_covers}

-- ---- which pages are known
-- the page is among those that are known
abbrev IsKnown : List Event → Buf → Type 0
IsKnown h b = list_any (same_buf b) (known_pages h) ≡ true

page_added : (b c : Buf) (bufs : List Buf) → same_buf c b ≡ true → list_any (same_buf c) (with_page b bufs) ≡ true
page_added b c bufs same = elim (cases_Bool (list_any (same_buf b) bufs)) [
  | inl old ↦ ap (list_any (same_buf c)) (cond-true (list_any (same_buf b) bufs) bufs (b ∷ bufs) old)
      ∙ subst (λ x. list_any (same_buf x) bufs ≡ true) (sym (same_buf-is c b same)) old
  | inr new ↦ ap (list_any (same_buf c)) (cond-false (list_any (same_buf b) bufs) bufs (b ∷ bufs) new)
      ∙ or_left (same_buf c b) (list_any (same_buf c) bufs) same
]

-- a page of which a put is open is known
open_known : (h : List Event) (s : Serial) (g at : ℕ) → is_any_before at (open_at h (Page s g)) ≡ true
    → IsKnown h (Page s g)
open_known [] s g at any = absurd (cc)
open_known (h ▹ Put by t j from to fill) s g at any = elim (or_cases
    (same_buf (Page s g) (Page t j) && nat_lt (length h) at) (is_any_before at (open_at h (Page s g)))
    (sym (open_put h by t j from to fill s g at) ∙ any)) [
      | inl here ↦ page_added (Page t j) (Page s g) (known_pages h)
          (and_parts (same_buf (Page s g) (Page t j)) (nat_lt (length h) at) here).0
      | inr old ↦ with_pages-old (Page t j ∷ []) (Page s g) (known_pages h) (open_known h s g at old)
    ]
open_known (h ▹ Drop by slot t) s g at any = open_known h s g at
    (and_parts (not (t.0 == s.0)) (is_any_before at (open_at h (Page s g)))
    (sym (open_drop h by slot t s g at) ∙ any)).1
open_known (h ▹ Add by r) s g at any = with_pages-old (pages_moved r) (Page s g) (known_pages h)
    (open_known h s g at
    (and_parts (not (covers r (Page s g))) (is_any_before at (open_at h (Page s g)))
    (sym (open_add h by r s g at) ∙ any)).1)
open_known (h ▹ Map slot t k n block true size) s g at any = open_known h s g at any
open_known (h ▹ Map slot t k n block false size) s g at any = open_known h s g at any
open_known (h ▹ e) s g at any = open_known h s g at any

-- so is one of which a request took a put that isn't done well
flying_known : (w : Workload) (h : List Event) (s : Serial) (g at : ℕ) → IsAccepted w → IsLegal w h
    → is_any_before at (flying_puts h (Page s g)) ≡ true → IsKnown h (Page s g)
flying_known w h s g at accepted legal any = elim (cases_Bool (list_any (λ r. covers r (Page s g)) (unfinished h))) [
  | inl covered ↦ busy_known h (Page s g) covered
  | inr none ↦
      (let not_any : is_any_before at (flying_puts h (Page s g)) ≡ false =
      unfinished_covers w h (Page s g) at accepted legal none
      in absurd (cc (not_any, any)))
]

-- ---- sets of pages
some_in : (set : List Bool) → list_any (λ b. b) set ≡ true → (g : ℕ) × (is_in set g ≡ true)
some_in set any =
    let found = find_some (λ (b : Bool). b) set any
    in (found.place, get_or_from_slice_get set found.place found.element false found.there ∙ found.passes)

any_in : (set : List Bool) (g : ℕ) → is_in set g ≡ true → list_any (λ b. b) set ≡ true
any_in set g is = elim (cases_lt g (length set)) [
  | inl within ↦ list_any_at (λ b. b) set g false within is
  | inr past ↦ (let out : is_in set g ≡ false = get_or_past set g false past in absurd (cc (out, is)))
]

neither : (a b : Bool) → (not a && not b) ≡ not (a || b)
neither true b = refl
neither false b = refl

-- ---- whether all is on the disk
-- of which pages a put isn't on the disk is what is kept
unwritten_is : (h : List Event) (s : Serial) (at g : ℕ) (u : Unwritten) → PutsAre h s at u
    → is_any_before at (unwritten_puts h (Page s g)) ≡ (is_in u.dirty g || is_in u.flying g)
unwritten_is h s at g u are =
    list_any-append (λ i. nat_lt i at) (open_at h (Page s g)) (flying_puts h (Page s g))
    ∙ ap (λ b. b || is_any_before at (flying_puts h (Page s g))) (sym (are.dirty_are g))
    ∙ ap (λ b. is_in u.dirty g || b) (sym (are.flying_are g))

-- some page is kept
abbrev has_some : Unwritten → Bool
has_some u = list_any (λ b. b) u.dirty || list_any (λ b. b) u.flying

puts_written : (w : Workload) (h : List Event) (s : Serial) (at : ℕ) (u : Unwritten) → IsAccepted w → IsLegal w h
    → PutsAre h s at u
    → (not (list_any (λ b. b) u.dirty) && not (list_any (λ b. b) u.flying)) ≡ is_written h (Some s) at
puts_written w h s at u accepted legal are =
    neither (list_any (λ b. b) u.dirty) (list_any (λ b. b) u.flying)
    ∙ ap not (both_ways (has_some u) (list_any (is_unwritten h s at) (known_pages h)) forth back)
  where
    -- a known page of which a put isn't on the disk
    here : (g : ℕ) → IsKnown h (Page s g) → (is_in u.dirty g || is_in u.flying g) ≡ true
        → list_any (is_unwritten h s at) (known_pages h) ≡ true
    here g known is =
        let found = find_some (same_buf (Page s g)) (known_pages h) known
        in let own : is_unwritten h s at (Page s g) ≡ true =
        and_from (s.0 == s.0) (is_any_before at (unwritten_puts h (Page s g))) (eq-eqb s.0 s.0 refl)
        (unwritten_is h s at g u are ∙ is)
        in list_any_here (is_unwritten h s at) (known_pages h) found.place found.element found.there
        (subst (λ b. is_unwritten h s at b ≡ true) (same_buf-is (Page s g) found.element found.passes) own)

    forth : has_some u ≡ true → list_any (is_unwritten h s at) (known_pages h) ≡ true
    forth any = elim (or_cases (list_any (λ b. b) u.dirty) (list_any (λ b. b) u.flying) any) [
      | inl dirty ↦
          (let some = some_in u.dirty dirty
          in here some.0 (open_known h s some.0 at (sym (are.dirty_are some.0) ∙ some.1))
          (or_left (is_in u.dirty some.0) (is_in u.flying some.0) some.1))
      | inr flying ↦
          (let some = some_in u.flying flying
          in here some.0 (flying_known w h s some.0 at accepted legal (sym (are.flying_are some.0) ∙ some.1))
          (or_right (is_in u.dirty some.0) (is_in u.flying some.0) some.1))
    ]

    kept : (g : ℕ) → is_any_before at (unwritten_puts h (Page s g)) ≡ true → has_some u ≡ true
    kept g is = elim (or_cases (is_in u.dirty g) (is_in u.flying g) (sym (unwritten_is h s at g u are) ∙ is)) [
      | inl dirty ↦ or_left (list_any (λ b. b) u.dirty) (list_any (λ b. b) u.flying) (any_in u.dirty g dirty)
      | inr flying ↦ or_right (list_any (λ b. b) u.dirty) (list_any (λ b. b) u.flying) (any_in u.flying g flying)
    ]

    at_page : (b : Buf) → is_unwritten h s at b ≡ true → has_some u ≡ true
    at_page (Page t g) is =
        let parts = and_parts (t.0 == s.0) (is_any_before at (unwritten_puts h (Page t g))) is
        in kept g (subst (λ n. is_any_before at (unwritten_puts h (Page (record { 0 = n }) g)) ≡ true)
        (eqb-true t.0 s.0 parts.0) parts.1)
    at_page b is = absurd (cc)

    back : list_any (is_unwritten h s at) (known_pages h) ≡ true → has_some u ≡ true
    back any =
        let found = find_some (is_unwritten h s at) (known_pages h) any
        in at_page found.element found.passes

-- ---- what is read of an fsync
-- the file that its process is bound to
file_bound : (w : Workload) (h : List Event) (p : ℕ) (x : CallSync) → CallSyncIs w h p x
    → is_sync (call_of w h p) ≡ true → x.file ≡ bound_file w h p
file_bound w h p x is syncs =
    is.file ∙ cond-true (is_sync (call_of w h p)) (bound_file w h p) None syncs

pub call_written : (w : Workload) (h : List Event) (p : ℕ) (x : CallSync) → IsAccepted w → IsLegal w h
    → CallSyncIs w h p x → is_sync (call_of w h p) ≡ true
    → (is_some x.file && (not (list_any (λ b. b) x.pages.dirty) && not (list_any (λ b. b) x.pages.flying)))
    ≡ is_written h (bound_file w h p) (admit_place h p)
call_written w h p x accepted legal is syncs =
    by_file x.file refl ∙ ap (λ o. is_written h o (admit_place h p)) (file_bound w h p x is syncs)
  where
    by_file : (o : Option Serial) → x.file ≡ o
        → (is_some o && (not (list_any (λ b. b) x.pages.dirty) && not (list_any (λ b. b) x.pages.flying)))
        ≡ is_written h o (admit_place h p)
    by_file None none = refl
    by_file (Some s) some =
        puts_written w h s (admit_place h p) x.pages accepted legal (is.pages s some)

-- what is kept of a process
pub call_at : (w : Workload) (h : List Event) (s : Syncs) (p : ℕ) (x : CallSync) → 1 ≤ p → p ≤ length w.procs
    → SyncsStand w s h → x ≡ slice_index_or s.calls.items (p - 1) x → CallSyncIs w h p x
call_at w h s p x first last stands read =
    let was = some_at s.calls.items (p - 1) (omega (arith, first, last, stands.calls_many))
    in let same : was.0 ≡ x = sym (read ∙ get_or_from_slice_get s.calls.items (p - 1) was.0 x was.1)
    in subst (λ n. CallSyncIs w h n x) (omega (arith, first))
    (stands.calls_are (p - 1) x (was.1 ∙ ap (λ y. Some y) same))
