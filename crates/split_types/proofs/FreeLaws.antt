-- What a completion frees: the pages that its request wrote, and no others.
use Rattle.std.proofs.Common.{◌≡◌, ℕ, ◌≤◌, List, [], ◌∷◌, slice_get, filter, Bool, true, not, ◌&&◌, Some, refl, arith, sym, inl, inr, cond, count_by, nat_lt, ◌∙◌, ap}
use Rattle.std.specs.List.{list_any}
use Rattle.std.proofs.lemmas.Bool.{cases_Bool}
use Rattle.std.proofs.lemmas.List.Filters.{sum_by-filter_both}
use Rattle.split_types.specs.declared.ids.ReqId.{ReqId}
use Rattle.split_types.specs.declared.buf.Buf.{Buf}
use Rattle.split_types.specs.declared.buf.Buf.TheVariants.{Page, Bitmap, Dir, Inode}
use Rattle.split_types.specs.declared.request.ReqKind.{ReqKind}
use Rattle.split_types.specs.declared.request.ReqKind.TheVariants.{Pages}
use Rattle.split_types.specs.declared.request.Request.{Request}
use Rattle.split_types.specs.declared.workload.Workload.{Workload}
use Rattle.split_types.specs.declared.event.Event.{Event}
use Rattle.split_types.specs.declared.event.Event.TheVariants.{Done}
use Rattle.split_types.specs.History.{◌▹◌}
use Rattle.split_types.specs.Hooks.{is_metadata, covers}
use Rattle.split_types.specs.Requests.{is_numbered, requests, in_flight, unfinished}
use Rattle.split_types.specs.Proving.Known.{Known}
use Rattle.split_types.proofs.WaitingLaws.{number_here, same_number}
use Rattle.split_types.proofs.Lists.{any_counted, count_yes, count_no, count_none, counted_here, filter_one, find_some, none_counted}

-- the request in flight at a place is the one of its number that is unfinished
left_alone : (w : Workload) (h : List Event) (k : ℕ) (r : Request) → Known w h → slice_get (in_flight h) k ≡ Some r
    → filter (is_numbered r.id) (unfinished h) ≡ r ∷ []
left_alone w h k r f at =
    let flying = counted_here (is_numbered r.id) (in_flight h) k r at (number_here r)
    in let once = f.waiting.left_once r.id
    in let most = f.waiting.once r.id
    in elim (cases_Bool (list_any (is_numbered r.id) (unfinished h))) [
      | inr none ↦ absurd (omega (arith, count_none (is_numbered r.id) (unfinished h) none))
      | inl any ↦
          (let first = find_some (is_numbered r.id) (unfinished h) any
          in let same : first.element ≡ r =
          same_number (requests h) (unfinished h) first.place first.element r f.waiting.left_of first.there
          (f.waiting.flight_of k r at) first.passes
          in (filter_one (is_numbered r.id) (unfinished h) first.place first.element first.there first.passes
          (omega arith)).0 ∙ ap (λ q. q ∷ []) same)
    ]

-- no request writes a buffer of metadata as a page
only_pages : (id : ReqId) (kind : ReqKind) (first n : ℕ) (b : Buf) → is_metadata b ≡ true
    → covers (record { id = id; kind = kind; first = first; n = n }) b ≡ true → ⊥
only_pages id (Pages s g) first n (Page t k) metadata is = absurd (cc)
only_pages id (Pages s g) first n Bitmap metadata is = absurd (cc)
only_pages id (Pages s g) first n (Dir k) metadata is = absurd (cc)
only_pages id (Pages s g) first n (Inode slot) metadata is = absurd (cc)
only_pages id kind first n b metadata is = absurd (cc)

-- no more than one unfinished request writes a buffer
covers_once : (w : Workload) (h : List Event) (r : Request) (b : Buf) → Known w h → covers r b ≡ true
    → count_by (λ q. covers q b) (unfinished h) ≤ 1
covers_once w h r (Page s g) f is = f.takes s g
covers_once w h r Bitmap f is = absurd (only_pages r.id r.kind r.first r.n Bitmap refl is)
covers_once w h r (Dir k) f is = absurd (only_pages r.id r.kind r.first r.n (Dir k) refl is)
covers_once w h r (Inode slot) f is = absurd (only_pages r.id r.kind r.first r.n (Inode slot) refl is)

-- one that writes it is counted, and one that doesn't isn't
one_if : (p : Request → Bool) (r : Request) → count_by p (r ∷ []) ≡ cond (p r) 1 0
one_if p r = elim (cases_Bool (p r)) [
  | inl here ↦ count_yes p r [] here ∙ sym (ap (λ b. cond b 1 0) here ∙ refl)
  | inr past ↦ count_no p r [] past ∙ sym (ap (λ b. cond b 1 0) past ∙ refl)
]

-- the buffers that are still to be written once a request is done are those that it doesn't write
pub frees : (w : Workload) (h : List Event) (k : ℕ) (r : Request) (b : Buf) → Known w h
    → slice_get (in_flight h) k ≡ Some r
    → list_any (λ q. covers q b) (unfinished (h ▹ Done k r.id true))
    ≡ (not (covers r b) && list_any (λ q. covers q b) (unfinished h))
frees w h k r b f at =
    let rest = filter (λ q. not (is_numbered r.id q)) (unfinished h)
    in let both =
    sum_by-filter_both (is_numbered r.id) (λ q. not (is_numbered r.id q)) (λ q. refl) (λ q. cond (covers q b) 1 0)
    (unfinished h)
    in let own : count_by (λ q. covers q b) (filter (is_numbered r.id) (unfinished h)) ≡ cond (covers r b) 1 0 =
    ap (count_by (λ q. covers q b)) (left_alone w h k r f at) ∙ one_if (λ q. covers q b) r
    in elim (cases_Bool (covers r b)) [
      | inl here ↦
          (let one : ◌≡◌ {A = ℕ} (cond (covers r b) 1 0) 1 = rw here refl
          in none_counted (λ q. covers q b) rest
          (omega (arith, both, own, covers_once w h r b f here))
          ∙ sym (ap (λ c. not c && list_any (λ q. covers q b) (unfinished h)) here))
      | inr past ↦
          (let none : ◌≡◌ {A = ℕ} (cond (covers r b) 1 0) 0 = rw past refl
          in let same : count_by (λ q. covers q b) rest ≡ count_by (λ q. covers q b) (unfinished h) =
          omega (arith, both, own)
          in any_counted (λ q. covers q b) rest ∙ ap (nat_lt 0) same
          ∙ sym (any_counted (λ q. covers q b) (unfinished h))
          ∙ sym (ap (λ c. not c && list_any (λ q. covers q b) (unfinished h)) past))
    ]
