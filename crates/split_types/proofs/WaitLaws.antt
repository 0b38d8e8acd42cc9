-- Where nothing is in flight some queued request may be sent; what an fsync awaits was sealed where nothing is marked.
use Rattle.std.proofs.Common.{◌≡◌, ℕ, suc, ◌+◌, ◌==◌, ◌<◌, ◌≤◌, List, [], ◌∷◌, ◌++◌, length, slice_get, find, Bool, true, false, not, ◌&&◌, ◌||◌, ◌⊎◌, is_some, Option, Some, None, IsTrue, refl, arith, ap, subst, sym, ◌∙◌, nat_lt, inl, inr, count_by, if◌then◌else◌}
use Rattle.std.specs.List.{list_any}
use Rattle.std.proofs.lemmas.Bool.{cases_Bool, cond-false, both_ways, and_parts, ne_eqb, lt-ltb, eq-eqb, eqb-true, or_left, not_from_false, false_from_ne_true}
use Rattle.std.proofs.lemmas.List.{length_push}
use Rattle.std.proofs.lemmas.Option.{same_Some, slice_get_within}
use Rattle.split_types.specs.declared.ids.Pid.{Pid}
use Rattle.split_types.specs.declared.ids.Serial.{Serial}
use Rattle.split_types.specs.declared.ids.Slot.{Slot}
use Rattle.split_types.specs.declared.ids.Txn.{Txn}
use Rattle.split_types.specs.declared.buf.Buf.{Buf}
use Rattle.split_types.specs.declared.buf.Buf.TheVariants.{Page, Bitmap, Dir, Inode}
use Rattle.split_types.specs.declared.request.ReqKind.{ReqKind}
use Rattle.split_types.specs.declared.request.ReqKind.TheVariants.{Read, Pages, Log, Commit, Home, Clear}
use Rattle.split_types.specs.declared.request.Request.{Request}
use Rattle.split_types.specs.declared.workload.Workload.{Workload}
use Rattle.split_types.specs.declared.event.Event.{Event}
use Rattle.split_types.specs.declared.event.Event.TheVariants.{Make, Flushed, Drop, Map, Seal, Add}
use Rattle.split_types.specs.History.{◌▹◌, adds}
use Rattle.split_types.specs.Hooks.{maker, same_buf, is_among, covers, is_dirtied, is_freed, is_out}
use Rattle.split_types.specs.OpenDirtyings.{open_at}
use Rattle.split_types.specs.Parents.{metadata_buffers}
use Rattle.split_types.specs.ByPlace.{IsMetadata}
use Rattle.split_types.specs.Transactions.{is_marked, marked_buffers}
use Rattle.split_types.specs.Syncing.{change_txn, change_txn_of, awaited_txn}
use Rattle.split_types.specs.Files.{is_live, bound_file}
use Rattle.split_types.specs.FileSlots.{slot_of}
use Rattle.split_types.specs.Rounds.{before_seal, seals, next_txn}
use Rattle.split_types.specs.Requests.{is_numbered, is_write, is_pages, requests, queued, in_flight, unfinished}
use Rattle.split_types.specs.Schedulers.{pick, earlier, eligible_write, oldest_read, is_eligible, is_data_done}
use Rattle.split_types.specs.Accepted.{IsAccepted}
use Rattle.split_types.specs.Legal.{IsLegal}
use Rattle.split_types.specs.Proving.Came.{Came}
use Rattle.split_types.specs.Proving.Came.Came.{came_map, came_grow}
use Rattle.split_types.specs.Proving.Known.{KnownRequests, RiseTo}
use Rattle.split_types.proofs.CameLaws.{came}
use Rattle.split_types.proofs.JournalRounds.{seal_is}
use Rattle.split_types.proofs.Lists.{slice_get-push, find_some, counted_here, count_none, none_counted}
use Rattle.split_types.proofs.Parents.{metadata_any, any_metadata}
use Rattle.split_types.proofs.MarkCounts.{marks_are}
use Rattle.split_types.proofs.FileLaws.{files_are_in_order}
use Rattle.split_types.proofs.RequestLaws.{fifo_picks, known_requests}
use Rattle.split_types.proofs.CommitLaws.{before_there}
use Rattle.split_types.proofs.PickLaws.{number_from}
use Rattle.split_types.proofs.PagesKeep.{commit_sealed}

-- ---- commit requests come behind the data of their transactions
-- there are no more requests before a seal than in all
before_short : (h : List Event) (t : Txn) → length (requests (before_seal h t)) ≤ length (requests h)
before_short [] t = omega arith
before_short (h ▹ Seal u k) t = by_test (u.0 == t.0) (before_short h t)
  where
    by_test : (b : Bool) → length (requests (before_seal h t)) ≤ length (requests h)
        → length (requests (if b then h else before_seal h t)) ≤ length (requests h)
    by_test true rest = omega arith
    by_test false rest = rest
before_short (h ▹ Add by r) t = omega (arith, before_short h t, length_push (requests h) r)
before_short (h ▹ e) t = before_short h t

-- a commit request has no lesser place than those that were added before the seal of its transaction
commit_behind : (w : Workload) (h : List Event) (i : ℕ) (r : Request) (u : Txn) → IsLegal w h
    → slice_get (requests h) i ≡ Some r → r.kind ≡ Commit u → length (requests (before_seal h u)) ≤ i
commit_behind w [] i r u legal at is = absurd (cc)
commit_behind w (h ▹ Seal v k) i r u legal at is =
    subst (λ l. length (requests l) ≤ i) (sym (cond-false (v.0 == u.0) h (before_seal h u)
    (ne_eqb v.0 u.0 (λ (e : v.0 ≡ u.0). omega (arith, e, commit_sealed w h i r u legal.1 at is, txn)))))
    (commit_behind w h i r u legal.1 at is)
  where
    txn : v.0 ≡ seals h + 1
    txn = (seal_is w h v k (came w h (maker (Seal v k)) (Seal v k) legal.0)).txn
commit_behind w (h ▹ Add by q) i r u legal at is = elim (slice_get-push (requests h) q i r at) [
  | inl old ↦ commit_behind w h i r u legal.1 old is
  | inr new ↦ omega (arith, new.0, before_short h u)
]
commit_behind w (h ▹ e) i r u legal at is = commit_behind w h i r u legal.1 at is

-- ---- the first queued request may be sent
-- where nothing is in flight, an unfinished request has no lesser number than the first that is queued
left_behind : (h : List Event) (r : Request) (rs : List Request) (q : Request) → KnownRequests h → in_flight h ≡ []
    → queued h ≡ r ∷ rs → list_any (is_numbered q.id) (unfinished h) ≡ true → r.id.0 ≤ q.id.0
left_behind h r rs q f empty queue left = elim (cases_Bool (list_any (is_numbered q.id) (queued h))) [
  | inl any ↦
      (let there = find_some (is_numbered q.id) (queued h) any
      in let rise : RiseTo r.id.0 (r ∷ rs) (adds h) =
      (omega arith, (subst (λ l. RiseTo 0 l (adds h)) queue f.rises).1)
      in omega (
        arith,
        number_from r.id.0 (r ∷ rs) (adds h) there.place there.element rise
            (subst (λ l. slice_get l there.place ≡ Some there.element) queue there.there),
        eqb-true there.element.id.0 q.id.0 there.passes,
      ))
  | inr none ↦
      (let there = find_some (is_numbered q.id) (unfinished h) left
      in absurd (omega (
        arith,
        counted_here (is_numbered q.id) (unfinished h) there.place there.element there.there there.passes,
        f.waiting.left_once q.id,
        count_none (is_numbered q.id) (queued h) none,
        ap (count_by (is_numbered q.id)) empty,
      )))
]

-- the data of a transaction is done where its commit request is the first that is queued
first_data : (w : Workload) (h : List Event) (r : Request) (rs : List Request) (t : Txn) → KnownRequests h
    → IsLegal w h → in_flight h ≡ [] → queued h ≡ r ∷ rs → r.kind ≡ Commit t → is_data_done h t ≡ true
first_data w h r rs t f legal empty queue kind = not_from_false (list_any is_left (requests (before_seal h t)))
    (false_from_ne_true (list_any is_left (requests (before_seal h t))) (λ any. none any))
  where
    is_left : Request → Bool
    is_left q = is_pages q && list_any (is_numbered q.id) (unfinished h)

    place : slice_get (requests h) r.id.0 ≡ Some r
    place = f.waiting.queue_of 0 r (ap (λ l. slice_get l 0) queue)

    none : list_any is_left (requests (before_seal h t)) ≡ true → ⊥
    none any =
        let there = find_some is_left (requests (before_seal h t)) any
        in let q = there.element
        in let left = (and_parts (is_pages q) (list_any (is_numbered q.id) (unfinished h)) there.passes).1
        in omega (
          arith,
          left_behind h r rs q f empty queue left,
          f.numbered.number_is there.place q (before_there h t there.place q there.there),
          slice_get_within (requests (before_seal h t)) there.place q there.there,
          commit_behind w h r.id.0 r t legal place kind,
        )

first_may : (w : Workload) (h : List Event) (r : Request) (rs : List Request) → KnownRequests h → IsLegal w h
    → in_flight h ≡ [] → queued h ≡ r ∷ rs → is_eligible h r ≡ true
first_may w h r rs f legal empty queue = by_kind r.kind refl
  where
    by_kind : (kind : ReqKind) → r.kind ≡ kind → is_eligible h r ≡ true
    by_kind (Commit t) is = rw (f.going, is, first_data w h r rs t f legal empty queue is) refl
    by_kind (Read p s g) is = rw (f.going, is) refl
    by_kind (Pages s g) is = rw (f.going, is) refl
    by_kind (Log t) is = rw (f.going, is) refl
    by_kind (Home t) is = rw (f.going, is) refl
    by_kind (Clear t) is = rw (f.going, is) refl

-- of two requests one is the earlier where one is there
earlier_left : (q : Request) (o : Option Request) → is_some (earlier (Some q) o) ≡ true
earlier_left q None = refl
earlier_left q (Some r) = by_test (nat_lt q.id.0 r.id.0)
  where
    by_test : (b : Bool) → is_some (if b then Some q else Some r) ≡ true
    by_test true = refl
    by_test false = refl

earlier_right : (o : Option Request) (r : Request) → is_some (earlier o (Some r)) ≡ true
earlier_right None r = refl
earlier_right (Some q) r = earlier_left q (Some r)

first_picked : (h : List Event) (r : Request) (rs : List Request) → is_eligible h r ≡ true
    → is_some (earlier (elim (find is_write (r ∷ rs)) [ None ↦ None | Some q ↦ if is_eligible h q then Some q else None ])
    (find (λ q. not (is_write q)) (r ∷ rs))) ≡ true
first_picked h r rs may = by_test (is_write r) (find is_write rs) (find (λ q. not (is_write q)) rs)
  where
    by_test : (b : Bool) (o p : Option Request)
        → is_some (earlier (elim (if b then Some r else o) [
          | None ↦ None
          | Some q ↦ if is_eligible h q then Some q else None
        ]) (if not b then Some r else p)) ≡ true
    by_test true o p =
        ap (λ b. is_some (earlier (if b then Some r else None) p)) may ∙ earlier_left r p
    by_test false o p = earlier_right _ r

pub some_picked : (w : Workload) (h : List Event) → IsAccepted w → IsLegal w h → in_flight h ≡ []
    → 1 ≤ length (queued h) → IsTrue (is_some (pick w h))
some_picked w h accepted legal empty some =
    ap is_some (fifo_picks w h accepted) ∙ by_queue (queued h) refl some
  where
    by_queue : (l : List Request) → queued h ≡ l → 1 ≤ length l
        → is_some (earlier (eligible_write h) (oldest_read h)) ≡ true
    by_queue [] is some = absurd (omega (arith, some))
    by_queue (r ∷ rs) is some =
        subst (λ l. is_some (earlier (elim (find is_write l) [
          | None ↦ None
          | Some q ↦ if is_eligible h q then Some q else None
        ]) (find (λ q. not (is_write q)) l)) ≡ true) (sym is)
        (first_picked h r rs (first_may w h r rs (known_requests w h accepted legal) legal empty is))

-- ---- a transaction that isn't sealed yet has a marked buffer
-- an event that neither frees the buffer nor takes it to be written out leaves it marked
mark_stays : (h : List Event) (e : Event) (b : Buf) → (is_freed e b || is_out e b) ≡ false → is_marked h b ≡ true
    → is_marked (h ▹ e) b ≡ true
mark_stays h e b in_cache marked = go (is_dirtied e b) (is_freed e b || is_out e b) (open_at h b) in_cache marked
  where
    go : (d out : Bool) (places : List ℕ) → out ≡ false → nat_lt 0 (length places) ≡ true
        → nat_lt 0 (length ((if d then length h ∷ [] else []) ++ (if out then [] else places))) ≡ true
    go d true places is some = absurd (cc)
    go true false places is some = lt-ltb 0 (suc (length places)) (omega arith)
    go false false places is some = some

-- one that dirties it marks it
mark_new : (h : List Event) (e : Event) (b : Buf) → is_dirtied e b ≡ true → is_marked (h ▹ e) b ≡ true
mark_new h e b dirtied = go (is_dirtied e b) (if is_freed e b || is_out e b then [] else open_at h b) dirtied
  where
    go : (d : Bool) (places : List ℕ) → d ≡ true
        → nat_lt 0 (length ((if d then length h ∷ [] else []) ++ places)) ≡ true
    go true places is = lt-ltb 0 (suc (length places)) (omega arith)
    go false places is = absurd (cc)

-- a request takes no metadata
metadata_uncovered : (r : Request) (b : Buf) → IsMetadata b → covers r b ≡ false
metadata_uncovered r b metadata = by_kind r.kind refl
  where
    not_among : (s : Serial) (g : ℕ) (c : Buf) → IsMetadata c → is_among s g r.n c ≡ false
    not_among s g (Page t k) is = absurd (is)
    not_among s g Bitmap is = refl
    not_among s g (Dir k) is = refl
    not_among s g (Inode slot) is = refl

    by_kind : (kind : ReqKind) → r.kind ≡ kind → covers r b ≡ false
    by_kind (Pages s g) is = rw is (not_among s g b metadata)
    by_kind (Read p s g) is = rw is refl
    by_kind (Log t) is = rw is refl
    by_kind (Commit t) is = rw is refl
    by_kind (Home t) is = rw is refl
    by_kind (Clear t) is = rw is refl

-- a drop frees none
metadata_unfreed : (by : Pid) (slot : Slot) (serial : Serial) (b : Buf) → IsMetadata b
    → (is_freed (Drop by slot serial) b || is_out (Drop by slot serial) b) ≡ false
metadata_unfreed by slot serial (Page s g) is = absurd (is)
metadata_unfreed by slot serial Bitmap is = refl
metadata_unfreed by slot serial (Dir k) is = refl
metadata_unfreed by slot serial (Inode own) is = refl

-- some buffer of metadata is marked
abbrev some_marked : List Event → Bool
some_marked h = list_any (is_marked h) metadata_buffers

some_stay : (h : List Event) (e : Event) → ((b : Buf) → IsMetadata b → (is_freed e b || is_out e b) ≡ false)
    → some_marked h ≡ true → some_marked (h ▹ e) ≡ true
some_stay h e in_cache some =
    let b = metadata_any (is_marked h) some
    in any_metadata (is_marked (h ▹ e)) b.0 b.1 (mark_stays h e b.0 (in_cache b.0 b.1) b.2)

-- the transaction was sealed, or it is the one that is sealed next and takes some buffer
record IsSealedOrNext (h : List Event) (t : Txn) : Type 0 where
  least : 1 ≤ t.0
  most : t.0 ≤ seals h + 1
  either : (t.0 ≤ seals h) ⊎ (some_marked h ≡ true)

-- it stays so, whatever comes next
still_marked : (h : List Event) (e : Event) (t : Txn) → seals (h ▹ e) ≡ seals h
    → ((b : Buf) → IsMetadata b → (is_freed e b || is_out e b) ≡ false) → IsSealedOrNext h t → IsSealedOrNext (h ▹ e) t
still_marked h e t same in_cache is = record {
  least = is.least;
  most = omega (arith, is.most, same);
  either = elim is.either [
    | inl sealed ↦ inl (omega (arith, sealed, same))
    | inr some ↦ inr (some_stay h e in_cache some)
  ];
}

awaited_stays : (h : List Event) (e : Event) (t : Txn) → IsSealedOrNext h t → IsSealedOrNext (h ▹ e) t
awaited_stays h (Seal u k) t is = record { least = is.least; most = omega (arith, is.most); either = inl is.most }
awaited_stays h (Add by r) t is = still_marked h (Add by r) t refl (λ b metadata. metadata_uncovered r b metadata) is
awaited_stays h (Drop by slot serial) t is =
    still_marked h (Drop by slot serial) t refl (λ b metadata. metadata_unfreed by slot serial b metadata) is
awaited_stays h e t is = still_marked h e t refl (λ b metadata. refl) is

-- a file that is made or mapped has one of 256 slots
made_within : (w : Workload) (h : List Event) (by : Pid) (slot : Slot) (serial : Serial) → IsAccepted w
    → IsLegal w (h ▹ Make by slot serial) → slot.0 < 256
made_within w h by slot serial accepted legal =
    let same : (serial.0 == serial.0) ≡ true = eq-eqb serial.0 serial.0 refl
    in subst (λ x. x.0 < 256) (own (serial.0 == serial.0) same)
    ((files_are_in_order w (h ▹ Make by slot serial) accepted legal).live serial
    (or_left (serial.0 == serial.0) (is_live w h serial.0) same)).slot_within
  where
    own : (b : Bool) → b ≡ true
        → ◌≡◌ {A = Slot} (elim b [ true ↦ slot | false ↦ slot_of w h serial ]) slot
    own true is = refl
    own false is = absurd (cc)

mapped_within : (w : Workload) (h : List Event) (slot : Slot) (serial : Serial) (g n block : ℕ) (new : Bool) (size : ℕ)
    → IsAccepted w → IsLegal w h → Came w h (Map slot serial g n block new size) → slot.0 < 256
mapped_within w h slot serial g n block new size accepted legal (came_map run free serves live none found) =
    ((files_are_in_order w h accepted legal).live run.serial live).slot_within
mapped_within w h slot serial g n block new size accepted legal (came_grow run at serves live there small) =
    ((files_are_in_order w h accepted legal).live run.serial live).slot_within

-- the event dirties its inode
inode_itself : (slot : Slot) → same_buf (Inode slot) (Inode slot) ≡ true
inode_itself slot = eq-eqb slot.0 slot.0 refl

make_dirties : (by : Pid) (slot : Slot) (serial : Serial) → is_dirtied (Make by slot serial) (Inode slot) ≡ true
make_dirties by slot serial = or_left (same_buf (Inode slot) (Inode slot)) false (inode_itself slot)

map_dirties : (slot : Slot) (serial : Serial) (g n block : ℕ) (new : Bool) (size : ℕ)
    → is_dirtied (Map slot serial g n block new size) (Inode slot) ≡ true
map_dirties slot serial g n block true size = or_left (same_buf (Inode slot) (Inode slot)) false (inode_itself slot)
map_dirties slot serial g n block false size = or_left (same_buf (Inode slot) (Inode slot)) false (inode_itself slot)

-- the next transaction takes what such an event dirties
next_takes : (h : List Event) (e : Event) (slot : Slot) (t : Txn) → seals (h ▹ e) ≡ seals h → slot.0 < 256
    → is_dirtied e (Inode slot) ≡ true → Some (next_txn h) ≡ Some t → IsSealedOrNext (h ▹ e) t
next_takes h e slot t same within dirtied is =
    let own : t.0 ≡ seals h + 1 = sym (ap (λ x. x.0) (same_Some (next_txn h) t is))
    in record {
      least = omega (arith, own);
      most = omega (arith, own, same);
      either = inr (any_metadata (is_marked (h ▹ e)) (Inode slot) within (mark_new h e (Inode slot) dirtied));
    }

-- such is the transaction that takes the last make or map of a file
changed : (w : Workload) (h : List Event) (s : ℕ) (t : Txn) → IsAccepted w → IsLegal w h → change_txn h s ≡ Some t
    → IsSealedOrNext h t
changed w [] s t accepted legal is = absurd (cc)
changed w (h ▹ Make by slot serial) s t accepted legal is =
    by_test (serial.0 == s) is (λ old. changed w h s t accepted legal.1 old)
  where
    by_test : (b : Bool) → (elim b [ true ↦ Some (next_txn h) | false ↦ change_txn h s ]) ≡ Some t
        → (change_txn h s ≡ Some t → IsSealedOrNext h t) → IsSealedOrNext (h ▹ Make by slot serial) t
    by_test true now rest = next_takes h (Make by slot serial) slot t refl (made_within w h by slot serial accepted legal)
        (make_dirties by slot serial) now
    by_test false old rest = awaited_stays h (Make by slot serial) t (rest old)
changed w (h ▹ Map slot serial g n block new size) s t accepted legal is =
    by_test (serial.0 == s) is (λ old. changed w h s t accepted legal.1 old)
  where
    e : Event
    e = Map slot serial g n block new size

    by_test : (b : Bool) → (elim b [ true ↦ Some (next_txn h) | false ↦ change_txn h s ]) ≡ Some t
        → (change_txn h s ≡ Some t → IsSealedOrNext h t) → IsSealedOrNext (h ▹ Map slot serial g n block new size) t
    by_test true now rest = next_takes h e slot t refl
        (mapped_within w h slot serial g n block new size accepted legal.1 (came w h (maker e) e legal.0))
        (map_dirties slot serial g n block new size) now
    by_test false old rest = awaited_stays h e t (rest old)
changed w (h ▹ e) s t accepted legal is = awaited_stays h e t (changed w h s t accepted legal.1 is)

changed_of : (w : Workload) (h : List Event) (o : Option Serial) (t : Txn) → IsAccepted w → IsLegal w h
    → change_txn_of h o ≡ Some t → IsSealedOrNext h t
changed_of w h None t accepted legal is = absurd (cc)
changed_of w h (Some s) t accepted legal is = changed w h s.0 t accepted legal is

-- so is the one that an fsync awaits
awaited_is : (w : Workload) (h : List Event) (p : ℕ) (t : Txn) → IsAccepted w → IsLegal w h
    → awaited_txn w h p ≡ Some t → IsSealedOrNext h t
awaited_is w [] p t accepted legal is = absurd (cc)
awaited_is w (h ▹ Flushed by) p t accepted legal is =
    awaited_stays h (Flushed by) t (by_test (by.0 == p) is (λ old. awaited_is w h p t accepted legal.1 old))
  where
    by_test : (b : Bool)
        → (elim b [ true ↦ change_txn_of h (bound_file w h p) | false ↦ awaited_txn w h p ]) ≡ Some t
        → (awaited_txn w h p ≡ Some t → IsSealedOrNext h t) → IsSealedOrNext h t
    by_test true now rest = changed_of w h (bound_file w h p) t accepted legal.1 now
    by_test false old rest = rest old
awaited_is w (h ▹ e) p t accepted legal is = awaited_stays h e t (awaited_is w h p t accepted legal.1 is)

pub awaited_sealed : (w : Workload) (h : List Event) (p : ℕ) (t : Txn) → IsAccepted w → IsLegal w h
    → awaited_txn w h p ≡ Some t → length (marked_buffers h) ≡ 0 → (1 ≤ t.0) × (t.0 ≤ seals h)
awaited_sealed w h p t accepted legal is unmarked =
    let known = awaited_is w h p t accepted legal is
    in (
      known.least,
      elim known.either [
        | inl sealed ↦ sealed
        | inr some ↦ absurd (both_ways (some_marked h)
            (none_counted (is_marked h) metadata_buffers (omega (arith, marks_are h, unmarked))) some)
      ],
    )
