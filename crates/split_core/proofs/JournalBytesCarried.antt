-- What the journal has the next request of the commit thread carry.
use Rattle.std.proofs.Common.{◌≡◌, ℕ, zero, suc, ◌+◌, ◌-◌, ◌==◌, ◌<◌, ◌≤◌, List, [], ◌∷◌, ◌++◌, length, map, filter, find, nat_lt, Bool, true, false, ◌||◌, Option, Some, None, refl, arith, subst, sym, ◌∙◌, ap, if◌then◌else◌}
use Rattle.std.specs.Prelude.{slice_index_or}
use Rattle.std.specs.List.{flat_map, list_any, range_with_len}
use Rattle.std.proofs.lemmas.Bool.{cond-false, or_left, lt-ltb, ne_eqb}
use Rattle.std.proofs.lemmas.List.{append-nil, length-map}
use Rattle.std.proofs.lemmas.List.Concat.{flat_map-cons}
use Rattle.std.proofs.Math.Numerals.{add-one}
use Rattle.split_types.specs.declared.ids.Txn.{Txn}
use Rattle.split_types.specs.declared.actor.Actor.TheVariants.{Cm}
use Rattle.split_types.specs.declared.buf.Buf.{Buf}
use Rattle.split_types.specs.declared.buf.Buf.TheVariants.{Page, Bitmap, Dir, Inode}
use Rattle.split_types.specs.declared.request.ReqKind.{ReqKind}
use Rattle.split_types.specs.declared.request.ReqKind.TheVariants as kind
use Rattle.split_types.specs.declared.request.Request.{Request}
use Rattle.split_types.specs.declared.workload.Workload.{Workload}
use Rattle.split_types.specs.declared.event.Event.{Event}
use Rattle.split_types.specs.declared.event.Event.TheVariants.{Seal, Add}
use Rattle.split_types.specs.History.{◌▹◌, adds}
use Rattle.split_types.specs.ByPlace.{IsMetadata}
use Rattle.split_types.specs.OpenDirtyings.{open_at}
use Rattle.split_types.specs.Parents.{metadata_buffers, buffer_at, home_block}
use Rattle.split_types.specs.Rounds.{Sealing, before_seal, last_txn, is_clear, open_round}
use Rattle.split_types.specs.Transactions.{is_marked, marked_buffers}
use Rattle.split_types.specs.Transactions.Stage.{Sealed}
use Rattle.split_types.specs.FileSlots.{metadata_bytes}
use Rattle.split_types.specs.DiskLayout.{descriptor_block, commit_block, zero_block}
use Rattle.split_types.specs.DiskBytes.{buffer_bytes, buffer_at_place, log_bytes, takes, before_last_take}
use Rattle.split_types.specs.Committing.{next_of_commit}
use Rattle.split_types.specs.Accepted.{IsAccepted}
use Rattle.split_types.specs.Legal.{IsLegal}
use Rattle.split_types.specs.Proving.Came.{Journals, IsLogOf, IsHomeOf, journal_request}
use Rattle.split_types.specs.Proving.JournalKnown.{AtStage, JournalKnown}
use Rattle.split_types.proofs.CameLaws.{came}
use Rattle.split_types.proofs.JournalStepsAdds.{journal_known}
use Rattle.split_types.proofs.KeptLists.{case_false}
use Rattle.split_types.proofs.Lists.{Found, find_some}
use Rattle.proxies.specs.declared.commit.Commit.{Commit}
use Rattle.proxies.specs.declared.commit.Commit.TheVariants.{Idle, Log, Marking, Homes, Clear}
use Rattle.journal_core.specs.Places.{place_in}
use Rattle.journal_core.specs.Work.{begun}
use Rattle.journal_core.specs.Journaled as journal
use Rattle.journal_core.specs.Journaled.{Journaled, image_at, next_home, carried_in}
use Rattle.split_core.specs.Journaling.{journal_of}
use Rattle.split_core.specs.Takings.{all_carried}
use Rattle.split_core.proofs.JournalShown.{DueShown}
use Rattle.split_core.proofs.JournalTagsPlaces.{metadata_at, block_at, places, places_are, buffers_are}
use Rattle.split_core.proofs.JournalTagsSets.{flat_values}
use Rattle.split_core.proofs.JournalTagsNext.{IsDue, due_as}
use Rattle.split_core.proofs.JournalTagsSlots.{same_txn}
use Rattle.split_core.proofs.JournalTags.{AllShown, Home, home_at, next_request, for_is}
use Rattle.split_core.proofs.JournalBytes.{BytesAre, bytes_are, image_of, last_before, last_seal, image_last}

-- ---- lists
-- one after another of a range, where two functions agree on it
range_same : {A : Type 0} (f g : ℕ → List A) (a n : ℕ) → ((i : ℕ) → a ≤ i → f i ≡ g i)
    → flat_map f (range_with_len a n) ≡ flat_map g (range_with_len a n)
range_same f g a zero same = refl
range_same f g a (suc n) same =
    flat_map-cons f a (range_with_len (a + 1) n)
    ∙ ap (λ l. l ++ flat_map f (range_with_len (a + 1) n)) (same a (omega arith))
    ∙ ap (λ l. g a ++ l) (range_same f g (a + 1) n (λ i above. same i (omega (arith, above))))
    ∙ sym (flat_map-cons g a (range_with_len (a + 1) n))

-- the buffers of a list by their places, counted from `a` on
by_places : (f : Option Buf → List ℕ) (bs : List Buf) (a : ℕ)
    → flat_map (λ i. f (buffer_at_place bs (i - a))) (range_with_len a (length bs)) ≡ flat_map (λ b. f (Some b)) bs
by_places f [] a = refl
by_places f (b ∷ bs) a =
    flat_map-cons (λ i. f (buffer_at_place (b ∷ bs) (i - a))) a (range_with_len (a + 1) (length bs))
    ∙ ap (λ n. f (buffer_at_place (b ∷ bs) n)
    ++ flat_map (λ i. f (buffer_at_place (b ∷ bs) (i - a))) (range_with_len (a + 1) (length bs)))
    (let none : a - a ≡ 0 = omega arith in none)
    ∙ ap (λ l. f (Some b) ++ l)
    (range_same (λ i. f (buffer_at_place (b ∷ bs) (i - a))) (λ i. f (buffer_at_place bs (i - (a + 1)))) (a + 1)
    (length bs) (λ i above. ap f (behind i above)) ∙ by_places f bs (a + 1))
    ∙ sym (flat_map-cons (λ c. f (Some c)) b bs)
  where
    behind : (i : ℕ) → a + 1 ≤ i → buffer_at_place (b ∷ bs) (i - a) ≡ buffer_at_place bs (i - (a + 1))
    behind i above =
        cond-false (i - a == 0) (Some b) (buffer_at_place bs (i - a - 1))
        (ne_eqb (i - a) 0 (λ (e : i - a ≡ 0). omega arith))
        ∙ ap (buffer_at_place bs) (let at : i - a - 1 ≡ i - (a + 1) = omega arith in at)

-- buffers of metadata that pass a test
over_same : {A : Type 0} (f g : Buf → List A) (p : Buf → Bool) (a n : ℕ)
    → ((k : ℕ) → a ≤ k → k < a + n → p (buffer_at (k + 1)) ≡ true → f (buffer_at (k + 1)) ≡ g (buffer_at (k + 1)))
    → flat_map f (filter p (map buffer_at (range_with_len (a + 1) n)))
    ≡ flat_map g (filter p (map buffer_at (range_with_len (a + 1) n)))
over_same f g p a zero same = refl
over_same {A = A} f g p a (suc n) same =
    by_test (p (buffer_at (a + 1))) (λ is. same a (omega arith) (omega arith) is)
    (over_same f g p (a + 1) n (λ k above below is. same k (omega (arith, above)) (omega (arith, below)) is))
  where
    later : List Buf
    later = filter p (map buffer_at (range_with_len (a + 1 + 1) n))

    by_test : (t : Bool) → (t ≡ true → f (buffer_at (a + 1)) ≡ g (buffer_at (a + 1)))
        → flat_map f later ≡ flat_map g later
        → flat_map f (if t then buffer_at (a + 1) ∷ later else later)
        ≡ flat_map g (if t then buffer_at (a + 1) ∷ later else later)
    by_test true here rest =
        flat_map-cons f (buffer_at (a + 1)) later ∙ ap (λ l. l ++ flat_map f later) (here refl)
        ∙ ap (λ l. g (buffer_at (a + 1)) ++ l) rest ∙ sym (flat_map-cons g (buffer_at (a + 1)) later)
    by_test false here rest = rest

metadata_same : {A : Type 0} (f g : Buf → List A) (p : Buf → Bool)
    → ((k : ℕ) → k < 261 → p (buffer_at (k + 1)) ≡ true → f (buffer_at (k + 1)) ≡ g (buffer_at (k + 1)))
    → flat_map f (filter p metadata_buffers) ≡ flat_map g (filter p metadata_buffers)
metadata_same f g p same =
    ap (λ l. flat_map f (filter p l)) buffers_are
    ∙ over_same f g p 0 places (λ k above below is. same k (omega (arith, below, places_are)) is)
    ∙ sym (ap (λ l. flat_map g (filter p l)) buffers_are)

-- ---- a log
metadata_is : (w : Workload) (h : List Event) (b : Buf) → IsMetadata b
    → buffer_bytes w h (Some b) ≡ metadata_bytes w h b
metadata_is w h (Page s g) metadata = absurd metadata
metadata_is w h Bitmap metadata = refl
metadata_is w h (Dir k) metadata = refl
metadata_is w h (Inode slot) metadata = refl

-- the images of the buffers that the last seal took
images_logged : (w : Workload) (images : List (List ℕ)) (h : List Event) (j : Journaled (List ℕ))
    → BytesAre w images h j
    → flat_map (image_at j.images) (map home_block (marked_buffers (last_before h)))
    ≡ flat_map (λ b. buffer_bytes w (last_before h) (Some b)) (marked_buffers (last_before h))
images_logged w images h j are =
    sym (flat_values (image_at j.images) home_block (marked_buffers (last_before h)))
    ∙ metadata_same (λ b. image_at j.images (home_block b)) (λ b. buffer_bytes w (last_before h) (Some b))
    (is_marked (last_before h)) (λ k below is.
    ap (λ x. slice_index_or j.images (x - 1) []) (block_at k)
    ∙ ap (λ x. slice_index_or j.images x []) (let at : k + 1 - 1 ≡ k = omega arith in at)
    ∙ are.each k below ∙ image_last w images h k is
    ∙ sym (metadata_is w (last_before h) (buffer_at (k + 1)) (metadata_at k below)))

-- what a log carries, where its transaction was sealed after g
log_carries : (w : Workload) (h g : List Event) (t : Txn) (m : ℕ) → before_seal h t ≡ g
    → length (marked_buffers g) ≡ m
    → flat_map (log_bytes w h t) (range_with_len 0 (m + 1))
    ≡ descriptor_block t.0 (map home_block (marked_buffers g))
    ++ flat_map (λ b. buffer_bytes w g (Some b)) (marked_buffers g)
log_carries w h g t m is long =
    ap (λ n. flat_map (log_bytes w h t) (range_with_len 0 n)) (add-one m)
    ∙ flat_map-cons (log_bytes w h t) 0 (range_with_len 1 m)
    ∙ ap (λ l. descriptor_block t.0 (map home_block (marked_buffers l))
    ++ flat_map (log_bytes w h t) (range_with_len 1 m)) is
    ∙ ap (λ l. descriptor_block t.0 (map home_block (marked_buffers g)) ++ l)
    (range_same (log_bytes w h t) (λ i. buffer_bytes w g (buffer_at_place (marked_buffers g) (i - 1))) 1 m behind
    ∙ ap (λ n. flat_map (λ i. buffer_bytes w g (buffer_at_place (marked_buffers g) (i - 1))) (range_with_len 1 n))
    (sym long)
    ∙ by_places (buffer_bytes w g) (marked_buffers g) 1)
  where
    behind : (i : ℕ) → 1 ≤ i → log_bytes w h t i ≡ buffer_bytes w g (buffer_at_place (marked_buffers g) (i - 1))
    behind i some =
        case_false (i == 0) (descriptor_block t.0 (map home_block (marked_buffers (before_seal h t))))
        (buffer_bytes w (before_seal h t) (buffer_at_place (marked_buffers (before_seal h t)) (i - 1)))
        (ne_eqb i 0 (λ (e : i ≡ 0). omega arith))
        ∙ ap (λ l. buffer_bytes w l (buffer_at_place (marked_buffers l) (i - 1))) is

log_carried : (w : Workload) (images : List (List ℕ)) (h : List Event) (j : Journaled (List ℕ)) (t : Txn) (first n : ℕ)
    → IsLegal w h → JournalKnown w h → BytesAre w images h j → IsLogOf h t first n → n ≡ length j.logged + 1
    → descriptor_block t.0 j.logged ++ flat_map (image_at j.images) j.logged
    ≡ all_carried w h (journal_request (adds h) (kind.Log t) first n)
log_carried w images h j t first n legal known are is long =
    ap (λ l. descriptor_block t.0 l ++ flat_map (image_at j.images) l) logged
    ∙ ap (λ l. descriptor_block t.0 (map home_block (marked_buffers (last_before h))) ++ l)
    (images_logged w images h j are)
    ∙ sym (log_carries w h (last_before h) t (length j.logged) sealed many)
    ∙ ap (λ m. flat_map (log_bytes w h t) (range_with_len 0 m)) (sym long)
  where
    at : AtStage h known.cleared (Sealed t is.buffers)
    at = subst (AtStage h known.cleared) is.before known.stands

    logged : j.logged ≡ map home_block (marked_buffers (last_before h))
    logged = are.logged (omega (arith, at.1, at.2))

    many : length (marked_buffers (last_before h)) ≡ length j.logged
    many = sym (ap length logged ∙ length-map (marked_buffers (last_before h)) home_block)

    sealed : before_seal h t ≡ last_before h
    sealed = ap (before_seal h) (same_txn t (last_txn h) at.1) ∙ last_seal w h legal

-- ---- a home request
-- the image is what it was before the last seal of the round under way that took the buffer
image_taken : (w : Workload) (images : List (List ℕ)) (h : List Event) (k : ℕ) (s : Sealing)
    → find (takes (buffer_at (k + 1))) (open_round h) ≡ Some s
    → image_of w images h k ≡ metadata_bytes w s.before (buffer_at (k + 1))
image_taken w images [] k s is = absurd (cc)
image_taken w images (h ▹ Seal t n) k s is =
    by_test (is_marked h (buffer_at (k + 1))) is (λ old. image_taken w images h k s old)
  where
    by_test : (b : Bool)
        → (if b then Some (let new : Sealing = record { txn = t; before = h } in new)
        else find (takes (buffer_at (k + 1))) (open_round h)) ≡ Some s
        → (find (takes (buffer_at (k + 1))) (open_round h) ≡ Some s
        → image_of w images h k ≡ metadata_bytes w s.before (buffer_at (k + 1)))
        → (if b then metadata_bytes w h (buffer_at (k + 1)) else image_of w images h k)
        ≡ metadata_bytes w s.before (buffer_at (k + 1))
    by_test true is old =
        let same : (let new : Sealing = record { txn = t; before = h } in new) ≡ s = cc
        in ap (λ x. metadata_bytes w x.before (buffer_at (k + 1))) same
    by_test false is old = old is
image_taken w images (h ▹ Add by r) k s is = by_test (is_clear r) is (λ old. image_taken w images h k s old)
  where
    by_test : (b : Bool) → find (takes (buffer_at (k + 1))) (if b then [] else open_round h) ≡ Some s
        → (find (takes (buffer_at (k + 1))) (open_round h) ≡ Some s
        → image_of w images h k ≡ metadata_bytes w s.before (buffer_at (k + 1)))
        → image_of w images h k ≡ metadata_bytes w s.before (buffer_at (k + 1))
    by_test true is old = absurd (cc)
    by_test false is old = old is
image_taken w images (h ▹ e) k s is = image_taken w images h k s is

-- some seal of the round took it
some_takes : (b : Buf) (round : List Sealing) → 0 < length (flat_map (λ s. open_at s.before b) round)
    → list_any (takes b) round ≡ true
some_takes b [] some = absurd (omega (arith, some))
some_takes b (s ∷ round) some = by_list (open_at s.before b) refl (λ more. some_takes b round more)
  where
    by_list : (opens : List ℕ) → open_at s.before b ≡ opens
        → (0 < length (flat_map (λ s. open_at s.before b) round) → list_any (takes b) round ≡ true)
        → (takes b s || list_any (takes b) round) ≡ true
    by_list [] is rest =
        ap (λ l. nat_lt 0 (length l) || list_any (takes b) round) is
        ∙ rest (subst (λ l. 0 < length (l ++ flat_map (λ s. open_at s.before b) round)) is some)
    by_list (i ∷ opens) is rest =
        or_left (takes b s) (list_any (takes b) round)
        (ap (λ l. nat_lt 0 (length l)) is ∙ lt-ltb 0 (length (i ∷ opens)) (omega arith))

home_carried : (w : Workload) (images : List (List ℕ)) (h : List Event) (j : Journaled (List ℕ)) (t : Txn) (first n : ℕ)
    → IsAccepted w → IsLegal w h → BytesAre w images h j → IsHomeOf w h t first n → n ≡ 1
    → slice_index_or j.images (first - 1) [] ≡ all_carried w h (journal_request (adds h) (kind.Home t) first n)
home_carried w images h j t first n accepted legal are is one =
    are.each (first - 1) (omega (arith, home.some, home.most))
    ∙ image_taken w images h (first - 1) f.element
    (ap (λ b. find (takes b) (open_round h)) here ∙ f.found)
    ∙ ap (metadata_bytes w f.element.before) here
    ∙ sym (metadata_is w f.element.before home.buffer home.metadata)
    ∙ sym (append-nil (buffer_bytes w f.element.before (Some home.buffer)))
    ∙ ap (λ l. buffer_bytes w l (Some home.buffer) ++ []) (sym last)
    ∙ ap (λ b. buffer_bytes w (before_last_take h t b) (Some b) ++ []) (sym home.buffer_is)
    ∙ ap (λ m. flat_map (λ i. buffer_bytes w (before_last_take h t (buffer_at first)) (Some (buffer_at first)))
    (range_with_len 0 m)) (sym one)
  where
    home : Home w h t first
    home = home_at w h t first n accepted legal is

    here : buffer_at (first - 1 + 1) ≡ home.buffer
    here =
        ap buffer_at (let at : first - 1 + 1 ≡ first = omega (arith, home.some) in at) ∙ home.buffer_is

    f : Found (takes home.buffer) (open_round h)
    f =
        find_some (takes home.buffer) (open_round h)
        (some_takes home.buffer (open_round h) (subst (λ l. 0 < length l) home.takes home.awaits))

    last : before_last_take h t home.buffer ≡ f.element.before
    last =
        ap (λ l. elim (find (takes home.buffer) l) [ None ↦ h | Some s ↦ s.before ]) home.round
        ∙ ap (λ o. elim o [ None ↦ h | Some s ↦ s.before ]) f.found

-- ---- whichever comes next
pub carries_is : (w : Workload) (images : List (List ℕ)) (h : List Event) (j : Journaled (List ℕ)) (k : ReqKind)
    (first n : ℕ) (s : Commit ℕ) → IsAccepted w → IsLegal w h → BytesAre w images h j → Journals w h k first n
    → IsDue s (length j.logged) (next_home j) k first n
    → carried_in j s ≡ all_carried w h (journal_request (adds h) k first n)
carries_is w images h j k first n s accepted legal are next due = by_stage s due
  where
    Says : List ℕ → ReqKind → Type 0
    Says bytes kind = bytes ≡ all_carried w h (journal_request (adds h) kind first n)

    by_stage : (s : Commit ℕ) → IsDue s (length j.logged) (next_home j) k first n → Says (carried_in j s) k
    by_stage Idle due = absurd due
    by_stage (Log t slot) due =
        subst (Says (carried_in j (Log t slot))) (sym due.0)
        (log_carried w images h j t first n legal (journal_known w h accepted legal) are
        (subst (λ x. Journals w h x first n) due.0 next) due.2)
    by_stage (Marking t slot) due =
        subst (Says (commit_block t.0)) (sym due.0)
        (sym (append-nil (commit_block t.0))
        ∙ ap (λ m. flat_map (λ i. commit_block t.0) (range_with_len 0 m)) (sym due.2))
    by_stage (Homes t slot added) due =
        subst (Says (slice_index_or j.images (place_in (next_home j)) [])) (sym due.0)
        (ap (λ o. slice_index_or j.images (place_in o) []) due.1
        ∙ home_carried w images h j t first n accepted legal are (subst (λ x. Journals w h x first n) due.0 next) due.2)
    by_stage (Clear t slot) due =
        subst (Says zero_block) (sym due.0)
        (sym (append-nil zero_block) ∙ ap (λ m. flat_map (λ i. zero_block) (range_with_len 0 m)) (sym due.2))

carries : (w : Workload) (images : List (List ℕ)) (h : List Event) (r : Request) → IsAccepted w → IsLegal w h
    → length images ≡ 261 → AllShown w images → next_of_commit w h ≡ Some (Add Cm r)
    → journal.carried (journal_of w images h) ≡ all_carried w h r
carries w images h r accepted legal long shown is =
    let j = journal_of w images h
    in let request = next_request w h r (came w h Cm (Add Cm r) is)
    in subst (λ x. journal.carried j ≡ all_carried w h x) (sym request.request_is)
    (carries_is w images h j r.kind r.first r.n (begun j.work) accepted legal
    (bytes_are w images h accepted legal long shown) request.next (due_as w h j r (shown h legal) is))

-- where the journal shows the work of the commit thread after each legal history, it shows what is due after each
pub due_shown : (w : Workload) (images : List (List ℕ)) (h : List Event) → IsAccepted w → IsLegal w h
    → length images ≡ 261 → AllShown w images → DueShown w h (journal_of w images h)
due_shown w images h accepted legal long shown = record {
  for_is = λ r is. for_is w images h r accepted legal shown is;
  carries = λ r is. carries w images h r accepted legal long shown is;
}
