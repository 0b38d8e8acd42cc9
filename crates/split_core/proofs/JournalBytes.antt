-- The images of the journal after every legal history, and the blocks that it logged last.
use Rattle.std.proofs.Common.{◌≡◌, ℕ, zero, suc, ◌+◌, ◌==◌, ◌<◌, ◌≤◌, List, [], ◌∷◌, length, map, get_or, cond, nat_lt, Bool, true, false, Option, Some, None, refl, arith, sym, ◌∙◌, ap, if◌then◌else◌}
use Rattle.std.specs.Prelude.{slice_index_or}
use Rattle.std.specs.Option.{is_some}
use Rattle.std.specs.List.{range_with_len}
use Rattle.std.proofs.lemmas.Bool.{cond-true, eq-eqb, lt-ltb}
use Rattle.split_types.specs.declared.ids.Txn.{Txn}
use Rattle.split_types.specs.declared.actor.Actor.TheVariants.{Cm}
use Rattle.split_types.specs.declared.workload.Workload.{Workload}
use Rattle.split_types.specs.declared.event.Event.{Event}
use Rattle.split_types.specs.declared.event.Event.TheVariants.{Make, Drop, Map, Seal, Add, Done}
use Rattle.split_types.specs.History.{◌▹◌}
use Rattle.split_types.specs.Hooks.{dirties}
use Rattle.split_types.specs.OpenDirtyings.{open_at}
use Rattle.split_types.specs.Parents.{buffer_at, home_block}
use Rattle.split_types.specs.Rounds.{seals, before_seal, last_txn}
use Rattle.split_types.specs.Blame.{blame}
use Rattle.split_types.specs.Transactions.{is_marked, marked_buffers, is_of_commit}
use Rattle.split_types.specs.Workloads.{first_block}
use Rattle.split_types.specs.FileSlots.{live_files, metadata_bytes}
use Rattle.split_types.specs.LiveFiles.{metadata_block}
use Rattle.split_types.specs.Accepted.{IsAccepted}
use Rattle.split_types.specs.Legal.{IsLegal}
use Rattle.split_types.proofs.CameLaws.{came}
use Rattle.split_types.proofs.JournalRounds.{seal_is}
use Rattle.split_types.proofs.Sets.{filter-same}
use Rattle.journal_core.specs.Causes.{together}
use Rattle.journal_core.specs.Places.{blocks_of, taken_from, images_taken}
use Rattle.journal_core.specs.Journaled.{Journaled, after_added, after_done}
use Rattle.split_core.specs.Journaling.{journal_of, after_event, mark_all, is_commit_request}
use Rattle.split_types.specs.Reads.{request_numbered}
use Rattle.split_core.proofs.JournalTagsPlaces.{places, list_is, blocks_over, passing_blocks}
use Rattle.split_core.proofs.JournalTagsKept.{MarksAre, TagsAre}
use Rattle.split_core.proofs.JournalTagsDirty.{only_marks}
use Rattle.split_core.proofs.JournalTags.{AllShown, tags_are}

-- ---- what they are
-- the history before the last seal
abbrev pub last_before : List Event → List Event
last_before [] = []
last_before (h ▹ Seal t k) = h
last_before (h ▹ e) = last_before h

-- the image in a place: its buffer as it was before the last seal that took it
abbrev pub image_of : Workload → List (List ℕ) → List Event → ℕ → List ℕ
image_of w images [] k = slice_index_or images k []
image_of w images (h ▹ Seal t n) k =
    if is_marked h (buffer_at (k + 1)) then metadata_bytes w h (buffer_at (k + 1)) else image_of w images h k
image_of w images (h ▹ e) k = image_of w images h k

pub record BytesAre (w : Workload) (images : List (List ℕ)) (h : List Event) (j : Journaled (List ℕ)) : Type 0 where
  pub long : length j.images ≡ 261
  pub each : (k : ℕ) → k < 261 → slice_index_or j.images k [] ≡ image_of w images h k
  pub logged : 1 ≤ seals h → j.logged ≡ map home_block (marked_buffers (last_before h))

-- ---- a seal
taken_long : {X : Type 0} (image : ℕ → List ℕ) (block : ℕ) (marks : List (Option X)) (old : List (List ℕ))
    → length (taken_from image block marks old) ≡ length old
taken_long image block [] old = refl
taken_long image block (m ∷ marks) [] = refl
taken_long image block (None ∷ marks) (o ∷ old) = ap (λ n. suc n) (taken_long image (block + 1) marks old)
taken_long image block (Some x ∷ marks) (o ∷ old) = ap (λ n. suc n) (taken_long image (block + 1) marks old)

taken_at : {X : Type 0} (image : ℕ → List ℕ) (block : ℕ) (marks : List (Option X)) (old : List (List ℕ)) (k : ℕ)
    → length marks ≡ length old
    → get_or (taken_from image block marks old) k []
    ≡ cond (is_some (get_or marks k None)) (image (block + k)) (get_or old k [])
taken_at image block [] [] k same = refl
taken_at image block [] (o ∷ old) k same = absurd (omega (arith, same))
taken_at image block (m ∷ marks) [] k same = absurd (omega (arith, same))
taken_at image block (None ∷ marks) (o ∷ old) zero same = refl
taken_at image block (Some x ∷ marks) (o ∷ old) zero same = ap image (omega arith)
taken_at image block (None ∷ marks) (o ∷ old) (suc k) same =
    taken_at image (block + 1) marks old k (omega (arith, same))
    ∙ ap (λ n. cond (is_some (get_or marks k None)) (image n) (get_or old k [])) (omega arith)
taken_at image block (Some x ∷ marks) (o ∷ old) (suc k) same =
    taken_at image (block + 1) marks old k (omega (arith, same))
    ∙ ap (λ n. cond (is_some (get_or marks k None)) (image n) (get_or old k [])) (omega arith)

-- a place has something where its buffer is marked
some_marked : (f : ℕ → List ℕ) (opens : List ℕ) → is_some (together (map f opens)) ≡ nat_lt 0 (length opens)
some_marked f [] = refl
some_marked f (i ∷ opens) = sym (lt-ltb 0 (length (i ∷ opens)) (omega arith))

marked_is : (h : List Event) (marks : List (Option (List ℕ))) (k : ℕ) → MarksAre h marks → k < 261
    → is_some (slice_index_or marks k None) ≡ is_marked h (buffer_at (k + 1))
marked_is h marks k are below = ap is_some (are.each k below) ∙ some_marked (blame h) (open_at h (buffer_at (k + 1)))

images_sealed : (w : Workload) (images : List (List ℕ)) (h : List Event) (t : Txn) (n : ℕ)
    (marks : List (Option (List ℕ))) (old : List (List ℕ)) (k : ℕ) → MarksAre h marks → length old ≡ 261 → k < 261
    → slice_index_or old k [] ≡ image_of w images h k
    → slice_index_or (images_taken (first_block w) (live_files w h) marks old) k [] ≡ image_of w images (h ▹ Seal t n) k
images_sealed w images h t n marks old k are long below was =
    taken_at (λ block. metadata_block (first_block w) (live_files w h) (buffer_at block)) 1 marks old k
    (are.long ∙ sym long)
    ∙ ap (λ m. cond (is_some (slice_index_or marks k None)) (metadata_bytes w h (buffer_at m))
    (slice_index_or old k []))
    (let at : 1 + k ≡ k + 1 = omega arith in at)
    ∙ ap (λ o. cond (is_some (slice_index_or marks k None)) (metadata_bytes w h (buffer_at (k + 1))) o) was
    ∙ ap (λ (b : Bool). cond b (metadata_bytes w h (buffer_at (k + 1))) (image_of w images h k))
    (marked_is h marks k are below)

logged_sealed : (h : List Event) (marks : List (Option (List ℕ))) → MarksAre h marks
    → blocks_of marks ≡ map home_block (marked_buffers h)
logged_sealed h marks are =
    ap blocks_of (list_is None marks causes are.long are.each)
    ∙ blocks_over causes 1 places
    ∙ filter-same (λ x. is_some (causes x)) (λ x. is_marked h (buffer_at x)) (range_with_len 1 places)
    (λ x is. some_marked (blame h) (open_at h (buffer_at x)))
    ∙ sym (passing_blocks (is_marked h))
  where
    causes : ℕ → Option (List ℕ)
    causes x = together (map (blame h) (open_at h (buffer_at x)))

-- ---- every legal history
bytes_same : (w : Workload) (images : List (List ℕ)) (h g : List Event) (i j : Journaled (List ℕ))
    → j.images ≡ i.images → j.logged ≡ i.logged → ((k : ℕ) → image_of w images g k ≡ image_of w images h k)
    → seals g ≡ seals h → last_before g ≡ last_before h → BytesAre w images h i → BytesAre w images g j
bytes_same w images h g i j same logs image sealed last are = record {
  long = ap length same ∙ are.long;
  each = λ k below. ap (λ l. slice_index_or l k []) same ∙ are.each k below ∙ sym (image k);
  logged =
      λ some. logs ∙ are.logged (omega (arith, sealed, some)) ∙ sym (ap (λ l. map home_block (marked_buffers l)) last);
}

bytes_dirtied : (w : Workload) (images : List (List ℕ)) (h : List Event) (e : Event) (j : Journaled (List ℕ))
    → ((k : ℕ) → image_of w images (h ▹ e) k ≡ image_of w images h k) → seals (h ▹ e) ≡ seals h
    → last_before (h ▹ e) ≡ last_before h → BytesAre w images h j
    → BytesAre w images (h ▹ e) (mark_all (dirties e) (blame (h ▹ e) (length h)) j)
bytes_dirtied w images h e j image sealed last are =
    let only = only_marks (dirties e) (blame (h ▹ e) (length h)) j
    in bytes_same w images h (h ▹ e) j (mark_all (dirties e) (blame (h ▹ e) (length h)) j)
    (ap (λ x. x.images) only) (ap (λ x. x.logged) only) image sealed last are

bytes_next : (w : Workload) (images : List (List ℕ)) (h : List Event) (e : Event) (j : Journaled (List ℕ))
    → TagsAre h j → BytesAre w images h j → BytesAre w images (h ▹ e) (after_event w h e j)
bytes_next w images h (Make by slot serial) j tags are =
    bytes_dirtied w images h (Make by slot serial) j (λ k. refl) refl refl are
bytes_next w images h (Drop by slot serial) j tags are =
    bytes_dirtied w images h (Drop by slot serial) j (λ k. refl) refl refl are
bytes_next w images h (Map slot serial page n block new size) j tags are =
    bytes_dirtied w images h (Map slot serial page n block new size) j (λ k. refl) refl refl are
bytes_next w images h (Seal t n) j tags are = record {
  long =
      taken_long (λ block. metadata_block (first_block w) (live_files w h) (buffer_at block)) 1 j.marks j.images
      ∙ are.long;
  each = λ k below. images_sealed w images h t n j.marks j.images k tags.marks are.long below (are.each k below);
  logged = λ some. logged_sealed h j.marks tags.marks;
}
bytes_next w images h (Add by r) j tags are = by_test (is_of_commit r)
  where
    by_test : (b : Bool) → BytesAre w images (h ▹ Add by r) (if b then after_added j else j)
    by_test true = bytes_same w images h (h ▹ Add by r) j (after_added j) refl refl (λ k. refl) refl refl are
    by_test false = bytes_same w images h (h ▹ Add by r) j j refl refl (λ k. refl) refl refl are
bytes_next w images h (Done i id ok) j tags are = by_test (is_commit_request (request_numbered h id))
  where
    by_test : (b : Bool) → BytesAre w images (h ▹ Done i id ok) (if b then after_done j else j)
    by_test true = bytes_same w images h (h ▹ Done i id ok) j (after_done j) refl refl (λ k. refl) refl refl are
    by_test false = bytes_same w images h (h ▹ Done i id ok) j j refl refl (λ k. refl) refl refl are
bytes_next w images h e j tags are = bytes_same w images h (h ▹ e) j j refl refl (λ k. refl) refl refl are

pub bytes_are : (w : Workload) (images : List (List ℕ)) (h : List Event) → IsAccepted w → IsLegal w h
    → length images ≡ 261 → AllShown w images → BytesAre w images h (journal_of w images h)
bytes_are w images [] accepted legal long shown =
    record { long = long; each = λ k below. refl; logged = λ some. absurd (omega (arith, some)) }
bytes_are w images (h ▹ e) accepted legal long shown =
    bytes_next w images h e (journal_of w images h) (tags_are w images h accepted legal.1 shown)
    (bytes_are w images h accepted legal.1 long shown)

-- ---- the last seals
-- that of the last transaction
pub last_seal : (w : Workload) (h : List Event) → IsLegal w h → before_seal h (last_txn h) ≡ last_before h
last_seal w [] legal = refl
last_seal w (h ▹ Seal t k) legal =
    cond-true (t.0 == seals h + 1) h (before_seal h (last_txn (h ▹ Seal t k)))
    (eq-eqb t.0 (seals h + 1) (seal_is w h t k (came w h Cm (Seal t k) legal.0)).txn)
last_seal w (h ▹ e) legal = last_seal w h legal.1

-- a buffer that it took has the image from before it
pub image_last : (w : Workload) (images : List (List ℕ)) (h : List Event) (k : ℕ)
    → is_marked (last_before h) (buffer_at (k + 1)) ≡ true
    → image_of w images h k ≡ metadata_bytes w (last_before h) (buffer_at (k + 1))
image_last w images [] k is = absurd (cc)
image_last w images (h ▹ Seal t n) k is =
    cond-true (is_marked h (buffer_at (k + 1))) (metadata_bytes w h (buffer_at (k + 1))) (image_of w images h k) is
image_last w images (h ▹ e) k is = image_last w images h k is
