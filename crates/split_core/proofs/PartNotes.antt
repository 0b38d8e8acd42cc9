-- What the parts hand to each other, and what stands where tags move that aren't theirs.
use Rattle.std.proofs.Common.{◌≡◌, ℕ, ◌+◌, ◌≤◌, List, [], ◌∷◌, Option, Some, None, refl, sym, ap, ◌∙◌, arith}
use Rattle.std.specs.Prelude.{IsSome, IfSome}
use Rattle.cause_set.specs.Tags.{Tags, Moved, no_use, use_in, held, same}
use Rattle.cause_set.proofs.TagLaws.{set_in-keeps, one_use-same, held-cons}
use Rattle.journal_core.specs.Causes.{causes_in, causes_at}
use Rattle.journal_core.specs.Journaled.{seen}
use Rattle.page_cache.specs.Cached.{page_of, tag_in}
use Rattle.split_types.specs.declared.ids.Serial.{Serial}
use Rattle.split_types.specs.declared.buf.Buf.TheVariants.{Page}
use Rattle.split_types.specs.declared.call.Call.{Call}
use Rattle.split_types.specs.declared.workload.Workload.{Workload}
use Rattle.split_types.specs.declared.event.Event.{Event}
use Rattle.split_types.specs.LiveFiles.{LiveFile}
use Rattle.split_types.specs.Files.{file_for}
use Rattle.split_types.specs.FileSizes.{size_of_some}
use Rattle.tag_table.specs.Rows.{Numbered}
use Rattle.tag_table.specs.Tags.{tags_of}
use Rattle.split_core.specs.declared.parts.Parts.{Parts}
use Rattle.split_core.specs.declared.note.pages.Pages.{Pages}
use Rattle.split_core.specs.StandsFor.{PartsStand}
use Rattle.split_core.specs.Filing.{IsFor}
use Rattle.split_core.specs.declared.note.journaling.Journaling.{Journaling}
use Rattle.split_core.specs.Pages.{PagesStand, held_by_pages}
use Rattle.split_core.specs.Journaling.{JournalStands, held_by_journal}
use Rattle.split_core.proofs.PageTags.{tag_held}
use Rattle.split_core.proofs.ServiceNotes.{served_stays}

-- ---- tags
-- where tags go and come beside those of pages, pages stand under the tags as they are then
pub pages_stay : (w : Workload) (p : Pages) (old new : Tags) (gone come : ℕ → ℕ) (h : List Event)
    → Moved old new gone come → ((n : ℕ) → gone n + held_by_pages p n ≤ old.uses n) → PagesStand w p old h
    → PagesStand w p new h
pages_stay w p old new gone come h moved live stands = record {
  limit = stands.limit;
  held_are = stands.held_are;
  loading_are = stands.loading_are;
  dirty_are = stands.dirty_are;
  busy_are = stands.busy_are;
  pins_are = stands.pins_are;
  causes_are =
      λ s g. set_in-keeps same old new gone come (tag_in (page_of p.cache (Page s g))) moved
      (λ n. omega (arith, tag_held p.cache (Page s g) n, live n))
      ∙ stands.causes_are s g;
  bytes_are = stands.bytes_are;
  order = stands.order;
  held_counted = stands.held_counted;
  unsettled_counted = stands.unsettled_counted;
  pages_alone = stands.pages_alone;
}

-- the causes of places whose tags are held beside those that go
causes_stay : (old new : Tags) (gone come : ℕ → ℕ) (places : List (Option ℕ)) → Moved old new gone come
    → ((n : ℕ) → gone n + held same places n ≤ old.uses n) → causes_at same new places ≡ causes_at same old places
causes_stay old new gone come [] moved live = refl
causes_stay old new gone come (x ∷ xs) moved live =
    let first : causes_in same new x ≡ causes_in same old x =
    place_stays x (λ n. omega (arith, live n, held-cons same x xs n)) in
    let rest : causes_at same new xs ≡ causes_at same old xs =
    causes_stay old new gone come xs moved (λ n. omega (arith, live n, held-cons same x xs n)) in
    rw (first, rest) refl
  where
    place_stays : (x : Option ℕ) → ((n : ℕ) → gone n + use_in same x n ≤ old.uses n)
        → causes_in same new x ≡ causes_in same old x
    place_stays None live = refl
    place_stays (Some t) live = ap Some (moved.keeps t (omega (arith, live t, one_use-same t)))

-- the journal too
pub journal_stays : (w : Workload) (j : Journaling) (old new : Tags) (gone come : ℕ → ℕ) (h : List Event)
    → Moved old new gone come → ((n : ℕ) → gone n + held_by_journal j n ≤ old.uses n) → JournalStands w j old h
    → JournalStands w j new h
journal_stays w j old new gone come h moved live stands = record {
  images = stands.images;
  many = stands.many;
  journal_is = same_seen ∙ stands.journal_is;
}
  where
    stay : (places : List (Option ℕ)) → ((n : ℕ) → held same places n ≤ held_by_journal j n)
        → causes_at same new places ≡ causes_at same old places
    stay places within =
        causes_stay old new gone come places moved (λ n. omega (arith, live n, within n))

    same_seen : seen new j.journal ≡ seen old j.journal
    same_seen =
        let marks = stay j.journal.marks (λ n. omega arith) in
        let round = stay j.journal.round (λ n. omega arith) in
        let slots = stay j.journal.slots (λ n. omega arith) in
        rw (marks, round, slots) refl

-- more room for tags, and as many of each in pages
pub roomy : (w : Workload) (p : Parts) (q : Pages) (tags : Numbered) (h : List Event) → PartsStand w p h
    → ((n : ℕ) → held_by_pages q n ≡ held_by_pages p.pages n) → PagesStand w q (tags_of p.tags) h
    → Moved (tags_of p.tags) (tags_of tags) no_use no_use → PartsStand w (record p { pages = q; tags = tags }) h
roomy w p q tags h stands same pages moved = record {
  clients = stands.clients;
  filing = stands.filing;
  pages = pages_stay w q (tags_of p.tags) (tags_of tags) no_use no_use h moved
      (λ n. omega (arith, stands.tags n, same n)) pages;
  tags = λ n. omega (arith, stands.tags n, same n, moved.uses n);
  journaling = journal_stays w p.journaling (tags_of p.tags) (tags_of tags) no_use no_use h moved
      (λ n. omega (arith, stands.tags n)) stands.journaling;
  syncs = stands.syncs;
  medium = stands.medium;
  book = stands.book;
  dispatch = stands.dispatch;
  service = served_stays p.service (tags_of p.tags) (tags_of tags) no_use no_use h moved
      (λ n. omega (arith, stands.tags n)) stands.service;
  time = stands.time;
  money = stands.money;
  counts = stands.counts;
}

-- ---- what is handed on
-- the file of a slot that is found for a call
pub for_file : (w : Workload) (h : List Event) (c : Call) (o : Option LiveFile) (r : Serial) → IsSome o
    → IfSome o (IsFor w h c) → IfSome o (λ f. r ≡ f.serial) → Some r ≡ file_for w h (Some c)
for_file w h c None r some is at = absurd (cc (some))
for_file w h c (Some f) r some is at = ap Some at ∙ sym is.file

-- and its size
pub for_size : (w : Workload) (h : List Event) (c : Call) (o : Option LiveFile) (r : ℕ) → IsSome o
    → IfSome o (IsFor w h c) → IfSome o (λ f. r ≡ f.size) → r ≡ size_of_some w h (file_for w h (Some c))
for_size w h c None r some is at = absurd (cc (some))
for_size w h c (Some f) r some is at = at ∙ sym is.size
