-- The sets of the tags that are in use are exactly those that the stack has to keep.
use Rattle.std.proofs.Common.{◌≡◌, ℕ, ◌+◌, ◌-◌, ◌<◌, ◌≤◌, List, ◌++◌, length, get_or, Some, None, is_some, refl, ap, sym, subst, ◌∙◌, arith, inl, inr}
use Rattle.std.specs.Prelude.{slice_get}
use Rattle.std.specs.List.{flat_map}
use Rattle.std.proofs.lemmas.Bool.{cases_lt}
use Rattle.std.proofs.lemmas.List.{length-map}
use Rattle.std.proofs.lemmas.Option.{slice_get_within}
use Rattle.split_types.specs.declared.ids.Txn.{Txn}
use Rattle.split_types.specs.declared.buf.Buf.{Buf}
use Rattle.split_types.specs.declared.workload.Workload.{Workload}
use Rattle.split_types.specs.declared.event.Event.{Event}
use Rattle.split_types.specs.OpenDirtyings.{open_at}
use Rattle.split_types.specs.Parents.{metadata_buffers, buffer_at}
use Rattle.split_types.specs.HeldPages.{known_pages}
use Rattle.split_types.specs.Rounds.{seal_place, slot_of_txn}
use Rattle.split_types.specs.Transactions.{in_journal, awaiting_at}
use Rattle.split_types.specs.Writeback.{service}
use Rattle.split_types.specs.LiveSets.{set_of, serves_at, kept_sets, live_sets}
use Rattle.split_types.specs.Accepted.{IsAccepted}
use Rattle.split_types.specs.Legal.{IsLegal}
use Rattle.split_types.proofs.Shared.{slice_get-append_left, slice_get-append_right, journal_known}
use Rattle.cause_set.specs.Tags.{Tags, same, held}
use Rattle.journal_core.specs.Causes.{causes_in, causes_at}
use Rattle.journal_core.specs.Journaled.{Journaled, seen}
use Rattle.tag_table.specs.Tags.{tags_of, AreShared, AreInUse}
use Rattle.split_core.specs.declared.plan.Plan.{Plan}
use Rattle.split_core.specs.declared.parts.Parts.{Parts}
use Rattle.split_core.specs.declared.note.journaling.Journaling.{Journaling}
use Rattle.split_core.specs.Journaling.{JournalStands, held_by_journal}
use Rattle.split_core.specs.Pages.{held_by_pages}
use Rattle.split_core.specs.Served.{held_by_service}
use Rattle.split_core.specs.StandsFor.{StandsFor}
use Rattle.split_core.proofs.JournalLaws.{work_shown}
use Rattle.split_core.proofs.JournalTags.{AllShown, tags_are}
use Rattle.split_core.proofs.JournalTagsKept.{TagsAre, blamed}
use Rattle.split_core.proofs.SetsOnce.{IsIn, IsUsed, sets_counted}
use Rattle.split_core.proofs.SetsLists.{in_left, in_right, in_either, in_flat, flat_in, blamed_in, in_blamed, members_held, held_members, metadata_there, there_metadata}
use Rattle.split_core.proofs.SetsPages.{page_used, used_page, known_are_pages}
use Rattle.split_core.proofs.SetsServed.{serve_used, used_serve}
use Rattle.split_core.proofs.SetsSlots.{SlotsHold, slots_hold, there_in, seal_blamed}

-- ---- what the journal holds
-- its tags, and the transactions of its slots
pub record HoldsAll (h : List Event) (j : Journaled (List ℕ)) : Type 0 where
  pub are : TagsAre h j
  pub slots : SlotsHold h j.slots

journal_holds : (w : Workload) (j : Journaling) (tags : Tags) (h : List Event) → IsAccepted w → IsLegal w h
    → JournalStands w j tags h → HoldsAll h (seen tags j.journal)
journal_holds w j tags h accepted legal s =
    let shown : AllShown w s.images = λ g before. work_shown w s.images g accepted before in
    subst (HoldsAll h) (sym s.journal_is) (record {
      are = tags_are w s.images h accepted legal shown;
      slots = slots_hold w s.images h accepted legal shown;
    })

-- ---- the sets that have to be kept
-- of pages and buffers, of what goes home, of the serve, and of the transactions in the journal
abbrev open_sets : List Event → List (List ℕ)
open_sets h = flat_map (λ b. set_of h (open_at h b)) (known_pages h ++ metadata_buffers)

abbrev home_sets : List Event → List (List ℕ)
home_sets h = flat_map (λ b. set_of h (awaiting_at h b)) metadata_buffers

abbrev serve_sets : List Event → List (List ℕ)
serve_sets h = set_of h (serves_at h (service h))

abbrev txn_sets : List Event → List (List ℕ)
txn_sets h = flat_map (λ t. set_of h (seal_place h t)) (in_journal h)

module _ (w : Workload) (plan : Plan) (p : Parts) (h : List Event) (stands : StandsFor w plan p h) where
  abbrev tags : Tags
  tags = tags_of p.tags

  abbrev journal : Journaled ℕ
  journal = p.journaling.journal

  holds : HoldsAll h (seen tags journal)
  holds = journal_holds w p.journaling tags h stands.accepted stands.legal stands.parts.journaling

  uses_are : (n : ℕ) → tags.uses n
      ≡ held_by_pages p.pages n + (held_by_journal p.journaling n + held_by_service p.service n)
  uses_are n = stands.parts.tags n

  -- ---- each is that of a tag in use
  marked_used : (k : ℕ) (set : List ℕ) → k < 261 → blamed h (open_at h (buffer_at (k + 1))) ≡ Some set
      → IsUsed tags set
  marked_used k set below is =
      let tag = members_held tags journal.marks k set (holds.are.marks.each k below ∙ is) in
      (tag.0, omega (arith, tag.1, uses_are tag.0), tag.2)

  home_used : (k : ℕ) (set : List ℕ) → k < 261 → blamed h (awaiting_at h (buffer_at (k + 1))) ≡ Some set
      → IsUsed tags set
  home_used k set below is =
      let tag = members_held tags journal.round k set (holds.are.round.each k below ∙ is) in
      (tag.0, omega (arith, tag.1, uses_are tag.0), tag.2)

  known_used : (i : ℕ) (b : Buf) (set : List ℕ) → slice_get (known_pages h) i ≡ Some b
      → blamed h (open_at h b) ≡ Some set → IsUsed tags set
  known_used i b set at is =
      let page = known_are_pages h i b at in
      let tag = page_used w p.pages.cache tags h stands.accepted stands.legal stands.parts.pages page.0 page.1 set
      (ap (λ x. blamed h (open_at h x)) (sym page.2) ∙ is) in
      (tag.0, omega (arith, tag.1, uses_are tag.0), tag.2)

  open_used : (i : ℕ) (b : Buf) (set : List ℕ) → slice_get (known_pages h ++ metadata_buffers) i ≡ Some b
      → blamed h (open_at h b) ≡ Some set → IsUsed tags set
  open_used i b set at is = elim (cases_lt i (length (known_pages h))) [
    | inl page ↦ known_used i b set (sym (slice_get-append_left (known_pages h) metadata_buffers i page) ∙ at) is
    | inr behind ↦
        (let k = i - length (known_pages h) in
        let there = metadata_there k b
        (sym (slice_get-append_right (known_pages h) metadata_buffers i k (omega (arith, behind))) ∙ at) in
        marked_used k set there.0 (ap (λ x. blamed h (open_at h x)) (sym there.1) ∙ is))
  ]

  txn_used : (i : ℕ) (t : Txn) (set : List ℕ) → slice_get (in_journal h) i ≡ Some t
      → blamed h (seal_place h t) ≡ Some set → IsUsed tags set
  txn_used i t set at is =
      let there = there_in w h i t (journal_known w h stands.accepted stands.legal) at in
      let tag = members_held tags journal.slots (slot_of_txn h t) set
      (holds.are.slots t there ∙ sym (seal_blamed h i t at) ∙ is) in
      (tag.0, omega (arith, tag.1, uses_are tag.0), tag.2)

  serve_used_by : (set : List ℕ) → blamed h (serves_at h (service h)) ≡ Some set → IsUsed tags set
  serve_used_by set is =
      let tag = serve_used p.service tags h set stands.parts.service is in
      (tag.0, omega (arith, tag.1, uses_are tag.0), tag.2)

  pub kept_used : (set : List ℕ) → IsIn (kept_sets h) set → IsUsed tags set
  kept_used set is = elim (in_either (open_sets h ++ home_sets h ++ serve_sets h) (txn_sets h) set is) [
    | inr txn ↦
        (let at = flat_in (λ t. set_of h (seal_place h t)) (in_journal h) set txn in
        txn_used at.0 at.1 set at.2 (in_blamed h (seal_place h at.1) set at.3))
    | inl more ↦ elim (in_either (open_sets h ++ home_sets h) (serve_sets h) set more) [
      | inr serve ↦ serve_used_by set (in_blamed h (serves_at h (service h)) set serve)
      | inl rest ↦ elim (in_either (open_sets h) (home_sets h) set rest) [
        | inl opened ↦
            (let at = flat_in (λ b. set_of h (open_at h b)) (known_pages h ++ metadata_buffers) set opened in
            open_used at.0 at.1 set at.2 (in_blamed h (open_at h at.1) set at.3))
        | inr home ↦
            (let at = flat_in (λ b. set_of h (awaiting_at h b)) metadata_buffers set home in
            let there = metadata_there at.0 at.1 at.2 in
            home_used at.0 set there.0
            (ap (λ b. blamed h (awaiting_at h b)) (sym there.1) ∙ in_blamed h (awaiting_at h at.1) set at.3))
      ]
    ]
  ]

  -- ---- and so is that of each tag in use
  opens_in : (i : ℕ) (b : Buf) (set : List ℕ) → slice_get (known_pages h ++ metadata_buffers) i ≡ Some b
      → blamed h (open_at h b) ≡ Some set → IsIn (kept_sets h) set
  opens_in i b set at is =
      in_left (open_sets h ++ home_sets h ++ serve_sets h) (txn_sets h) set
      (in_left (open_sets h ++ home_sets h) (serve_sets h) set
      (in_left (open_sets h) (home_sets h) set
      (in_flat (λ b. set_of h (open_at h b)) (known_pages h ++ metadata_buffers) i b set at
      (blamed_in h (open_at h b) set is))))

  page_kept : (n : ℕ) → 1 ≤ held_by_pages p.pages n → IsIn (kept_sets h) (tags.members n)
  page_kept n used =
      let page = used_page w p.pages.cache tags h stands.accepted stands.legal stands.parts.pages n used in
      opens_in page.0 page.1 (tags.members n)
      (slice_get-append_left (known_pages h) metadata_buffers page.0 (slice_get_within (known_pages h) page.0 page.1 page.2)
      ∙ page.2) page.3

  marked_kept : (n : ℕ) → 1 ≤ held same journal.marks n → IsIn (kept_sets h) (tags.members n)
  marked_kept n used =
      let at = held_members tags journal.marks n used in
      let below : at.0 < 261 =
      omega (arith, at.1, holds.are.marks.long, length-map journal.marks (causes_in same tags)) in
      opens_in (length (known_pages h) + at.0) (buffer_at (at.0 + 1)) (tags.members n)
      (slice_get-append_right (known_pages h) metadata_buffers (length (known_pages h) + at.0) at.0 refl
      ∙ there_metadata at.0 below)
      (sym (holds.are.marks.each at.0 below) ∙ at.2)

  home_kept : (n : ℕ) → 1 ≤ held same journal.round n → IsIn (kept_sets h) (tags.members n)
  home_kept n used =
      let at = held_members tags journal.round n used in
      let below : at.0 < 261 =
      omega (arith, at.1, holds.are.round.long, length-map journal.round (causes_in same tags)) in
      in_left (open_sets h ++ home_sets h ++ serve_sets h) (txn_sets h) (tags.members n)
      (in_left (open_sets h ++ home_sets h) (serve_sets h) (tags.members n)
      (in_right (open_sets h) (home_sets h) (tags.members n)
      (in_flat (λ b. set_of h (awaiting_at h b)) metadata_buffers at.0 (buffer_at (at.0 + 1)) (tags.members n)
      (there_metadata at.0 below)
      (blamed_in h (awaiting_at h (buffer_at (at.0 + 1))) (tags.members n)
      (sym (holds.are.round.each at.0 below) ∙ at.2)))))

  serve_kept : (n : ℕ) → 1 ≤ held_by_service p.service n → IsIn (kept_sets h) (tags.members n)
  serve_kept n used =
      in_left (open_sets h ++ home_sets h ++ serve_sets h) (txn_sets h) (tags.members n)
      (in_right (open_sets h ++ home_sets h) (serve_sets h) (tags.members n)
      (blamed_in h (serves_at h (service h)) (tags.members n)
      (used_serve p.service tags h n stands.parts.service used)))

  slot_kept : (n : ℕ) → 1 ≤ held same journal.slots n → IsIn (kept_sets h) (tags.members n)
  slot_kept n used =
      let at = held_members tags journal.slots n used in
      let slot = holds.slots at.0 (ap is_some at.2) in
      let there = there_in w h slot.place slot.txn (journal_known w h stands.accepted stands.legal) slot.there in
      in_right (open_sets h ++ home_sets h ++ serve_sets h) (txn_sets h) (tags.members n)
      (in_flat (λ t. set_of h (seal_place h t)) (in_journal h) slot.place slot.txn (tags.members n) slot.there
      (blamed_in h (seal_place h slot.txn) (tags.members n)
      (seal_blamed h slot.place slot.txn slot.there ∙ sym (holds.are.slots slot.txn there)
      ∙ ap (λ k. get_or (causes_at same tags journal.slots) k None) slot.slot_is ∙ at.2)))

  pub used_kept : (n : ℕ) → 1 ≤ tags.uses n → IsIn (kept_sets h) (tags.members n)
  used_kept n used = elim (cases_lt 0 (held_by_pages p.pages n)) [
    | inl page ↦ page_kept n page
    | inr no_page ↦ elim (cases_lt 0 (held_by_service p.service n)) [
      | inl serve ↦ serve_kept n serve
      | inr no_serve ↦ elim (cases_lt 0 (held same journal.marks n)) [
        | inl mark ↦ marked_kept n mark
        | inr no_mark ↦ elim (cases_lt 0 (held same journal.round n)) [
          | inl home ↦ home_kept n home
          | inr no_home ↦ slot_kept n (omega (arith, used, uses_are n, no_page, no_serve, no_mark, no_home))
        ]
      ]
    ]
  ]

  -- as many as there are
  pub sets_are : (count : ℕ) → AreInUse tags count → AreShared tags → count ≡ live_sets h
  sets_are count used shared = sets_counted tags (kept_sets h) count used shared kept_used used_kept
