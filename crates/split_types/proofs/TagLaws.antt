-- The tag of each request of a legal history is some of the processes.
use Rattle.std.proofs.Common.{◌≡◌, ℕ, ◌+◌, ◌<◌, List, [], ◌∷◌, length, map, nat_lt, true, arith, subst, sym, inl, inr, ◌∙◌, ap}
use Rattle.std.proofs.lemmas.Bool.{and_from, cases_lt, lt-ltb}
use Rattle.std.proofs.lemmas.List.{nil_from_length}
use Rattle.std.proofs.lemmas.Bool.Decides.{nat_tests}
use Rattle.split_types.specs.declared.buf.Buf.TheVariants.{Page}
use Rattle.split_types.specs.declared.actor.Actor.{Actor}
use Rattle.split_types.specs.declared.actor.Actor.TheVariants.{Client, Wb}
use Rattle.split_types.specs.declared.request.Request.{Request}
use Rattle.split_types.specs.declared.workload.Workload.{Workload}
use Rattle.split_types.specs.declared.event.Event.{Event}
use Rattle.split_types.specs.declared.event.Event.TheVariants.{Add}
use Rattle.split_types.specs.History.{◌▹◌, adds}
use Rattle.split_types.specs.Hooks.{maker}
use Rattle.split_types.specs.OpenDirtyings.{open_at}
use Rattle.split_types.specs.Files.{is_live}
use Rattle.split_types.specs.Pages.{is_put_since, is_dirty}
use Rattle.split_types.specs.Sets.{pids, has, union_of}
use Rattle.split_types.specs.Blame.{blame, tag}
use Rattle.split_types.specs.RunningCauses.{causes_of}
use Rattle.split_types.specs.Serving.{request_for}
use Rattle.split_types.specs.Accepted.{IsAccepted}
use Rattle.split_types.specs.Legal.{IsLegal}
use Rattle.split_types.specs.LegalHistories.{ArePayers, DirtyHaveCauses}
use Rattle.split_types.specs.Proving.Came.{Came, read_request}
use Rattle.split_types.specs.Proving.Came.Came.{came_load}
use Rattle.split_types.specs.Proving.Came.Came.{came_journal, came_add}
use Rattle.split_types.proofs.AcceptedLaws.{procs_most}
use Rattle.split_types.proofs.CameLaws.{came}
use Rattle.split_types.proofs.KnownLaws.{maps_known}
use Rattle.split_types.proofs.ReadyLaws.{ready_parts}
use Rattle.split_types.proofs.CausesLaws.{causes-one}
use Rattle.split_types.proofs.OpenLaws.{dirty_are_open}
use Rattle.split_types.proofs.Members.{list_any-map_at}
use Rattle.split_types.proofs.Sets.{has-pids, has-union_of, one-is_set, union-none, union-one}
use Rattle.split_types.proofs.Blame.{blame-new, tag-stays, tag-new}
use Rattle.split_types.proofs.PageTags.{open_blames, first_of, one_has, length_some, union_are, one_pays}
use Rattle.split_types.proofs.JournalTags.{journal_tag}

-- the tag of a request that is added
added_tag : (w : Workload) (h : List Event) (by : Actor) (r : Request) → IsAccepted w → IsLegal w h
    → Came w h (Add by r) → ArePayers w (blame (h ▹ Add by r) (length h))
added_tag w h by r accepted legal (came_load p c t piece here absent block at) =
    let has = here.working.admitted.has
    in subst (ArePayers w)
    (sym (blame-new h (Add (Client p) (read_request (adds h) p t piece.page block))
    ∙ union-one (p.0 ∷ []) (one-is_set p.0 has.first (omega (arith, has.last, procs_most w accepted)))))
    (one_pays w p.0 accepted has.first has.last)
added_tag w h by r accepted legal (came_add run block at there placed known) =
    let served = maps_known.served w h run accepted legal at in
    let parts = ready_parts w h run.serial (run.page + 0) (served.ready there 0 (omega (arith, served.some))) in
    let dirty : is_dirty w h (Page run.serial run.page) ≡ true =
    subst (λ g. is_dirty w h (Page run.serial g) ≡ true) (omega arith)
    (and_from (is_live w h run.serial.0) (is_put_since h (Page run.serial (run.page + 0))) parts.live parts.put)
    in
    subst (ArePayers w) (sym (blame-new h (Add Wb (request_for (adds h) run block))))
    (union_are w h run.serial run.page run.n accepted legal served.some dirty)
added_tag w h by r accepted legal (came_journal kind first n j) = journal_tag w h kind first n accepted legal j

pub tags_are_payers : (w : Workload) (h : List Event) (id : ℕ) → IsAccepted w → IsLegal w h → id < adds h
    → ArePayers w (tag h id)
tags_are_payers w [] id accepted legal below = absurd (omega arith)
tags_are_payers w (h ▹ Add by r) id accepted legal below = elim (cases_lt id (adds h)) [
  | inl old ↦ subst (ArePayers w) (sym (tag-stays h (Add by r) id old)) (tags_are_payers w h id accepted legal.1 old)
  | inr new ↦
      let last : id ≡ adds h = omega arith in
      subst (ArePayers w) (sym (ap (tag (h ▹ Add by r)) last ∙ tag-new h by r))
      (added_tag w h by r accepted legal.1 (came w h (maker (Add by r)) (Add by r) legal.0))
]
tags_are_payers w (h ▹ e) id accepted legal below = tags_are_payers w h id accepted legal.1 below

-- ---- the causes of a dirty page
pub dirty_have_causes : DirtyHaveCauses
dirty_have_causes w h s g accepted legal = dirty_are_open w h s g accepted legal
    ∙ elim (cases_lt 0 (length (open_at h (Page s g)))) [
      | inl some ↦
          (let at = first_of (open_at h (Page s g)) (lt-ltb 0 (length (open_at h (Page s g))) some)
          in let one = open_blames w h s g at.0 accepted legal at.1
          in let blamed : has (blame h at.0) one.by ≡ true = ap (λ set. has set one.by) one.blamed ∙ one_has one.by
          in let among = list_any-map_at (λ set. has set one.by) (blame h) (open_at h (Page s g)) at.0 at.1 blamed
          in let most = procs_most w accepted
          in let pid : has pids one.by ≡ true = has-pids one.by ∙ grind (arith, nat_tests, one.least, one.most, most)
          in let in_set : has (causes_of h (Page s g)) one.by ≡ true =
          ap (λ l. has l one.by) (causes-one h (Page s g)) ∙ has-union_of (map (blame h) (open_at h (Page s g))) one.by
          ∙ and_from _ _ pid among
          in lt-ltb 0 (length (open_at h (Page s g))) some
          ∙ sym (lt-ltb 0 (length (causes_of h (Page s g))) (length_some (causes_of h (Page s g)) one.by in_set)))
      | inr none ↦
          (let empty : open_at h (Page s g) ≡ [] = nil_from_length (open_at h (Page s g)) (omega arith)
          in ap (λ l. nat_lt 0 (length l)) empty ∙ sym (ap (λ l. nat_lt 0 (length l)) (causes-one h (Page s g)
          ∙ ap (λ l. union_of (map (blame h) l)) empty ∙ union-none)))
    ]
