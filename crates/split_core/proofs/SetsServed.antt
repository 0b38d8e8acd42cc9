-- The tag of what writeback serves is that of its last serve.
use Rattle.std.proofs.Common.{◌≡◌, ℕ, ◌<◌, ◌≤◌, List, [], ◌∷◌, length, Option, Some, None, refl, ap, sym, ◌∙◌, arith, inl, inr}
use Rattle.std.specs.Option.{option_map}
use Rattle.std.proofs.lemmas.Bool.{cases_eq}
use Rattle.std.proofs.lemmas.Option.{same_Some}
use Rattle.split_types.specs.declared.request.ReqKind.{ReqKind}
use Rattle.split_types.specs.declared.request.ReqKind.TheVariants as kind
use Rattle.split_types.specs.declared.event.Event.{Event}
use Rattle.split_types.specs.declared.event.Event.TheVariants.{Serve, Skip, Add}
use Rattle.split_types.specs.History.{◌▹◌}
use Rattle.split_types.specs.Parents.{last_serve}
use Rattle.split_types.specs.Blame.{blame}
use Rattle.split_types.specs.Writeback.{service}
use Rattle.split_types.specs.LiveSets.{serves_at}
use Rattle.split_types.proofs.Shared.{blame-stays, blame_is_set, union-one}
use Rattle.cause_set.specs.Tags.{Tags, use_in}
use Rattle.cause_set.proofs.TagLaws.{one_use-same, one_use-other}
use Rattle.proxies.specs.declared.writeback.Writeback.{Writeback}
use Rattle.proxies.specs.declared.writeback.Writeback.TheVariants.{Idle, Serving, Mapped}
use Rattle.proxies.specs.Causes.{causes_of_writeback}
use Rattle.tag_table.specs.declared.table.TableTag.{TableTag}
use Rattle.split_core.specs.declared.note.service.Served.{Served}
use Rattle.split_core.specs.Served.{ServedStands, service_of, left_for, served_for, held_by_service}
use Rattle.split_core.proofs.JournalTagsKept.{blamed}

-- ---- for whom writeback serves
pub record LastServe (h : List Event) (set : List ℕ) : Type 0 where
  pub place : ℕ
  pub below : place < length h
  pub place_is : last_serve h ≡ place ∷ []
  pub blame_is : blame h place ≡ set

-- a request that is added ends no service but that of its pages
still_left : (k : ReqKind) (served : Option (List ℕ)) (set : List ℕ) → left_for k served ≡ Some set
    → served ≡ Some set
still_left (kind.Pages s g) served set is = absurd (cc)
still_left k served set is = is

serve_stays : (h : List Event) (e : Event) (set : List ℕ) → last_serve (h ▹ e) ≡ last_serve h → LastServe h set
    → LastServe (h ▹ e) set
serve_stays h e set same l = record {
  place = l.place;
  below = omega (arith, l.below);
  place_is = same ∙ l.place_is;
  blame_is = blame-stays h e l.place l.below ∙ l.blame_is;
}

last_serve_for : (h : List Event) (set : List ℕ) → served_for h ≡ Some set → LastServe h set
last_serve_for [] set is = absurd (cc)
last_serve_for (h ▹ Serve s g n) set is = record {
  place = length h;
  below = omega arith;
  place_is = refl;
  blame_is = same_Some (blame (h ▹ Serve s g n) (length h)) set is;
}
last_serve_for (h ▹ Skip) set is = absurd (cc)
last_serve_for (h ▹ Add by r) set is =
    serve_stays h (Add by r) set refl (last_serve_for h set (still_left r.kind (served_for h) set is))
last_serve_for (h ▹ e) set is = serve_stays h e set refl (last_serve_for h set is)

pub serve_blamed : (h : List Event) (set : List ℕ) → served_for h ≡ Some set → blamed h (last_serve h) ≡ Some set
serve_blamed h set is =
    let l = last_serve_for h set is in
    ap (blamed h) l.place_is
    ∙ ap Some (union-one (blame h l.place) (blame_is_set h l.place) ∙ l.blame_is)

-- ---- both ways
one_used : (t : TableTag) (n : ℕ) → 1 ≤ use_in (λ (t : TableTag). t.number) (Some t) n → n ≡ t.number
one_used t n used = elim (cases_eq n t.number) [
  | inl is ↦ is
  | inr other ↦ absurd (omega (arith, used, one_use-other t.number n other))
]

-- while it serves for the tag t
serves_for : (tags : Tags) (h : List Event) (x : Writeback TableTag) (t : TableTag)
    → service_of x ≡ service h → causes_of_writeback x ≡ Some t
    → option_map (λ (t : TableTag). tags.members t.number) (causes_of_writeback x) ≡ served_for h
    → blamed h (serves_at h (service h)) ≡ Some (tags.members t.number)
serves_for tags h Idle t serves at is = absurd (cc)
serves_for tags h (Serving run u) t serves at is =
    ap (λ s. blamed h (serves_at h s)) (sym serves)
    ∙ serve_blamed h (tags.members t.number)
    (sym is ∙ ap (option_map (λ (t : TableTag). tags.members t.number)) at)
serves_for tags h (Mapped run u) t serves at is =
    ap (λ s. blamed h (serves_at h s)) (sym serves)
    ∙ serve_blamed h (tags.members t.number)
    (sym is ∙ ap (option_map (λ (t : TableTag). tags.members t.number)) at)

-- or else for nobody
serves_none : (h : List Event) (x : Writeback TableTag) (set : List ℕ) → service_of x ≡ service h
    → causes_of_writeback x ≡ None → blamed h (serves_at h (service h)) ≡ Some set → ⊥
serves_none h Idle set serves none is =
    absurd (let nobody : blamed h (serves_at h (service h)) ≡ None = ap (λ s. blamed h (serves_at h s)) (sym serves)
    in cc)
serves_none h (Serving run u) set serves none is = absurd (cc)
serves_none h (Mapped run u) set serves none is = absurd (cc)

pub serve_used : (s : Served) (tags : Tags) (h : List Event) (set : List ℕ) → ServedStands s tags h
    → blamed h (serves_at h (service h)) ≡ Some set
    → (n : ℕ) × (1 ≤ held_by_service s n) × (tags.members n ≡ set)
serve_used s tags h set stands is = by_tag (causes_of_writeback s.state) refl
  where
    by_tag : (x : Option TableTag) → causes_of_writeback s.state ≡ x
        → (n : ℕ) × (1 ≤ held_by_service s n) × (tags.members n ≡ set)
    by_tag None at = absurd (serves_none h s.state set stands.service_is at is)
    by_tag (Some t) at = (
      t.number,
      (let uses : held_by_service s t.number ≡ use_in (λ (t : TableTag). t.number) (Some t) t.number =
          ap (λ x. use_in (λ (t : TableTag). t.number) x t.number) at in omega (arith, uses, one_use-same t.number)),
      same_Some (tags.members t.number) set
          (sym (serves_for tags h s.state t stands.service_is at stands.causes_are) ∙ is),
    )

pub used_serve : (s : Served) (tags : Tags) (h : List Event) (n : ℕ) → ServedStands s tags h
    → 1 ≤ held_by_service s n → blamed h (serves_at h (service h)) ≡ Some (tags.members n)
used_serve s tags h n stands used = by_tag (causes_of_writeback s.state) refl
  where
    by_tag : (x : Option TableTag) → causes_of_writeback s.state ≡ x
        → blamed h (serves_at h (service h)) ≡ Some (tags.members n)
    by_tag None at =
        absurd (let uses : held_by_service s n ≡ 0 = ap (λ x. use_in (λ (t : TableTag). t.number) x n) at
        in omega (arith, uses, used))
    by_tag (Some t) at =
        let uses : held_by_service s n ≡ use_in (λ (t : TableTag). t.number) (Some t) n =
        ap (λ x. use_in (λ (t : TableTag). t.number) x n) at in
        let same : n ≡ t.number = one_used t n (omega (arith, uses, used)) in
        serves_for tags h s.state t stands.service_is at stands.causes_are
        ∙ ap (λ m. Some (tags.members m)) (sym same)
