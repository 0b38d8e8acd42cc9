-- What is written of each request after one event more.
use Rattle.std.proofs.Common.{◌≡◌, ℕ, ◌+◌, ◌<◌, List, [], ◌∷◌, ◌++◌, length, Bool, true, false, ◌==◌, cond, Some, refl}
use Rattle.std.proofs.Common.{ap, sym, ◌∙◌, subst, arith, inl, inr, slice_get, slice_index_or, eq-eqb, ne_eqb}
use Rattle.std.specs.Prelude.{slice_set}
use Rattle.std.proofs.lemmas.Bool.{cases_eq}
use Rattle.std.proofs.lemmas.Option.{slice_get_within, get_or_from_slice_get}
use Rattle.std.proofs.lemmas.List.{get_or-set_same, get_or-set_other, length-set, length_push}
use Rattle.split_types.specs.declared.ids.ReqId.{ReqId}
use Rattle.split_types.specs.declared.actor.Actor.{Actor}
use Rattle.split_types.specs.declared.request.Request.{Request}
use Rattle.split_types.specs.declared.facts.ReqState.TheVariants as state
use Rattle.split_types.specs.declared.workload.Workload.{Workload}
use Rattle.split_types.specs.declared.event.Event.{Event}
use Rattle.split_types.specs.declared.event.Event.TheVariants.{Add, Send, Done}
use Rattle.split_types.specs.History.{◌▹◌, adds}
use Rattle.split_types.specs.Blame.{blame, tag}
use Rattle.split_types.specs.Requests.{requests}
use Rattle.split_types.proofs.Shared.{some_at, slice_get-push, slice_get-push_old, slice_get-push_new}
use Rattle.split_core.specs.declared.note.book.Entry.{Entry}
use Rattle.split_core.specs.declared.note.book.Book.{Book}
use Rattle.split_core.specs.Fits.{AddFits, SendFits, DoneFits}
use Rattle.split_core.specs.Book.{IsEntry, BookStands}

-- ---- an added request
entry_stays : (h : List Event) (by : Actor) (r : Request) (id : ℕ) (x : Entry) → id < adds h → IsEntry h id x
    → IsEntry (h ▹ Add by r) id x
entry_stays h by r id x below is =
    let other : (id == adds h) ≡ false = ne_eqb id (adds h) (λ (e : id ≡ adds h). omega arith) in
    record {
      request_is = slice_get-push_old (requests h) r id x.request is.request_is;
      tag_is = is.tag_is ∙ sym (ap (λ b. cond b (blame (h ▹ Add by r) (length h)) (tag h id)) other);
      cost_is = is.cost_is;
      state_is = is.state_is;
    }

pub book_add : (w : Workload) (h : List Event) (by : Actor) (r : Request) (b new : Book) (x : Entry) → AddFits w h by r
    → BookStands b h
    → new.entries.items ≡ b.entries.items ++ x ∷ [] → x.request ≡ r → x.tag ≡ blame (h ▹ Add by r) (length h)
    → x.cost ≡ 0 → x.state ≡ state.Queued
    → BookStands new (h ▹ Add by r)
book_add w h by r b new x fits stands items request tagged cost state = record {
  added = ap length items ∙ length_push b.entries.items x ∙ ap (λ n. n + 1) stands.added;
  entries_are = λ id y at. elim (slice_get-push b.entries.items x id y (ap (λ l. slice_get l id) (sym items) ∙ at)) [
    | inl old ↦ entry_stays h by r id y (omega (arith, slice_get_within b.entries.items id y old, stands.added))
        (stands.entries_are id y old)
    | inr new ↦ subst (λ n. IsEntry (h ▹ Add by r) n y) (sym (new.0 ∙ stands.added))
        (subst (IsEntry (h ▹ Add by r) (adds h)) new.1 last)
  ];
}
  where
    here : (adds h == adds h) ≡ true
    here = eq-eqb (adds h) (adds h) refl

    last : IsEntry (h ▹ Add by r) (adds h) x
    last = record {
      request_is = ap (slice_get (requests h ++ r ∷ [])) fits.counted ∙ slice_get-push_new (requests h) r
          ∙ ap Some (sym request);
      tag_is = tagged ∙ sym (ap (λ b. cond b (blame (h ▹ Add by r) (length h)) (tag h (adds h))) here);
      cost_is = cost ∙ sym fits.unsent;
      state_is = state ∙ sym fits.undone;
    }

-- ---- a change of one entry
-- the entries after a change of the one of this number
changed : (h k : List Event) (id : ℕ) (old new : Entry) (b c : Book) → BookStands b h
    → c.entries.items ≡ slice_set b.entries.items id new → id < adds h
    → adds k ≡ adds h → IsEntry k id new → ((n : ℕ) (x : Entry) → (n ≡ id → ⊥) → IsEntry h n x → IsEntry k n x)
    → BookStands c k
changed h k id old new b c stands items below same here others = record {
  added = ap length items ∙ length-set b.entries.items id new ∙ stands.added ∙ sym same;
  entries_are = λ n x at. elim (cases_eq n id) [
    | inl is ↦ subst (IsEntry k n) (sym (ap (λ i. slice_index_or (slice_set b.entries.items id new) i new) is
        ∙ get_or-set_same b.entries.items id new new (omega (arith, below, stands.added)))
        ∙ read n x at) (subst (λ i. IsEntry k i new) (sym is) here)
    | inr other ↦
        (let within = slice_get_within c.entries.items n x at in
        let was = some_at b.entries.items n (omega (
          arith,
          within,
          ap length items,
          length-set b.entries.items id new,
        )) in
        let same : was.0 ≡ x = sym (get_or_from_slice_get b.entries.items n was.0 new was.1)
        ∙ sym (get_or-set_other b.entries.items id n new new other) ∙ read n x at in
        subst (IsEntry k n) same (others n was.0 other (stands.entries_are n was.0 was.1)))
  ];
}
  where
    read : (n : ℕ) (x : Entry) → slice_get c.entries.items n ≡ Some x
        → slice_index_or (slice_set b.entries.items id new) n new ≡ x
    read n x at = ap (λ l. slice_index_or l n new) (sym items) ∙ get_or_from_slice_get c.entries.items n x new at

entry_read : (h : List Event) (b : Book) (id : ℕ) (x : Entry) → BookStands b h → id < adds h
    → x ≡ slice_index_or b.entries.items id x → IsEntry h id x
entry_read h b id x stands below read =
    let was = some_at b.entries.items id (omega (arith, below, stands.added)) in
    subst (IsEntry h id) (sym (read ∙ get_or_from_slice_get b.entries.items id was.0 x was.1))
    (stands.entries_are id was.0 was.1)

pub book_send : (w : Workload) (h : List Event) (id : ReqId) (cost : ℕ) (b c : Book) (x new : Entry)
    → SendFits w h id cost → BookStands b h
    → x ≡ slice_index_or b.entries.items id.0 x → c.entries.items ≡ slice_set b.entries.items id.0 new
    → new.request ≡ x.request → new.tag ≡ x.tag → new.cost ≡ cost → new.state ≡ x.state
    → BookStands c (h ▹ Send id cost)
book_send w h id cost b c x new fits stands read items request tagged costs state =
    let was = entry_read h b id.0 x stands fits.added read in
    changed h (h ▹ Send id cost) id.0 x new b c stands items fits.added refl
    (record {
      request_is = was.request_is ∙ ap Some (sym request);
      tag_is = tagged ∙ was.tag_is;
      cost_is = costs
          ∙ fits.cost_is;
      state_is = state ∙ was.state_is;
    })
    (λ n y other is. record {
      request_is = is.request_is;
      tag_is = is.tag_is;
      cost_is = is.cost_is ∙ sym (rw (ne_eqb n id.0 other) refl);
      state_is = is.state_is;
    })

pub book_done : (w : Workload) (h : List Event) (k : ℕ) (id : ReqId) (ok : Bool) (b c : Book) (x new : Entry)
    → DoneFits w h k id ok → BookStands b h
    → x ≡ slice_index_or b.entries.items id.0 x → c.entries.items ≡ slice_set b.entries.items id.0 new
    → new.request ≡ x.request → new.tag ≡ x.tag → new.cost ≡ x.cost → new.state ≡ state.Done
    → BookStands c (h ▹ Done k id ok)
book_done w h k id ok b c x new fits stands read items request tagged costs state =
    let was = entry_read h b id.0 x stands fits.added read in
    changed h (h ▹ Done k id ok) id.0 x new b c stands items fits.added refl
    (record {
      request_is = was.request_is ∙ ap Some (sym request);
      tag_is = tagged ∙ was.tag_is;
      cost_is = costs
          ∙ was.cost_is;
      state_is = state ∙ sym (rw (eq-eqb id.0 id.0 refl, fits.ok_is) refl);
    })
    (λ n y other is. record {
      request_is = is.request_is;
      tag_is = is.tag_is;
      cost_is = is.cost_is;
      state_is = is.state_is ∙ sym (rw (ne_eqb id.0 n (λ (e : id.0 ≡ n). other (sym e))) refl);
    })

-- ---- an event of another kind
pub book_stays : (h : List Event) (e : Event) (b : Book) → ((by : Actor) (r : Request) → e ≡ Add by r → ⊥)
    → ((id : ReqId) (cost : ℕ) → e ≡ Send id cost → ⊥) → ((k : ℕ) (id : ReqId) (ok : Bool) → e ≡ Done k id ok → ⊥)
    → BookStands b h → BookStands b (h ▹ e)
book_stays h (Add by r) b add send done stands = absurd (add by r refl)
book_stays h (Send id cost) b add send done stands = absurd (send id cost refl)
book_stays h (Done k id ok) b add send done stands = absurd (done k id ok refl)
book_stays h e b add send done stands = record {
  added = stands.added;
  entries_are = λ id x at. (let is = stands.entries_are id x at
      in record {
        request_is = is.request_is;
        tag_is = is.tag_is;
        cost_is = is.cost_is;
        state_is = is.state_is;
      });
}
