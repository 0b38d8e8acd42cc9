-- The actor that makes the event has one more.
use Rattle.std.proofs.Common.{◌≡◌, ℕ, ◌+◌, length, slice_index, arith, ap, sym, ◌∙◌, subst}
use Rattle.std.specs.Prelude.{slice_set}
use Rattle.std.proofs.lemmas.List.{get_or_read}
use Rattle.split_types.specs.Hooks.{maker}
use Rattle.split_core.specs.Counts.{place_of, IsActor}
use Rattle.split_core.proofs.CountNotes.{maker_in, place_within, count_small, counts_after}
use Rattle.split_core.proofs.note.counts.Counts.note.Goals as goal

pub place_of-place-requires-clause-actor : goal.place_of-place-requires-clause-actor
place_of-place-requires-clause-actor c =
    subst (λ (n : ℕ). IsActor n c.args.actor) (sym c.len.ensures)
    (subst (IsActor (length c.args.w.now.procs)) (sym c.requires.made)
    (maker_in c.args.w.now c.args.h.now.events c.args.e.now c.requires.fits))

pub index_mut-requires : goal.index_mut-requires
index_mut-requires c =
    let n = length c.args.w.now.procs in
    let place : c.place_of-place.result ≡ place_of n (maker c.args.e.now) =
    c.place_of-place.ensures ∙ ap (λ (m : ℕ). place_of m c.args.actor) c.len.ensures
    ∙ ap (place_of n) c.requires.made in
    omega (
      arith,
      place,
      place_within n (maker c.args.e.now)
          (maker_in c.args.w.now c.args.h.now.events c.args.e.now c.requires.fits),
      c.requires.stands.actors,
      c.args.self.now.made.ok.0,
    )

pub overflow_add-index_mut : goal.overflow_add-index_mut
overflow_add-index_mut c =
    let n = length c.args.w.now.procs in
    let items = c.args.self.now.made.items in
    let place : c.place_of-place.result ≡ place_of n (maker c.args.e.now) =
    c.place_of-place.ensures ∙ ap (λ (m : ℕ). place_of m c.args.actor) c.len.ensures
    ∙ ap (place_of n) c.requires.made in
    let within = place_within n (maker c.args.e.now)
    (maker_in c.args.w.now c.args.h.now.events c.args.e.now c.requires.fits) in
    let read = get_or_read items c.place_of-place.result c.index_mut.result.now
    (omega (arith, place, within, c.requires.stands.actors)) c.index_mut.ensures.value 0 in
    omega (
      arith,
      read,
      ap (slice_index items) place,
      count_small c.args.w.now c.args.h.now.events c.args.e.now c.args.self.now c.requires.fits c.requires.stands,
    )

pub returns : goal.returns
returns c =
    let n = length c.args.w.now.procs in
    let items = c.args.self.now.made.items in
    let place : c.place_of-place.result ≡ place_of n (maker c.args.e.now) =
    c.place_of-place.ensures ∙ ap (λ (m : ℕ). place_of m c.args.actor) c.len.ensures
    ∙ ap (place_of n) c.requires.made in
    let within = place_within n (maker c.args.e.now)
    (maker_in c.args.w.now c.args.h.now.events c.args.e.now c.requires.fits) in
    let read = get_or_read items c.place_of-place.result c.index_mut.result.now
    (omega (arith, place, within, c.requires.stands.actors)) c.index_mut.ensures.value 0 in
    counts_after c.args.w.now c.args.h.now.events c.args.e.now c.args.self.now _ c.requires.fits c.requires.stands
    (ap (λ (x : ℕ). slice_set items c.place_of-place.result (x + 1)) read
    ∙ ap (λ (k : ℕ). slice_set items k (slice_index items k + 1)) place)
