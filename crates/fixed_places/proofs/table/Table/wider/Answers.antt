use Rattle.std.proofs.Common.{◌≡◌, ◌∙◌, ◌≤◌, ◌<◌, None, Some, length, get_or, set, arith, sym, ap}
use Rattle.std.proofs.lemmas.Grind.{common_steps}
use Rattle.std.proofs.lemmas.List.{set-get_or}
use Rattle.fixed_places.proofs.PlaceLaws.{front, front-more, front-empty, front-read}
use Rattle.fixed_places.proofs.table.Table.wider.Goals as goal
use Rattle.fixed_places.proofs.table.Table.wider.Goals.{in-Some, in_default}

pub put-requires-clause-absent : goal.put-requires-clause-absent
put-requires-clause-absent g c = λ i h.
    let keys = c.as_slice-keys.result.now in
    let at = c.loop-at.at in
    let so_far : c.loop-at.wider ≡ front keys c.args.places at = c.loop-at.invariant in
    let read = front-read keys c.args.places at i c.in-Some.key c.loop-at-test.true (rw so_far at h) in
    let here : get_or keys at None ≡ Some c.in-Some.key = grind (arith, common_steps) in
    let same : i ≡ at = c.self.invariant.only i at c.in-Some.key (rw (← c.as_slice-keys.ensures.value) read.1)
    (rw (← c.as_slice-keys.ensures.value) here) in
    let before : i < at = read.0 in
    absurd (omega arith)

pub loop-at-preserved : goal.loop-at-preserved
loop-at-preserved g c =
    let keys = c.as_slice-keys.result.now in
    let at = c.loop-at.at in
    let few : length keys ≤ c.args.places = rw (c.as_slice-keys.ensures.value, c.self.view_is) c.requires.more in
    let so_far : c.loop-at.wider ≡ front keys c.args.places at = c.loop-at.invariant in
    let more = front-more keys c.args.places at c.loop-at-test.true few in
    elim c.match-held.branch [
      | in-Some w ↦
          let here : get_or keys at None ≡ Some w.in-Some.key = grind (arith, common_steps, w.in-Some.is) in
          rw w.wider-is (w.put.ensures ∙ ap (λ held. set held at (Some w.in-Some.key)) so_far
          ∙ ap (λ x. set (front keys c.args.places at) at x) (sym here) ∙ more)
      | in_default w ↦
          let here : get_or keys at None ≡ None = grind (arith, common_steps, w.in_default.is) in
          let empty = front-empty keys c.args.places at c.loop-at-test.true in
          rw w.wider-is
          (so_far ∙ sym (set-get_or (front keys c.args.places at) at None)
          ∙ ap (λ x. set (front keys c.args.places at) at x) (empty ∙ sym here) ∙ more)
    ]
